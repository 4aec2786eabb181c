-- One message more among those held for a card.
use Prim.Native.Nat.{ℕ, ◌+◌, ◌%◌, ◌<◌}
use mathlib.Core.Path.{◌≡◌, ap₂, ◌∙◌}
use mathlib.Core.Logic.{◌≢◌}
use mathlib.Core.List.{List, [], ◌∷◌, ◌++◌}
use native.Mathlib.Numerals.{add-one}
use native.Mathlib.Omega.{arith}
use borrow.Author.Tests.{lt-ltb}
use lib.ListN.{length, get_or, set, length-set}
use lib.Seq.{get_or-set_same, get_or-set_other}
use Rattle.lists.specs.Listings.{listing}
use Rattle.names.specs.declared.Packet.{Packet}
use Rattle.channel.specs.Layout.{channel_words, head_word, count_word, held_word, held_block, head_of, count_of, held_count_of}
use Rattle.names.specs.Letters.{letter_of, marked}
use Rattle.channel.specs.TakeSingle.{held_more}
use Rattle.channel.specs.Shows.{tagged_at, inbox_of, held_of}
use Rattle.names.proofs.Blocks.{marked_other, marked_letter, mark_same, length_marked}
use Rattle.channel.proofs.InboxRing.{tagged_cong, held_cong, ring_cong}

module _ (ws : List ℕ) (i : ℕ) (l : Packet) (tag : ℕ) (card : i < 8) (long : length ws ≡ channel_words) (room : held_count_of ws i < 16) where
  abbrev pub place : ℕ
  place = held_block i (held_count_of ws i)

  abbrev pub put : List ℕ
  put = marked ws place l tag

  pub more_is : held_more ws i l tag ≡ set put (held_word i) (held_count_of ws i + 1)
  unfolding held_more
  more_is = rw (lt-ltb (held_count_of ws i) 16 room)

  pub more_word : (a : ℕ) → a ≢ held_word i → ((k : ℕ) → k < 3 → a ≢ place + k) → get_or (held_more ws i l tag) a 0 ≡ get_or ws a 0
  more_word a n h = rw more_is (get_or-set_other put (held_word i) a (held_count_of ws i + 1) 0 n ∙ marked_other ws place l tag a h)

  pub more_block : (k : ℕ) → k < 3 → get_or (held_more ws i l tag) (place + k) 0 ≡ get_or put (place + k) 0
  more_block k g = rw more_is (get_or-set_other put (held_word i) (place + k) (held_count_of ws i + 1) 0 (omega arith))

  pub more_long : length (held_more ws i l tag) ≡ channel_words
  more_long = rw more_is (length-set put (held_word i) (held_count_of ws i + 1) ∙ length_marked ws place l tag ∙ long)

  pub more_count : held_count_of (held_more ws i l tag) i ≡ held_count_of ws i + 1
  more_count = rw more_is (get_or-set_same put (held_word i) (held_count_of ws i + 1) 0 (omega (arith, length_marked ws place l tag)))

  pub more_held : held_of (held_more ws i l tag) i ≡ held_of ws i ++ (record { msg = letter_of l; mark = tag } ∷ [])
  unfolding held_of listing
  more_held =
      let p : tagged_at put place ≡ record { msg = letter_of l; mark = tag } = rw (marked_letter ws place l tag (omega arith), mark_same ws place l tag (omega arith)) in
      rw (more_count, add-one (held_count_of ws i))
      (ap₂ (λ x y. x ++ (y ∷ []))
      (held_cong (held_more ws i l tag) ws i (held_count_of ws i) (λ a u q. more_word a (omega arith) (λ k g. omega arith)))
      (tagged_cong (held_more ws i l tag) put place more_block ∙ p))

  pub more_inbox : inbox_of (held_more ws i l tag) i ≡ inbox_of ws i
  unfolding inbox_of
  more_inbox =
      rw (more_word (head_word i) (omega arith) (λ k g. omega arith), more_word (count_word i) (omega arith) (λ k g. omega arith))
      (ring_cong (held_more ws i l tag) ws i (head_of ws i % 48) (count_of ws i) (λ a u q. more_word a (omega arith) (λ k g. omega arith)))
