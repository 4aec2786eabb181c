-- A message put at the end of an inbox, and the head taken off, as the lists that the words show.
use Prim.Native.Nat.{ℕ, suc, ◌+◌, ◌%◌, ◌<◌, ◌≤◌}
use mathlib.Core.Path.{◌≡◌, sym, ap, ap₂, ◌∙◌}
use mathlib.Core.Logic.{◌≢◌}
use mathlib.Core.List.{List, [], ◌∷◌, ◌++◌}
use native.Mathlib.Numerals.{add-one}
use native.Mathlib.Omega.{arith}
use lib.ListN.{length, get_or}
use Rattle.lists.specs.Listings.{listing, listing_snoc, listing_cons, listing_cong}
use Rattle.names.specs.declared.Packet.{Packet}
use Rattle.names.specs.Letters.{letter_of, letter_at, stored}
use Rattle.channel.specs.Layout.{channel_words, head_word, count_word, inbox_block, held_block, head_of, count_of, place_of}
use Rattle.channel.specs.Inbox.{pushed, popped}
use Rattle.channel.specs.Shows.{tagged_at, inbox_of}
use Rattle.names.proofs.Blocks.{packet_cong, letter_cong}
use Rattle.names.proofs.Rings.{joined_long, joined_word, joined_count, joined_block, joined_last, gone_long, gone_word, gone_count, gone_head}

-- ---- words that agree where they are read

pub tagged_cong : (us ws : List ℕ) (b : ℕ) → ((k : ℕ) → k < 3 → get_or us (b + k) 0 ≡ get_or ws (b + k) 0) → tagged_at us b ≡ tagged_at ws b
tagged_cong us ws b h = rw (packet_cong us ws b (λ k g. h k (omega arith)), h 2 (omega arith))

-- the words of n messages held for card i agree
pub held_cong : (us ws : List ℕ) (i n : ℕ) → ((a : ℕ) → held_block i 0 ≤ a → a < held_block i n → get_or us a 0 ≡ get_or ws a 0)
    → listing (λ k. tagged_at us (held_block i k)) n ≡ listing (λ k. tagged_at ws (held_block i k)) n
held_cong us ws i n e = listing_cong _ _ n (λ k g. tagged_cong us ws (held_block i k) (λ a h. e _ (omega arith) (omega arith)))

-- the words of card i's ring agree
pub ring_cong : (us ws : List ℕ) (i h n : ℕ) → ((a : ℕ) → inbox_block i 0 ≤ a → a < inbox_block i 48 → get_or us a 0 ≡ get_or ws a 0)
    → listing (λ k. letter_at us (inbox_block i ((h + k) % 48))) n ≡ listing (λ k. letter_at ws (inbox_block i ((h + k) % 48))) n
ring_cong us ws i h n e = listing_cong _ _ n (λ k g. letter_cong us ws _ (λ a r. e _ (omega arith) (omega arith)))

-- ---- push

module _ (ws : List ℕ) (i : ℕ) (l : Packet) (long : length ws ≡ channel_words) (card : i < 8) (room : count_of ws i < 48) where
  abbrev pub last : ℕ
  last = place_of ws i (count_of ws i)

  pub pushed_long : length (pushed ws i l) ≡ channel_words
  unfolding pushed
  pushed_long = joined_long ws (count_word i) last 48 l room ∙ long

  -- the words that a push leaves
  pub pushed_word : (a : ℕ) → a ≢ count_word i → ((k : ℕ) → k < 2 → a ≢ last + k) → get_or (pushed ws i l) a 0 ≡ get_or ws a 0
  unfolding pushed
  pushed_word = joined_word ws (count_word i) last 48 l room

  pub pushed_count : count_of (pushed ws i l) i ≡ count_of ws i + 1
  unfolding pushed
  pushed_count = joined_count ws (count_word i) last 48 l room (omega arith)

  pub pushed_head : head_of (pushed ws i l) i ≡ head_of ws i
  pushed_head = pushed_word (head_word i) (omega arith) (λ k g. omega arith)

  pub pushed_block : (k : ℕ) → k < 2 → get_or (pushed ws i l) (last + k) 0 ≡ get_or (stored ws last l) (last + k) 0
  unfolding pushed
  pushed_block k g = joined_block ws (count_word i) last 48 l room k (omega arith)

  pub pushed_last : letter_at (pushed ws i l) last ≡ letter_of l
  unfolding pushed
  pushed_last = joined_last ws (count_word i) last 48 l room (λ k g. omega arith) (omega arith)

  -- another block of the inbox
  pushed_apart : (k : ℕ) → k < count_of ws i
      → letter_at (pushed ws i l) (place_of ws i k) ≡ letter_at ws (place_of ws i k)
  pushed_apart k h = letter_cong (pushed ws i l) ws (place_of ws i k) (λ m g. pushed_word (place_of ws i k + m) (omega arith) (λ q r. omega arith))

  -- a push appends
  pub push_appends : inbox_of (pushed ws i l) i ≡ inbox_of ws i ++ (letter_of l ∷ [])
  unfolding inbox_of
  push_appends =
      rw (pushed_head, pushed_count, add-one (count_of ws i), listing_snoc)
      (ap₂ (λ x y. x ++ (y ∷ [])) (listing_cong _ _ (count_of ws i) pushed_apart) pushed_last)

  -- and leaves what is held
  pub push_held : (n : ℕ) → n ≤ 16 → listing (λ k. tagged_at (pushed ws i l) (held_block i k)) n ≡ listing (λ k. tagged_at ws (held_block i k)) n
  push_held n h = held_cong (pushed ws i l) ws i n (λ a p q. pushed_word a (omega arith) (λ k s. omega arith))

-- ---- pop

module _ (ws : List ℕ) (i : ℕ) (long : length ws ≡ channel_words) (card : i < 8) (n : ℕ) (some_in : count_of ws i ≡ suc n) where
  pub popped_long : length (popped ws i) ≡ channel_words
  unfolding popped
  popped_long = gone_long ws (head_word i) (count_word i) 48 n some_in ∙ long

  pub popped_word : (a : ℕ) → a ≢ head_word i → a ≢ count_word i → get_or (popped ws i) a 0 ≡ get_or ws a 0
  unfolding popped
  popped_word = gone_word ws (head_word i) (count_word i) 48 n some_in

  pub popped_count : count_of (popped ws i) i ≡ n
  unfolding popped
  popped_count = gone_count ws (head_word i) (count_word i) 48 n some_in (omega arith)

  pub popped_head : head_of (popped ws i) i ≡ (head_of ws i % 48 + 1) % 48
  unfolding popped
  popped_head = gone_head ws (head_word i) (count_word i) 48 n some_in (omega arith) (omega arith)

  -- a pop takes the head away
  pub pop_drops : inbox_of ws i ≡ letter_at ws (inbox_block i (head_of ws i % 48)) ∷ inbox_of (popped ws i) i
  unfolding inbox_of
  pop_drops =
      let m : (head_of ws i % 48 + 0) % 48 ≡ head_of ws i % 48 = omega arith in
      rw (popped_head, popped_count, some_in, listing_cons, m)
      (ap (λ y. letter_at ws (inbox_block i (head_of ws i % 48)) ∷ y)
      (listing_cong _ _ n (λ k h. next k ∙ sym (letter_cong (popped ws i) ws _ (λ q r. popped_word _ (omega arith) (omega arith))))))
    where
      next : (k : ℕ) → letter_at ws (place_of ws i (suc k)) ≡ letter_at ws (inbox_block i (((head_of ws i % 48 + 1) % 48 % 48 + k) % 48))
      next k = let e : (head_of ws i % 48 + suc k) % 48 ≡ ((head_of ws i % 48 + 1) % 48 % 48 + k) % 48 = omega arith in rw e
