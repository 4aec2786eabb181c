-- What is written fits, and what a push, a pop and one message held more leave of a card's part fits.
use Prim.Native.Nat.{ℕ, suc, ◌+◌, ◌%◌, ◌<◌, ◌≤◌}
use mathlib.Core.Path.{◌≡◌, ap, ◌∙◌}
use mathlib.Core.Bool.{true}
use mathlib.Core.List.{List}
use native.Mathlib.Decide.{dec_lt}
use native.Mathlib.Omega.{arith}
use lib.ListN.{length, get_or}
use Rattle.names.specs.declared.Packet.{Packet}
use Rattle.channel.specs.Layout.{channel_words, inbox_block, held_block, head_of, count_of, place_of}
use Rattle.names.specs.Letters.{packet_at, tag_at, stored, marked}
use Rattle.channel.specs.Inbox.{pushed, popped}
use Rattle.channel.specs.Sized.{packet_fits, block_fits, tagged_fits, inbox_fits, held_fits}
use Rattle.names.proofs.Blocks.{packet_cong, packet_same, marked_packet, mark_same}
use Rattle.channel.proofs.InboxRing.{pushed_word, pushed_count, pushed_head, pushed_block, popped_word, popped_count, popped_head}
use Rattle.channel.proofs.LetterFits.{tagged_fits_lem}
use Rattle.channel.specs.MemoryCalls.{SameSizes}
use Rattle.channel.proofs.WellSizedParts.{block_same, tagged_same}

-- ---- a packet just written

module _ (cs us ws : List ℕ) (b : ℕ) (p : Packet) (f : packet_fits cs p ≡ true) (whole : b + 2 ≤ length ws)
    (e : (k : ℕ) → k < 2 → get_or us (b + k) 0 ≡ get_or (stored ws b p) (b + k) 0) where
  pub put_packet : packet_at us b ≡ p
  put_packet = packet_cong us (stored ws b p) b e ∙ packet_same ws b p whole

  pub put_fits : block_fits cs us b ≡ true
  put_fits = ap (packet_fits cs) put_packet ∙ f

-- and its tag
pub put_tagged : (us ws : List ℕ) (b : ℕ) (p : Packet) (t : ℕ) → packet_fits us p ≡ true → t ≤ 65535 → b + 3 ≤ length ws
    → ((k : ℕ) → k < 3 → get_or us (b + k) 0 ≡ get_or (marked ws b p t) (b + k) 0) → tagged_fits us b ≡ true
put_tagged us ws b p t f small whole e =
    let q : packet_at us b ≡ p = packet_cong us (marked ws b p t) b (λ k h. e k (omega arith)) ∙ marked_packet ws b p t whole in
    let m : tag_at us b ≡ t = e 2 (omega arith) ∙ mark_same ws b p t whole in
    tagged_fits_lem us b (ap (packet_fits us) q ∙ f) (rw m small)

-- ---- an inbox

-- each message in card i's inbox fits
abbrev pub BoxFit : List ℕ → ℕ → Type 0
BoxFit ws i = (k : ℕ) → k < count_of ws i → inbox_fits ws i k ≡ true

pub box_same : (us ws : List ℕ) (i : ℕ) → SameSizes us ws → head_of us i ≡ head_of ws i → count_of us i ≡ count_of ws i
    → ((a : ℕ) → inbox_block i 0 ≤ a → a < inbox_block i 48 → get_or us a 0 ≡ get_or ws a 0) → BoxFit ws i → BoxFit us i
unfolding inbox_fits
box_same us ws i s eh ec e f k h =
    let g : (q : ℕ) → q < 2 → get_or us (place_of ws i k + q) 0 ≡ get_or ws (place_of ws i k + q) 0 = λ q r. e _ (omega arith) (omega arith) in
    rw (eh, block_same us ws s (place_of ws i k) g) (f k (rw (← ec) h))

module _ (ws : List ℕ) (i : ℕ) (l : Packet) (long : length ws ≡ channel_words) (card : i < 8) (room : count_of ws i < 48) where
  abbrev us : List ℕ
  us = pushed ws i l

  pub push_sizes : SameSizes us ws
  push_sizes =
      let p = pushed_word ws i l long card room in
      record { cards = p 0 (omega arith) (λ k g. omega arith); tasks = p 1 (omega arith) (λ k g. omega arith); registers = p 2 (omega arith) (λ k g. omega arith) }

  pub push_box : packet_fits us l ≡ true → BoxFit ws i → BoxFit us i
  unfolding inbox_fits
  push_box f b k h = go (dec_lt k (count_of ws i))
    where
      go : Dec (k < count_of ws i) → block_fits us us (place_of us i k) ≡ true
      go (yes p) =
          let g : (q : ℕ) → q < 2 → get_or us (place_of ws i k + q) 0 ≡ get_or ws (place_of ws i k + q) 0 =
          λ q r. pushed_word ws i l long card room _ (omega arith) (λ u w. omega arith) in
          rw (pushed_head ws i l long card room, block_same us ws push_sizes (place_of ws i k) g) (b k p)
      go (no n) =
          let c = pushed_count ws i l long card room in
          let e : k ≡ count_of ws i = omega arith in
          let v = pushed_block ws i l long card room in
          let w : place_of ws i (count_of ws i) + 2 ≤ length ws = omega arith in
          rw (pushed_head ws i l long card room, e) (put_fits us us ws (place_of ws i (count_of ws i)) l f w v)

-- a pop
module _ (ws : List ℕ) (i : ℕ) (long : length ws ≡ channel_words) (card : i < 8) (n : ℕ) (some_in : count_of ws i ≡ suc n) where
  pub pop_sizes : SameSizes (popped ws i) ws
  pop_sizes =
      let p = popped_word ws i long card n some_in in
      record { cards = p 0 (omega arith) (omega arith); tasks = p 1 (omega arith) (omega arith); registers = p 2 (omega arith) (omega arith) }

  pub pop_box : BoxFit ws i → BoxFit (popped ws i) i
  unfolding inbox_fits
  pop_box b k h =
      let c = popped_count ws i long card n some_in in
      let e : (((head_of ws i % 48 + 1) % 48) % 48 + k) % 48 ≡ (head_of ws i % 48 + (k + 1)) % 48 = omega arith in
      let g : (q : ℕ) → q < 2 → get_or (popped ws i) (place_of ws i (k + 1) + q) 0 ≡ get_or ws (place_of ws i (k + 1) + q) 0 =
      λ q r. popped_word ws i long card n some_in _ (omega arith) (omega arith) in
      rw (popped_head ws i long card n some_in, e, block_same (popped ws i) ws pop_sizes (place_of ws i (k + 1)) g)
      (b (k + 1) (omega arith))

-- ---- the held messages

-- the first n messages held for card i fit
abbrev pub HeldFit : List ℕ → ℕ → ℕ → Type 0
HeldFit ws i n = (k : ℕ) → k < n → held_fits ws i k ≡ true

pub held_same : (us ws : List ℕ) (i n : ℕ) → SameSizes us ws → ((a : ℕ) → held_block i 0 ≤ a → a < held_block i n → get_or us a 0 ≡ get_or ws a 0)
    → HeldFit ws i n → HeldFit us i n
unfolding held_fits
held_same us ws i n s e f k h =
    let g : (q : ℕ) → q < 3 → get_or us (held_block i k + q) 0 ≡ get_or ws (held_block i k + q) 0 = λ q r. e _ (omega arith) (omega arith) in
    rw (tagged_same us ws s (held_block i k) g) (f k h)

-- and one more, written after them
pub held_put : (us ws : List ℕ) (i n : ℕ) (l : Packet) (t : ℕ) → SameSizes us ws → n < 16 → i < 8 → length ws ≡ channel_words
    → ((a : ℕ) → held_block i 0 ≤ a → a < held_block i n → get_or us a 0 ≡ get_or ws a 0)
    → ((k : ℕ) → k < 3 → get_or us (held_block i n + k) 0 ≡ get_or (marked ws (held_block i n) l t) (held_block i n + k) 0)
    → t ≤ 65535 → packet_fits us l ≡ true → HeldFit ws i n → HeldFit us i (suc n)
unfolding held_fits
held_put us ws i n l t s small card long e v m f b k h = go (dec_lt k n)
  where
    go : Dec (k < n) → tagged_fits us (held_block i k) ≡ true
    go (yes p) =
        let g : (q : ℕ) → q < 3 → get_or us (held_block i k + q) 0 ≡ get_or ws (held_block i k + q) 0 = λ q r. e _ (omega arith) (omega arith) in
        rw (tagged_same us ws s (held_block i k) g) (b k p)
    go (no q) =
        let j : k ≡ n = omega arith in
        let w : held_block i n + 3 ≤ length ws = omega arith in
        rw j (put_tagged us ws (held_block i n) l t f m w v)
