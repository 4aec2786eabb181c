-- The release in place does what `kept` and `released` say of the list of held messages.
use Prim.Native.Nat.{ℕ, zero, suc, ◌+◌, ◌%◌, ◌<◌, ◌≤◌, min}
use mathlib.Core.Path.{◌≡◌, refl, sym, ap, ap₂, ◌∙◌}
use mathlib.Core.Bool.{Bool, true, false}
use mathlib.Core.Logic.{◌≢◌}
use mathlib.Core.List.{List, [], ◌∷◌, ◌++◌, append_assoc, append-nil}
use native.Mathlib.Numerals.{add-one}
use native.Mathlib.Omega.{arith}
use lib.Dec.{eqb}
use lib.ListN.{length, get_or, set, length-set, length-append}
use lib.Seq.{get_or-set_same, get_or-set_other}
use Rattle.lists.specs.Listings.{listing}
use Rattle.lists.specs.Loops.{turns}
use Rattle.names.specs.declared.Letter.{Letter}
use Rattle.names.specs.declared.Packet.{Packet}
use Rattle.automaton.specs.State.{Tagged, kept, released}
use Rattle.names.specs.Letters.{packet_at, tag_at, marked}
use Rattle.channel.specs.Layout.{channel_words, taken_word, head_word, count_word, held_word, inbox_block, held_block, head_of, count_of, held_count_of, place_of}
use Rattle.channel.specs.Inbox.{pushed}
use Rattle.channel.specs.TakeBroadcast.{Sweep, sweeps, swept, swept_words, swept_kept, released_words}
use Rattle.channel.specs.Shows.{tagged_at, inbox_of, held_of}
use Rattle.names.proofs.Blocks.{packet_cong, marked_other, marked_letter, mark_same, length_marked}
use Rattle.automaton.proofs.ReleasedLists.{released_snoc, kept_snoc}
use Rattle.channel.proofs.InboxRing.{tagged_cong, held_cong, ring_cong, pushed_long, pushed_word, pushed_count, push_appends, push_held}

-- the first n messages held for card i
abbrev pub held_first : List ℕ → ℕ → ℕ → List (Tagged Letter)
held_first ws i n = listing (λ k. tagged_at ws (held_block i k)) n

-- fewer held messages release no more
pub fewer : (ws : List ℕ) (i n k j : ℕ) → length (released n (held_first ws i k)) ≤ length (released n (held_first ws i (k + j)))
unfolding listing
fewer ws i n k zero = let e : k + 0 ≡ k = omega arith in rw e (omega arith)
fewer ws i n k (suc j) =
    let e : k + suc j ≡ suc (k + j) = omega arith in
    let r = fewer ws i n k j in
    rw (e, released_snoc, length-append) (omega arith)

module _ (ws : List ℕ) (i n : ℕ) (card : i < 8) where
  -- after the first k held messages
  pub record Swept (k : ℕ) (s : Sweep) : Type 0 where
    pub long : length s.words ≡ channel_words
    pub few : s.kept ≤ k
    pub stay : held_first s.words i s.kept ≡ kept n (held_first ws i k)
    pub rest : (m : ℕ) → k ≤ m → m < 16 → (q : ℕ) → q < 3 → get_or s.words (held_block i m + q) 0 ≡ get_or ws (held_block i m + q) 0
    pub inbox : inbox_of s.words i ≡ inbox_of ws i ++ released n (held_first ws i k)
    pub count : count_of s.words i ≡ count_of ws i + length (released n (held_first ws i k))
    pub low : (a : ℕ) → a < inbox_block i 0 → a ≢ count_word i → get_or s.words a 0 ≡ get_or ws a 0
    pub high : (a : ℕ) → taken_word (i + 1) ≤ a → get_or s.words a 0 ≡ get_or ws a 0

-- a store among card i's held messages leaves its inbox
module _ (ws : List ℕ) (i m : ℕ) (l : Packet) (t : ℕ) (card : i < 8) (place : m < 16) where
  abbrev moved : List ℕ
  moved = marked ws (held_block i m) l t

  pub moved_word : (a : ℕ) → ((k : ℕ) → k < 3 → a ≢ held_block i m + k) → get_or moved a 0 ≡ get_or ws a 0
  moved_word a h = marked_other ws (held_block i m) l t a h

  moved_inbox : inbox_of moved i ≡ inbox_of ws i
  unfolding inbox_of
  moved_inbox =
      rw (moved_word (head_word i) (λ k g. omega arith), moved_word (count_word i) (λ k g. omega arith))
      (ring_cong moved ws i (head_of ws i % 48) (count_of ws i) (λ a p q. moved_word a (λ k g. omega arith)))

module _ (ws : List ℕ) (i n : ℕ) (card : i < 8) (k : ℕ) (s : Sweep) (h : k < 16)
    (room : count_of ws i + length (released n (held_first ws i (suc k))) ≤ 48) (v : Swept ws i n card k s) where
  abbrev pub x : Tagged Letter
  x = tagged_at ws (held_block i k)

  abbrev pub y : Tagged Letter
  y = tagged_at s.words (held_block i k)

  abbrev pub packet : Packet
  packet = packet_at s.words (held_block i k)

  pub at_k : y ≡ x
  at_k = tagged_cong s.words ws (held_block i k) (v.rest k (omega arith) h)

  pub packet_k : packet ≡ packet_at ws (held_block i k)
  packet_k = packet_cong s.words ws (held_block i k) (λ q g. v.rest k (omega arith) h q (omega arith))

  pub mark_k : y.mark ≡ tag_at ws (held_block i k)
  mark_k = v.rest k (omega arith) h 2 (omega arith)

  -- it waits for n: it joins the inbox
  module _ (e : eqb y.mark n ≡ true) where
    pub joins_is : swept i n k s ≡ record { words = pushed s.words i packet; kept = s.kept }
    unfolding swept swept_words swept_kept
    joins_is = rw e

    now_due : eqb x.mark n ≡ true
    now_due = ap (λ (z : Tagged Letter). eqb z.mark n) (sym at_k) ∙ e

    more : released n (held_first ws i (suc k)) ≡ released n (held_first ws i k) ++ (x.msg ∷ [])
    unfolding listing
    more = rw (released_snoc, now_due)

    no_more : kept n (held_first ws i (suc k)) ≡ kept n (held_first ws i k)
    unfolding listing
    no_more = rw (kept_snoc, now_due) (append-nil _)

    longer : length (released n (held_first ws i (suc k))) ≡ length (released n (held_first ws i k)) + 1
    longer = rw (more, length-append)

    pub space : count_of s.words i < 48
    space = omega (arith, longer, v.count)

    word : (a : ℕ) → a ≢ count_word i → ((q : ℕ) → q < 2 → a ≢ place_of s.words i (count_of s.words i) + q)
        → get_or (pushed s.words i packet) a 0 ≡ get_or s.words a 0
    word = pushed_word s.words i packet v.long card space

    joins : Swept ws i n card (suc k) (swept i n k s)
    joins = rw joins_is (record {
      long = pushed_long s.words i packet v.long card space;
      few = omega (arith, v.few);
      stay = push_held s.words i packet v.long card space s.kept (omega (arith, v.few)) ∙ v.stay ∙ sym no_more;
      rest = λ m p q a g. word (held_block i m + a) (omega arith) (λ b r. omega arith) ∙ v.rest m (omega arith) q a g;
      inbox =
          push_appends s.words i packet v.long card space ∙ ap₂ (λ a b. a ++ (b ∷ [])) v.inbox (ap (λ (z : Tagged Letter). z.msg) at_k)
          ∙ append_assoc (inbox_of ws i) _ _ ∙ ap (inbox_of ws i ++◌) (sym more);
      count = omega (arith, pushed_count s.words i packet v.long card space, v.count, longer);
      low = λ a p q. word a q (λ b r. omega arith) ∙ v.low a p q;
      high = λ a p. word a (omega arith) (λ b r. omega arith) ∙ v.high a p;
    })

  -- it waits on: it moves down
  module _ (e : eqb y.mark n ≡ false) where
    pub stays_is : swept i n k s ≡ record { words = marked s.words (held_block i s.kept) packet y.mark; kept = s.kept + 1 }
    unfolding swept swept_words swept_kept
    stays_is = rw e

    not_due : eqb x.mark n ≡ false
    not_due = ap (λ (z : Tagged Letter). eqb z.mark n) (sym at_k) ∙ e

    same_out : released n (held_first ws i (suc k)) ≡ released n (held_first ws i k)
    unfolding listing
    same_out = rw (released_snoc, not_due) (append-nil _)

    one_stays : kept n (held_first ws i (suc k)) ≡ kept n (held_first ws i k) ++ (x ∷ [])
    unfolding listing
    one_stays = rw (kept_snoc, not_due)

    place : s.kept < 16
    place = omega (arith, v.few)

    abbrev us : List ℕ
    us = marked s.words (held_block i s.kept) packet y.mark

    other : (a : ℕ) → ((q : ℕ) → q < 3 → a ≢ held_block i s.kept + q) → get_or us a 0 ≡ get_or s.words a 0
    other = moved_word s.words i s.kept packet y.mark card place

    put : tagged_at us (held_block i s.kept) ≡ y
    put =
        rw (marked_letter s.words (held_block i s.kept) packet y.mark (omega (arith, v.long)), mark_same s.words (held_block i s.kept) packet y.mark (omega (arith, v.long)))

    down : held_first us i (s.kept + 1) ≡ kept n (held_first ws i (suc k))
    unfolding listing
    down =
        rw (add-one s.kept, one_stays)
        (ap₂ (λ a b. a ++ (b ∷ []))
        (held_cong us s.words i s.kept (λ a p q. other a (λ b w. omega arith)) ∙ v.stay)
        (put ∙ at_k))

    stays : Swept ws i n card (suc k) (swept i n k s)
    stays = rw stays_is (record {
      long = length_marked s.words (held_block i s.kept) packet y.mark ∙ v.long;
      few = omega (arith, v.few);
      stay = down;
      rest = λ m p q a g. other (held_block i m + a) (λ b r. omega (arith, v.few)) ∙ v.rest m (omega arith) q a g;
      inbox = moved_inbox s.words i s.kept packet y.mark card place ∙ v.inbox ∙ ap (inbox_of ws i ++◌) (sym same_out);
      count = other (count_word i) (λ b r. omega arith) ∙ v.count ∙ ap (λ z. count_of ws i + length z) (sym same_out);
      low = λ a p q. other a (λ b r. omega arith) ∙ v.low a p q;
      high = λ a p. other a (λ b r. omega (arith, place)) ∙ v.high a p;
    })

  pub step : Swept ws i n card (suc k) (swept i n k s)
  step = go (eqb y.mark n) refl
    where
      go : (t : Bool) → eqb y.mark n ≡ t → Swept ws i n card (suc k) (swept i n k s)
      go true e = joins e
      go false e = stays e

pub sweeps_swept : (ws : List ℕ) (i n : ℕ) (card : i < 8) → length ws ≡ channel_words → (k j : ℕ) → k + j ≤ 16
    → count_of ws i + length (released n (held_first ws i (k + j))) ≤ 48 → Swept ws i n card k (sweeps i n k ws)
unfolding sweeps turns listing
sweeps_swept ws i n card long zero j h room = record {
  long = long;
  few = omega arith;
  stay = refl;
  rest = λ m p q a g. refl;
  inbox = sym (append-nil (inbox_of ws i));
  count = omega arith;
  low = λ a p q. refl;
  high = λ a p. refl;
}
sweeps_swept ws i n card long (suc k) j h room =
    let e : suc k + j ≡ k + suc j = omega arith in
    let f = fewer ws i n (suc k) j in
    step ws i n card k (sweeps i n k ws) (omega arith) (omega arith) (sweeps_swept ws i n card long k (suc j) (omega arith) (rw e at room))

-- ---- what a release leaves

module _ (ws : List ℕ) (i n : ℕ) (card : i < 8) (long : length ws ≡ channel_words) (few : held_count_of ws i ≤ 16)
    (room : count_of ws i + length (released n (held_of ws i)) ≤ 48) where
  abbrev pub end : Sweep
  end = sweeps i n (held_count_of ws i) ws

  pub swept_all : Swept ws i n card (held_count_of ws i) end
  unfolding held_of
  swept_all = let e : held_count_of ws i + 0 ≡ held_count_of ws i = omega arith in sweeps_swept ws i n card long (held_count_of ws i) 0 (omega arith) (rw e room)

  pub released_is : released_words ws i n ≡ set end.words (held_word i) end.kept
  unfolding released_words
  released_is = let e : min (held_count_of ws i) 16 ≡ held_count_of ws i = omega arith in rw e

  pub release_word : (a : ℕ) → a ≢ held_word i → get_or (released_words ws i n) a 0 ≡ get_or end.words a 0
  release_word a h = rw released_is (get_or-set_other end.words (held_word i) a end.kept 0 h)

  pub release_long : length (released_words ws i n) ≡ channel_words
  release_long = rw released_is (length-set end.words (held_word i) end.kept ∙ swept_all.long)

  pub release_low : (a : ℕ) → a < count_word i → get_or (released_words ws i n) a 0 ≡ get_or ws a 0
  release_low a h = release_word a (omega arith) ∙ swept_all.low a (omega arith) (omega arith)

  pub release_high : (a : ℕ) → taken_word (i + 1) ≤ a → get_or (released_words ws i n) a 0 ≡ get_or ws a 0
  release_high a h = release_word a (omega arith) ∙ swept_all.high a h

  pub release_held : held_of (released_words ws i n) i ≡ kept n (held_of ws i)
  unfolding held_of
  release_held =
      let c : held_count_of (released_words ws i n) i
      ≡ end.kept = rw released_is (get_or-set_same end.words (held_word i) end.kept 0 (omega (arith, swept_all.long))) in
      rw c
      (held_cong (released_words ws i n) end.words i end.kept (λ a p q. release_word a (omega arith)) ∙ swept_all.stay)

  pub release_inbox : inbox_of (released_words ws i n) i ≡ inbox_of ws i ++ released n (held_of ws i)
  unfolding held_of inbox_of
  release_inbox =
      rw (release_word (head_word i) (omega arith), release_word (count_word i) (omega arith))
      (ring_cong (released_words ws i n) end.words i (head_of end.words i % 48) (count_of end.words i) (λ a p q. release_word a (omega arith))
      ∙ swept_all.inbox)
