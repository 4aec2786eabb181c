-- A release leaves a card's inbox and what is held for it fitting.
use Prim.Native.Nat.{ℕ, zero, suc, ◌+◌, ◌<◌, ◌≤◌}
use mathlib.Core.Path.{◌≡◌, refl, ◌∙◌}
use mathlib.Core.Bool.{Bool, true, false}
use mathlib.Core.Logic.{◌≢◌}
use mathlib.Core.List.{List}
use native.Mathlib.Numerals.{add-one}
use native.Mathlib.Omega.{arith}
use lib.Dec.{eqb}
use lib.ListN.{length, get_or}
use lib.Seq.{get_or-set_same}
use Rattle.lists.specs.Loops.{turns}
use Rattle.names.specs.declared.Packet.{Packet}
use Rattle.automaton.specs.State.{released}
use Rattle.channel.specs.Layout.{channel_words, head_word, count_word, held_word, held_block, count_of, held_count_of}
use Rattle.names.specs.Letters.{packet_at, tag_at, marked}
use Rattle.channel.specs.Inbox.{pushed}
use Rattle.channel.specs.TakeBroadcast.{Sweep, sweeps, swept, released_words}
use Rattle.channel.specs.Sized.{packet_fits, held_fits}
use Rattle.channel.specs.Shows.{held_of}
use Rattle.names.proofs.Blocks.{marked_other}
use Rattle.channel.proofs.InboxRing.{pushed_word}
use Rattle.channel.proofs.Release.{held_first, fewer, Swept, y, packet_k, mark_k, joins_is, stays_is, space, sweeps_swept, end, swept_all, released_is, release_word}
use Rattle.channel.specs.MemoryCalls.{SameSizes}
use Rattle.channel.proofs.LetterFits.{tagged_packet, tagged_small}
use Rattle.channel.proofs.WellSizedParts.{packet_sizes}
use Rattle.channel.proofs.FitQueues.{BoxFit, box_same, push_sizes, push_box, HeldFit, held_same, held_put}

pub sizes_trans : (us vs ws : List ℕ) → SameSizes us vs → SameSizes vs ws → SameSizes us ws
sizes_trans us vs ws p q = record { cards = p.cards ∙ q.cards; tasks = p.tasks ∙ q.tasks; registers = p.registers ∙ q.registers }

-- a held message's packet fits, and so does its tag
pub record HeldPacket (ws : List ℕ) (l : Packet) (tag : ℕ) : Type 0 where
  pub fit : packet_fits ws l ≡ true
  pub small : tag ≤ 65535

pub held_packet : (ws : List ℕ) (i k : ℕ) → held_fits ws i k ≡ true → HeldPacket ws (packet_at ws (held_block i k)) (tag_at ws (held_block i k))
unfolding held_fits
held_packet ws i k e = record { fit = tagged_packet ws (held_block i k) e; small = tagged_small ws (held_block i k) e }

-- after the first k held messages
pub record SweptFit (ws : List ℕ) (i : ℕ) (s : Sweep) : Type 0 where
  pub sizes : SameSizes s.words ws
  pub box : BoxFit s.words i
  pub held : HeldFit s.words i s.kept

module _ (ws : List ℕ) (i n : ℕ) (card : i < 8) (k : ℕ) (s : Sweep) (h : k < 16)
    (room : count_of ws i + length (released n (held_first ws i (suc k))) ≤ 48) (v : Swept ws i n card k s)
    (f : SweptFit ws i s) (g : held_fits ws i k ≡ true) where
  abbrev l : Packet
  l = packet_at s.words (held_block i k)

  letter : HeldPacket ws l (y ws i n card k s h room v).mark
  letter = rw (packet_k ws i n card k s h room v, mark_k ws i n card k s h room v) (held_packet ws i k g)

  module _ (e : eqb (y ws i n card k s h room v).mark n ≡ true) where
    fit_joins : SweptFit ws i (swept i n k s)
    fit_joins =
        let r = space ws i n card k s h room v e in
        let us : List ℕ = pushed s.words i l in
        let z = push_sizes s.words i l v.long card r in
        let y : SameSizes us ws = sizes_trans us s.words ws z f.sizes in
        rw (joins_is ws i n card k s h room v e) (record {
          sizes = y;
          box = push_box s.words i l v.long card r (packet_sizes us ws y l ∙ letter.fit) f.box;
          held = held_same us s.words i s.kept z (λ a p q. pushed_word s.words i l v.long card r a (omega arith) (λ b w. omega arith)) f.held;
        })

  module _ (e : eqb (y ws i n card k s h room v).mark n ≡ false) where
    fit_stays : SweptFit ws i (swept i n k s)
    fit_stays =
        let t : ℕ = (y ws i n card k s h room v).mark in
        let us : List ℕ = marked s.words (held_block i s.kept) l t in
        let few = v.few in
        let o : (a : ℕ) → ((q : ℕ) → q < 3 → a ≢ held_block i s.kept + q)
        → get_or us a 0 ≡ get_or s.words a 0 = marked_other s.words (held_block i s.kept) l t in
        let z : SameSizes us s.words =
        record { cards = o 0 (λ q r. omega arith); tasks = o 1 (λ q r. omega arith); registers = o 2 (λ q r. omega arith) } in
        let y : SameSizes us ws = sizes_trans us s.words ws z f.sizes in
        rw (stays_is ws i n card k s h room v e, add-one s.kept) (record {
          sizes = y;
          box = box_same us s.words i z (o (head_word i) (λ q r. omega arith)) (o (count_word i) (λ q r. omega arith)) (λ a p q. o a (λ b r. omega arith)) f.box;
          held = held_put us s.words i s.kept l t z (omega arith) card v.long (λ a p q. o a (λ b r. omega arith)) (λ b r. refl)
              letter.small (packet_sizes us ws y l ∙ letter.fit) f.held;
        })

  fit_step : SweptFit ws i (swept i n k s)
  fit_step = go (eqb (y ws i n card k s h room v).mark n) refl
    where
      go : (t : Bool) → eqb (y ws i n card k s h room v).mark n ≡ t → SweptFit ws i (swept i n k s)
      go true e = fit_joins e
      go false e = fit_stays e

sweeps_fit : (ws : List ℕ) (i n : ℕ) (card : i < 8) → length ws ≡ channel_words → BoxFit ws i → (k j : ℕ) → k + j ≤ 16
    → count_of ws i + length (released n (held_first ws i (k + j))) ≤ 48 → HeldFit ws i (k + j) → SweptFit ws i (sweeps i n k ws)
unfolding sweeps turns
sweeps_fit ws i n card long b zero j h room g =
    record { sizes = record { cards = refl; tasks = refl; registers = refl }; box = b; held = λ k p. absurd (omega arith) }
sweeps_fit ws i n card long b (suc k) j h room g =
    let e : suc k + j ≡ k + suc j = omega arith in
    let f = fewer ws i n (suc k) j in
    fit_step ws i n card k (sweeps i n k ws) (omega arith) (omega arith)
    (sweeps_swept ws i n card long k (suc j) (omega arith) (rw e at room))
    (sweeps_fit ws i n card long b k (suc j) (omega arith) (rw e at room) (rw e at g)) (g k (omega arith))

module _ (ws : List ℕ) (i n : ℕ) (card : i < 8) (long : length ws ≡ channel_words) (few : held_count_of ws i ≤ 16)
    (room : count_of ws i + length (released n (held_of ws i)) ≤ 48) (b : BoxFit ws i) (g : HeldFit ws i (held_count_of ws i)) where
  swept_fit : SweptFit ws i (end ws i n card long few room)
  unfolding held_of
  swept_fit =
      let e : held_count_of ws i + 0 ≡ held_count_of ws i = omega arith in
      sweeps_fit ws i n card long b (held_count_of ws i) 0 (omega arith) (rw e room) (rw e g)

  abbrev us : List ℕ
  us = released_words ws i n

  last_word : (a : ℕ) → a ≢ held_word i → get_or us a 0 ≡ get_or (end ws i n card long few room).words a 0
  last_word = release_word ws i n card long few room

  last_sizes : SameSizes us (end ws i n card long few room).words
  last_sizes = record { cards = last_word 0 (omega arith); tasks = last_word 1 (omega arith); registers = last_word 2 (omega arith) }

  pub release_count : held_count_of us i ≡ (end ws i n card long few room).kept
  release_count =
      let s = swept_all ws i n card long few room in
      rw (released_is ws i n card long few room)
      (get_or-set_same (end ws i n card long few room).words (held_word i) (end ws i n card long few room).kept 0 (omega (arith, s.long)))

  pub release_few : held_count_of us i ≤ 16
  release_few = let s = swept_all ws i n card long few room in omega (arith, release_count, s.few)

  pub release_box : BoxFit us i
  release_box =
      box_same us (end ws i n card long few room).words i last_sizes (last_word (head_word i) (omega arith)) (last_word (count_word i) (omega arith))
      (λ a p q. last_word a (omega arith)) swept_fit.box

  pub release_fit : HeldFit us i (held_count_of us i)
  release_fit =
      rw release_count
      (held_same us (end ws i n card long few room).words i (end ws i n card long few room).kept last_sizes (λ a p q. last_word a (omega arith)) swept_fit.held)
