-- What is received was sent there, and is received once; broadcasts have numbers of their own.
use lib.Dec.{eqb}
use borrow.Author.Tests.{eqb-true}
use mathlib.Core.Path.{◌≡◌, refl, sym, ◌∙◌, subst}
use mathlib.Core.Logic.{◌⊎◌, inl, inr}
use mathlib.Core.Bool.{Bool, true, false, cond}
use mathlib.Core.List.{List, [], ◌∷◌}
use Prim.Native.Nat.{ℕ, suc, ◌≤◌, ◌<◌}
use native.Mathlib.Decide.{dec_lt}
use native.Mathlib.Omega.{arith}
use Rattle.lists.specs.Tests.{eqb_of, clash}
use Rattle.lists.specs.Histories.{Any, At, Suf, In, suf_any, at_suf, suf_now, suf_tail, at_any, any_at, at_order, any_left, any_right, here, there, stop}
use Rattle.lists.specs.Sorting.{Sorted, before_less, apart}
use Rattle.automaton.specs.Network.{Network}
use Rattle.automaton.specs.Automaton.{Step, mcast, take, join, receive, rest, Mcasts, Takes, Joins, Receives, chan, ChannelExecution}
use Rattle.automaton.specs.TotalOrder.{epoch}
use Rattle.automaton.proofs.Counts.{mcast_one, flow, flows_suf, mark_suf, made_at, number, tag}
use Rattle.automaton.proofs.InboxHistory.{gone, queue, receives_gone, receiving}
use Rattle.automaton.proofs.Joining.{join_can, take_can, Entry, Entered, log_entered, taking, joining}
use Rattle.automaton.proofs.Times.{epoch_joined}
use Rattle.automaton.proofs.InboxOrder.{join_key, log_sorted}

module _ {M : Type 0} (N : Network M) (E : List (Step M)) (v : ChannelExecution N E) where
  -- each number that a card has passed was a broadcast that it took
  pub passed : (B : List (Step M)) (i q : ℕ) → Suf B E → q < (chan N B).taken i
      → (m : M) × Any (Takes i m) B × (N.mail.multi m ≡ true) × Any (Mcasts m) E × ((chan N E).mark m ≡ suc q)
  passed [] i q s h = absurd (omega arith)
  passed (mcast m ∷ B) i q s h = let r = passed B i q (suf_tail s) h in (r.0, there r.1, r.2, r.3, r.4)
  passed (take j m ∷ B) i q s h = go (dec_lt q ((chan N B).taken i)) (eqb i j) refl h (λ x. passed B i q (suf_tail s) x)
    where
      go : Dec (q < (chan N B).taken i) → (t : Bool) → eqb i j ≡ t → q < cond t (suc ((chan N B).taken i)) ((chan N B).taken i)
          → (q < (chan N B).taken i → (m : M) × Any (Takes i m) B × (N.mail.multi m ≡ true) × Any (Mcasts m) E × ((chan N E).mark m ≡ suc q))
          → (n : M) × Any (Takes i n) (take j m ∷ B) × (N.mail.multi n ≡ true) × Any (Mcasts n) E × ((chan N E).mark n ≡ suc q)
      go (yes y) t e x r = let z = r y in (z.0, there z.1, z.2, z.3, z.4)
      go (no y) true e x r =
          let f = flow N v (suf_now {P = Takes i m} {e = take j m} s (refl, sym (eqb-true _ _ e))) in
          let c = take_can N f.0 B m i f.1 f.2 in
          let p = mark_suf N v (suf_tail s) c.1 in
          let w = c.2 in
          (m, here {e = take j m} (refl, sym (eqb-true _ _ e)), c.0, suf_any (suf_tail s) c.1, omega arith)
      go (no y) false e x r = absurd (y x)
  passed (join m ∷ B) i q s h = let r = passed B i q (suf_tail s) h in (r.0, there r.1, r.2, r.3, r.4)
  passed (receive m j ∷ B) i q s h = let r = passed B i q (suf_tail s) h in (r.0, there r.1, r.2, r.3, r.4)
  passed (rest ∷ B) i q s h = let r = passed B i q (suf_tail s) h in (r.0, there r.1, r.2, r.3, r.4)

  -- a number is that of one broadcast
  pub number_one : {m n : M} → N.mail.multi m ≡ true → N.mail.multi n ≡ true → Any (Mcasts m) E → Any (Mcasts n) E
      → (chan N E).mark m ≡ (chan N E).mark n → m ≡ n
  number_one {m} {n} um un x y e = go (any_at x).0 (any_at x).1 (any_at y).0 (any_at y).1
    where
      go : (B : List (Step M)) → At (Mcasts m) B E → (C : List (Step M)) → At (Mcasts n) C E → m ≡ n
      go B a C b = pick (at_order a b)
        where
          p : (chan N E).mark m ≡ suc (chan N B).made
          p = number N v um a

          q : (chan N E).mark n ≡ suc (chan N C).made
          q = number N v un b

          pick : ((e : Step M) × Mcasts m e × Mcasts n e) ⊎ (At (Mcasts m) B C ⊎ At (Mcasts n) C B) → m ≡ n
          pick (inl w) = mcast_one w.0 w.1 w.2
          pick (inr (inl w)) = let k = made_at N um w in absurd (omega (arith, p, q))
          pick (inr (inr w)) = let k = made_at N un w in absurd (omega (arith, p, q))

  -- a received message was in the log, and so was sent here
  pub was_sent : {m : M} {i : ℕ} {B : List (Step M)} → At (Receives m i) B E → Any (Mcasts m) B × (N.mail.to m i ≡ true)
  was_sent {m} {i} {B} x = go (log_entered N B m i (let p = receiving N v x in subst (In m) (sym p.1) (any_right (gone N B i) (here refl))))
    where
      go : Entered N m i B → Any (Mcasts m) B × (N.mail.to m i ≡ true)
      go h = by_entry h.how
        where
          by_entry : Entry N m i h.when B → Any (Mcasts m) B × (N.mail.to m i ≡ true)
          by_entry (taking y t) = let f = flow N (flows_suf N (at_suf x) v) y in (suf_any (at_suf y) (take_can N f.0 h.when m i f.1 f.2).1, t)
          by_entry (joining y t) =
              let f = flow N (flows_suf N (at_suf x) v) y in
              let c = join_can N f.0 h.when m f.1 f.2 in
              (suf_any (at_suf y) c.1, N.single m c.0 i ∙ eqb_of (sym t))

  pub received_once : {m : M} {i : ℕ} {B : List (Step M)} → At (Receives m i) B E → ¬ Any (Receives m i) B
  received_once {m} {i} {B} x y =
      let p = receiving N v x in
      let k = before_less (join_key N E) (gone N B i) p.0 (subst (Sorted (join_key N E)) p.1 (log_sorted N E v B i (at_suf x))) (receives_gone N y) in
      omega arith

  -- what stands in an inbox has not been received there
  pub unreceived_inbox : {m : M} {i : ℕ} → In m ((chan N E).inbox i) → ¬ Any (Receives m i) E
  unreceived_inbox {m} {i} h p = let k = apart (join_key N E) (gone N E i) ((chan N E).inbox i)
      (subst (Sorted (join_key N E)) (queue N E v i) (log_sorted N E v E i stop)) (receives_gone N p) h in omega arith

  pub received_joined : {m : M} {i : ℕ} → N.mail.multi m ≡ false → Any (Receives m i) E → Any (Joins m) E
  received_joined {m} {i} u p = go (log_entered N E m i (subst (In m) (sym (queue N E v i)) (any_left _ (receives_gone N p)))).how
    where
      go : {B : List (Step M)} → Entry N m i B E → Any (Joins m) E
      go {B} (taking x t) = let f = flow N v x in absurd (clash (take_can N f.0 B m i f.1 f.2).0 u)
      go {B} (joining x t) = at_any x

  -- a message's epoch is at least its tag
  pub epoch_tag : {m : M} {B : List (Step M)} {i : ℕ} → N.mail.multi m ≡ false → At (Mcasts m) B E → Any (Receives m i) E
      → (chan N B).taken (N.from m) ≤ epoch N E m
  epoch_tag {m} {B} u x y =
      let j = any_at (received_joined u y) in
      let f = flow N v j.1 in
      let c = join_can N f.0 j.0 m f.1 f.2 in
      let e = epoch_joined N E v j.1 in
      let t = tag N v u x in
      let q = mark_suf N v (at_suf j.1) c.1 in
      let k = c.3 in
      omega arith
