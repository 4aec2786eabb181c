-- Counts only grow: broadcasts made, broadcasts taken by a card. A message's number or tag does not change once it has one.
use lib.Dec.{eqb}
use borrow.Author.Tests.{eqb-true}
use mathlib.Core.Path.{◌≡◌, refl, sym, ap, ◌∙◌, subst}
use mathlib.Core.Bool.{Bool, true, false, cond}
use mathlib.Core.List.{List, [], ◌∷◌}
use Prim.Native.Nat.{ℕ, suc, ◌≤◌}
use native.Mathlib.Omega.{arith}
use Rattle.lists.specs.Histories.{Any, At, Suf, suf_any, at_any, any_at, now, before, stop, back}
use Rattle.automaton.specs.Network.{Network}
use Rattle.automaton.specs.Automaton.{Step, mcast, take, join, receive, rest, Mcasts, Receives, chan, ChannelPrecondition, ChannelExecution}

-- a step multicasts one message, or receives one
module _ {M : Type 0} {m n : M} where
  pub mcast_one : (e : Step M) → Mcasts m e → Mcasts n e → m ≡ n
  mcast_one (take _ _) p q = elim p [ ]
  mcast_one (join _) p q = elim p [ ]
  mcast_one (receive _ _) p q = elim p [ ]
  mcast_one rest p q = elim p [ ]
  mcast_one (mcast a) p q = sym p ∙ q

  pub receive_one : (i j : ℕ) (e : Step M) → Receives m i e → Receives n j e → m ≡ n
  receive_one i j (mcast _) p q = elim p [ ]
  receive_one i j (take _ _) p q = elim p [ ]
  receive_one i j (join _) p q = elim p [ ]
  receive_one i j rest p q = elim p [ ]
  receive_one i j (receive a c) p q = sym p.0 ∙ q.0

module _ {M : Type 0} (N : Network M) where
  -- what holds of a step of a run: the step, what it may do, and the run up to it
  pub flow : {P : Step M → Type 0} {B E : List (Step M)} → ChannelExecution N E → At P B E
      → (e : Step M) × P e × ChannelPrecondition N B e × ChannelExecution N B
  flow v (now p) = (_, p, v.0, v.1)
  flow v (before q) = flow v.1 q

  pub flows_suf : {B E : List (Step M)} → Suf B E → ChannelExecution N E → ChannelExecution N B
  flows_suf stop v = v
  flows_suf (back s) v = flows_suf s v.1

  pub made_on : (e : Step M) (E : List (Step M)) → (chan N E).made ≤ (chan N (e ∷ E)).made
  made_on (mcast m) E = go (N.mail.multi m)
    where
      go : (t : Bool) → (chan N E).made ≤ cond t (suc (chan N E).made) (chan N E).made
      go true = omega arith
      go false = omega arith
  made_on (take i m) E = omega arith
  made_on (join m) E = omega arith
  made_on (receive m i) E = omega arith
  made_on rest E = omega arith

  pub made_suf : {B E : List (Step M)} → Suf B E → (chan N B).made ≤ (chan N E).made
  made_suf stop = omega arith
  made_suf (back {e = e} {E = E} s) = let h = made_suf s in let k = made_on e E in omega arith

  pub taken_on : (e : Step M) (E : List (Step M)) (i : ℕ) → (chan N E).taken i ≤ (chan N (e ∷ E)).taken i
  taken_on (mcast m) E i = omega arith
  taken_on (take j m) E i = go (eqb i j)
    where
      go : (t : Bool) → (chan N E).taken i ≤ cond t (suc ((chan N E).taken i)) ((chan N E).taken i)
      go true = omega arith
      go false = omega arith
  taken_on (join m) E i = omega arith
  taken_on (receive m j) E i = omega arith
  taken_on rest E i = omega arith

  pub taken_suf : {B E : List (Step M)} (i : ℕ) → Suf B E → (chan N B).taken i ≤ (chan N E).taken i
  taken_suf i stop = omega arith
  taken_suf i (back {e = e} {E = E} s) = let h = taken_suf i s in let k = taken_on e E i in omega arith

  -- what a multicast marks
  abbrev pub tagged : List (Step M) → M → ℕ
  tagged B m = cond (N.mail.multi m) (suc (chan N B).made) ((chan N B).taken (N.from m))

  pub mark_now : (e : Step M) (E : List (Step M)) (m : M) → Mcasts m e → (chan N (e ∷ E)).mark m ≡ tagged E m
  mark_now (take _ _) E m p = elim p [ ]
  mark_now (join _) E m p = elim p [ ]
  mark_now (receive _ _) E m p = elim p [ ]
  mark_now rest E m p = elim p [ ]
  mark_now (mcast n) E m p = rw (p, N.eqm_refl m)

  pub mark_on : (e : Step M) (E : List (Step M)) (m : M) → ¬ Mcasts m e → (chan N (e ∷ E)).mark m ≡ (chan N E).mark m
  mark_on (mcast n) E m q = go (N.eqm n m) refl
    where
      go : (t : Bool) → N.eqm n m ≡ t
          → cond t (cond (N.mail.multi n) (suc (chan N E).made) ((chan N E).taken (N.from n))) ((chan N E).mark m) ≡ (chan N E).mark m
      go true e = absurd (q (N.eqm_eq n m e))
      go false e = refl
  mark_on (take i n) E m q = refl
  mark_on (join n) E m q = refl
  mark_on (receive n i) E m q = refl
  mark_on rest E m q = refl

  pub mcast_once : (e : Step M) (E : List (Step M)) (m : M) → ChannelPrecondition N E e → Any (Mcasts m) E → ¬ Mcasts m e
  mcast_once (take _ _) E m v h p = elim p [ ]
  mcast_once (join _) E m v h p = elim p [ ]
  mcast_once (receive _ _) E m v h p = elim p [ ]
  mcast_once rest E m v h p = elim p [ ]
  mcast_once (mcast n) E m v h p = v (subst (λ a. Any (Mcasts a) E) (sym p) h)

  pub mark_at : {m : M} {B E : List (Step M)} → ChannelExecution N E → At (Mcasts m) B E → (chan N E).mark m ≡ tagged B m
  mark_at {m = m} v (now {e = e} {E = E} p) = mark_now e E m p
  mark_at {m = m} v (before {e = e} {E = E} q) = mark_on e E m (mcast_once e E m v.0 (at_any q)) ∙ mark_at v.1 q

  -- a mark does not change once it is made
  pub mark_suf : {B E : List (Step M)} {m : M} → ChannelExecution N E → Suf B E → Any (Mcasts m) B → (chan N E).mark m ≡ (chan N B).mark m
  mark_suf v stop h = refl
  mark_suf {m = m} v (back {e = e} {E = E} s) h = mark_on e E m (mcast_once e E m v.0 (suf_any s h)) ∙ mark_suf v.1 s h

  -- a broadcast's number is one of those made
  pub made_now : (e : Step M) (E : List (Step M)) (m : M) → N.mail.multi m ≡ true → Mcasts m e
      → suc (chan N E).made ≤ (chan N (e ∷ E)).made
  made_now (take _ _) E m u p = elim p [ ]
  made_now (join _) E m u p = elim p [ ]
  made_now (receive _ _) E m u p = elim p [ ]
  made_now rest E m u p = elim p [ ]
  made_now (mcast n) E m u p = subst (λ t. suc (chan N E).made ≤ cond t (suc (chan N E).made) (chan N E).made)
      (sym (ap N.mail.multi p ∙ u)) (omega arith)

  pub made_at : {m : M} {B E : List (Step M)} → N.mail.multi m ≡ true → At (Mcasts m) B E → suc (chan N B).made ≤ (chan N E).made
  made_at {m = m} u (now {e = e} {E = E} p) = made_now e E m u p
  made_at u (before {e = e} {E = E} q) = let h = made_at u q in let k = made_on e E in omega arith

  pub number : {B E : List (Step M)} {m : M} → ChannelExecution N E → N.mail.multi m ≡ true → At (Mcasts m) B E
      → (chan N E).mark m ≡ suc (chan N B).made
  number v u x = mark_at v x ∙ (rw u)

  pub tag : {B E : List (Step M)} {m : M} → ChannelExecution N E → N.mail.multi m ≡ false → At (Mcasts m) B E
      → (chan N E).mark m ≡ (chan N B).taken (N.from m)
  tag v u x = mark_at v x ∙ (rw u)

  pub taken_made : (E : List (Step M)) → ChannelExecution N E → (i : ℕ) → (chan N E).taken i ≤ (chan N E).made
  taken_made [] v i = omega arith
  taken_made (mcast m ∷ E) v i = let h = taken_made E v.1 i in let k = made_on (mcast m) E in omega arith
  taken_made (take j m ∷ E) v i = go (eqb i j) refl (taken_made E v.1 i)
    where
      go : (t : Bool) → eqb i j ≡ t → (chan N E).taken i ≤ (chan N E).made
          → cond t (suc ((chan N E).taken i)) ((chan N E).taken i) ≤ (chan N E).made
      go true e h =
          let c = any_at v.0.1 in
          let n = number v.1 v.0.0 c.1 in
          let k = made_at v.0.0 c.1 in
          let q = v.0.2 in
          let w = ap (chan N E).taken (eqb-true i j e) in
          omega arith
      go false e h = h
  taken_made (join m ∷ E) v i = taken_made E v.1 i
  taken_made (receive m j ∷ E) v i = taken_made E v.1 i
  taken_made (rest ∷ E) v i = taken_made E v.1 i
