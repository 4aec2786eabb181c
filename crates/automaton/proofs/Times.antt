-- When a message was multicast, joined, and was received at its only destination; and its epoch.
use borrow.Author.Tests.{eqb-true}
use mathlib.Core.Path.{◌≡◌, sym, subst}
use mathlib.Core.Bool.{true, false, cond, false≢true}
use mathlib.Core.List.{List, ◌∷◌}
use Prim.Native.Nat.{ℕ, suc, ◌≤◌}
use native.Mathlib.Omega.{arith}
use Rattle.lists.specs.Tests.{eqb_of, and_fst, and_snd, and_intro}
use Rattle.lists.specs.Histories.{Any, At, now, before}
use Rattle.lists.specs.Latest.{latest, latest_at, any?}
use Rattle.automaton.specs.Network.{Network}
use Rattle.automaton.specs.Automaton.{Step, mcast, take, join, receive, rest, Mcasts, Takes, Joins, Receives, chan, ChannelExecution}
use Rattle.automaton.specs.TotalOrder.{mcasts?, joins?, receives?, epoch}
use Rattle.automaton.proofs.Counts.{flow, taken_on, mcast_once}
use Rattle.automaton.proofs.Joining.{join_can}

module _ {M : Type 0} (N : Network M) where
  pub eqm_of : {m n : M} → m ≡ n → N.eqm m n ≡ true
  eqm_of {m} {n} p = rw p (N.eqm_refl n)

  pub mcasts_test : (m : M) (e : Step M) → Mcasts m e → mcasts? N m e ≡ true
  mcasts_test m (take _ _) p = elim p [ ]
  mcasts_test m (join _) p = elim p [ ]
  mcasts_test m (receive _ _) p = elim p [ ]
  mcasts_test m rest p = elim p [ ]
  mcasts_test m (mcast n) p = eqm_of p

  pub mcasts_tested : (m : M) (e : Step M) → mcasts? N m e ≡ true → Mcasts m e
  mcasts_tested m (mcast n) p = N.eqm_eq n m p
  mcasts_tested m (take i n) p = false≢true p
  mcasts_tested m (join n) p = false≢true p
  mcasts_tested m (receive n i) p = false≢true p
  mcasts_tested m rest p = false≢true p

  pub joins_test : (m : M) (e : Step M) → Joins m e → joins? N m e ≡ true
  joins_test m (mcast _) p = elim p [ ]
  joins_test m (take _ _) p = elim p [ ]
  joins_test m (receive _ _) p = elim p [ ]
  joins_test m rest p = elim p [ ]
  joins_test m (join n) p = eqm_of p

  pub joins_tested : (m : M) (e : Step M) → joins? N m e ≡ true → Joins m e
  joins_tested m (mcast n) p = false≢true p
  joins_tested m (take i n) p = false≢true p
  joins_tested m (join n) p = N.eqm_eq n m p
  joins_tested m (receive n i) p = false≢true p
  joins_tested m rest p = false≢true p

  pub receives_test : (m : M) (e : Step M) → Receives m (N.mail.dest m) e → receives? N m e ≡ true
  receives_test m (mcast _) p = elim p [ ]
  receives_test m (take _ _) p = elim p [ ]
  receives_test m (join _) p = elim p [ ]
  receives_test m rest p = elim p [ ]
  receives_test m (receive n i) p = and_intro (eqm_of p.0) (eqb_of p.1)

  pub receives_tested : (m : M) (e : Step M) → receives? N m e ≡ true → Receives m (N.mail.dest m) e
  receives_tested m (mcast n) p = false≢true p
  receives_tested m (take i n) p = false≢true p
  receives_tested m (join n) p = false≢true p
  receives_tested m (receive n i) p = (N.eqm_eq n m (and_fst (N.eqm n m) _ p), eqb-true _ _ (and_snd (N.eqm n m) _ p))
  receives_tested m rest p = false≢true p

  pub received? : (E : List (Step M)) (m : M) → Dec (Any (Receives m (N.mail.dest m)) E)
  received? E m = any? (receives? N m) (receives_test m) (receives_tested m) E

  pub taken_now : (e : Step M) (E : List (Step M)) (m : M) (i : ℕ) → Takes i m e → suc ((chan N E).taken i) ≤ (chan N (e ∷ E)).taken i
  taken_now (mcast _) E m i p = elim p [ ]
  taken_now (join _) E m i p = elim p [ ]
  taken_now (receive _ _) E m i p = elim p [ ]
  taken_now rest E m i p = elim p [ ]
  taken_now (take j n) E m i p = subst (λ t. suc ((chan N E).taken i) ≤ cond t (suc ((chan N E).taken i)) ((chan N E).taken i))
      (sym (eqb_of (sym p.1))) (omega arith)

  pub taken_at : {i : ℕ} {m : M} {B E : List (Step M)} → At (Takes i m) B E → suc ((chan N B).taken i) ≤ (chan N E).taken i
  taken_at {i = i} {m = m} (now {e = e} {E = E} p) = taken_now e E m i p
  taken_at {i = i} {m = m} (before {e = e} {E = E} q) = let h = taken_at q in let k = taken_on N e E i in omega arith

  module _ (E : List (Step M)) (v : ChannelExecution N E) where
    pub at_mcast : {m : M} {B : List (Step M)} (f : List (Step M) → ℕ) → At (Mcasts m) B E → latest f (mcasts? N m) E ≡ f B
    at_mcast {m} f x = latest_at (mcasts? N m) (mcasts_test m) (mcasts_tested m) f (λ C y h. let g = flow N v y in mcast_once N g.0 C m g.2 h g.1) x

    pub at_join : {m : M} {B : List (Step M)} (f : List (Step M) → ℕ) → At (Joins m) B E → latest f (joins? N m) E ≡ f B
    at_join {m} f x = latest_at (joins? N m) (joins_test m) (joins_tested m) f (λ C y h. let g = flow N v y in (join_can N g.0 C m g.1 g.2).2 h) x

    pub join_single : {m : M} {B : List (Step M)} → At (Joins m) B E → N.mail.multi m ≡ false
    join_single {m} {B} x = let g = flow N v x in (join_can N g.0 B m g.1 g.2).0

    pub epoch_number : {m : M} → N.mail.multi m ≡ true → epoch N E m ≡ (chan N E).mark m
    epoch_number u = rw u

    pub epoch_joined : {m : M} {B : List (Step M)} → At (Joins m) B E → epoch N E m ≡ (chan N B).taken (N.mail.dest m)
    epoch_joined {m} x = rw (join_single x) (at_join (λ B. (chan N B).taken (N.mail.dest m)) x)
