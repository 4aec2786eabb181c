-- An operation is its task's present one from its request to its report: a requested operation is the present one or has been reported, and one
-- that has been reported is the present one no more.
use Prim.Native.Nat.{◌<◌, ℕ}
use borrow.Author.Tests.{eqb-true}
use lib.Dec.{eqb}
use mathlib.Core.Bool.{◌&&◌, true}
use mathlib.Core.List.{List, ◌∷◌}
use mathlib.Core.Logic.{◌⊎◌, inl, inr}
use mathlib.Core.Path.{◌≡◌, ap, subst, sym}
use native.Mathlib.Omega.{arith}
use Rattle.lists.specs.Histories.{Any, back, here, stop, there}
use Rattle.lists.specs.Tests.{and_fst, and_snd, clash, eqb_of}
use Rattle.registers.proofs.Finished.{Live, busy_new, busy_step, fin_requested, live_of, wait_ask, wait_reply}
use Rattle.registers.proofs.Ordered.{Ordered, ordered_suf}
use Rattle.registers.proofs.Requests.{below_count}
use Rattle.registers.proofs.Statuses.{Busy, Ended, Waits, changes, stays}
use Rattle.registers.specs.Events.{Reports, Requests}
use Rattle.registers.specs.Layer.{Values, Event, Msg, Precondition, Status, Valid, World, ask, asking, base, deliver, dispatch, done, idle, perform, quiet, reply, report, request, run, send, waiting}

module _ {U : Values} (W : World U) (rank : Msg U → ℕ) where
  -- from its request on, until it is reported
  pub present : (E : List (Event U)) → Valid W E → Ordered W rank E → (k : ℕ) → Any (Requests k) E → Busy ((run W E).status (W.task k)) k ⊎ Any (Reports k) E
  present mathlib.Core.List.[] v o k x3 = elim x3 [ ]
  present (e ∷ E) v o k (here p) = inl (busy_new W rank e E k p)
  present (e ∷ E) v o k (there h) = go (present E v.1 (ordered_suf W rank (back stop) o) k h)
    where
      on : Busy ((run W (e ∷ E)).status (W.task k)) k ⊎ Reports k e → Busy ((run W (e ∷ E)).status (W.task k)) k ⊎ Any (Reports k) (e ∷ E)
      on (inl x) = inl x
      on (inr x) = inr (here x)

      go : Busy ((run W E).status (W.task k)) k ⊎ Any (Reports k) E → Busy ((run W (e ∷ E)).status (W.task k)) k ⊎ Any (Reports k) (e ∷ E)
      go (inl x) = on (busy_step W rank e E v.0 v.1 o (live_of W rank E v.1 (ordered_suf W rank (back stop) o)) k x)
      go (inr y) = inr (there y)

  -- a report's operation has been requested
  report_asked : (e : Event U) (E : List (Event U)) → Precondition W (run W E) e → Valid W E → Ordered W rank E → (k : ℕ) → Reports k e → Any (Requests k) E
  report_asked (request _) E cn v o k p = elim p [ ]
  report_asked (perform _) E cn v o k p = elim p [ ]
  report_asked (send _) E cn v o k p = elim p [ ]
  report_asked (dispatch _) E cn v o k p = elim p [ ]
  report_asked (deliver _ _) E cn v o k p = elim p [ ]
  report_asked idle E cn v o k p = elim p [ ]
  report_asked (report j w) E cn v o k p = fin_requested W rank E v o ((live_of W rank E v o).ended (W.task j) k (subst (λ s. Ended s k) (sym cn) p))

  reported_asked : (E : List (Event U)) → Valid W E → Ordered W rank E → (k : ℕ) → Any (Reports k) E → Any (Requests k) E
  reported_asked mathlib.Core.List.[] v o k x3 = elim x3 [ ]
  reported_asked (e ∷ E) v o k (here p) = there (report_asked e E v.0 v.1 (ordered_suf W rank (back stop) o) k p)
  reported_asked (e ∷ E) v o k (there h) = there (reported_asked E v.1 (ordered_suf W rank (back stop) o) k h)

  waits_busy : (s : Status U) {j k : ℕ} → Waits s j → j ≡ k → Busy s k
  waits_busy quiet {j = j} {k = k} p q = elim p [ ]
  waits_busy (asking _) {j = j} {k = k} p q = elim p [ ]
  waits_busy (done _ _) {j = j} {k = k} p q = elim p [ ]
  waits_busy (waiting i) {j} {k} p q = subst (λ z. i ≡ z) q p

  -- only a request makes an operation the present one
  was_busy : (e : Event U) (E : List (Event U)) → Precondition W (run W E) e → Valid W E → Ordered W rank (e ∷ E) → Live W rank E → (k : ℕ) → k < (run W E).count
      → Busy ((run W (e ∷ E)).status (W.task k)) k → Busy ((run W E).status (W.task k)) k
  was_busy (request j) E cn v o l k q h = go (changes (λ s. Busy s k) true (W.task j) (asking j) (run W E).status (W.task k) h)
    where
      go : ((true ≡ true) × (W.task j ≡ W.task k) × (j ≡ k)) ⊎ Busy ((run W E).status (W.task k)) k → Busy ((run W E).status (W.task k)) k
      go (inl x) = let a = cn.0 in let b = x.2 in absurd (omega arith)
      go (inr x) = x
  was_busy (perform j) E cn v o l k q h = go (changes (λ s. Busy s k) true (W.task j) (done j _) (run W E).status (W.task k) h)
    where
      go : ((true ≡ true) × (W.task j ≡ W.task k) × (j ≡ k)) ⊎ Busy ((run W E).status (W.task k)) k → Busy ((run W E).status (W.task k)) k
      go (inl x) = subst (λ c. Busy ((run W E).status c) k) x.1 (subst (λ s. Busy s k) (sym cn.0) x.2)
      go (inr x) = x
  was_busy (send j) E cn v o l k q h = go (changes (λ s. Busy s k) true (W.task j) (waiting j) (run W E).status (W.task k) h)
    where
      go : ((true ≡ true) × (W.task j ≡ W.task k) × (j ≡ k)) ⊎ Busy ((run W E).status (W.task k)) k → Busy ((run W E).status (W.task k)) k
      go (inl x) = subst (λ c. Busy ((run W E).status c) k) x.1 (subst (λ s. Busy s k) (sym cn.0) x.2)
      go (inr x) = x
  was_busy (dispatch m) E cn v o l k q h = h
  was_busy (deliver (ask j) i) E cn v o l k q h = go (changes (λ s. Busy s k) (W.upd j && eqb i (base W j)) (W.task j) (done j _) (run W E).status (W.task k) h)
    where
      go : (((W.upd j && eqb i (base W j)) ≡ true) × (W.task j ≡ W.task k) × (j ≡ k)) ⊎ Busy ((run W E).status (W.task k)) k → Busy ((run W E).status (W.task k)) k
      go (inl x) = subst (λ c. Busy ((run W E).status c) k) x.1
          (waits_busy ((run W E).status (W.task j)) (wait_ask W rank E v l j i o (and_fst (W.upd j) _ x.0) (eqb-true _ _ (and_snd (W.upd j) _ x.0))) x.2)
      go (inr x) = x
  was_busy (deliver (reply j w) i) E cn v o l k q h = go (changes (λ s. Busy s k) true (W.task j) (done j _) (run W E).status (W.task k) h)
    where
      go : ((true ≡ true) × (W.task j ≡ W.task k) × (j ≡ k)) ⊎ Busy ((run W E).status (W.task k)) k → Busy ((run W E).status (W.task k)) k
      go (inl x) = subst (λ c. Busy ((run W E).status c) k) x.1 (waits_busy ((run W E).status (W.task j)) (wait_reply W rank E v l j w i o) x.2)
      go (inr x) = x
  was_busy (report j w) E cn v o l k q h = (stays (λ s. Busy s k) true (W.task j) quiet (run W E).status (W.task k) (λ y. y) h).1
  was_busy idle E cn v o l k q h = h

  now_quiet : (e : Event U) (E : List (Event U)) (k : ℕ) → Reports k e → ¬ Busy ((run W (e ∷ E)).status (W.task k)) k
  now_quiet (request _) E k p h = elim p [ ]
  now_quiet (perform _) E k p h = elim p [ ]
  now_quiet (send _) E k p h = elim p [ ]
  now_quiet (dispatch _) E k p h = elim p [ ]
  now_quiet (deliver _ _) E k p h = elim p [ ]
  now_quiet idle E k p h = elim p [ ]
  now_quiet (report j w) E k p h = clash (eqb_of (ap W.task p)) (stays (λ s. Busy s k) true (W.task j) quiet (run W E).status (W.task k) (λ y. y) h).0

  -- and no longer
  pub past : (E : List (Event U)) → Valid W E → Ordered W rank E → (k : ℕ) → Any (Reports k) E → ¬ Busy ((run W E).status (W.task k)) k
  past mathlib.Core.List.[] v o k x4 h = elim x4 [ ]
  past (e ∷ E) v o k (here p) h = now_quiet e E k p h
  past (e ∷ E) v o k (there r) h =
      let w = ordered_suf W rank (back stop) o in
      past E v.1 w k r (was_busy e E v.0 v.1 o (live_of W rank E v.1 w) k (below_count W E v.1 k (reported_asked E v.1 w k r)) h)
