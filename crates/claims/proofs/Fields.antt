-- SerialOrder is what its fields say; and what helps to show which operations a small history reports, applies and shows.
use Prim.Native.Nat.{suc, zero, ℕ}
use borrow.Author.Tests.{ltb-true}
use lib.Dec.{ltb}
use lib.ListN.{get_or}
use mathlib.Core.Bool.{false≢true, true, ◌&&◌}
use mathlib.Core.List.{List, [], append_assoc, ◌++◌, ◌∷◌}
use mathlib.Core.Logic.{inl, inr, ◌↔◌, ◌⊎◌}
use mathlib.Core.Path.{ap, refl, subst, sym, ◌∙◌, ◌≡◌}
use native.Mathlib.Omega.{arith}
use Rattle.lists.specs.Histories.{Any, In, any_nil, at_any, here, suf_now, there, Suf}
use Rattle.lists.specs.Tests.{and_fst, and_snd}
use Rattle.names.specs.CardSet.{member_of}
use Rattle.names.specs.Placement.{Placement, placement_refusal}
use Rattle.claims.proofs.Demand.{IsReport}
use Rattle.claims.proofs.Taken.{paper_append, paper_suf}
use Rattle.claims.specs.Fields.{Field, Needed, Says, applied, copies, copy_values, gives, once, only, reported, tasks}
use Rattle.claims.specs.Ledger.{paper_from}
use Rattle.claims.specs.Paper.{Action, paper, report}
use Rattle.claims.specs.PublishedRun.{Answer}
use Rattle.claims.specs.SerialOrder.{ReportedAt, SerialOrder}
use Rattle.claims.specs.Steps.{RawStep}
use Rattle.claims.specs.Ledger as L

module _ (P : Placement) (steps : List RawStep) (answers : List Answer) (table : ℕ → ℕ → ℕ) (order : List ℕ) where
  pub fields : SerialOrder P steps answers table order ↔ ((f : Field) → Says P steps answers table order f)
  fields = (
    say,
    λ h. record {
      only = h only;
      reported = h reported;
      applied = h applied;
      once = h once;
      tasks = h tasks;
      gives = h gives;
      copies = h copies;
      copy_values = h copy_values;
    },
  )
    where
      say : SerialOrder P steps answers table order → (f : Field) → Says P steps answers table order f
      say X only = X.only
      say X reported = X.reported
      say X applied = X.applied
      say X once = X.once
      say X tasks = X.tasks
      say X gives = X.gives
      say X copies = X.copies
      say X copy_values = X.copy_values

-- a field that is needed refuses
pub refuses : {f : Field} (n : Needed f) → ¬ SerialOrder n.P n.steps n.answers n.table n.order
refuses {f} n X = n.refused ((fields n.P n.steps n.answers n.table n.order).0 X f)

-- ---- which operations a history reports

abbrev pub reports_of : List Action → List ℕ
reports_of [] = []
reports_of (L.request o ∷ ds) = reports_of ds
reports_of (L.perform c k ∷ ds) = reports_of ds
reports_of (L.send c k i ∷ ds) = reports_of ds
reports_of (L.dispatch i m ∷ ds) = reports_of ds
reports_of (L.take_broadcast i ∷ ds) = reports_of ds
reports_of (L.take_single c ∷ ds) = reports_of ds
reports_of (L.deliver m i ∷ ds) = reports_of ds
reports_of (L.report c k w ∷ ds) = k ∷ reports_of ds

module _ (P : Placement) (ok : placement_refusal P ≡ 0) where
  listed : (k : ℕ) (ds : List Action) → Any (IsReport P ok k) ds → In k (reports_of ds)
  listed k [] x' = elim x' [ ]
  listed k (L.request o ∷ ds) (here p) = elim p [ ]
  listed k (L.perform c j ∷ ds) (here p) = elim p [ ]
  listed k (L.send c j i ∷ ds) (here p) = elim p [ ]
  listed k (L.dispatch i m ∷ ds) (here p) = elim p [ ]
  listed k (L.take_broadcast i ∷ ds) (here p) = elim p [ ]
  listed k (L.take_single c ∷ ds) (here p) = elim p [ ]
  listed k (L.deliver m i ∷ ds) (here p) = elim p [ ]
  listed k (L.request o ∷ ds) (there h) = listed k ds h
  listed k (L.perform c j ∷ ds) (there h) = listed k ds h
  listed k (L.send c j i ∷ ds) (there h) = listed k ds h
  listed k (L.dispatch i m ∷ ds) (there h) = listed k ds h
  listed k (L.take_broadcast i ∷ ds) (there h) = listed k ds h
  listed k (L.take_single c ∷ ds) (there h) = listed k ds h
  listed k (L.deliver m i ∷ ds) (there h) = listed k ds h
  listed k (L.report c j w ∷ ds) (here p) = here p
  listed k (L.report c j w ∷ ds) (there h) = there (listed k ds h)

  pub reported_listed : {steps : List RawStep} {k n : ℕ} → ReportedAt P steps k n → In k (reports_of (paper P steps))
  reported_listed {steps} {k} r = listed k (paper P steps) (at_any (suf_now {P = IsReport P ok k} {e = report r.task k} (subst Longer (sym whole) later) refl))
    where
      Longer : List Action → Type 0
      Longer ds = Suf (report r.task k ∷ paper P r.before) ds

      first : List RawStep
      first = r.before ++ (r.it ∷ [])

      whole : paper P steps ≡ paper_from P (paper P first) r.after
      whole = ap (paper P) (r.whole ∙ sym (append_assoc r.before (r.it ∷ []) r.after)) ∙ paper_append P ok [] first r.after

      later : Longer (paper_from P (paper P first) r.after)
      later = subst (λ ds. Suf ds (paper_from P (paper P first) r.after)) r.taken (paper_suf P ok (paper P first) r.after)

-- ---- one card with one register

none_held : member_of 0 0 ≡ true → ⊥
unfolding member_of
none_held e = false≢true e

-- only register 0 on card 0 has a copy
pub one_copy : (Q : ℕ → ℕ → Type 0) → Q 0 0 → (x i : ℕ) → (ltb i 1 && member_of (get_or (1 ∷ []) x 0) i) ≡ true → Q x i
one_copy Q q x i c = subst (λ j. Q x j) (sym first) (go x (subst (λ j. member_of (get_or (1 ∷ []) x 0) j ≡ true) first (and_snd (ltb i 1) _ c)))
  where
    first : i ≡ 0
    first = let l = ltb-true i 1 (and_fst (ltb i 1) _ c) in omega arith

    go : (y : ℕ) → member_of (get_or (1 ∷ []) y 0) 0 ≡ true → Q y 0
    go zero h = q
    go (suc y) h = absurd (none_held h)

-- ---- lists of one and of two

pub just : {j k : ℕ} → In k (j ∷ []) → j ≡ k
just (here p) = p
just (there h) = absurd (any_nil h)

pub one_of_two : {i j k : ℕ} → In k (i ∷ j ∷ []) → (i ≡ k) ⊎ (j ≡ k)
one_of_two (here p) = inl p
one_of_two (there h) = inr (just h)
