-- Demand 3 for the algorithm that the store runs, from a start: any list of steps is explained by one serial order (specs/SerialOrder).
use Prim.Native.Nat.{ℕ}
use lib.Dec.{eqb}
use lib.ListN.{length}
use mathlib.Core.Bool.{cond, true, ◌&&◌}
use mathlib.Core.List.{List, [], map, ◌++◌, ◌∷◌}
use mathlib.Core.Logic.{inl, inr, ◌⊎◌}
use mathlib.Core.Option.{Option, none-ne-some, some-injective, none, some}
use mathlib.Core.Path.{ap, ap₂, refl, subst, sym, ◌∙◌, ◌≡◌}
use native.Mathlib.Omega.{arith}
use Rattle.lists.specs.Filters.{filter}
use Rattle.lists.specs.Histories.{Any, In, Suf, any_map, any_nil, at_any, here, suf_now, there}
use Rattle.lists.specs.HistoryMaps.{any_into}
use Rattle.lists.specs.Places.{nth}
use Rattle.lists.specs.Made.{make}
use Rattle.names.specs.Placement.{Placement, placement_refusal}
use Rattle.names.specs.Update.{updated}
use Rattle.registers.specs.Layer.{unvalued}
use Rattle.claims.proofs.Demand.{Demand3, IsReport, Tells, demand3}
use Rattle.claims.proofs.Forgetting.{book_forget, forget_action, forget_ledger, notes_forget, paper_forget}
use Rattle.claims.proofs.Shown.{numbers}
use Rattle.claims.proofs.Taken.{executes, paper_append, paper_snoc, paper_suf}
use Rattle.claims.proofs.Together.{answer_at, answer_is, together}
use Rattle.claims.specs.Ledger.{Action, Ledger, Op, ledger, ledger_refusal, noted, notes, op_at, paper, paper_from, plan}
use Rattle.claims.specs.Found.{begin}
use Rattle.claims.specs.FoundRun.{answers_from, found_run}
use Rattle.claims.specs.SerialOrder.{Explained, ReportedAt, applied_on, book, made_of_zero, op, updates}
use Rattle.claims.specs.Steps.{Decoded, RawStep, bad, decode, good}
use Rattle.claims.specs.Ledger as L

module _ (P : Placement) (ok : placement_refusal P ≡ 0) where
  abbrev Reports : ℕ → Action unvalued → Type 0
  Reports = IsReport P ok

  -- ---- an action told apart

  -- the task and operation of a report
  abbrev report_of_lem : Action unvalued → Option (ℕ × ℕ)
  report_of_lem (L.request o) = none
  report_of_lem (L.perform c k) = none
  report_of_lem (L.send c k i) = none
  report_of_lem (L.dispatch i m) = none
  report_of_lem (L.take_broadcast i) = none
  report_of_lem (L.take_single c) = none
  report_of_lem (L.deliver m i) = none
  report_of_lem (L.report c k w) = some (c, k)

  head_is : {a d : Action unvalued} {l r : List (Action unvalued)} → a ∷ l ≡ d ∷ r → a ≡ d
  head_is {a} e = ap (λ k. head a k) e
    where
      head : Action unvalued → List (Action unvalued) → Action unvalued
      head x [] = x
      head x (y ∷ k) = y

  -- ---- the operations reported in the ledger are those reported at some step

  is_report : {k : ℕ} (d : Action unvalued) → Reports k d → (t : ℕ) × (d ≡ Action.report t k tt)
  is_report {k = k} (L.request _) p = elim p [ ]
  is_report {k = k} (L.perform _ _) p = elim p [ ]
  is_report {k = k} (L.send _ _ _) p = elim p [ ]
  is_report {k = k} (L.dispatch _ _) p = elim p [ ]
  is_report {k = k} (L.take_broadcast _) p = elim p [ ]
  is_report {k = k} (L.take_single _) p = elim p [ ]
  is_report {k = k} (L.deliver _ _) p = elim p [ ]
  is_report (L.report t j w) p = (t, ap (λ a. Action.report t a tt) p)

  -- what a step notes
  new_report : (ds : List (Action unvalued)) (k : ℕ) (d : Decoded) → Any (Reports k) (notes P ds d) → Any (Reports k) ds ⊎ ((t : ℕ) × (notes P ds d ≡ Action.report t k tt ∷ ds))
  new_report ds k (bad n) h = inl h
  new_report ds k (good c) h = go (cond (eqb (ledger_refusal P (ledger P ds) c) 0) (plan P (ledger P ds) c) none) h
    where
      go : (o : Option (Action unvalued)) → Any (Reports k) (noted o ds) → Any (Reports k) ds ⊎ ((t : ℕ) × (noted o ds ≡ Action.report t k tt ∷ ds))
      go none h = inl h
      go (some d) (here p) = let r = is_report d p in inr (r.0, ap (λ a. a ∷ ds) r.1)
      go (some d) (there h) = inl h

  record Found (ds : List (Action unvalued)) (l : List RawStep) (k : ℕ) : Type 0 where
    before : List RawStep
    it : RawStep
    after : List RawStep
    whole : l ≡ before ++ it ∷ after
    task : ℕ
    taken : paper_from P ds (before ++ (it ∷ [])) ≡ Action.report task k tt ∷ paper_from P ds before

  find : (ds : List (Action unvalued)) (l : List RawStep) (k : ℕ) → Any (Reports k) (paper_from P ds l) → Any (Reports k) ds ⊎ Found ds l k
  find ds [] k h = inl h
  find ds (s ∷ l) k h = go (find (notes P ds (decode P s)) l k h)
    where
      start : Any (Reports k) ds ⊎ ((t : ℕ) × (notes P ds (decode P s) ≡ Action.report t k tt ∷ ds)) → Any (Reports k) ds ⊎ Found ds (s ∷ l) k
      start (inl x) = inl x
      start (inr y) = inr (record { before = []; it = s; after = l; whole = refl; task = y.0; taken = y.1 })

      go : Any (Reports k) (notes P ds (decode P s)) ⊎ Found (notes P ds (decode P s)) l k → Any (Reports k) ds ⊎ Found ds (s ∷ l) k
      go (inl x) = start (new_report ds k (decode P s) x)
      go (inr y) = inr (record { before = s ∷ y.before; it = y.it; after = y.after; whole = ap (λ r. s ∷ r) y.whole; task = y.task; taken = y.taken })

  module _ (steps : List RawStep) where
    pub reported_at : (k : ℕ) → Any (Reports k) (paper P steps) → (n : ℕ) × ReportedAt P steps k n
    reported_at k h = go (find [] steps k h)
      where
        go : Any (Reports k) [] ⊎ Found [] steps k → (n : ℕ) × ReportedAt P steps k n
        go (inl x) = absurd (any_nil x)
        go (inr y) = (length y.before, record { before = y.before; it = y.it; after = y.after; whole = y.whole; place= = refl; task = y.task; taken = y.taken })

    -- ---- the run with values

    abbrev run : List (Action numbers)
    run = paper P steps

    abbrev last : Ledger numbers
    last = ledger P run

    -- the ledger is its last state, values forgotten
    forgotten : book P steps ≡ forget_ledger last
    forgotten = book_forget numbers P steps

    same_ops : last.ops ≡ (book P steps).ops
    same_ops = ap (λ b. b.ops) (sym forgotten)

    alike_is : (k : ℕ) (d : Action numbers) → IsReport P ok k d → Reports k (forget_action d)
    alike_is k (L.request _) p = elim p [ ]
    alike_is k (L.perform _ _) p = elim p [ ]
    alike_is k (L.send _ _ _) p = elim p [ ]
    alike_is k (L.dispatch _ _) p = elim p [ ]
    alike_is k (L.take_broadcast _) p = elim p [ ]
    alike_is k (L.take_single _) p = elim p [ ]
    alike_is k (L.deliver _ _) p = elim p [ ]
    alike_is k (L.report c j w) p = p

    reports_without : (k : ℕ) → Any (IsReport P ok k) run → Any (Reports k) (paper P steps)
    reports_without k h = subst (Any (Reports k)) (sym (paper_forget numbers P steps)) (any_into forget_action (any_map (alike_is k) h))

    -- a report that the ledger notes is one of the run with values, which tells a value
    tells_what : (t k : ℕ) (d : Action numbers) → forget_action d ≡ Action.report t k tt → (w : ℕ) × (d ≡ Action.report t k w)
    tells_what t k (L.request o) e = absurd (none-ne-some (t, k) (ap report_of_lem e))
    tells_what t k (L.perform c j) e = absurd (none-ne-some (t, k) (ap report_of_lem e))
    tells_what t k (L.send c j i) e = absurd (none-ne-some (t, k) (ap report_of_lem e))
    tells_what t k (L.dispatch i m) e = absurd (none-ne-some (t, k) (ap report_of_lem e))
    tells_what t k (L.take_broadcast i) e = absurd (none-ne-some (t, k) (ap report_of_lem e))
    tells_what t k (L.take_single c) e = absurd (none-ne-some (t, k) (ap report_of_lem e))
    tells_what t k (L.deliver m i) e = absurd (none-ne-some (t, k) (ap report_of_lem e))
    tells_what t k (L.report c j w) e = (w, ap (λ p. Action.report p.0 p.1 w) (some-injective (c, j) (t, k) (ap report_of_lem e)))

    told : (ds : List (Action numbers)) (d : Decoded) (t k : ℕ) → map forget_action (notes P ds d) ≡ Action.report t k tt ∷ map forget_action ds → (w : ℕ) × (notes P ds d ≡ Action.report t k w ∷ ds)
    told ds (bad n) t k e = absurd (let z = ap length e in omega arith)
    told ds (good c) t k e = go (cond (eqb (ledger_refusal P (ledger P ds) c) 0) (plan P (ledger P ds) c) none) e
      where
        go : (o : Option (Action numbers)) → map forget_action (noted o ds) ≡ Action.report t k tt ∷ map forget_action ds → (w : ℕ) × (noted o ds ≡ Action.report t k w ∷ ds)
        go none q = absurd (let z = ap length q in omega arith)
        go (some d) q = let r = tells_what t k d (head_is q) in (r.0, ap (λ a. a ∷ ds) r.1)

    module _ (k n : ℕ) (r : ReportedAt P steps k n) where
      abbrev cs : List (Action numbers)
      cs = paper P r.before

      it_tells : (w : ℕ) × (notes P cs (decode P r.it) ≡ Action.report r.task k w ∷ cs)
      it_tells = told cs (decode P r.it) r.task k
          (sym (notes_forget P cs (decode P r.it))
          ∙ ap (λ l. notes P l (decode P r.it)) (sym (paper_forget numbers P r.before))
          ∙ sym (paper_snoc P ok [] r.before r.it)
          ∙ r.taken
          ∙ ap (λ l. Action.report r.task k tt ∷ l) (paper_forget numbers P r.before))

      longer_with : Suf (Action.report r.task k it_tells.0 ∷ cs) run
      longer_with = subst (Suf (Action.report r.task k it_tells.0 ∷ cs)) (sym split) (paper_suf P ok (Action.report r.task k it_tells.0 ∷ cs) r.after)
        where
          split : run ≡ paper_from P (Action.report r.task k it_tells.0 ∷ cs) r.after
          split = ap (paper P) r.whole ∙ paper_append P ok [] r.before (r.it ∷ r.after) ∙ ap (λ l. paper_from P l r.after) it_tells.1

      tells : Any (Tells P ok k it_tells.0) run
      tells = at_any (suf_now {e = Action.report r.task k it_tells.0} longer_with (refl, refl))

      reports : Any (IsReport P ok k) run
      reports = at_any (suf_now {e = Action.report r.task k it_tells.0} longer_with refl)

    -- ---- the theorem

    explained : (order : List ℕ) × Demand3 P ok run order
    explained = demand3 P ok run (executes numbers P ok steps)

    pub demand_3 : Explained P steps (found_run P steps).1 (found_run P steps).0.table
    demand_3 = (
      r.0,
      record {
        only = λ k h. pick k (r.1.sound k h);
        reported = λ k n h. r.1.reports k (reports k n h);
        applied = λ k i h. r.1.updates k i (subst (λ b. In k (b.layer.applied i)) forgotten h);
        once = r.1.once;
        tasks = λ j k x y t l. r.1.tasks j k x y (subst (λ ops. (op_at ops j).task ≡ (op_at ops k).task) (sym same_ops) t) l;
        gives = giving;
        copies = λ x i c. let z = r.1.copies x i c in
            (z.0, ap (λ ops. of_register ops x r.0) (sym same_ops) ∙ z.1 ∙ ap (λ l. l ++ z.0) (applied_alike i x));
        copy_values = λ x i c. ap (λ p. p.table i x) (together P ok steps) ∙ r.1.copy_values x i c
            ∙ ap₂ (λ ops l. make (λ j. updated (op_at ops j).fn (op_at ops j).arg) 0 l) same_ops (applied_alike i x);
      },
    )
      where
        r : (order : List ℕ) × Demand3 P ok run order
        r = explained

        pick : (k : ℕ) → Any (IsReport P ok k) run ⊎ ((i : ℕ) × (((op_at last.ops k).upd ≡ true) × In k (last.layer.applied i)))
            → ((n : ℕ) × ReportedAt P steps k n) ⊎ ((i : ℕ) × (((op P steps k).upd ≡ true) × In k (applied_on P steps i)))
        pick k (inl h) = inl (reported_at k (reports_without k h))
        pick k (inr h) = inr (h.0, (subst (λ ops. (op_at ops k).upd ≡ true) same_ops h.1.0, subst (λ b. In k (b.layer.applied h.0)) (sym forgotten) h.1.1))

        -- the updates of register x in a list, by the operations of either ledger
        of_register : List Op → ℕ → List ℕ → List ℕ
        of_register ops x l = filter (λ j. (op_at ops j).upd && eqb (op_at ops j).reg x) l

        applied_alike : (i x : ℕ) → of_register last.ops x (last.layer.applied i) ≡ of_register (book P steps).ops x (applied_on P steps i)
        applied_alike i x = ap₂ (λ ops l. of_register ops x l) same_ops (ap (λ b. b.layer.applied i) (sym forgotten))

        -- what the updates ahead of k make, by the operations of either ledger
        made : ℕ → List ℕ → List Op → ℕ
        made k pre ops = make (λ j. updated (op_at ops j).fn (op_at ops j).arg) 0 (of_register ops (op_at ops k).reg pre)

        giving : (k n : ℕ) → ReportedAt P steps k n → (pre post : List ℕ) → r.0 ≡ pre ++ k ∷ post
            → nth (found_run P steps).1 n ≡ some (record { result = 0; value = made_of_zero P steps (filter (updates P steps (op P steps k).reg) pre) })
        giving k n h pre post e =
            ap (λ l. nth (answers_from P begin l) n) h.whole
            ∙ ap (nth (answers_from P begin (h.before ++ h.it ∷ h.after))) (sym h.place=)
            ∙ answer_at P ok h.before h.it h.after
            ∙ ap some (answer_is P ok (paper P h.before) (executes numbers P ok h.before) (decode P h.it) h.task k (it_tells k n h).0 (it_tells k n h).1)
            ∙ ap (λ v. some (record { result = 0; value = v })) (r.1.tells k (it_tells k n h).0 (tells k n h) pre post e ∙ ap (made k pre) same_ops)
