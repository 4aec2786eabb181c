-- An operation is reported at a step exactly if that is its task's next taken 10 after its request (specs/Reports).
use Prim.Native.Nat.{suc, ℕ, ◌<◌, ◌≤◌}
use borrow.Author.Tests.{eqb-true}
use lib.ListN.{drop, length, length-append, take, take-append-drop}
use mathlib.Core.Bool.{cond}
use mathlib.Core.List.{List, [], append_assoc, map, ◌++◌, ◌∷◌}
use mathlib.Core.Logic.{inl, inr, ◌⊎◌}
use mathlib.Core.Option.{Option, none, some}
use mathlib.Core.Path.{ap, ap₂, refl, subst, sym, ◌∙◌, ◌≡◌}
use native.Mathlib.Decide.{dec_lt, ℕ_discrete}
use native.Mathlib.Omega.{arith}
use Rattle.lists.specs.Histories.{Any, Suf, here, suf_any, suf_map}
use Rattle.lists.specs.Keys.{Tri, alike, less, more, tri}
use Rattle.lists.specs.Places.{nth}
use Rattle.lists.specs.Tests.{eqb_of}
use Rattle.names.specs.Placement.{Placement, placement_refusal}
use Rattle.names.specs.Results.{is_taken}
use Rattle.registers.proofs.Reported.{past, present}
use Rattle.registers.proofs.Requests.{below_count, busy_task, requested}
use Rattle.registers.proofs.Statuses.{Busy}
use Rattle.registers.specs.Events.{Reports}
use Rattle.registers.specs.Layer.{Event, World, unvalued}
use Rattle.claims.proofs.Demand.{trace_reports}
use Rattle.claims.proofs.Demand3.{reported_at}
use Rattle.claims.proofs.Executions.{Execution, Holds, holds_suf, trace, trace_suf}
use Rattle.claims.proofs.Joint.{upper}
use Rattle.claims.proofs.LedgerRun.{Sim, ended_requested, ord, rk, valid}
use Rattle.claims.proofs.LedgerRuns.{sim}
use Rattle.claims.proofs.LedgerNumbers.{split_at}
use Rattle.claims.proofs.Results.{ledger_taken}
use Rattle.claims.proofs.StepByStep.{before, before_suf, grown, one_step, opened, take_front, take_one, take_short, whole_suf}
use Rattle.claims.proofs.Tens.{done_then, first_reporter, no_longer, only_ten, reporter_of}
use Rattle.claims.proofs.Taken.{executes, notes_refused, notes_taken, taken}
use Rattle.claims.specs.Ledger.{Action, Ledger, Op, decoded_number, ledger_refusal, noted, notes, paper, telling, world_of}
use Rattle.claims.specs.Reports.{FirstReport, Reports10, ReportsExact, RequestedAt, book_at}
use Rattle.claims.specs.SerialOrder.{ReportedAt, book, op}
use Rattle.claims.specs.Steps.{Decoded, RawStep, bad, decode, good}
use Rattle.claims.specs.Command as K
use Rattle.registers.specs.Layer as R

module _ (P : Placement) (ok : placement_refusal P ≡ 0) (steps : List RawStep) where
  -- ---- the run in the world at the end

  abbrev ops : List Op
  ops = (book P steps).ops

  abbrev chosen : ℕ → Option ℕ
  chosen = (book P steps).chosen

  abbrev W : World unvalued
  W = world_of P ops chosen

  module _ (n : ℕ) where
    abbrev ds : List (Action unvalued)
    ds = before P ok steps n

    abbrev b : Ledger unvalued
    b = book_at P steps n

    abbrev events : List (Event unvalued)
    events = map upper (trace P ds)

    holds : Holds b ops chosen
    holds = holds_suf P ops chosen (whole_suf P ok steps n) (record { ops= = λ k l. refl; chosen= = λ k i e. e })

    Z : Sim P ok ops chosen b (trace P ds)
    Z = sim P ok ops chosen ds (executes unvalued P ok (take n steps)) holds

    -- an operation opened before step n is its task's present one, or has been reported
    open_or_reported : (k : ℕ) → k < length b.ops → Busy (b.layer.status (op P steps k).task) k ⊎ Any (Reports k) events
    open_or_reported k l = subst (λ s. Busy (s.status (op P steps k).task) k ⊎ Any (Reports k) events) (sym Z.state=)
        (present W (rk P ok ops chosen b (trace P ds) holds Z) events (valid P ok ops chosen b (trace P ds) holds Z) (ord P ok ops chosen b (trace P ds) holds Z) k
        (requested W events (valid P ok ops chosen b (trace P ds) holds Z) k (let c = Z.count= in omega arith)))

    -- one that has been reported is not
    reported_past : (k : ℕ) → Any (Reports k) events → ¬ Busy (b.layer.status (op P steps k).task) k
    reported_past k r = subst (λ s. ¬ Busy (s.status (op P steps k).task) k) (sym Z.state=)
        (past W (rk P ok ops chosen b (trace P ds) holds Z) events (valid P ok ops chosen b (trace P ds) holds Z) (ord P ok ops chosen b (trace P ds) holds Z) k r)

    -- a task that is done is done with an operation of its own, opened before
    own_task : (c k : ℕ) → b.layer.status c ≡ R.done k tt → (op P steps k).task ≡ c
    own_task c k e = busy_task W events c k (subst (λ s. Busy s k) (sym (ap (λ u. u.status c) (sym Z.state=) ∙ e)) refl)

    done_opened : (c k : ℕ) → b.layer.status c ≡ R.done k tt → k < length b.ops
    done_opened c k e =
        let q = below_count W events (valid P ok ops chosen b (trace P ds) holds Z) k (ended_requested P ok ops chosen b (trace P ds) holds Z e) in
        let c = Z.count= in
        omega arith

  -- ---- what a step writes down

  -- step n notes a report of operation k for task c
  abbrev Notes10 : ℕ → ℕ → ℕ → Type 0
  Notes10 c k n = ((book_at P steps n).layer.status c ≡ R.done k tt) × (before P ok steps (suc n) ≡ Action.report c k tt ∷ before P ok steps n)

  -- a taken 10 does
  notes_ten : (c n : ℕ) → Reports10 P steps c n → (k : ℕ) × Notes10 c k n
  notes_ten c n r =
      let z : ledger_refusal P (book_at P steps n) (K.report c) ≡ 0 =
      eqb-true _ _ (sym (ledger_taken P (book_at P steps n) (K.report c)) ∙ sym (ap (λ d. is_taken (decoded_number P (book_at P steps n) d)) r.ten) ∙ r.taken) in
      let d = done_then (book_at P steps n).ops ((book_at P steps n).layer.status c) z in (
        d.0,
        (
          d.1,
          one_step P ok steps n r.it r.stands ∙ ap (notes P (before P ok steps n)) r.ten
              ∙ ap₂ (λ t s. noted (cond t (telling s (Action.report c)) none) (before P ok steps n)) (eqb_of z) d.1,
        ),
      )

  events_suf : (n m : ℕ) → n ≤ m → Suf (events n) (events m)
  events_suf n m h = suf_map upper (trace_suf P (before_suf P ok steps n m h))

  -- and from then on it has been reported
  noted_reported : (c k n m : ℕ) → Notes10 c k n → n < m → Any (Reports k) (events m)
  noted_reported c k n m q l =
      suf_any (suf_map upper (trace_suf P (subst (λ d. Suf d (before P ok steps m)) q.1 (before_suf P ok steps (suc n) m (omega arith))))) (here {e = R.report k tt} refl)

  busy_at : (c k n : ℕ) → (book_at P steps n).layer.status c ≡ R.done k tt → Busy ((book_at P steps n).layer.status (op P steps k).task) k
  busy_at c k n e = subst (λ t. Busy ((book_at P steps n).layer.status t) k) (sym (own_task n c k e)) (subst (λ s. Busy s k) (sym e) refl)

  -- the step at which an operation is reported is a taken 10 of that task
  reported_notes : (k n : ℕ) (r : ReportedAt P steps k n) → Reports10 P steps r.task n × Notes10 r.task k n
  reported_notes k n r = (go (decode P r.it) refl (sym (one_step P ok steps n r.it stands) ∙ noted_there), ((subst (Execution P) noted_there (executes unvalued P ok (take (suc n) steps))).0, noted_there))
    where
      front : take n steps ≡ r.before
      front = ap₂ (λ j l. take j l) (sym r.place=) r.whole ∙ (take_front r.before r.it r.after).0

      stands : nth steps n ≡ some r.it
      stands = ap₂ (λ j l. nth l j) (sym r.place=) r.whole ∙ (take_front r.before r.it r.after).1

      noted_there : before P ok steps (suc n) ≡ Action.report r.task k tt ∷ before P ok steps n
      noted_there = ap (paper P) (take_one steps n r.it stands ∙ ap (λ l. l ++ (r.it ∷ [])) front) ∙ r.taken ∙ ap (λ l. Action.report r.task k tt ∷ paper P l) (sym front)

      go : (d : Decoded) → decode P r.it ≡ d → notes P (before P ok steps n) d ≡ Action.report r.task k tt ∷ before P ok steps n → Reports10 P steps r.task n
      go (bad m) q e = no_longer (before P ok steps n) _ e
      go (good c) q e = by (ℕ_discrete (ledger_refusal P (book_at P steps n) c) 0)
        where
          by : Dec (ledger_refusal P (book_at P steps n) c ≡ 0) → Reports10 P steps r.task n
          by (yes z) =
              let f = executes unvalued P ok (take n steps) in
              let t = only_ten P (book_at P steps n) c r.task (ap reporter_of (taken P ok (before P ok steps n) f c z).1 ∙ ap first_reporter (sym (notes_taken P ok (before P ok steps n) f c z) ∙ e)) in
              record { it = r.it; stands = stands; ten = q ∙ ap good t; taken = ap (λ d. is_taken (decoded_number P (book_at P steps n) d)) q ∙ ledger_taken P (book_at P steps n) c ∙ eqb_of z }
          by (no z) = no_longer (before P ok steps n) _ (sym (notes_refused P ok (before P ok steps n) c z) ∙ e)

  -- ---- the two directions

  one_step_only : (k n m : ℕ) → ReportedAt P steps k n → ReportedAt P steps k m → n < m → ⊥
  one_step_only k n m r s l =
      reported_past m k (noted_reported r.task k n m (reported_notes k n r).1 l) (busy_at s.task k m (reported_notes k m s).1.0)

  -- an operation is there from the step after its request on
  opened_by : (k m j : ℕ) → RequestedAt P steps k m → m < j → k < length (book_at P steps j).ops
  opened_by k m j x l = let g = grown P ok (before_suf P ok steps (suc m) j (omega arith)) in let a = x.after= in omega arith

  first_report : (k n : ℕ) → ReportedAt P steps k n → FirstReport P steps k n
  first_report k n r =
      let q = reported_notes k n r in
      let o = opened P ok steps n k (done_opened n r.task k q.1.0) in
      record {
        request = o.0;
        requested = o.2;
        later = o.1;
        reports = subst (λ c. Reports10 P steps c n) (sym (own_task n r.task k q.1.0)) q.0;
        none_between = λ j l g x. reported_past n k (between j g (notes_ten (op P steps k).task j x) (open_or_reported j k (opened_by k o.0 j o.2 l))) (busy_at r.task k n q.1.0);
      }
    where
      between : (j : ℕ) → j < n → (i : ℕ) × Notes10 (op P steps k).task i j → Busy ((book_at P steps j).layer.status (op P steps k).task) k ⊎ Any (Reports k) (events j) → Any (Reports k) (events n)
      between j g (i, q) (inl x) =
          let e : i ≡ k = subst (λ s. Busy s k) q.0 x in
          subst (λ a. Any (Reports a) (events n)) e (noted_reported (op P steps k).task i j n q g)
      between j g (i, q) (inr x) = suf_any (events_suf j n (omega arith)) x

  -- a report before step n stands at a step before it
  reported_before : (k n : ℕ) → Any (Reports k) (events n) → (j : ℕ) × (j < n) × ReportedAt P steps k j
  reported_before k n h =
      let (j, r) = reported_at P ok (take n steps) k (trace_reports P ok k (before P ok steps n) h) in (
        j,
        (let a = ap length r.whole in let b = length-append r.before (r.it ∷ r.after) in let c = r.place= in let d = take_short steps n in omega arith),
        record {
          before = r.before;
          it = r.it;
          after = r.after ++ drop n steps;
          whole = sym (take-append-drop n steps) ∙ ap (λ l. l ++ drop n steps) r.whole ∙ append_assoc r.before (r.it ∷ r.after) (drop n steps);
          place= = r.place=;
          task = r.task;
          taken = r.taken;
        },
      )

  reported_first : (k n : ℕ) → FirstReport P steps k n → ReportedAt P steps k n
  reported_first k n x = go (notes_ten (op P steps k).task n x.reports) (open_or_reported n k (opened_by k x.request n x.requested x.later))
    where
      make : (i : ℕ) → Notes10 (op P steps k).task i n → i ≡ k → ReportedAt P steps k n
      make i q e =
          let s = split_at steps n x.reports.it x.reports.stands in
          record {
            before = take n steps;
            it = x.reports.it;
            after = drop (suc n) steps;
            whole = s.0;
            place= = s.1;
            task = (op P steps k).task;
            taken = ap (paper P) (sym (take_one steps n x.reports.it x.reports.stands)) ∙ q.1 ∙ ap (λ a. Action.report (op P steps k).task a tt ∷ before P ok steps n) e;
          }

      -- no earlier one
      none_before : (j : ℕ) → j < n → ReportedAt P steps k j → ⊥
      none_before j l r = by (dec_lt x.request j)
        where
          f : FirstReport P steps k j
          f = first_report k j r

          by : Dec (x.request < j) → ⊥
          by (yes g) = x.none_between j g l f.reports
          by (no g) =
              let a = opened_by k f.request x.request f.requested (let z = f.later in omega arith) in
              let b = x.requested.before= in
              omega arith

      go : (i : ℕ) × Notes10 (op P steps k).task i n → Busy ((book_at P steps n).layer.status (op P steps k).task) k ⊎ Any (Reports k) (events n) → ReportedAt P steps k n
      go (i, q) (inl b) = make i q (subst (λ s. Busy s k) q.0 b)
      go (i, q) (inr h) = let r = reported_before k n h in absurd (none_before r.0 r.1 r.2)

  pub reports_exact : ReportsExact P steps
  reports_exact = record {
    exactly = λ k n. (first_report k n, reported_first k n);
    at_one_step = λ k n m r s. one k n m r s (tri n m);
  }
    where
      one : (k n m : ℕ) → ReportedAt P steps k n → ReportedAt P steps k m → Tri n m → n ≡ m
      one k n m r s (less l) = absurd (one_step_only k n m r s l)
      one k n m r s (alike e) = e
      one k n m r s (more l) = absurd (one_step_only k m n s r l)
