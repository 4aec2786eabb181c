-- The algorithm that the store runs and the two layers with values go together over any list of steps: after it its state is theirs with the
-- operation numbers forgotten, each step is answered with the same number, and a report with the value that the layer's report gives.
use Prim.Native.Nat.{suc, ℕ}
use lib.Dec.{eqb}
use lib.ListN.{length}
use mathlib.Core.Bool.{Bool, cond, false, true}
use mathlib.Core.List.{List, [], ◌++◌, ◌∷◌}
use mathlib.Core.Option.{Option, none, some}
use mathlib.Core.Path.{ap, ap₂, refl, sym, ◌∙◌, ◌≡◌}
use native.Mathlib.Decide.{ℕ_discrete}
use native.Mathlib.Omega.{arith}
use Rattle.lists.specs.Tests.{eqb_not, eqb_of, eqb_refl}
use Rattle.lists.specs.Places.{nth}
use Rattle.names.proofs.Results.{not_held}
use Rattle.names.specs.Placement.{Placement, placement_refusal}
use Rattle.names.specs.Results.{result_from}
use Rattle.registers.specs.Layer.{Msg, Status, unvalued}
use Rattle.claims.proofs.Executions.{Execution}
use Rattle.claims.proofs.FoundShown.{same_refusal, same_result, show_status, shown}
use Rattle.claims.proofs.Forgetting.{number_forget}
use Rattle.claims.proofs.SameEffect.{same_effect}
use Rattle.claims.proofs.Shown.{numbers}
use Rattle.claims.proofs.Taken.{executes, executes_notes, notes_refused, notes_taken, taken}
use Rattle.claims.specs.Command.{Command}
use Rattle.claims.specs.Ledger.{Action, Ledger, Op, about, decoded_number, headed, ledger, ledger_refusal, notes, number_of, op_at, paper, paper_from, plan, stage_of, telling}
use Rattle.claims.specs.Found.{Found, begin, command_refusal, done_read, done_update, effect, mail, post, sight}
use Rattle.claims.specs.FoundRun.{after_decoded, answer_decoded, answers_from, final_from, found_run, value_at, value_of}
use Rattle.claims.specs.Refusals.{report_refusal}
use Rattle.claims.specs.Results.{holding}
use Rattle.claims.specs.Steps.{Decoded, RawStep, bad, decode, good}
use Rattle.registers.specs.Layer as R
use Rattle.claims.specs.Ledger as L
use Rattle.claims.specs.Command as K
use Rattle.claims.specs.Refusals as S

module _ (P : Placement) (ok : placement_refusal P ≡ 0) where
  step_keeps : (ds : List (Action numbers)) → Execution P ds → (d : Decoded) → after_decoded P (shown P ds) d ≡ shown P (notes P ds d)
  step_keeps ds f (bad n) = refl
  step_keeps ds f (good c) = ap (λ n. cond (eqb n 0) (effect P (shown P ds) c) (shown P ds)) (same_refusal P ok ds f c) ∙ go (ℕ_discrete (ledger_refusal P (ledger P ds) c) 0)
    where
      go : Dec (ledger_refusal P (ledger P ds) c ≡ 0) → cond (eqb (ledger_refusal P (ledger P ds) c) 0) (effect P (shown P ds) c) (shown P ds) ≡ shown P (notes P ds (good c))
      go (yes e) =
          ap (λ t. cond t (effect P (shown P ds) c) (shown P ds)) (eqb_of e)
          ∙ same_effect P ok ds f c (taken P ok ds f c e).0 e (taken P ok ds f c e).1 (taken P ok ds f c e).2
          ∙ ap (shown P) (sym (notes_taken P ok ds f c e))
      go (no n) = ap (λ t. cond t (effect P (shown P ds) c) (shown P ds)) (eqb_not n) ∙ ap (shown P) (sym (notes_refused P ok ds c n))

  run_keeps : (ds : List (Action numbers)) → Execution P ds → (l : List RawStep) → final_from P (shown P ds) l ≡ shown P (paper_from P ds l)
  run_keeps ds f [] = refl
  run_keeps ds f (s ∷ l) = ap (λ p. final_from P p l) (step_keeps ds f (decode P s)) ∙ run_keeps (notes P ds (decode P s)) (executes_notes P ok ds f (decode P s)) l

  pub together : (l : List RawStep) → final_from P begin l ≡ shown P (paper P l)
  together l = run_keeps [] tt l

  -- ---- the answer at a step

  nth_answers : (s : Found) (pre : List RawStep) (a : RawStep) (post : List RawStep) → nth (answers_from P s (pre ++ a ∷ post)) (length pre) ≡ some (answer_decoded P (final_from P s pre) (decode P a))
  nth_answers s [] a post = refl
  nth_answers s (x ∷ pre) a post = nth_answers (after_decoded P s (decode P x)) pre a post

  pub answer_at : (pre : List RawStep) (a : RawStep) (post : List RawStep) → nth (found_run P (pre ++ a ∷ post)).1 (length pre) ≡ some (answer_decoded P (shown P (paper P pre)) (decode P a))
  answer_at pre a post = nth_answers begin pre a post ∙ ap (λ s. some (answer_decoded P s (decode P a))) (together pre)

  -- the result is the ledger's
  pub results_agree : (pre : List RawStep) (a : RawStep) (post : List RawStep)
      → (v : ℕ) × (nth (found_run P (pre ++ a ∷ post)).1 (length pre) ≡ some (record { result = number_of P (ledger P (paper {U = unvalued} P pre)) a; value = v }))
  results_agree pre a post = let r = go (decode P a) in (r.0, answer_at pre a post ∙ ap some (r.1 ∙ ap (λ n. record { result = n; value = r.0 }) (sym (number_forget numbers P pre (decode P a)))))
    where
      cs : List (Action numbers)
      cs = paper P pre

      go : (d : Decoded) → (v : ℕ) × (answer_decoded P (shown P cs) d ≡ record { result = decoded_number P (ledger P cs) d; value = v })
      go (bad n) = (0, refl)
      go (good c) =
          let v = cond (eqb (command_refusal P (shown P cs) c) 0) (value_at (shown P cs) c) 0 in
          (v, ap (λ m. record { result = m; value = v }) (same_result P ok cs (executes numbers P ok pre) c))

  -- ---- a report

  no_longer : (ds : List (Action numbers)) (d : Action numbers) → ds ≡ d ∷ ds → ⊥
  no_longer ds d e = let q = ap length e in omega arith

  first_is : (a d : Action numbers) (l r : List (Action numbers)) → a ∷ l ≡ d ∷ r → a ≡ d
  first_is a d l r e = ap (λ k. head a k) e
    where
      head : Action numbers → List (Action numbers) → Action numbers
      head x [] = x
      head x (y ∷ k) = y

  -- only a 10 reports
  abbrev reporting : Action numbers → ℕ
  reporting (L.request o) = 0
  reporting (L.perform c k) = 0
  reporting (L.send c k i) = 0
  reporting (L.dispatch i m) = 0
  reporting (L.take_broadcast i) = 0
  reporting (L.take_single c) = 0
  reporting (L.deliver m i) = 0
  reporting (L.report c k w) = suc k

  -- and what it tells
  abbrev told : Action numbers → ℕ
  told (L.request o) = 0
  told (L.perform c k) = 0
  told (L.send c k i) = 0
  told (L.dispatch i m) = 0
  told (L.take_broadcast i) = 0
  told (L.take_single c) = 0
  told (L.deliver m i) = 0
  told (L.report c k w) = w

  module _ (ds : List (Action numbers)) (f : Execution P ds) where
    abbrev b : Ledger numbers
    b = ledger P ds

    -- none of the other steps is a report
    abbrev reports : Option (Action numbers) → ℕ
    reports none = 0
    reports (some d) = reporting d

    abbrev tells : Option (Action numbers) → ℕ
    tells none = 0
    tells (some d) = told d

    about_none : (s : Status numbers) (g : ℕ → Action numbers) → ((k : ℕ) → reporting (g k) ≡ 0) → reports (about s g) ≡ 0
    about_none R.quiet g e = refl
    about_none (R.asking k) g e = e k
    about_none (R.waiting k) g e = e k
    about_none (R.done k w) g e = e k

    headed_none : (l : List (Msg numbers)) (g : Msg numbers → Action numbers) → ((m : Msg numbers) → reporting (g m) ≡ 0) → reports (headed l g) ≡ 0
    headed_none [] g e = refl
    headed_none (m ∷ l) g e = e m

    other : {A : Type 0} (o : Option (Action numbers)) (t k w : ℕ) → reports o ≡ 0 → o ≡ some (Action.report t k w) → A
    other o t k w e p = let q = ap reports p in absurd (omega arith)

    -- what task c's report answers, if operation k is reported
    reported_value : (c t k w : ℕ) (s : Status numbers) → report_refusal (stage_of b.ops s) ≡ 0 → telling s (Action.report c) ≡ some (Action.report t k w) → value_of (show_status b.ops s) ≡ w
    reported_value c t k w R.quiet e p = absurd (omega arith)
    reported_value c t k w (R.asking j) e p = absurd (go (op_at b.ops j) (op_at b.ops j).upd e)
      where
        go : (o : Op) (t : Bool) → report_refusal (cond t (S.asks_update o.reg) (S.asks_read o.reg)) ≡ 0 → ⊥
        go o true z = omega arith
        go o false z = omega arith
    reported_value c t k w (R.waiting j) e p = absurd (omega arith)
    reported_value c t k w (R.done j v) e p = go (op_at b.ops j).upd ∙ ap tells p
      where
        go : (s : Bool) → value_of (cond s (done_update v) (done_read v)) ≡ v
        go true = refl
        go false = refl

    value_is : (c : Command) (t k w : ℕ) → ledger_refusal P b c ≡ 0 → plan P b c ≡ some (Action.report t k w) → value_at (shown P ds) c ≡ w
    value_is (K.request_read c x) t k w e p = other (plan P b (K.request_read c x)) t k w refl p
    value_is (K.request_update c x n v) t k w e p = other (plan P b (K.request_update c x n v)) t k w refl p
    value_is (K.perform c) t k w e p = other (plan P b (K.perform c)) t k w (about_none (b.layer.status c) (Action.perform c) (λ j. refl)) p
    value_is (K.send_read c i) t k w e p = other (plan P b (K.send_read c i)) t k w (about_none (b.layer.status c) (λ j. Action.send c j i) (λ j. refl)) p
    value_is (K.send_update c) t k w e p = other (plan P b (K.send_update c)) t k w (about_none (b.layer.status c) (λ j. Action.send c j 0) (λ j. refl)) p
    value_is (K.dispatch i) t k w e p = other (plan P b (K.dispatch i)) t k w (headed_none (b.layer.out i) (Action.dispatch i) (λ m. refl)) p
    value_is (K.take_broadcast i) t k w e p = other (plan P b (K.take_broadcast i)) t k w refl p
    value_is (K.take_single c) t k w e p = other (plan P b (K.take_single c)) t k w refl p
    value_is (K.deliver i) t k w e p = other (plan P b (K.deliver i)) t k w (headed_none (b.channel.inbox i) (λ m. Action.deliver m i) (λ m. refl)) p
    value_is (K.report c) t k w e p = reported_value c t k w (b.layer.status c) e p

    -- a report holds no message
    not_holding : (c : Command) (t k w : ℕ) → plan P b c ≡ some (Action.report t k w) → holding mail (sight P (shown P ds)) c ≡ false
    not_holding (K.request_read c x) t k w p = refl
    not_holding (K.request_update c x n v) t k w p = refl
    not_holding (K.perform c) t k w p = refl
    not_holding (K.send_read c i) t k w p = refl
    not_holding (K.send_update c) t k w p = refl
    not_holding (K.dispatch i) t k w p = refl
    not_holding (K.take_broadcast i) t k w p = refl
    not_holding (K.take_single c) t k w p = other (plan P b (K.take_single c)) t k w refl p
    not_holding (K.deliver i) t k w p = refl
    not_holding (K.report c) t k w p = refl

    -- the ledger takes a report: what is answered is the value that it tells
    pub answer_is : (d : Decoded) (t k w : ℕ) → notes P ds d ≡ Action.report t k w ∷ ds → answer_decoded P (shown P ds) d ≡ record { result = 0; value = w }
    answer_is (bad n) t k w e = absurd (no_longer ds _ e)
    answer_is (good c) t k w e = go (ℕ_discrete (ledger_refusal P b c) 0)
      where
        go : Dec (ledger_refusal P b c ≡ 0) → answer_decoded P (shown P ds) (good c) ≡ record { result = 0; value = w }
        go (yes z) =
            let p : plan P b c ≡ some (Action.report t k w) = (taken P ok ds f c z).1 ∙ ap some (first_is _ (Action.report t k w) ds ds (sym (notes_taken P ok ds f c z) ∙ e)) in
            let r : command_refusal P (shown P ds) c ≡ 0 = same_refusal P ok ds f c ∙ z in
            ap₂ (λ m v. record { result = m; value = v }) (ap₂ result_from r (not_holding c t k w p) ∙ not_held)
            (ap₂ (λ m v. cond (eqb m 0) v 0) r (value_is c t k w z p) ∙ ap (λ s. cond s w 0) (eqb_refl 0))
        go (no n) = absurd (no_longer ds _ (sym (notes_refused P ok ds c n) ∙ e))
