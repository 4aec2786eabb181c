-- The store's results are those of the published algorithm, whose meaning claims/proofs has: RefusalExact, Results, HeldExact.
use Prim.Native.Nat.{ℕ}
use mathlib.Core.Path.{◌≡◌, sym, ap, ◌∙◌}
use mathlib.Core.Logic.{◌↔◌}
use mathlib.Core.List.{List}
use borrow.Author.Tests.{eqb-true}
use Rattle.lists.specs.Tests.{eqb_of}
use Rattle.names.specs.declared.Answer.{Answer}
use Rattle.names.specs.Placement.{Placement}
use Rattle.names.specs.Results.{is_taken}
use Rattle.names.proofs.Results.{refused_not_zero}
use Rattle.claims.specs.Steps.{RawStep, decode}
use Rattle.claims.specs.Found.{Found}
use Rattle.claims.specs.ForgetFound.{forget}
use Rattle.claims.specs.PublishedRun.{answer_decoded}
use Rattle.claims.proofs.ForgetFound.{result_same}
use Rattle.claims.proofs.RefusalExact.{refusal_exact, taken_exact}
use Rattle.claims.proofs.Results.{refused_number, taken_answer}
use Rattle.claims.proofs.HeldExact.{held_answer, joins_answer}
use Rattle.store.specs.Demand2.{Stands}
use Rattle.store.specs.StepResults.{result_of, StepResults}
use Rattle.store.proofs.StepLaw.{step_follows, advance_is}

-- what is said of one of two equal numbers is said of the other
same : {A : Type 0} {m k : ℕ} (n : ℕ) → m ≡ k → (k ≡ n) ↔ A → (m ≡ n) ↔ A
same n e h = (λ p. h.0 (sym e ∙ p), λ x. e ∙ h.1 x)

both : {A B C : Type 0} → A ↔ B → B ↔ C → A ↔ C
both f g = (λ a. g.0 (f.0 a), λ c. f.1 (g.1 c))

result_is : (P : Placement) (s : Found) (rs cs : List ℕ) → Stands rs cs P s → (a : RawStep) → result_of rs cs a ≡ (answer_decoded P (forget s) (decode P a)).result
result_is P s rs cs z a = ap (λ (x : Answer). x.result) (step_follows rs cs P s z a).answer= ∙ result_same P s (decode P a)

pub step_results : StepResults
step_results = record {
  taken = λ rs cs P s z a.
      let e = ap is_taken (result_is P s rs cs z a) ∙ taken_answer P (forget s) a in
      both (λ t. eqb-true _ _ (sym e ∙ t), λ t. e ∙ eqb_of t) (taken_exact P a (forget s));
  held = λ rs cs P s z a. same 100 (result_is P s rs cs z a) (held_answer P (forget s) a);
  joins = λ rs cs P s z a t d. same 0 (result_is P s rs cs z a) (joins_answer P (forget s) a t d);
  refused = λ rs cs P s z a n h. same n (result_is P s rs cs z a) (both (refused_number P (forget s) (decode P a) n h) (refusal_exact P a (forget s) n (refused_not_zero n h)));
  unchecked = λ rs cs h a. sym (advance_is rs cs h a);
}
