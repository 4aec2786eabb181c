-- When each result comes, with the copies side by side: as card after card.
use Prim.Native.Nat.{ℕ}
use mathlib.Core.Path.{◌≡◌, sym, ap, subst}
use mathlib.Core.Logic.{◌↔◌}
use mathlib.Core.Bool.{true}
use mathlib.Core.List.{List}
use Rattle.names.specs.declared.Answer.{Answer}
use Rattle.names.specs.Placement.{Placement}
use Rattle.names.specs.Results.{is_taken}
use Rattle.claims.specs.Steps.{RawStep}
use Rattle.claims.specs.Found.{Found}
use Rattle.store.specs.Demand2 as Card
use Rattle.store.specs.StepResults as Card-results
use Rattle.store.specs.Run.{Store}
use Rattle.store.specs.SideBySide.{Stands, result_of, StepResults}
use Rattle.store.proofs.StepResults as Results
use Rattle.store.proofs.SideBySide.{carry, like, alike, like_stands, advance_is}

module _ (us cs : List ℕ) (P : Placement) (s : Found) (v : Stands us cs P s) (a : RawStep) where
  abbrev here : Store
  here = record { registers = us; channel = cs }

  abbrev there : Store
  there = like here P s v

  -- what is said of the result on paper is said of the store's
  carried : {A : Type 0} (F : ℕ → Type 0) → F (Card-results.result_of there.registers there.channel a) ↔ A → F (result_of us cs a) ↔ A
  carried F h =
      let e = ap (λ (x : Answer). x.result) (carry.step there here (alike here P s v) a).answer= in
      (λ x. h.0 (subst F (sym e) x), λ y. subst F e (h.1 y))

  there_stands : Card.Stands there.registers there.channel P s
  there_stands = like_stands here P s v

pub step_results : StepResults
step_results =
    let r = Results.step_results in
    record {
      taken = λ us cs P s v a. carried us cs P s v a (λ n. is_taken n ≡ true) (r.taken _ _ P s (there_stands us cs P s v a) a);
      held = λ us cs P s v a. carried us cs P s v a (λ n. n ≡ 100) (r.held _ _ P s (there_stands us cs P s v a) a);
      joins = λ us cs P s v a t d. carried us cs P s v a (λ n. n ≡ 0) (r.joins _ _ P s (there_stands us cs P s v a) a t d);
      refused = λ us cs P s v a k h. carried us cs P s v a (λ n. n ≡ k) (r.refused _ _ P s (there_stands us cs P s v a) a k h);
      unchecked = λ us cs h a. sym (advance_is us cs h a);
    }
