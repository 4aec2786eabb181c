-- A run from a start need not check the state at each step.
use mathlib.Core.Path.{◌≡◌, refl, sym, ap, ap₂, ◌∙◌}
use mathlib.Core.List.{List, [], ◌∷◌}
use Rattle.names.specs.declared.Answer.{Answer}
use Rattle.names.specs.Placement.{Placement}
use Rattle.claims.specs.Steps.{RawStep, decode}
use Rattle.claims.specs.Found.{Found}
use Rattle.claims.specs.FoundRun.{after_decoded}
use Rattle.store.specs.Step.{Outcome, advanced, stepped}
use Rattle.store.specs.Run.{Store, started, next, store_after, answers_of, advance, advance_all, answers_advancing}
use Rattle.store.specs.Starts.{CheckedOnce}
use Rattle.store.proofs.StepLaw.{step_follows, advance_is}
use Rattle.store.proofs.StartLaw.{start_stands}
use Rattle.store.proofs.Demand3.{At}

module _ (P : Placement) where
  same_outcome : (m : Store) (s : Found) → At P m s → (a : RawStep)
      → advanced m.registers m.channel a.code a.argument ≡ stepped m.registers m.channel a.code a.argument
  same_outcome m s z a = sym (advance_is m.registers m.channel z.sized a)

  same_next : (m : Store) (s : Found) → At P m s → (a : RawStep) → advance m a ≡ next m a
  same_next m s z a = ap (λ (o : Outcome). record { registers = o.registers; channel = o.channel }) (same_outcome m s z a)

  same_store : (m : Store) (s : Found) (l : List RawStep) → At P m s → advance_all m l ≡ store_after m l
  same_store m s [] z = refl
  same_store m s (a ∷ l) z =
      ap (λ n. advance_all n l) (same_next m s z a)
      ∙ same_store (next m a) (after_decoded P s (decode P a)) l (step_follows m.registers m.channel P s z a).stands

  same_answers : (m : Store) (s : Found) (l : List RawStep) → At P m s → answers_advancing m l ≡ answers_of m l
  same_answers m s [] z = refl
  same_answers m s (a ∷ l) z =
      ap₂ (λ (x : Answer) (y : List Answer). x ∷ y) (ap (λ (o : Outcome). o.answer) (same_outcome m s z a))
      (ap (λ n. answers_advancing n l) (same_next m s z a)
      ∙ same_answers (next m a) (after_decoded P s (decode P a)) l (step_follows m.registers m.channel P s z a).stands)

pub checked_once : CheckedOnce
checked_once = record {
  store = λ P ok m steps. same_store P (started P m) _ steps (start_stands P ok m);
  answers = λ P ok m steps. same_answers P (started P m) _ steps (start_stands P ok m);
}
