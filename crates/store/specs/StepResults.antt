-- What a result says, and when each comes (RULES 8.2, 8.5): the store's answers in the terms of claims/specs/Allowed and Numbers, from every
-- well-sized pair of memories that shows a state. The values found are left out of it (forget).
use Rattle.std.specs.Prelude.{ℕ, ◌≡◌, ◌⊎◌, ◌↔◌, false, true, List}
use Rattle.names.specs.Placement.{Placement}
use Rattle.names.specs.Results.{is_taken}
use Rattle.claims.specs.Command.{Command}
use Rattle.claims.specs.Steps.{RawStep, good, decode}
use Rattle.claims.specs.Found.{Found}
use Rattle.claims.specs.ForgetFound.{forget}
use Rattle.claims.specs.Held.{Eight, Holds, LetsJoin}
use Rattle.claims.specs.Allowed.{allowed, within}
use Rattle.claims.specs.Numbers.{Misformed, Comes}
use Rattle.tables.specs.Layout.{Place, card_after_card}
use Rattle.tables.specs.Sized.{store_sized}
use Rattle.store.specs.Step.{advanced_at, stepped_at}
use Rattle.store.specs.Demand2.{StandsAt}

-- the result of a step
abbrev pub result_of_at : Place → List ℕ → List ℕ → RawStep → ℕ
result_of_at place rs cs a = (stepped_at place rs cs a.code a.argument).answer.result

pub record StepResultsAt (place : Place) : Type 0 where
  -- taken, with 0 or 100, exactly if the step decodes to a command that the algorithm allows within the limits
  pub taken : (rs cs : List ℕ) (P : Placement) (s : Found) → StandsAt place rs cs P s → (a : RawStep)
      → (is_taken (result_of_at place rs cs a) ≡ true) ↔ ((c : Command) × (decode P a ≡ good c) × (allowed P (forget s) c ≡ true) × (within P (forget s) c ≡ true))
  -- 100 exactly if the step is an 8 whose message the published move puts into ppwait of its destination (RULES 5.8)
  pub held : (rs cs : List ℕ) (P : Placement) (s : Found) → StandsAt place rs cs P s → (a : RawStep)
      → (result_of_at place rs cs a ≡ 100) ↔ Holds P (forget s) a
  -- an 8 answers 0 exactly if its message joins the inbox there
  pub joins : (rs cs : List ℕ) (P : Placement) (s : Found) → StandsAt place rs cs P s → (a : RawStep) (t : ℕ) → Eight P a t
      → (result_of_at place rs cs a ≡ 0) ↔ LetsJoin P (forget s) a
  -- another number exactly if the step is misformed so, or decodes to a command for which that number comes
  pub refused : (rs cs : List ℕ) (P : Placement) (s : Found) → StandsAt place rs cs P s → (a : RawStep) (n : ℕ) → is_taken n ≡ false
      → (result_of_at place rs cs a ≡ n) ↔ (Misformed P a n ⊎ ((c : Command) × (decode P a ≡ good c) × Comes P (forget s) n c))
  -- a step that does not check the state first is the same step, on every well-sized pair (RULES 11.10)
  pub unchecked : (rs cs : List ℕ) → store_sized rs cs ≡ true → (a : RawStep) → advanced_at place rs cs a.code a.argument ≡ stepped_at place rs cs a.code a.argument

-- ---- card after card, on paper; SideBySide has the case of the memory

abbrev pub result_of : List ℕ → List ℕ → RawStep → ℕ
result_of rs cs a = result_of_at card_after_card rs cs a

abbrev pub StepResults : Type 0
StepResults = StepResultsAt card_after_card
