-- SerialOrder's fields (RULES 12.8) one by one, and what it is for one of them to be needed: a small history and a list of operations, answers
-- and a table that all the other fields take for a serial order of it, and this one does not.
use Rattle.std.specs.Prelude.{ℕ, ◌<◌, ◌≡◌, ◌⊎◌, true, List, ◌∷◌, ◌++◌}
use Rattle.std.proofs.Math.Option.{some}
use Rattle.lists.specs.Histories.{In}
use Rattle.lists.specs.Places.{nth}
use Rattle.lists.specs.Queues.{Once}
use Rattle.lists.specs.Filters.{filter, Precedes}
use Rattle.names.specs.Placement.{Placement, copy, placement_refusal}
use Rattle.claims.specs.Steps.{RawStep}
use Rattle.claims.specs.PublishedRun.{Answer}
use Rattle.claims.specs.SerialOrder.{op, ReportedAt, applied_on, updates, made_of_zero}

pub data Field : Type 0 where
  only : Field
  reported : Field
  applied : Field
  once : Field
  tasks : Field
  gives : Field
  copies : Field
  copy_values : Field

module _ (P : Placement) (steps : List RawStep) (answers : List Answer) (table : ℕ → ℕ → ℕ) (order : List ℕ) where
  -- what each says, word for word
  abbrev pub Says : Field → Type 0
  Says only = (k : ℕ) → In k order → ((n : ℕ) × ReportedAt P steps k n) ⊎ ((i : ℕ) × (((op P steps k).upd ≡ true) × In k (applied_on P steps i)))
  Says reported = (k n : ℕ) → ReportedAt P steps k n → In k order
  Says applied = (k i : ℕ) → In k (applied_on P steps i) → In k order
  Says once = Once order
  Says tasks = (j k : ℕ) → In j order → In k order → (op P steps j).task ≡ (op P steps k).task → j < k → Precedes j k order
  Says gives = (k n : ℕ) → ReportedAt P steps k n → (pre post : List ℕ) → order ≡ pre ++ k ∷ post
      → nth answers n ≡ some (record { result = 0; value = made_of_zero P steps (filter (updates P steps (op P steps k).reg) pre) })
  Says copies = (x i : ℕ) → copy P x i ≡ true → (rest : List ℕ) × (filter (updates P steps x) order ≡ filter (updates P steps x) (applied_on P steps i) ++ rest)
  Says copy_values = (x i : ℕ) → copy P x i ≡ true → table i x ≡ made_of_zero P steps (filter (updates P steps x) (applied_on P steps i))

pub record Needed (f : Field) : Type 0 where
  pub P : Placement
  pub accepted : placement_refusal P ≡ 0
  pub steps : List RawStep
  pub answers : List Answer
  pub table : ℕ → ℕ → ℕ
  pub order : List ℕ
  pub others : (g : Field) → ¬ (g ≡ f) → Says P steps answers table order g
  pub refused : ¬ Says P steps answers table order f
