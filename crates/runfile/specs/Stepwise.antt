-- A run step by step (RULES 12.2): the store after each step, and the step's answer, from any content of the two memories.
use Rattle.std.specs.Prelude.{ℕ, cond, List}
use Rattle.lists.specs.Loops.{turns, total}
use Rattle.names.specs.Step.{RawStep}
use Rattle.names.specs.declared.Answer.{Answer}
use Rattle.store.specs.SideBySide.{advanced, advance}
use Rattle.store.specs.Run.{Store}
use Rattle.names.specs.Results.{is_taken}
use Rattle.runfile.specs.Run.{Answered, is_refused}

abbrev pub stored : List ℕ → List ℕ → Store
stored rs cs = record { registers = rs; channel = cs }

module _ (step : ℕ → RawStep) (m : Store) where
  -- after the first k steps
  unfoldable pub store_at : ℕ → Store
  store_at k = turns (λ j n. advance n (step j)) k m

  -- the answer of step k
  unfoldable pub answer_at : ℕ → Answer
  answer_at k = (advanced (store_at k).registers (store_at k).channel (step k).code (step k).argument).answer

-- the counts of the first k answers
abbrev pub counted : (ℕ → Answer) → ℕ → Answered
counted answer k = record {
  refusal = 0;
  taken = total (λ j. cond (is_taken (answer j).result) 1 0) k;
  refused = total (λ j. cond (is_refused (answer j).result) 1 0) k;
}
