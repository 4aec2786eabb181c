-- The start from a placement (RULES 10.2, 10.3).
use Rattle.std.specs.Prelude.{ℕ, ◌+◌, ◌*◌, ◌%◌, cond, List, eqb, get_or, set, replicate}
use Rattle.lists.specs.Loops.{turns}
use Rattle.names.specs.Placement.{Placement, tasks, registers, placement_refusal}
use Rattle.channel.specs.Begin.{begin_memory}
use Rattle.tables.specs.Layout.{task_word, register_word}

-- task t lives at its home
unfoldable pub home_set : List ℕ → ℕ → List ℕ → List ℕ
home_set homes t ws = set ws (task_word t) (get_or homes t 0 * 2048)

-- register x has its holders and its primary
unfoldable pub register_set : List ℕ → List ℕ → ℕ → List ℕ → List ℕ
register_set copies primaries x ws = set ws (register_word x) (get_or primaries x 0 % 8 + get_or copies x 0 * 8)

module _ (p : Placement) where
  -- every word zero but homes, holders and primaries
  unfoldable pub start_words : List ℕ
  start_words =
      turns (register_set p.copies p.primaries) (registers p) (turns (home_set p.homes) (tasks p) (replicate 593 0))

  -- a refused placement begins no state
  unfoldable pub start_registers : List ℕ → List ℕ
  start_registers rs = cond (eqb (placement_refusal p) 0) start_words rs

  unfoldable pub start_channel : List ℕ → List ℕ
  start_channel cs = cond (eqb (placement_refusal p) 0) (begin_memory cs p.cards (tasks p) (registers p)) cs
