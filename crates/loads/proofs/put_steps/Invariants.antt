use mathlib.Core.Path.{◌≡◌}
use lib.ListN.{length}
use Rattle.lists.specs.Loops.{turns}
use Rattle.loads.proofs.LoadSteps.{state_at, step_put}
use Rattle.loads.proofs.put_steps.Given as goal

abbrev pub invariant-loop-k : goal.invariant-loop-k
invariant-loop-k l =
    (length l.out ≡ length l.initial.out) × (l.state ≡ state_at l.seed l.k) × (l.out ≡ turns (step_put l.ranges.cards l.ranges.registers l.ranges.tasks l.codes l.steps l.seed) l.k l.initial.out)
