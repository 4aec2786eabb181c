use Rattle.std.proofs.Common.{sym}
use Rattle.lists.specs.Loops.{turns_zero, turns_more}
use Rattle.tables.specs.Start.{home_set}
use Rattle.tables.proofs.begin.place_tasks.Goals as goal

pub loop-t-init : goal.loop-t-init
loop-t-init c = sym (turns_zero _ _)

pub loop-t-preserved : goal.loop-t-preserved
unfolding home_set
loop-t-preserved c = rw (turns_more, ← c.loop-t.invariant)
