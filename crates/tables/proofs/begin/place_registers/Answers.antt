use Rattle.std.proofs.Common.{sym}
use Rattle.lists.specs.Loops.{turns_zero, turns_more}
use Rattle.tables.specs.Start.{register_set}
use Rattle.tables.proofs.begin.place_registers.Goals as goal

pub loop-x-init : goal.loop-x-init
loop-x-init c = sym (turns_zero _ _)

pub loop-x-preserved : goal.loop-x-preserved
unfolding register_set
loop-x-preserved c = rw (turns_more, ← c.loop-x.invariant, ← c.byte.ensures.0)
