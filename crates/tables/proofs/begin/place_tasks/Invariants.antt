use Rattle.std.proofs.Common.{◌≡◌}
use Rattle.lists.specs.Loops.{turns}
use Rattle.tables.specs.Start.{home_set}
use Rattle.tables.proofs.begin.place_tasks.Given as goal

abbrev pub invariant-loop-t : goal.invariant-loop-t
invariant-loop-t l = l.registers ≡ turns (home_set l.homes) l.t l.initial.registers
