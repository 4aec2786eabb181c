use Rattle.std.proofs.Common.{◌≡◌}
use Rattle.lists.specs.Loops.{turns}
use Rattle.tables.specs.Start.{register_set}
use Rattle.tables.proofs.begin.place_registers.Given as goal

abbrev pub invariant-loop-x : goal.invariant-loop-x
invariant-loop-x l = l.registers ≡ turns (register_set l.copies l.primaries) l.x l.initial.registers
