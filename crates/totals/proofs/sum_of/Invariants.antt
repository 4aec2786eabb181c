use mathlib.Core.Path.{◌≡◌}
use lib.ListN.{take}
use Rattle.totals.specs.Totals.{summed}
use Rattle.totals.proofs.sum_of.Given as goal

abbrev pub invariant-loop-number : goal.invariant-loop-number
invariant-loop-number l = l.total ≡ summed (take l.number-index l.numbers)
