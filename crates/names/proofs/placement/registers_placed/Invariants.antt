use Rattle.std.proofs.Common.{◌≡◌, true, get_or}
use Rattle.lists.specs.Every.{each}
use Rattle.names.specs.Placement.{register_placed}
use Rattle.names.proofs.placement.registers_placed.Given as goal

abbrev pub invariant-loop-x : goal.invariant-loop-x
invariant-loop-x l = each l.x (λ k. register_placed l.cards (get_or l.copies k 0) (get_or l.primaries k 0)) ≡ true
