use Rattle.std.proofs.Common.{◌≡◌, true, get_or}
use Rattle.lists.specs.Every.{each}
use Rattle.names.specs.Placement.{home_placed}
use Rattle.names.proofs.placement.homes_placed.Given as goal

abbrev pub invariant-loop-home : goal.invariant-loop-home
invariant-loop-home l = each l.home-index (λ k. home_placed l.cards (get_or l.homes k 0)) ≡ true
