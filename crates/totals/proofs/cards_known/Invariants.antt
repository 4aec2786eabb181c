use mathlib.Core.Path.{◌≡◌}
use lib.Dec.{leb}
use lib.ListN.{get_or}
use Rattle.lists.specs.Every.{each}
use Rattle.totals.proofs.cards_known.Given as goal

abbrev pub invariant-loop-card : goal.invariant-loop-card
invariant-loop-card l = l.known ≡ each l.card-index (λ i. leb (get_or l.cards i 0) 7)
