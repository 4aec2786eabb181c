use mathlib.Core.Path.{◌≡◌}
use lib.ListN.{length, take}
use Rattle.totals.specs.Totals.{group_count, card_sums}
use Rattle.totals.proofs.card_sums.Given as goal

abbrev pub invariant-loop-card : goal.invariant-loop-card
invariant-loop-card l = take group_count l.sums ≡ card_sums (take (length l.yielded) l.cards) (take (length l.yielded) l.operands)
