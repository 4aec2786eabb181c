use Rattle.std.proofs.Common.{◌^◌, ◌≤◌, arith, rules, lt-ltb}
use native.Mathlib.Nat.{pow-le-pow_right}
use Rattle.lists.specs.Tests.{cases, div_zero}
use Rattle.names.proofs.placement.all_present.Goals as goal

pub returns-then-cards-ge32 : goal.returns-then-cards-ge32
returns-then-cards-ge32 c = let big : 2 ^ 32 ≤ 2 ^ c.args.cards = pow-le-pow_right (omega arith) {i = 32} {j = c.args.cards} (omega arith) in
    rw (lt-ltb c.args.set (2 ^ c.args.cards) (omega arith)) (search (rules, cases))

pub returns-else-cards-ge32 : goal.returns-else-cards-ge32
returns-else-cards-ge32 c = let one : 2 ^ 0 ≤ 2 ^ c.args.cards = pow-le-pow_right (omega arith) {i = 0} (omega arith) in
    div_zero c.args.set (2 ^ c.args.cards) (omega arith)
