use Rattle.std.proofs.Common.{◌^◌, ◌<◌, ◌≤◌, arith, rules}
use native.Mathlib.Nat.{pow-le-pow_right, div-eq_of_lt}
use Rattle.lists.specs.Tests.{cases}
use Rattle.names.specs.CardSet.{member_of}
use Rattle.names.proofs.member.Goals as goal

pub returns-else-card-lt32 : goal.returns-else-card-lt32
unfolding member_of
returns-else-card-lt32 c = let big : 2 ^ 32 ≤ 2 ^ c.args.card.0 = pow-le-pow_right (omega arith) {i = 32} {j = c.args.card.0} (omega arith) in
    let less : c.args.set < 2 ^ c.args.card.0 = omega arith in
    rw (div-eq_of_lt less) (search (rules, cases))
