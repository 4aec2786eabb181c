use native.Mathlib.Omega.{arith}
use Rattle.names.proofs.CardSets.{one_shifted}
use Rattle.channel.specs.Letters.{limits_of}
use Rattle.channel.proofs.layout.limits_of.Goals as goal

pub returns : goal.returns
unfolding limits_of
returns c =
    let n = c.cards-cards.ensures.0 in
    let s = rw n at (one_shifted c.cards-cards.result (omega arith)) in
    rw (n, s, c.tasks.ensures.0, c.registers.ensures.0)
