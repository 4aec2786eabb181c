use borrow.Author.Tests.{le-leb, lt-leb}
use Rattle.channel.specs.TakeSingle.{land_answer}
use Rattle.channel.proofs.single.may_land.Goals as goal

pub returns-in-true : goal.returns-in-true
unfolding land_answer
returns-in-true c = simp (c.in-true.is, rw c.own.ensures at (lt-leb _ _ c.if-own-lt48.true))

pub returns-in-false : goal.returns-in-false
unfolding land_answer
returns-in-false c = simp (c.in-false.is, rw c.own-else-joins.ensures at (lt-leb _ _ c.if-own-lt16.true))

pub returns-in_default : goal.returns-in_default
unfolding land_answer
returns-in_default c = simp (c.in-true.is, rw c.own.ensures at (le-leb _ _ c.if-own-lt48.false))

pub returns-in_default-2 : goal.returns-in_default-2
unfolding land_answer
returns-in_default-2 c = simp (c.in-false.is, rw c.own-else-joins.ensures at (le-leb _ _ c.if-own-lt16.false))
