use borrow.Author.Tests.{eq-eqb, ne_eqb}
use Rattle.channel.specs.Inbox.{popped}
use Rattle.channel.proofs.inbox.drop_first.Goals as goal

pub returns-then-count-ne0 : goal.returns-then-count-ne0
unfolding popped
returns-then-count-ne0 c = let n = c.own-count.ensures in simp (rw n at (ne_eqb _ _ c.if-count-ne0.true), c.set_own-then-count-ne0.ensures, c.set_own.ensures, c.past-next.ensures, n, c.start.ensures)

pub returns-else-count-ne0 : goal.returns-else-count-ne0
unfolding popped
returns-else-count-ne0 c = simp (rw c.own-count.ensures at (eq-eqb _ _ c.if-count-ne0.false))
