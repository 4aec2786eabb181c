use borrow.Author.Tests.{le-ltb, lt-ltb}
use Rattle.channel.specs.TakeSingle.{held_more}
use Rattle.channel.proofs.single.hold.Goals as goal

pub returns-then-held-lt16 : goal.returns-then-held-lt16
unfolding held_more
returns-then-held-lt16 c = let n = c.own-held.ensures in
    simp (rw n at (lt-ltb _ _ c.if-held-lt16.true), c.set_own.ensures, c.mark.ensures, c.held_block.ensures, n)

pub returns-else-held-lt16 : goal.returns-else-held-lt16
unfolding held_more
returns-else-held-lt16 c = simp (rw c.own-held.ensures at (le-ltb _ _ c.if-held-lt16.false))
