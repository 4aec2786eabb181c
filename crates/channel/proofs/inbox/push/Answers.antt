use borrow.Author.Tests.{lt-ltb, le-ltb}
use Rattle.channel.specs.Inbox.{pushed}
use Rattle.channel.proofs.inbox.push.Goals as goal

pub returns-then-count-lt48 : goal.returns-then-count-lt48
unfolding pushed
returns-then-count-lt48 c = let n = c.own-count.ensures in
    simp (rw n at (lt-ltb _ _ c.if-count-lt48.true), c.set_own.ensures, c.store.ensures, c.place_of.ensures, n)

pub returns-else-count-lt48 : goal.returns-else-count-lt48
unfolding pushed
returns-else-count-lt48 c = simp (rw c.own-count.ensures at (le-ltb _ _ c.if-count-lt48.false))
