use borrow.Author.Tests.{eq-eqb, ne_eqb}
use Rattle.channel.specs.Inbox.{got_of}
use Rattle.channel.proofs.inbox.first.Goals as goal

pub returns-then-own-eq0 : goal.returns-then-own-eq0
unfolding got_of
returns-then-own-eq0 c = simp (rw c.own.ensures at (eq-eqb _ _ c.if-own-eq0.true))

pub returns : goal.returns
unfolding got_of
returns c = let z = rw c.own.ensures at (ne_eqb _ _ c.if-own-eq0.false) in simp (z, c.from.ensures, c.load-packet.ensures, c.inbox_block.ensures, c.start.ensures)
