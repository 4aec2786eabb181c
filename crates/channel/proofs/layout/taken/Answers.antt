use borrow.Author.Tests.{lt-ltb, le-ltb}
use Rattle.channel.specs.Layout.{taken_by}
use Rattle.channel.proofs.layout.taken.Goals as goal

pub returns-in-Ok : goal.returns-in-Ok
unfolding taken_by
returns-in-Ok c = let p = rw c.in-Ok.is at c.part_of.ensures in simp (lt-ltb _ _ p.1, ← p.0) c.taken_of.ensures

pub returns-in-Err : goal.returns-in-Err
unfolding taken_by
returns-in-Err c = let p = rw c.in-Err.is at c.part_of.ensures in simp (le-ltb _ _ p.1)
