use Rattle.channel.specs.TakeSingle.{landed}
use Rattle.channel.proofs.single.land.Goals as goal

pub returns-then-joins : goal.returns-then-joins
unfolding landed
returns-then-joins c = rw (c.if-joins.true, ← c.flight_block.ensures) c.push.ensures

pub returns-else-joins : goal.returns-else-joins
unfolding landed
returns-else-joins c = rw (c.if-joins.false, ← c.flight_block.ensures) c.hold.ensures
