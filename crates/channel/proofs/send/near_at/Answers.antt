use Rattle.channel.specs.Dispatch.{near_at}
use Rattle.channel.proofs.send.near_at.Goals as goal

pub returns : goal.returns
unfolding near_at
returns c = rw (← c.taken_of-taken.ensures, ← c.made-last.ensures)
