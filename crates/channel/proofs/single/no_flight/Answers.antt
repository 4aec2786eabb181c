use Rattle.channel.specs.TakeSingle.{no_flight}
use Rattle.channel.proofs.single.no_flight.Goals as goal

pub returns : goal.returns
unfolding no_flight
returns c = rw (← c.flight_block.ensures, ← c.kind_at.ensures)
