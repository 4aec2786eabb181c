use mathlib.Core.Path.{sym, ◌∙◌}
use Rattle.channel.specs.Sized.{flight_fits}
use Rattle.channel.proofs.sized.Checked.flight_fits.Goals as goal

pub returns-then-no_flight : goal.returns-then-no_flight
unfolding flight_fits
returns-then-no_flight c = rw (c.if-no_flight.true, sym c.no_flight.ensures ∙ c.if-no_flight.true)

pub returns-else-no_flight : goal.returns-else-no_flight
unfolding flight_fits
returns-else-no_flight c = rw (sym c.no_flight.ensures ∙ c.if-no_flight.false, ← c.flight_block-tagged.ensures, ← c.tagged_fits.ensures, ← c.to_at.ensures, ← c.single.ensures)
