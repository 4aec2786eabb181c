use Rattle.channel.specs.Sized.{head_fits}
use Rattle.channel.proofs.sized.head_fits.Goals as goal

pub returns : goal.returns
unfolding head_fits
returns c = rw (← c.made.ensures, ← c.sizes_fit.ensures)
