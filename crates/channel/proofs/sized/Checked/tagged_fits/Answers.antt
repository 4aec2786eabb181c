use Rattle.channel.specs.Sized.{tagged_fits}
use Rattle.channel.proofs.sized.Checked.tagged_fits.Goals as goal

pub returns : goal.returns
unfolding tagged_fits
returns c = rw (← c.block_fits.ensures, ← c.tag_at.ensures)
