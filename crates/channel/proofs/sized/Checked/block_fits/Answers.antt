use mathlib.Core.Path.{◌∙◌}
use Rattle.channel.proofs.LetterFits.{word_fits_at}
use Rattle.channel.proofs.sized.Checked.block_fits.Goals as goal

pub returns : goal.returns
returns c = c.word_fits.ensures ∙ rw c.args.self.now.limits_read (word_fits_at _ c.args.self.now.memory.now c.args.block.at)
