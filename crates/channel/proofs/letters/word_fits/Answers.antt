use Rattle.std.proofs.Math.Bool.{and_assoc}
use Rattle.channel.specs.Letters.{fields_fit, word_fits}
use Rattle.channel.proofs.letters.word_fits.Goals as goal

pub returns : goal.returns
unfolding fields_fit word_fits
returns c = simp (c.kind_in-kind.ensures, c.fields_fit.ensures, and_assoc)
