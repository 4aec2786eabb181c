use Rattle.names.specs.Letters.{kind_in, function_in, letter_of}
use Rattle.channel.specs.Letters.{addressed, fields_fit, fits, limits_of}
use Rattle.channel.proofs.LetterFits.{function_known}
use Rattle.channel.proofs.letters.fits.Goals as goal

pub returns : goal.returns
unfolding fits addressed letter_of fields_fit limits_of
returns c = rw (function_known (kind_in c.args.packet.word) (function_in c.args.packet.word) c.args.packet.value) (simp (c.limits_of.ensures, c.fields_fit.ensures))
