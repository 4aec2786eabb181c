use Rattle.names.specs.Letters.{letter_of}
use Rattle.channel.proofs.letters.to_at.Goals as goal

pub returns : goal.returns
unfolding letter_of
returns c = c.to_in.ensures
