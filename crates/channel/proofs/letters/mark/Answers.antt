use Rattle.names.specs.Letters.{marked}
use Rattle.channel.proofs.letters.mark.Goals as goal

pub returns : goal.returns
unfolding marked
returns c = rw (← c.store.ensures)
