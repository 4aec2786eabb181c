use Rattle.names.specs.CardSet.{several}
use Rattle.names.proofs.several.Goals as goal

pub returns : goal.returns
unfolding several
returns c = rw (← c.single.ensures)
