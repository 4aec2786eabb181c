use Rattle.channel.specs.Sized.{counts_fit}
use Rattle.channel.proofs.sized.counts_fit.Goals as goal

pub returns : goal.returns
unfolding counts_fit
returns c = rw (← c.taken_of-taken.ensures, ← c.made-last.ensures, ← c.own.ensures, ← c.own-2.ensures, ← c.own-3.ensures)
