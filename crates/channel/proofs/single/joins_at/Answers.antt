use mathlib.Core.Path.{◌∙◌}
use Rattle.channel.specs.TakeSingle.{joins_at}
use Rattle.channel.proofs.Orders.{is_le_leb}
use Rattle.channel.proofs.single.joins_at.Goals as goal

pub returns : goal.returns
unfolding joins_at
returns c = rw (← c.taken_of.ensures) (c.le.ensures ∙ is_le_leb _ _)
