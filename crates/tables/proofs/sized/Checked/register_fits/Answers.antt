use Rattle.std.proofs.Common.{◌∙◌}
use Rattle.tables.specs.Layout.{holders_in, primary_in}
use Rattle.channel.proofs.Offered.{limits_are}
use Rattle.tables.specs.Sized.{register_fits}
use Rattle.tables.proofs.sized.Checked.register_fits.Goals as goal

pub returns : goal.returns
unfolding register_fits holders_in primary_in
returns c = rw (c.args.self.now.limits_read ∙ limits_are _, ← c.register_place.ensures.0)
