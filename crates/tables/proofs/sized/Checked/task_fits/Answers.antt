use Rattle.tables.proofs.AskedFits.{task_fits_lem}
use Rattle.tables.proofs.sized.Checked.task_fits.Goals as goal

pub returns : goal.returns
returns c = let s = c.args.self.now in
    rw (c.home_in.ensures.0, c.asked_fits.ensures) (task_fits_lem s.registers.now s.channel.now s.limits c.args.task.0 c.task_place.result s.limits_read c.task_place.ensures.0)
