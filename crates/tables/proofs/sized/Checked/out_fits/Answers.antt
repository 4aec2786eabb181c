use Rattle.std.proofs.Common.{◌∙◌}
use Rattle.channel.proofs.Offered.{word_fits_at}
use Rattle.tables.specs.Outbox.{out_place}
use Rattle.tables.specs.Sized.{out_fits}
use Rattle.tables.proofs.sized.Checked.out_fits.Goals as goal

pub returns : goal.returns
unfolding out_fits
returns c = let s = c.args.self.now in c.word_fits.ensures ∙ rw (s.limits_read, c.card_place-i.ensures.0) (word_fits_at s.channel.now s.registers.now (out_place s.registers.now c.args.card.0 c.args.k))
