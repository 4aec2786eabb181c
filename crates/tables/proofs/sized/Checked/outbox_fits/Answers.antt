use Rattle.std.proofs.Common.{rules}
use Rattle.lists.specs.Folds.{fold_each}
use Rattle.tables.specs.Sized.{out_fits, outbox_fits}
use Rattle.tables.proofs.sized.Checked.outbox_fits.Goals as goal

pub returns : goal.returns
unfolding outbox_fits
returns c = let s = c.args.self.now in
    rw (
      fold_each (out_fits s.registers.now s.channel.now c.args.card.0) c.fold.ensures.ran (λ k a b f h post. search rules),
      c.min.ensures,
      c.count-count.ensures,
      ← c.card_place.ensures.0,
    )
