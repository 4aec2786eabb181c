use Rattle.std.proofs.Common.{rules}
use Rattle.lists.specs.Folds.{fold_each}
use Rattle.channel.specs.Sized.{card_fits, inbox_fits, held_fits}
use Rattle.channel.proofs.sized.Checked.card_fits.Goals as goal

pub returns : goal.returns
unfolding card_fits inbox_fits held_fits
returns c = let ws = c.args.self.now.memory.now in let i = c.args.part.card.0 in
    rw (
      ← c.counts_fit.ensures,
      ← c.own.ensures,
      ← c.own-2.ensures,
      ← c.min-inbox.ensures,
      ← c.min-held.ensures,
      ← fold_each (inbox_fits ws i) c.fold.ensures.ran (λ k a b f h post. search rules),
      ← fold_each (held_fits ws i) c.fold-2.ensures.ran (λ k a b f h post. search rules),
    )
