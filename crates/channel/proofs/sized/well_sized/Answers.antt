use Rattle.std.proofs.Common.{rules}
use Rattle.lists.specs.Folds.{fold_each, all_each}
use Rattle.channel.specs.Sized.{card_fits, flight_fits, well_sized}
use Rattle.channel.proofs.sized.well_sized.Goals as goal

pub returns : goal.returns
unfolding well_sized
returns c = let ws = c.args.memory.now in
    rw (
      ← c.head_fits.ensures,
      ← c.cards.ensures.0,
      ← c.tasks.ensures.0,
      ← c.recent_all.ensures,
      ← fold_each (card_fits ws) c.fold.ensures.ran (λ k a b f h post. search rules),
      ← all_each (flight_fits ws) c.all.ensures.ran (λ k b f h post. search rules),
    )
