use Rattle.names.proofs.Picks.{picks_updated}
use Rattle.names.specs.Update.{larger_of}
use Rattle.std.proofs.Common.{rules}
use Rattle.names.proofs.update.Goals as goal

pub returns : goal.returns
unfolding larger_of
returns c =
    rw (
      c.picked-6.ensures,
      c.known_function.ensures,
      c.picked-5.ensures,
      c.picked-4.ensures,
      c.max.ensures,
      c.picked-3.ensures,
      c.picked-2.ensures,
      c.picked.ensures,
      c.sum-all.ensures,
    )
    (picks_updated _ _ (search rules) (search rules) _)
