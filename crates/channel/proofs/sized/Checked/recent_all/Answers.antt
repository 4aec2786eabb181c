use Rattle.std.proofs.Common.{rules}
use Rattle.lists.specs.Folds.{fold_each}
use Rattle.channel.specs.Sized.{recent_fits}
use Rattle.channel.proofs.sized.Checked.recent_all.Goals as goal

pub returns : goal.returns
unfolding recent_fits
returns c = let ws = c.args.self.now.memory.now in
    rw (← c.made-last.ensures, ← c.min.ensures, ← fold_each (recent_fits ws) c.fold.ensures.ran (λ k a b f h post. rw (← c.made-last.ensures, ← c.first_recent-first.ensures.0) (search rules)))
