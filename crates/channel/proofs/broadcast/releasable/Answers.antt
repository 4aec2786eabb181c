use Rattle.std.proofs.Common.{rules, arith, eqb}
use Rattle.lists.specs.Folds.{fold_counts, may_count}
use Rattle.names.specs.Letters.{tag_at}
use Rattle.channel.specs.Layout.{held_block}
use Rattle.channel.specs.TakeBroadcast.{ready_at, releasable_of}
use Rattle.channel.proofs.broadcast.releasable.Goals as goal

pub fold-requires-clause-callable : goal.fold-requires-clause-callable
fold-requires-clause-callable c = may_count (λ k a b f h post. search rules) (λ k a h l. (omega arith, omega arith))

pub returns : goal.returns
unfolding releasable_of ready_at
returns c =
    let r = fold_counts (λ k. eqb (tag_at c.args.memory.now (held_block c.args.part.card.0 k)) c.args.n.0) c.fold.ensures.ran (λ k a b f h post. search rules) in
    (rw (← c.own.ensures, ← c.min.ensures) r.0, omega (arith, r.1, c.min.ensures))
