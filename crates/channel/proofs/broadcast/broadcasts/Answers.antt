use Rattle.std.proofs.Common.{rules, arith}
use Rattle.lists.specs.Folds.{fold_counts, may_count}
use Rattle.names.specs.CardSet.{several}
use Rattle.names.specs.Letters.{letter_at}
use Rattle.channel.specs.Layout.{place_of}
use Rattle.channel.specs.TakeBroadcast.{broadcast_at, broadcasts_of}
use Rattle.channel.proofs.broadcast.broadcasts.Goals as goal

pub fold-requires-clause-callable : goal.fold-requires-clause-callable
fold-requires-clause-callable c = may_count (λ k a b f h post. search rules) (λ k a h l. (omega arith, omega arith))

pub returns : goal.returns
unfolding broadcasts_of broadcast_at
returns c =
    let r = fold_counts (λ k. several (letter_at c.args.memory.now (place_of c.args.memory.now c.args.part.card.0 k)).to) c.fold.ensures.ran (λ k a b f h post. search rules) in
    (rw (← c.own.ensures, ← c.min.ensures) r.0, omega (arith, r.1, c.min.ensures))
