use Rattle.std.proofs.Common.{length, get_or, sym, arith, le-ltb}
use Rattle.lists.specs.Every.{each_fails}
use Rattle.names.specs.Placement.{home_placed, homes_placed}
use Rattle.names.proofs.placement.homes_placed.Goals as goal

pub returns-then-cards-home : goal.returns-then-cards-home
unfolding homes_placed home_placed
returns-then-cards-home c = let cards = c.args.cards in let homes = c.args.homes.now in
    sym (each_fails (length homes) (λ k. home_placed cards (get_or homes k 0)) c.loop-home.home-index (omega arith) (le-ltb _ _ c.if-cards-home.true))
