use Rattle.std.proofs.Common.{◌≡◌, sym, ◌∙◌, arith}
use Rattle.lists.specs.Every.{each_zero, each_more, each_fails}
use Rattle.channel.specs.Dispatch.{near, near_at}
use Rattle.channel.proofs.send.near.Goals as goal

pub loop-i-init : goal.loop-i-init
loop-i-init c = each_zero (near_at c.args.memory.now)

pub returns-then-not-near_at : goal.returns-then-not-near_at
unfolding near
returns-then-not-near_at c = rw (← c.cards-i-end.ensures.0) (sym (each_fails _ _ c.loop-i.i (omega arith) (sym c.near_at.ensures ∙ c.if-not-near_at.true)))

pub loop-i-preserved : goal.loop-i-preserved
loop-i-preserved c = each_more _ _ c.loop-i.invariant (sym c.near_at.ensures ∙ c.if-not-near_at.false)

pub returns : goal.returns
unfolding near
returns c = let e : c.loop-i.i ≡ c.cards-i-end.result = omega arith in rw (← c.cards-i-end.ensures.0, ← e) (sym c.loop-i.invariant)
