use Rattle.std.proofs.Common.{length, get_or, sym, ◌∙◌, arith}
use Rattle.lists.specs.Every.{each_fails}
use Rattle.names.specs.Placement.{register_placed, registers_placed}
use Rattle.names.proofs.placement.registers_placed.Goals as goal

pub returns-then-not-register_placed : goal.returns-then-not-register_placed
unfolding registers_placed
returns-then-not-register_placed c = let cards = c.args.cards in let copies = c.args.copies.now in let primaries = c.args.primaries.now in
    sym (each_fails (length copies) (λ k. register_placed cards (get_or copies k 0) (get_or primaries k 0)) c.loop-x.x (omega arith)
    (rw (← c.byte.ensures.0) (sym c.register_placed.ensures ∙ c.if-not-register_placed.true)))
