use mathlib.Core.Path.{sym, ◌∙◌}
use mathlib.Core.List.{[], ◌∷◌}
use native.Mathlib.Omega.{arith}
use lib.ListN.{length, length-append}
use Rattle.std.proofs.lemmas.Slice.Zip.{zip_turn, zip_end}
use Rattle.lists.specs.Listings.{listing}
use Rattle.totals.proofs.CardSums.{sums_none, sums_more, sums_named, sums_taken}
use Rattle.totals.proofs.card_sums.Goals as goal

pub loop-card-init : goal.loop-card-init
loop-card-init c = sym sums_none

pub loop-card-preserved : goal.loop-card-preserved
loop-card-preserved c =
    let cs = c.args.cards.now in
    let ws = c.args.operands.now in
    let seen = c.loop-card.yielded in
    let turn = zip_turn cs ws seen c.into_iter-card-iterator.result c.loop-card.card-iterator c.next.new.self c.next.result (cc) (cc) c.loop-card.yielded_by _ c.in-Some.is c.next.ensures.steps in
    let card = turn.2 0 in
    let operand = turn.3 0 in
    let more = sums_more cs ws (length seen) turn.0 turn.1 in
    let longer = length-append seen ((c.in-Some.field-0-0, c.in-Some.field-0-1) ∷ []) in
    cc

pub returns : goal.returns
unfolding listing
returns c =
    let cs = c.args.cards.now in
    let ws = c.args.operands.now in
    let seen = c.loop-card.yielded in
    let end = zip_end cs ws seen c.into_iter-card-iterator.result c.loop-card.card-iterator c.next.new.self c.next.result (cc) (cc) c.loop-card.yielded_by c.in-None.is c.next.ensures.steps in
    sums_named c.loop-card.sums _ _ c.loop-card.invariant ∙ sums_taken cs ws (length seen) (omega arith)
