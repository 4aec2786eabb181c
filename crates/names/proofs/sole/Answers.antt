use Rattle.std.proofs.Common.{sym, ◌∙◌, arith}
use Rattle.names.proofs.CardSets.{single_low, sole_low, sole_few, sole_more}
use Rattle.names.proofs.sole.Goals as goal

pub returns-then-not-single : goal.returns-then-not-single
returns-then-not-single c = let z = sym c.single.ensures ∙ c.if-not-single.true in simp z

pub returns-then-cards-lt16 : goal.returns-then-cards-lt16
returns-then-cards-lt16 c =
    let z = sym c.single.ensures ∙ c.if-not-single.false in
    let s = sym (sole_few _ (omega arith) (single_low _ ∙ z) c.if-cards-lt16.true) ∙ sole_low _ in simp (z, s)

pub returns : goal.returns
returns c =
    let z = sym c.single.ensures ∙ c.if-not-single.false in
    let s = sym (sole_more _ (omega arith) (single_low _ ∙ z) c.if-cards-lt16.false) ∙ sole_low _ in simp (z, s)
