use Rattle.std.proofs.Common.{◌≡◌, ◌%◌, sym, ◌∙◌, arith}
use Rattle.names.proofs.CardSets.{single_low, none_single, single_bits}
use Rattle.names.proofs.single.Goals as goal

pub returns-then-cards-ne0 : goal.returns-then-cards-ne0
returns-then-cards-ne0 c = single_bits _ (omega arith) (omega arith) ∙ single_low _

pub returns-else-cards-ne0 : goal.returns-else-cards-ne0
returns-else-cards-ne0 c = let e : c.args.set % 256 ≡ 0 = omega arith in
    rw e (sym (sym (single_low _) ∙ rw e none_single))
