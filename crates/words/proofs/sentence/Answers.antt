use native.Mathlib.Omega.{arith}
use lib.ListN.{length-append}
use Rattle.words.proofs.DecimalLaws.{decimal_short}
use Rattle.words.proofs.PhraseLaws.{short}
use Rattle.words.proofs.sentence.Goals as goal

pub push-requires-3 : goal.push-requires-3
push-requires-3 c =
    simp (c.push-2.ensures, c.push_decimal.ensures, c.push.ensures, c.new-text.ensures, c.phrase-phrase.ensures, length-append)
    (omega (arith, decimal_short c.args.step, short c.args.refusal))
