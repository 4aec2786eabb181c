use mathlib.Core.Path.{ap, sym, ◌∙◌}
use mathlib.Core.List.{[], ◌∷◌, ◌++◌, append_assoc}
use Prim.Native.Nat.{◌+◌, ◌/◌, ◌%◌}
use native.Mathlib.Omega.{arith}
use lib.ListN.{length, length-append}
use Rattle.words.specs.Decimal.{decimal}
use Rattle.words.proofs.DecimalLaws.{decimal_more, decimal_longer}
use Rattle.words.proofs.text.Text.+push_decimal.Goals as goal

pub push-requires-else-n-lt10 : goal.push-requires-else-n-lt10
push-requires-else-n-lt10 t c =
    let e = decimal_longer c.args.n c.ranges.n.fits c.if-n-lt10.false in
    let s = ap length c.push_decimal.ensures in
    let l = length-append c.args.self.now (decimal (c.args.n / 10)) in
    omega arith

pub returns-else-n-lt10 : goal.returns-else-n-lt10
returns-else-n-lt10 t c =
    let e = decimal_more c.args.n c.ranges.n.fits c.if-n-lt10.false in
    c.push-else-n-lt10.ensures
    ∙ ap (λ l. l ++ ((48 + c.args.n % 10) ∷ [])) c.push_decimal.ensures
    ∙ append_assoc c.args.self.now (decimal (c.args.n / 10)) ((48 + c.args.n % 10) ∷ [])
    ∙ ap (λ l. c.args.self.now ++ l) (sym e)
