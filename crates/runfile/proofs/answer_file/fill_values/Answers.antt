use Prim.Native.Nat.{◌*◌}
use mathlib.Core.Path.{◌≡◌, refl, sym, ap, ◌∙◌}
use native.Mathlib.Omega.{arith}
use lib.ListN.{length, get_or, take}
use lib.Seq.{sets, take-length}
use Rattle.runfile.proofs.WriteLaws.{values_more}
use Rattle.runfile.specs.AnswerFile.{word_stored, value_bytes, values_filled}
use Rattle.runfile.proofs.answer_file.fill_values.Goals as goal

pub loop-k-init : goal.loop-k-init
loop-k-init c = (refl, refl)

pub fill_value-requires : goal.fill_value-requires
fill_value-requires c = (omega arith, omega (arith, c.loop-k.invariant.0))

pub loop-k-preserved : goal.loop-k-preserved
loop-k-preserved c = let l = c.loop-k in
    let v = c.args.values.now in
    (c.fill_value.auto.values ∙ l.invariant.0, c.fill_value.ensures ∙ ap (λ o. word_stored (4 * l.k) (get_or v l.k 0) o) l.invariant.1 ∙ sym (values_more c.args.part.now v l.k (omega arith)))

pub shape_of-part : goal.shape_of-part
shape_of-part c = c.loop-k.invariant.0

pub returns : goal.returns
unfolding values_filled
returns c = let l = c.loop-k in
    let v = c.args.values.now in
    let o = c.args.part.now in
    let e : l.k ≡ length v = omega arith in
    l.invariant.1 ∙ ap (λ m. sets o 0 (value_bytes (take m v))) e ∙ ap (λ m. sets o 0 (value_bytes m)) (take-length v)
