use Prim.Native.Nat.{◌+◌}
use mathlib.Core.Path.{◌≡◌, ap, ◌∙◌}
use mathlib.Core.List.{◌++◌, append-nil}
use native.Mathlib.Omega.{arith}
use borrow.Author.Tests.{le-ltb, eq-eqb}
use lib.ListN.{length, take, drop}
use lib.Seq.{sets}
use Rattle.lists.specs.Parts.{tail_part, tail_rest}
use Rattle.runfile.specs.AnswerFile.{headed, values_filled, write_refusal, written}
use Rattle.runfile.proofs.WriteLaws.{writes_answered}
use Rattle.runfile.proofs.answer_file.write.Goals as goal

-- the stores are those of `writes_answered`: the lent part goes back to its place in the output
pub returns : goal.returns
unfolding write_refusal written
returns c =
    let args = c.args in
    let r = args.results.now in
    let v = args.values.now in
    let n = length r in
    let ys = c.put_table.new.out in
    let y : ys ≡ sets (headed n args.out.now) 2 r = c.put_table.ensures.output ∙ ap (λ o. sets o 2 r) c.put_count.ensures in
    let e : c.fill_values.new.part ≡ values_filled v (drop (2 + n) ys) = rw (← tail_part (2 + n) ys) c.fill_values.ensures in
    let few = le-ltb 4096 n (omega arith) in
    let even = eq-eqb (length v) n (omega arith) in
    let fits = le-ltb _ _ c.if-out-n.false in record {
      refusal = rw (few, even, fits);
      output = rw (few, even, fits, e, tail_rest (2 + n) ys, append-nil (values_filled v (drop (2 + n) ys)))
          (ap (λ o. take (2 + n) o ++ values_filled v (drop (2 + n) o)) y ∙ writes_answered r v args.out.now (omega arith) (omega arith));
    }
