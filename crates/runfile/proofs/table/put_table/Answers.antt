use Prim.Native.Nat.{◌+◌}
use mathlib.Core.Path.{◌≡◌, refl, sym, ap, ◌∙◌}
use native.Mathlib.Omega.{arith}
use lib.ListN.{length, get_or, set, take}
use lib.Seq.{sets, take-length}
use Rattle.lists.specs.Parts.{sets_more}
use Rattle.runfile.proofs.table.put_table.Goals as goal

pub loop-k-init : goal.loop-k-init
loop-k-init c = refl

pub loop-k-preserved : goal.loop-k-preserved
loop-k-preserved c = let l = c.loop-k in
    let args = c.args in
    let r = args.table.now in
    ap (λ o. set o (args.at + l.k) (get_or r l.k 0)) l.invariant ∙ sym (sets_more args.out.now args.at r l.k 0 (omega arith))

pub returns : goal.returns
returns c = let l = c.loop-k in
    let args = c.args in
    let r = args.table.now in
    let o = args.out.now in
    let e : l.k ≡ length r = omega arith in
    record {
      place = refl;
      output = l.invariant ∙ ap (λ m. sets o args.at (take m r)) e ∙ ap (sets o args.at) (take-length r);
    }
