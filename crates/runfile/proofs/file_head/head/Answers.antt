use mathlib.Core.Path.{◌≡◌, sym, ◌∙◌}
use mathlib.Core.Bool.{true}
use native.Mathlib.Omega.{arith}
use borrow.Author.Tests.{le-leb}
use Rattle.names.specs.Placement.{placed}
use Rattle.runfile.specs.Head.{whole_length, head_sized, head_refusal}
use Rattle.runfile.proofs.HeadLaws.{in_range_lem, output_written}
use Rattle.runfile.proofs.file_head.head.Goals as goal

pub overflow_cast-result : goal.overflow_cast-result
unfolding whole_length
overflow_cast-result c =
    let a = c.args in
    let s : head_sized a.placement.now a.steps ≡ true = sym c.head_sized.ensures ∙ c.if-not-head_sized.false in
    let h = (in_range_lem a.placement.now a.steps).0 s in
    omega (arith, c.whole_length-length.ensures, h.0.0.3, h.0.0.5, h.1)

pub returns-clause-output : goal.returns-clause-output
unfolding head_refusal
returns-clause-output c =
    let a = c.args in
    let P = a.placement.now in
    let s : head_sized P a.steps ≡ true = sym c.head_sized.ensures ∙ c.if-not-head_sized.false in
    let p : placed P ≡ true = sym c.is_placed.ensures ∙ c.if-not-is_placed.false in
    let room = le-leb _ _ (rw c.whole_length-length.ensures at c.if-out-length.false) in
    let none : head_refusal P a.steps a.out.now ≡ 0 = rw (s, p, room) in
    c.put_head.ensures ∙ output_written P a.steps a.out.now none
