use mathlib.Core.Path.{◌≡◌, refl, sym, ◌∙◌}
use mathlib.Core.List.{◌++◌, ◌∷◌, []}
use Prim.Native.Nat.{◌+◌}
use native.Mathlib.Numerals.{add-one}
use native.Mathlib.Omega.{arith}
use lib.ListN.{take, set, length-set}
use lib.Seq.{take-suc-set, take_all}
use Rattle.lists.specs.Listings.{listing_zero, listing_snoc}
use Rattle.runfile.specs.RunFile.{argument_in}
use Rattle.runfile.proofs.argument.Goals as goal

pub loop-j-init : goal.loop-j-init
loop-j-init c = (refl, sym (listing_zero _))

pub loop-j-preserved : goal.loop-j-preserved
loop-j-preserved c = let h = c.loop-j in
    let e : take (h.j + 1) (set h.place-items h.j c.byte.result) ≡ take h.j h.place-items ++ (c.byte.result ∷ []) =
    rw (add-one h.j) (take-suc-set h.place-items h.j c.byte.result (omega arith)) in
    (simp length-set h.invariant.0, e ∙ rw (h.invariant.1, c.byte.ensures.0, add-one h.j) (sym (listing_snoc _ h.j)))

pub returns : goal.returns
unfolding argument_in
returns c = let h = c.loop-j in let e : h.j ≡ 8 = omega arith in
    sym (take_all 8 h.place-items (omega arith)) ∙ simp (c.part-arguments.ensures, c.arguments_at.ensures.0, c.steps.ensures.0) at (rw e at h.invariant.1)
