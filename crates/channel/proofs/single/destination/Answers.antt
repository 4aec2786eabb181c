use Prim.Native.Nat.{ℕ, ◌<◌, ◌+◌, ◌*◌}
use mathlib.Core.Bool.{true}
use mathlib.Core.Path.{◌≡◌, subst, sym}
use native.Mathlib.Omega.{arith}
use borrow.Author.Tests.{eqb-true}
use Rattle.lists.specs.Loops.{total, turns}
use Rattle.names.specs.CardSet.{bit_of, size_of, single, sole_of}
use Rattle.channel.proofs.single.destination.Goals as goal

below : (a b c d e f g h : ℕ) → 0 + a + b + c + d + e + f + g + h ≡ 1 → 0 + 0 * a + 1 * b + 2 * c + 3 * d + 4 * e + 5 * f + 6 * g + 7 * h < 8
below a b c d e f g h s = omega arith

-- the one destination is a card
sole_below : (to i : ℕ) → i ≡ sole_of to → single to ≡ true → i < 8
unfolding single sole_of size_of total turns
sole_below to i e h =
    let b = below (bit_of to 0) (bit_of to 1) (bit_of to 2) (bit_of to 3) (bit_of to 4) (bit_of to 5) (bit_of to 6) (bit_of to 7) (eqb-true _ _ h) in
    subst (λ k. k < 8) (sym e) b

pub invariant_of-result : goal.invariant_of-result
invariant_of-result c = record { below = sole_below _ _ (rw c.requires at c.sole.ensures) c.requires }
