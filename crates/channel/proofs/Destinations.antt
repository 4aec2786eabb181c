-- The only card of a set that has one.
use Prim.Native.Nat.{ℕ, ◌<◌, ◌≤◌, ◌/◌, ◌^◌}
use mathlib.Core.Path.{◌≡◌, refl}
use mathlib.Core.Bool.{Bool, true, cond}
use native.Mathlib.Nat.{pow-le-pow_right, div-eq_of_lt}
use native.Mathlib.Decide.{dec_lt}
use native.Mathlib.Omega.{arith}
use borrow.Author.Tests.{leb-true}
use lib.Dec.{leb}
use Rattle.lists.specs.Tests.{clash}
use Rattle.lists.specs.Loops.{turns, total}
use Rattle.lists.specs.Every.{each, each_at}
use Rattle.names.specs.CardSet.{member_of, size_of, single, sole_of}

-- tried on each set of the cards 0 to 7
right : ℕ → Bool
right to = cond (single to) (leb (2 ^ sole_of to) to) true

all_right : each 256 right ≡ true
unfolding each right single sole_of size_of total turns
all_right = refl

module _ (to : ℕ) (small : to < 256) (one : single to ≡ true) where
  sole_right : leb (2 ^ sole_of to) to ≡ true
  unfolding right
  sole_right = rw one at (each_at 256 right all_right to small)

  -- it is present, if only present cards are in the set
  pub sole_present : (n : ℕ) → to < 2 ^ n → sole_of to < n
  sole_present n h = go (dec_lt (sole_of to) n)
    where
      go : Dec (sole_of to < n) → sole_of to < n
      go (yes p) = p
      go (no q) =
          let a = leb-true (2 ^ sole_of to) to sole_right in
          let b : 2 ^ n ≤ 2 ^ sole_of to = pow-le-pow_right (omega arith) (omega arith) in
          absurd (omega arith)

-- a card of a set of present cards is present
pub member_present : (to n j : ℕ) → to < 2 ^ n → member_of to j ≡ true → j < n
unfolding member_of
member_present to n j h e = go (dec_lt j n)
  where
    go : Dec (j < n) → j < n
    go (yes p) = p
    go (no q) =
        let b : 2 ^ n ≤ 2 ^ j = pow-le-pow_right (omega arith) (omega arith) in
        let z : to / (2 ^ j) ≡ 0 = div-eq_of_lt (omega arith) in
        absurd (clash (rw z at e) refl)
