-- What the order of two numbers, as `<=` of a struct of one gives it, says of the numbers.
use Rattle.std.proofs.Common.{ℕ, ◌≡◌, Bool, not, leb, ltb, is_le, nat_cmp, arith}

pub is_le_leb : (a b : ℕ) → is_le (nat_cmp a b) ≡ leb a b
is_le_leb a b = grind arith

pub is_le_ltb : (a b : ℕ) (t : Bool) → is_le (nat_cmp a b) ≡ t → ltb b a ≡ not t
is_le_ltb a b t e = grind (arith, e)
