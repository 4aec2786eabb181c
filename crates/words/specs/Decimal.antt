-- A number in decimal, without leading zeros, as bytes (RULES 14.2).
use Rattle.std.specs.Prelude.{ℕ, zero, suc, ◌+◌, ◌/◌, ◌%◌, cond, List, [], ◌∷◌, ◌++◌, ltb}

-- at most so many digits, the last ones
unfoldable pub digits_of : ℕ → ℕ → List ℕ
digits_of zero n = []
digits_of (suc f) n = cond (ltb n 10) ((48 + n) ∷ []) (digits_of f (n / 10) ++ ((48 + n % 10) ∷ []))

-- 32 bits have at most ten
unfoldable pub decimal : ℕ → List ℕ
decimal n = digits_of 10 n
