-- What an update makes of a register's value (RULES 2.1 to 2.6).
use Rattle.std.specs.Prelude.{ℕ, ◌+◌, ◌%◌, min, max, Bool, cond, ◌&&◌, ◌==◌, bit_or, nat_le}

-- function 2: v + w, or 4,294,967,295 where that is smaller (RULES 2.2); a tally counts so too (9.2)
unfoldable pub raised : ℕ → ℕ → ℕ
raised v w = min (v + w) 4294967295

-- function 3
unfoldable pub larger_of : ℕ → ℕ → ℕ
larger_of v w = max v w

-- function 5: v + w modulo 4,294,967,296 (RULES 2.5)
unfoldable pub sum_of : ℕ → ℕ → ℕ
sum_of v w = (v + w) % 4294967296

-- function f with operand w on value v; a function that is not 1 to 5 leaves the value (RULES 2.6)
unfoldable pub updated : ℕ → ℕ → ℕ → ℕ
updated f w v =
    cond (f == 1) w
    (cond (f == 2) (raised v w)
    (cond (f == 3) (larger_of v w)
    (cond (f == 4) (bit_or v w)
    (cond (f == 5) (sum_of v w)
    v))))

-- the functions that an update may have (RULES 2.6): any other is refused with 15, and in a state with 6
unfoldable pub known_function : ℕ → Bool
known_function f = nat_le 1 f && nat_le f 5
