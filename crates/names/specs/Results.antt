-- What a step's result says (RULES 4.2, 5.8, 9.3): it is taken, with 0, or with 100 where its message is held; or else the number refuses it.
use Rattle.std.specs.Prelude.{ℕ, Bool, cond, ◌||◌, ◌==◌}

-- the step is taken
unfoldable pub is_taken : ℕ → Bool
is_taken result = result == 0 || result == 100

-- the result of a step, from the number that refuses it, 0 where none does, and whether its message is held where none does
unfoldable pub result_from : ℕ → Bool → ℕ
result_from refusal held = cond (refusal == 0) (cond held 100 0) refusal
