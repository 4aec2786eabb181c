-- How the code fills an argument: the fields of a step as four numbers, 0 where the code names none.
use Rattle.std.specs.Prelude.{ℕ, List, ◌∷◌}
use Rattle.runfile.specs.AnswerFile.{four_bytes}

-- byte 0, byte 1, byte 2, and the operand (RULES 3.3)
unfoldable pub argument_of : ℕ → ℕ → ℕ → ℕ → List ℕ
argument_of first second function operand = first ∷ second ∷ function ∷ 0 ∷ four_bytes operand
