-- The operand of an update, stated apart from the definition that reads it.
use Prim.Native.Nat.{ℕ, ◌+◌, ◌*◌}
use mathlib.Core.Path.{◌≡◌, refl}
use mathlib.Core.List.{List, [], ◌∷◌}
use native.Mathlib.Omega.{arith}
use lib.ListN.{get_or}
use Rattle.names.specs.Placement.{Placement, placement}
use Rattle.names.specs.Update.{known_function}
use Rattle.claims.specs.Command.{request_update}
use Rattle.claims.specs.Steps.{good, names_task, names_card, names_register, names_chosen, names_function, operand, unnamed_zero, known, command_of, task_there, register_there, card_there, function_there, decode}

-- bytes 4 to 7, low byte first
pub operand_bytes : (a : List ℕ) → operand a ≡ get_or a 4 0 + 256 * get_or a 5 0 + 65536 * get_or a 6 0 + 16777216 * get_or a 7 0
unfolding operand
operand_bytes a = omega arith

-- one card with one register and one task on it
abbrev one : Placement
one = placement 1 (0 ∷ []) (1 ∷ []) (0 ∷ [])

-- operand bytes 1, 2, 3, 4 are 0x04030201
pub operand_computed : decode one (record { code = 2; argument = 0 ∷ 0 ∷ 2 ∷ 0 ∷ 1 ∷ 2 ∷ 3 ∷ 4 ∷ [] }) ≡ good (request_update 0 0 2 67305985)
unfolding names_task names_card names_register names_chosen names_function operand unnamed_zero known command_of task_there register_there card_there function_there known_function decode
operand_computed = refl
