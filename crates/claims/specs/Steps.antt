-- A step as it is given, a code and the eight bytes of its argument (RULES 3.3), and what it is: a command, or the first of the refusals 10 to
-- 15 (8.2, 8.5).
use Rattle.std.specs.Prelude.{ℕ, ◌+◌, ◌*◌, Bool, true, false, cond, ◌&&◌, ◌||◌, not, List, [], ◌∷◌, eqb, leb, ltb, get_or}
pub use Rattle.names.specs.Step.{RawStep}
use Rattle.names.specs.Placement.{Placement, tasks, registers}
use Rattle.names.specs.Update.{known_function}
use Rattle.claims.specs.Command.{Command, request_read, request_update, perform, send_read, send_update, dispatch, take_broadcast, take_single, deliver, report}

pub data Decoded : Type 0 where
  bad : ℕ → Decoded  -- refused, with this number
  good : Command → Decoded

-- a test that must pass, the refusal if it does not, and what comes after
abbrev pub need : Bool → ℕ → Decoded → Decoded
need true n d = d
need false n d = bad n

-- the code is one of these
abbrev pub among : ℕ → List ℕ → Bool
among n [] = false
among n (k ∷ l) = eqb n k || among n l

-- the bytes at these places are zero
abbrev pub zeros : List ℕ → List ℕ → Bool
zeros a [] = true
zeros a (k ∷ l) = eqb (get_or a k 0) 0 && zeros a l

-- byte 0: the task, or the card
unfoldable pub names_task : ℕ → Bool
names_task n = among n (1 ∷ 2 ∷ 3 ∷ 4 ∷ 5 ∷ 8 ∷ 10 ∷ [])

unfoldable pub names_card : ℕ → Bool
names_card n = among n (6 ∷ 7 ∷ 9 ∷ [])

-- byte 1: the register, or the chosen card
unfoldable pub names_register : ℕ → Bool
names_register n = among n (1 ∷ 2 ∷ [])

unfoldable pub names_chosen : ℕ → Bool
names_chosen n = eqb n 4

-- byte 2: the function; bytes 4 to 7: the operand, low byte first
unfoldable pub names_function : ℕ → Bool
names_function n = eqb n 2

unfoldable pub operand : List ℕ → ℕ
operand a = get_or a 4 0 + 256 * (get_or a 5 0 + 256 * (get_or a 6 0 + 256 * get_or a 7 0))

-- bytes that the code does not name are zero, byte 3 always (RULES 3.4)
unfoldable pub unnamed_zero : ℕ → List ℕ → Bool
unnamed_zero n a =
    (names_register n || names_chosen n || eqb (get_or a 1 0) 0)
    && (names_function n || zeros a (2 ∷ 4 ∷ 5 ∷ 6 ∷ 7 ∷ []))
    && eqb (get_or a 3 0) 0

-- the codes 1 to 10
unfoldable pub known : ℕ → Bool
known n = leb 1 n && leb n 10

-- the command of a code from 1 to 10
unfoldable pub command_of : ℕ → List ℕ → Command
command_of n a =
    cond (eqb n 1) (request_read (get_or a 0 0) (get_or a 1 0))
    (cond (eqb n 2) (request_update (get_or a 0 0) (get_or a 1 0) (get_or a 2 0) (operand a))
    (cond (eqb n 3) (perform (get_or a 0 0))
    (cond (eqb n 4) (send_read (get_or a 0 0) (get_or a 1 0))
    (cond (eqb n 5) (send_update (get_or a 0 0))
    (cond (eqb n 6) (dispatch (get_or a 0 0))
    (cond (eqb n 7) (take_broadcast (get_or a 0 0))
    (cond (eqb n 8) (take_single (get_or a 0 0))
    (cond (eqb n 9) (deliver (get_or a 0 0))
    (report (get_or a 0 0))))))))))

module _ (P : Placement) where
  -- 12 task, 13 register, 14 card absent (RULES 1.3); 15: the function is not 1 to 5 (2.6)
  unfoldable pub task_there : RawStep → Bool
  task_there s = not (names_task s.code) || ltb (get_or s.argument 0 0) (tasks P)

  unfoldable pub register_there : RawStep → Bool
  register_there s = not (names_register s.code) || ltb (get_or s.argument 1 0) (registers P)

  unfoldable pub card_there : RawStep → Bool
  card_there s =
      (not (names_card s.code) || ltb (get_or s.argument 0 0) P.cards)
      && (not (names_chosen s.code) || ltb (get_or s.argument 1 0) P.cards)

  unfoldable pub function_there : RawStep → Bool
  function_there s = not (names_function s.code) || known_function (get_or s.argument 2 0)

  -- the lowest of 10 to 15 that applies
  unfoldable pub decode : RawStep → Decoded
  decode s =
      need (known s.code) 10
      (need (unnamed_zero s.code s.argument) 11
      (need (task_there s) 12
      (need (register_there s) 13
      (need (card_there s) 14
      (need (function_there s) 15
      (good (command_of s.code s.argument)))))))
