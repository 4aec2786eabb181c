-- Which step a code and the eight bytes of its argument are (RULES 3.3), among so many cards, registers and tasks: a command, or the first of
-- the refusals 10 to 15 (8.2, 8.5).
use Rattle.std.specs.Prelude.{ℕ, ◌+◌, ◌*◌, Bool, cond, ◌&&◌, List, Result, Ok, Err, eqb, ltb, get_or}
use Rattle.names.specs.declared.Card.{Card}
use Rattle.names.specs.declared.Task.{Task}
use Rattle.names.specs.declared.Register.{Register}
use Rattle.names.specs.declared.refusals.Refusal.{Refusal}
use Rattle.names.specs.declared.refusals.Refusal.TheVariants.{NoStep, NotZero, NoTask, NoRegister, NoCard, NoFunction}
use Rattle.names.specs.Update.{known_function}
use Rattle.commands.specs.declared.Command.{Command}
use Rattle.commands.specs.declared.Command.TheVariants.{RequestRead, RequestUpdate, Perform, SendRead, SendUpdate, Dispatch, TakeBroadcast, TakeSingle, Deliver, Report}

-- byte k
abbrev pub byte_of : List ℕ → ℕ → ℕ
byte_of a k = get_or a k 0

abbrev pub task_in : List ℕ → Task
task_in a = record { 0 = byte_of a 0 }

abbrev pub card_in : List ℕ → Card
card_in a = record { 0 = byte_of a 0 }

abbrev pub register_in : List ℕ → Register
register_in a = record { 0 = byte_of a 1 }

abbrev pub chosen_in : List ℕ → Card
chosen_in a = record { 0 = byte_of a 1 }

abbrev pub function_in : List ℕ → ℕ
function_in a = byte_of a 2

-- bytes 4 to 7, low byte first
unfoldable pub operand_in : List ℕ → ℕ
operand_in a = byte_of a 4 + 256 * (byte_of a 5 + 256 * (byte_of a 6 + 256 * byte_of a 7))

-- bytes 2 to 7 are zero
unfoldable pub rest_zero : List ℕ → Bool
rest_zero a = eqb (byte_of a 2) 0 && eqb (byte_of a 3) 0 && eqb (byte_of a 4) 0 && eqb (byte_of a 5) 0 && eqb (byte_of a 6) 0 && eqb (byte_of a 7) 0

-- the command, where nothing refuses it
unfoldable pub decided : Result Unit Refusal → Command → Result Command Refusal
decided (Ok _) c = Ok c
decided (Err r) c = Err r

-- 11: a byte that is not named is not zero; 12 task, 13 register, 14 card absent; 15: the function is not 1 to 5

-- byte 0 alone is named, one of so many: 11, then the refusal of what it names
unfoldable pub alone_judged : List ℕ → ℕ → Refusal → Result Unit Refusal
alone_judged a count absent = cond (eqb (byte_of a 1) 0) (cond (rest_zero a) (cond (ltb (byte_of a 0) count) (Ok tt) (Err absent)) (Err NotZero)) (Err NotZero)

-- codes 3, 5, 8, 10 name a task alone, codes 6, 7, 9 a card
abbrev pub task_judged : List ℕ → ℕ → Result Unit Refusal
task_judged a tasks = alone_judged a tasks NoTask

abbrev pub card_judged : List ℕ → ℕ → Result Unit Refusal
card_judged a cards = alone_judged a cards NoCard

-- a task and, in byte 1, one of so many: 11, then 12, then the refusal of what byte 1 names
unfoldable pub pair_judged : List ℕ → ℕ → ℕ → Refusal → Result Unit Refusal
pair_judged a tasks count absent = cond (rest_zero a) (cond (ltb (byte_of a 0) tasks) (cond (ltb (byte_of a 1) count) (Ok tt) (Err absent)) (Err NoTask)) (Err NotZero)

-- code 1 names a task and a register, code 4 a task and a card
abbrev pub read_judged : List ℕ → ℕ → ℕ → Result Unit Refusal
read_judged a registers tasks = pair_judged a tasks registers NoRegister

abbrev pub chosen_judged : List ℕ → ℕ → ℕ → Result Unit Refusal
chosen_judged a cards tasks = pair_judged a tasks cards NoCard

-- code 2 names a task, a register, a function and an operand
unfoldable pub update_judged : List ℕ → ℕ → ℕ → Result Unit Refusal
update_judged a registers tasks =
    cond (eqb (byte_of a 3) 0)
    (cond (ltb (byte_of a 0) tasks)
    (cond (ltb (byte_of a 1) registers)
    (cond (known_function (byte_of a 2)) (Ok tt) (Err NoFunction))
    (Err NoRegister))
    (Err NoTask))
    (Err NotZero)

-- 10: the code is not 1 to 10
unfoldable pub decode_of : ℕ → List ℕ → ℕ → ℕ → ℕ → Result Command Refusal
decode_of code a cards registers tasks =
    cond (eqb code 1) (decided (read_judged a registers tasks) (RequestRead (task_in a) (register_in a)))
    (cond (eqb code 2) (decided (update_judged a registers tasks) (RequestUpdate (task_in a) (register_in a) (function_in a) (operand_in a)))
    (cond (eqb code 3) (decided (task_judged a tasks) (Perform (task_in a)))
    (cond (eqb code 4) (decided (chosen_judged a cards tasks) (SendRead (task_in a) (chosen_in a)))
    (cond (eqb code 5) (decided (task_judged a tasks) (SendUpdate (task_in a)))
    (cond (eqb code 6) (decided (card_judged a cards) (Dispatch (card_in a)))
    (cond (eqb code 7) (decided (card_judged a cards) (TakeBroadcast (card_in a)))
    (cond (eqb code 8) (decided (task_judged a tasks) (TakeSingle (task_in a)))
    (cond (eqb code 9) (decided (card_judged a cards) (Deliver (card_in a)))
    (cond (eqb code 10) (decided (task_judged a tasks) (Report (task_in a)))
    (Err NoStep))))))))))
