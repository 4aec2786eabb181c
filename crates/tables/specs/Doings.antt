-- What a task is doing (RULES 1.8; 000 Figure 5: status(c)), in two words (11.12): kind, register and function in one, from its lowest digit on
-- and below the task's home; the value in the other. A kind past the last counts as the last (11.9).
use Rattle.std.specs.Prelude.{ℕ, ◌+◌, ◌*◌, ◌/◌, ◌%◌, ◌<◌, cond, List, eqb, get_or, set}
use Rattle.names.specs.declared.Register.{Register}
use Rattle.tables.specs.declared.Doing.{Doing}
use Rattle.tables.specs.declared.Doing.TheVariants.{Quiet, AskingRead, AskingUpdate, Waiting, DoneRead, DoneUpdate}
use Rattle.tables.specs.Layout.{task_word, value_word, home_of}

unfoldable pub doing_of : ℕ → Register → ℕ → ℕ → Doing
doing_of k x f v =
    cond (eqb k 0) Quiet
    (cond (eqb k 1) (AskingRead x)
    (cond (eqb k 2) (AskingUpdate x f v)
    (cond (eqb k 3) Waiting
    (cond (eqb k 4) (DoneRead v) (DoneUpdate v)))))

unfoldable pub doing_kind : Doing → ℕ
doing_kind Quiet = 0
doing_kind (AskingRead x) = 1
doing_kind (AskingUpdate x f w) = 2
doing_kind Waiting = 3
doing_kind (DoneRead v) = 4
doing_kind (DoneUpdate v) = 5

unfoldable pub doing_register : Doing → ℕ
doing_register Quiet = 0
doing_register (AskingRead x) = x.0
doing_register (AskingUpdate x f w) = x.0
doing_register Waiting = 0
doing_register (DoneRead v) = 0
doing_register (DoneUpdate v) = 0

unfoldable pub doing_function : Doing → ℕ
doing_function Quiet = 0
doing_function (AskingRead x) = 0
doing_function (AskingUpdate x f w) = f
doing_function Waiting = 0
doing_function (DoneRead v) = 0
doing_function (DoneUpdate v) = 0

unfoldable pub doing_value : Doing → ℕ
doing_value Quiet = 0
doing_value (AskingRead x) = 0
doing_value (AskingUpdate x f w) = w
doing_value Waiting = 0
doing_value (DoneRead v) = v
doing_value (DoneUpdate v) = v

-- the fields of a task's first word
unfoldable pub doing_kind_in : ℕ → ℕ
doing_kind_in w = w % 8

unfoldable pub asked_in : ℕ → ℕ
asked_in w = w / 8 % 32

unfoldable pub doing_function_in : ℕ → ℕ
doing_function_in w = w / 256 % 8

-- the word of a task with home h that does d; a field past its room is cut to it, which nothing that a task asks for needs (DoingPacks)
unfoldable pub task_word_of : ℕ → Doing → ℕ
task_word_of h d = doing_kind d % 8 + doing_register d % 32 * 8 + doing_function d % 8 * 256 + h * 2048

-- what a task asks for has room in its word
pub record DoingPacks (d : Doing) : Type 0 where
  pub register : doing_register d < 32
  pub function : doing_function d < 8

-- what a task with this first word and this value is doing
unfoldable pub doing_in : ℕ → ℕ → Doing
doing_in w v = doing_of (doing_kind_in w) (record { 0 = asked_in w }) (doing_function_in w) v

-- what task t is doing
abbrev pub doing_at : List ℕ → ℕ → Doing
doing_at ws t = doing_in (get_or ws (task_word t) 0) (get_or ws (value_word t) 0)

-- task t now does d
unfoldable pub doing_stored : List ℕ → ℕ → Doing → List ℕ
doing_stored ws t d = set (set ws (task_word t) (task_word_of (home_of ws t) d)) (value_word t) (doing_value d)
