-- A letter, that is a message (RULES 1.7) with its destinations, as it lies in memory (RULES 11.12): a packet of two words. The first has, from
-- its lowest digit on, the kind, the task, the register, the function and the destinations; the second has the operand or value. Kinds (RULES
-- 11.13): 1 read, 2 update, 3 reply to a read, 4 reply to an update; 0 none. Clauses over a body go by 000 Figure 5's order instead. A message
-- held or in flight has a third word, its tag. All that is said of a letter in memory goes by this page.
use Rattle.std.specs.Prelude.{ℕ, ◌+◌, ◌*◌, ◌/◌, ◌%◌, ◌<◌, Bool, true, cond, not, ◌||◌, List, ◌==◌, slice_index, slice_set}
use Rattle.names.specs.declared.Body.{Body}
use Rattle.names.specs.declared.Body.TheVariants.{ReadDo, ReadReply, UpdateDo, UpdateReply}
use Rattle.names.specs.declared.Letter.{Letter}
use Rattle.names.specs.declared.Packet.{Packet}
use Rattle.names.specs.Update.{known_function}

unfoldable pub body_of : ℕ → ℕ → ℕ → Body
body_of k f v = cond (k == 1) ReadDo (cond (k == 2) (UpdateDo f v) (cond (k == 3) (ReadReply v) (UpdateReply v)))

unfoldable pub kind_of : Body → ℕ
kind_of ReadDo = 1
kind_of (ReadReply v) = 3
kind_of (UpdateDo f v) = 2
kind_of (UpdateReply v) = 4

unfoldable pub function_of : Body → ℕ
function_of ReadDo = 0
function_of (ReadReply v) = 0
function_of (UpdateDo f v) = f
function_of (UpdateReply v) = 0

unfoldable pub value_of : Body → ℕ
value_of ReadDo = 0
value_of (ReadReply v) = v
value_of (UpdateDo f v) = v
value_of (UpdateReply v) = v

-- ---- the fields of a first word; the destinations are all that is left of it, so no part of a word is out of sight

unfoldable pub kind_in : ℕ → ℕ
kind_in w = w % 8

unfoldable pub task_in : ℕ → ℕ
task_in w = w / 8 % 16

unfoldable pub register_in : ℕ → ℕ
register_in w = w / 128 % 32

unfoldable pub function_in : ℕ → ℕ
function_in w = w / 4096 % 8

unfoldable pub to_in : ℕ → ℕ
to_in w = w / 32768

-- the first word with these fields; a field past its room is cut to it, which no letter of a store's sizes needs (Packs)
unfoldable pub word_of : ℕ → ℕ → ℕ → ℕ → ℕ → ℕ
word_of kind task register f to = kind % 8 + task % 16 * 8 + register % 32 * 128 + f % 8 * 4096 + to % 131072 * 32768

-- the letter that a packet carries
unfoldable pub letter_of : Packet → Letter
letter_of p = record {
  message = record {
    task = record { 0 = task_in p.word };
    register = record { 0 = register_in p.word };
    body = body_of (kind_in p.word) (function_in p.word) p.value;
  };
  to = to_in p.word;
}

-- the packet that carries a letter
unfoldable pub packet_of : Letter → Packet
packet_of l = record {
  word = word_of (kind_of l.message.body) l.message.task.0 l.message.register.0 (function_of l.message.body) l.to;
  value = value_of l.message.body;
}

-- a letter whose fields have room: it is carried as it is
pub record Packs (l : Letter) : Type 0 where
  pub task : l.message.task.0 < 16
  pub register : l.message.register.0 < 32
  pub function : function_of l.message.body < 8
  pub to : l.to < 131072

-- ---- in memory, at word b and the next

abbrev pub packet_at : List ℕ → ℕ → Packet
packet_at ws b = record { word = slice_index ws b; value = slice_index ws (b + 1) }

abbrev pub kind_at : List ℕ → ℕ → ℕ
kind_at ws b = kind_in (slice_index ws b)

abbrev pub letter_at : List ℕ → ℕ → Letter
letter_at ws b = letter_of (packet_at ws b)

-- a packet written there
unfoldable pub stored : List ℕ → ℕ → Packet → List ℕ
stored ws b p = slice_set (slice_set ws b p.word) (b + 1) p.value

-- the tag of a message held or in flight
abbrev pub tag_at : List ℕ → ℕ → ℕ
tag_at ws b = slice_index ws (b + 2)

-- a packet and its tag written there
unfoldable pub marked : List ℕ → ℕ → Packet → ℕ → List ℕ
marked ws b p t = slice_set (stored ws b p) (b + 2) t

-- of the kinds, only an update (2) names a function, and it must be known
unfoldable pub function_fits : ℕ → ℕ → Bool
function_fits kind f = not (kind == 2) || known_function f

-- an update has one of the known functions
unfoldable pub known : Body → Bool
known ReadDo = true
known (ReadReply v) = true
known (UpdateDo f v) = known_function f
known (UpdateReply v) = true
