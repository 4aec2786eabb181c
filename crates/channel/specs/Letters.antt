-- Letters whose fields the channel can serve (RULES 8.6 f, i). A task with nothing in flight has kind 0 in its place.
use Rattle.std.specs.Prelude.{ℕ, ◌^◌, Bool, ◌&&◌, List, ltb, leb}
use Rattle.names.specs.declared.Letter.{Letter}
use Rattle.names.specs.Letters.{kind_in, task_in, register_in, function_in, to_in, function_fits, known}
use Rattle.channel.specs.declared.Limits.{Limits}
use Rattle.channel.specs.Layout.{cards_of, tasks_of, registers_of}

-- there is a destination, and each is a present card
unfoldable pub addressed : List ℕ → ℕ → Bool
addressed ws to = leb 1 to && ltb to (2 ^ cards_of ws)

-- no field names what is absent, the function is known, and there is a destination; else 6
unfoldable pub fits : List ℕ → Letter → Bool
fits ws l =
    ltb l.message.task.0 (tasks_of ws) && ltb l.message.register.0 (registers_of ws) && known l.message.body
    && addressed ws l.to

-- ---- the same of a packet's first word, read once: of every block that the check looks at (specs/Sized; proofs/LetterFits joins the two)

-- what the numbers in a state are below
unfoldable pub limits_of : List ℕ → Limits
limits_of ws = record { cards = cards_of ws; sets = 2 ^ cards_of ws; tasks = tasks_of ws; registers = registers_of ws }

-- the fields but the kind
unfoldable pub fields_fit : Limits → ℕ → Bool
fields_fit z w =
    ltb (task_in w) z.tasks && ltb (register_in w) z.registers && function_fits (kind_in w) (function_in w)
    && (leb 1 (to_in w) && ltb (to_in w) z.sets)

unfoldable pub word_fits : Limits → ℕ → Bool
word_fits z w =
    leb 1 (kind_in w) && leb (kind_in w) 4 && (ltb (task_in w) z.tasks && ltb (register_in w) z.registers)
    && function_fits (kind_in w) (function_in w) && leb 1 (to_in w) && ltb (to_in w) z.sets
