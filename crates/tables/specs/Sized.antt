-- Well-sized memories: what a step must find, else it is refused with 6 (RULES 8.6, parts a to k). The parts of absent cards, tasks and
-- registers are not looked at.
use Rattle.std.specs.Prelude.{ℕ, ◌^◌, min, Bool, true, not, ◌&&◌, ◌||◌, List, eqb, ltb, leb, get_or}
use Rattle.lists.specs.Every.{each}
use Rattle.names.specs.Update.{known_function}
use Rattle.channel.specs.Layout.{cards_of, tasks_of, registers_of}
use Rattle.channel.specs.declared.Limits.{Limits}
use Rattle.names.specs.Letters.{function_fits}
use Rattle.channel.specs.Sized.{block_fits, well_sized}
use Rattle.tables.specs.declared.Doing.{Doing}
use Rattle.tables.specs.declared.Doing.TheVariants.{Quiet, AskingRead, AskingUpdate, Waiting, DoneRead, DoneUpdate}
use Rattle.tables.specs.Layout.{task_word, requests_of, home_of, holders_of, primary_of}
use Rattle.tables.specs.Doings.{doing_kind_in, doing_at}
use Rattle.tables.specs.Outbox.{out_head_of, out_count_of, out_place}

-- the kind in task t's word
abbrev pub doing_kind_at : List ℕ → ℕ → ℕ
doing_kind_at rs t = doing_kind_in (get_or rs (task_word t) 0)

-- an asking task's register is present, and its function known (e)
unfoldable pub doing_fits : List ℕ → Doing → Bool
doing_fits cs Quiet = true
doing_fits cs (AskingRead x) = ltb x.0 (registers_of cs)
doing_fits cs (AskingUpdate x f w) = ltb x.0 (registers_of cs) && known_function f
doing_fits cs Waiting = true
doing_fits cs (DoneRead v) = true
doing_fits cs (DoneUpdate v) = true

-- the same of the fields of a task's word (proofs/AskedFits joins the two)
unfoldable pub asked_fits : Limits → ℕ → ℕ → ℕ → Bool
asked_fits z kind x f = (not (eqb kind 1 || eqb kind 2) || ltb x z.registers) && function_fits kind f

-- task t: its home is present (d), and what it is doing is one of the six kinds (i)
unfoldable pub task_fits : List ℕ → List ℕ → ℕ → Bool
task_fits rs cs t = ltb (home_of rs t) (cards_of cs) && leb (doing_kind_at rs t) 5 && doing_fits cs (doing_at rs t)

-- register x: holders and primary are present cards (d)
unfoldable pub register_fits : List ℕ → List ℕ → ℕ → Bool
register_fits rs cs x = ltb (holders_of rs x) (2 ^ cards_of cs) && ltb (primary_of rs x) (cards_of cs)

-- place k of card i's outbox: the channel's rule for every block (f, g, i)
unfoldable pub out_fits : List ℕ → List ℕ → ℕ → ℕ → Bool
out_fits rs cs i k = block_fits cs rs (out_place rs i k)

-- card i: where its outbox starts (j), and at most 16 messages in it (c)
unfoldable pub outbox_fits : List ℕ → List ℕ → ℕ → Bool
outbox_fits rs cs i = ltb (out_head_of rs i) 16 && leb (out_count_of rs i) 16 && each (min (out_count_of rs i) 16) (out_fits rs cs i)

-- the registers' memory, over a channel's; at most 65,535 requests taken (b)
unfoldable pub registers_sized : List ℕ → List ℕ → Bool
registers_sized rs cs =
    leb (requests_of rs) 65535 && each (tasks_of cs) (task_fits rs cs) && each (registers_of cs) (register_fits rs cs)
    && each (cards_of cs) (outbox_fits rs cs)

unfoldable pub store_sized : List ℕ → List ℕ → Bool
store_sized rs cs = well_sized cs && registers_sized rs cs
