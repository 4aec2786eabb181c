-- Step 8 (RULES 5.8).
use Rattle.std.specs.Prelude.{ℕ, ◌+◌, Bool, cond, List, eqb, ltb, leb, set, Result, Ok, Err}
use Rattle.names.specs.declared.Task.{Task}
use Rattle.names.specs.declared.Letter.{Letter}
use Rattle.names.specs.declared.Packet.{Packet}
use Rattle.names.specs.declared.refusals.Refusal.{Refusal}
use Rattle.names.specs.declared.refusals.Refusal.TheVariants.{IllSized, NoTask, NoneInFlight}
use Rattle.names.specs.declared.refusals.Taken.{Taken}
use Rattle.names.specs.declared.refusals.Taken.TheVariants.{Done, Held}
use Rattle.channel.specs.Answers.{is_done, unless_full}
use Rattle.channel.specs.Layout.{held_word, tasks_of, taken_of, count_of, held_count_of, held_block, flight_block}
use Rattle.names.specs.CardSet.{single, sole_of}
use Rattle.names.specs.Letters.{packet_at, letter_at, kind_at, tag_at, marked}
use Rattle.channel.specs.Inbox.{pushed}

-- task t has nothing in flight
unfoldable pub no_flight : List ℕ → ℕ → Bool
no_flight ws t = eqb (kind_at ws (flight_block t)) 0

abbrev pub flight_packet : List ℕ → ℕ → Packet
flight_packet ws t = packet_at ws (flight_block t)

abbrev pub flight_letter : List ℕ → ℕ → Letter
flight_letter ws t = letter_at ws (flight_block t)

abbrev pub flight_tag : List ℕ → ℕ → ℕ
flight_tag ws t = tag_at ws (flight_block t)

-- the card that it goes to
abbrev pub flight_to : List ℕ → ℕ → ℕ
flight_to ws t = sole_of (flight_letter ws t).to

-- whether a message with this tag joins the inbox of card i, and is not held
unfoldable pub joins_at : List ℕ → ℕ → ℕ → Bool
joins_at ws i tag = leb tag (taken_of ws i)

-- one packet more among those held for card i, where there is room
unfoldable pub held_more : List ℕ → ℕ → Packet → ℕ → List ℕ
held_more ws i p tag =
    cond (ltb (held_count_of ws i) 16)
    (set (marked ws (held_block i (held_count_of ws i)) p tag) (held_word i) (held_count_of ws i + 1))
    ws

-- task t's message in flight reaches card i
unfoldable pub landed : List ℕ → ℕ → ℕ → Packet → ℕ → Bool → List ℕ
landed ws t i p tag joins =
    let us : List ℕ = set ws (flight_block t) 0 in
    cond joins (pushed us i p) (held_more us i p tag)

-- whether it is held, which the answer says; 6: a 49th message in the inbox (RULES 7.2), or a 17th held (7.3)
unfoldable pub land_answer : List ℕ → ℕ → Bool → Result Taken Refusal
land_answer ws i joins = cond joins (unless_full (leb 48 (count_of ws i)) (Ok Done)) (unless_full (leb 16 (held_count_of ws i)) (Ok Held))

-- of task t's message in flight; 6 also where it has not one destination
abbrev pub reach_answer : List ℕ → ℕ → Result Taken Refusal
reach_answer ws t =
    cond (single (flight_letter ws t).to) (land_answer ws (flight_to ws t) (joins_at ws (flight_to ws t) (flight_tag ws t))) (Err IllSized)

abbrev pub reach_memory : List ℕ → ℕ → List ℕ
reach_memory ws t =
    cond (is_done (reach_answer ws t))
    (landed ws t (flight_to ws t) (flight_packet ws t) (flight_tag ws t) (joins_at ws (flight_to ws t) (flight_tag ws t)))
    ws

-- 12 an absent task; 32: nothing of it in flight
unfoldable pub single_answer : List ℕ → Task → Result Taken Refusal
single_answer ws task =
    cond (ltb task.0 (tasks_of ws))
    (cond (no_flight ws task.0) (Err NoneInFlight) (reach_answer ws task.0))
    (Err NoTask)

-- the new words where the step is done, else the old
unfoldable pub single_memory : List ℕ → Task → List ℕ
single_memory ws task =
    cond (is_done (single_answer ws task))
    (landed ws task.0 (flight_to ws task.0) (flight_packet ws task.0) (flight_tag ws task.0)
    (joins_at ws (flight_to ws task.0) (flight_tag ws task.0)))
    ws
