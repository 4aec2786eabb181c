-- The channel's part of refusal 6 for the state, kind by kind (RULES 8.6, parts a to k): of a memory of any content and length, `well_sized` is
-- false exactly if one of these kinds holds.
use Rattle.std.specs.Prelude.{ℕ, ◌+◌, ◌-◌, ◌<◌, ◌≤◌, ◌^◌, ◌≡◌, ◌↔◌, false, List, get_or}
use Rattle.names.specs.declared.Body.TheVariants.{UpdateDo}
use Rattle.names.specs.declared.Letter.{Letter}
use Rattle.names.specs.CardSet.{several, single}
use Rattle.names.specs.Letters.{letter_at, kind_at, tag_at}
use Rattle.automaton.specs.MostBehind.{most_behind}
use Rattle.channel.specs.Layout.{cards_word, tasks_word, registers_word, cards_of, tasks_of, registers_of, made_of, taken_of, head_of, count_of, held_count_of, place_of, held_block, flight_block, broadcast_block}
use Rattle.channel.specs.TakeSingle.{no_flight}
use Rattle.channel.specs.Sized.{well_sized}

-- f; and i, no destination. The sizes are those of memory cs.
pub data PastLimit (cs : List ℕ) (l : Letter) : Type 0 where
  absent_task : tasks_of cs ≤ l.message.task.0 → PastLimit cs l
  absent_register : registers_of cs ≤ l.message.register.0 → PastLimit cs l
  no_function : (v : ℕ) → l.message.body ≡ UpdateDo 0 v → PastLimit cs l
  unknown_function : (f v : ℕ) → l.message.body ≡ UpdateDo f v → 5 < f → PastLimit cs l
  absent_destination : 2 ^ cards_of cs ≤ l.to → PastLimit cs l
  no_destination : l.to ≡ 0 → PastLimit cs l

-- At word b of memory ws: f and i of its message; i, a kind of message that there is not.
pub data PastBlock (cs ws : List ℕ) (b : ℕ) : Type 0 where
  past_field : PastLimit cs (letter_at ws b) → PastBlock cs ws b
  no_kind : kind_at ws b ≡ 0 → PastBlock cs ws b
  unknown_kind : 4 < kind_at ws b → PastBlock cs ws b

pub data IllChannel (ws : List ℕ) : Type 0 where
  -- a: sizes
  no_card : get_or ws cards_word 0 ≡ 0 → IllChannel ws
  cards : 8 < get_or ws cards_word 0 → IllChannel ws
  no_register : get_or ws registers_word 0 ≡ 0 → IllChannel ws
  registers : 32 < get_or ws registers_word 0 → IllChannel ws
  no_task : get_or ws tasks_word 0 ≡ 0 → IllChannel ws
  tasks : 16 < get_or ws tasks_word 0 → IllChannel ws
  -- b: the broadcasts made
  broadcasts : 65535 < made_of ws → IllChannel ws
  -- c: an inbox, and what is held
  inbox : (i : ℕ) → i < cards_of ws → 48 < count_of ws i → IllChannel ws
  held : (i : ℕ) → i < cards_of ws → 16 < held_count_of ws i → IllChannel ws
  -- f, i: of a message in an inbox, held, in flight, or among the last broadcasts, which are kept
  inbox_message : (i k : ℕ) → i < cards_of ws → k < count_of ws i → PastBlock ws ws (place_of ws i k) → IllChannel ws
  held_message : (i k : ℕ) → i < cards_of ws → k < held_count_of ws i → PastBlock ws ws (held_block i k) → IllChannel ws
  flight_message : (t : ℕ) → t < tasks_of ws → no_flight ws t ≡ false → PastBlock ws ws (flight_block t) → IllChannel ws
  broadcast_message : (k : ℕ) → k < made_of ws → k < most_behind → PastBlock ws ws (broadcast_block (made_of ws - k)) → IllChannel ws
  -- g: a tag
  held_tag : (i k : ℕ) → i < cards_of ws → k < held_count_of ws i → 65535 < tag_at ws (held_block i k) → IllChannel ws
  flight_tag_lem : (t : ℕ) → t < tasks_of ws → no_flight ws t ≡ false → 65535 < tag_at ws (flight_block t) → IllChannel ws
  -- h: broadcasts taken
  above : (i : ℕ) → i < cards_of ws → made_of ws < taken_of ws i → IllChannel ws
  below : (i : ℕ) → i < cards_of ws → taken_of ws i + most_behind < made_of ws → IllChannel ws
  -- j: a place past the end of the ring, where there is no message
  inbox_head : (i : ℕ) → i < cards_of ws → 48 ≤ head_of ws i → IllChannel ws
  -- k: a message in flight without exactly one destination: there is no card that step 8 could take it to
  flight_destination : (t : ℕ) → t < tasks_of ws → no_flight ws t ≡ false → single (letter_at ws (flight_block t)).to ≡ false → IllChannel ws
  -- k: a broadcast with at most one destination: it is none
  broadcast_destination : (k : ℕ) → k < made_of ws → k < most_behind → several (letter_at ws (broadcast_block (made_of ws - k))).to ≡ false → IllChannel ws

abbrev pub ChannelExact : List ℕ → Type 0
ChannelExact ws = (well_sized ws ≡ false) ↔ IllChannel ws
