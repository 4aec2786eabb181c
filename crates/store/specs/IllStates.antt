-- 6 for the state (RULES 8.6, parts a to k): of memories of any content and length, exactly the kinds listed here; so every other state, those
-- of 8.7 too, moves as the rules say. It looks at the words of both layers.
use Rattle.std.specs.Prelude.{ℕ, ◌+◌, ◌-◌, ◌<◌, ◌≤◌, ◌^◌, ◌≡◌, ◌↔◌, false, List, get_or}
use Rattle.names.specs.declared.Register.{Register}
use Rattle.names.specs.CardSet.{several, single}
use Rattle.names.specs.Letters.{letter_at, tag_at}
use Rattle.automaton.specs.MostBehind.{most_behind}
use Rattle.channel.specs.Layout.{cards_word, tasks_word, registers_word, cards_of, tasks_of, registers_of, made_of, taken_of, head_of, count_of, held_count_of, place_of, held_block, flight_block, broadcast_block}
use Rattle.channel.specs.TakeSingle.{no_flight}
use Rattle.channel.specs.IllSized.{PastBlock}
use Rattle.claims.specs.Steps.{RawStep}
use Rattle.tables.specs.declared.Doing.TheVariants.{AskingRead, AskingUpdate}
use Rattle.tables.specs.Layout.{Place, card_after_card, requests_of, home_of, holders_of, primary_of}
use Rattle.tables.specs.Doings.{doing_at}
use Rattle.tables.specs.Outbox.{out_head_of, out_count_of, out_place}
use Rattle.tables.specs.Sized.{doing_kind_at, store_sized}
use Rattle.store.specs.Step.{outcome, stepped_at}

pub data IllSized (rs cs : List ℕ) : Type 0 where
  -- a: sizes
  no_card : get_or cs cards_word 0 ≡ 0 → IllSized rs cs
  cards : 8 < get_or cs cards_word 0 → IllSized rs cs
  no_register : get_or cs registers_word 0 ≡ 0 → IllSized rs cs
  registers : 32 < get_or cs registers_word 0 → IllSized rs cs
  no_task : get_or cs tasks_word 0 ≡ 0 → IllSized rs cs
  tasks : 16 < get_or cs tasks_word 0 → IllSized rs cs
  -- b: broadcasts made, requests taken
  broadcasts : 65535 < made_of cs → IllSized rs cs
  requests : 65535 < requests_of rs → IllSized rs cs
  -- c: queue lengths
  outbox : (i : ℕ) → i < cards_of cs → 16 < out_count_of rs i → IllSized rs cs
  inbox : (i : ℕ) → i < cards_of cs → 48 < count_of cs i → IllSized rs cs
  held : (i : ℕ) → i < cards_of cs → 16 < held_count_of cs i → IllSized rs cs
  -- d: a home
  home : (t : ℕ) → t < tasks_of cs → cards_of cs ≤ home_of rs t → IllSized rs cs
  -- d: a register's holders, its primary
  holders : (x : ℕ) → x < registers_of cs → 2 ^ cards_of cs ≤ holders_of rs x → IllSized rs cs
  primary : (x : ℕ) → x < registers_of cs → cards_of cs ≤ primary_of rs x → IllSized rs cs
  -- e: what a task asks
  read : (t : ℕ) (x : Register) → t < tasks_of cs → doing_at rs t ≡ AskingRead x → registers_of cs ≤ x.0 → IllSized rs cs
  update : (t : ℕ) (x : Register) (f w : ℕ) → t < tasks_of cs → doing_at rs t ≡ AskingUpdate x f w → registers_of cs ≤ x.0 → IllSized rs cs
  no_function : (t : ℕ) (x : Register) (w : ℕ) → t < tasks_of cs → doing_at rs t ≡ AskingUpdate x 0 w → IllSized rs cs
  function : (t : ℕ) (x : Register) (f w : ℕ) → t < tasks_of cs → doing_at rs t ≡ AskingUpdate x f w → 5 < f → IllSized rs cs
  -- f, i: of a message in an outbox, in an inbox, held, in flight, or among the last broadcasts, one rule for all: its fields, and that it has
  -- a kind and a destination
  out_message : (i k : ℕ) → i < cards_of cs → k < out_count_of rs i → PastBlock cs rs (out_place rs i k) → IllSized rs cs
  inbox_message : (i k : ℕ) → i < cards_of cs → k < count_of cs i → PastBlock cs cs (place_of cs i k) → IllSized rs cs
  held_message : (i k : ℕ) → i < cards_of cs → k < held_count_of cs i → PastBlock cs cs (held_block i k) → IllSized rs cs
  flight_message : (t : ℕ) → t < tasks_of cs → no_flight cs t ≡ false → PastBlock cs cs (flight_block t) → IllSized rs cs
  broadcast_message : (k : ℕ) → k < made_of cs → k < most_behind → PastBlock cs cs (broadcast_block (made_of cs - k)) → IllSized rs cs
  -- g: the tag of a message held or in flight
  held_tag : (i k : ℕ) → i < cards_of cs → k < held_count_of cs i → 65535 < tag_at cs (held_block i k) → IllSized rs cs
  flight_tag_lem : (t : ℕ) → t < tasks_of cs → no_flight cs t ≡ false → 65535 < tag_at cs (flight_block t) → IllSized rs cs
  -- h: broadcasts taken
  above : (i : ℕ) → i < cards_of cs → made_of cs < taken_of cs i → IllSized rs cs
  below : (i : ℕ) → i < cards_of cs → taken_of cs i + most_behind < made_of cs → IllSized rs cs
  -- j: a queue that starts past the end of its ring
  outbox_head : (i : ℕ) → i < cards_of cs → 16 ≤ out_head_of rs i → IllSized rs cs
  inbox_head : (i : ℕ) → i < cards_of cs → 48 ≤ head_of cs i → IllSized rs cs
  -- i: a task that is doing none of the six things
  doing : (t : ℕ) → t < tasks_of cs → 5 < doing_kind_at rs t → IllSized rs cs
  -- k: a message in flight without exactly one destination, so that there is no card that step 8 could take it to
  flight_destination : (t : ℕ) → t < tasks_of cs → no_flight cs t ≡ false → single (letter_at cs (flight_block t)).to ≡ false → IllSized rs cs
  -- k: a broadcast with at most one destination, which is none (RULES 6.1)
  broadcast_destination : (k : ℕ) → k < made_of cs → k < most_behind → several (letter_at cs (broadcast_block (made_of cs - k))).to ≡ false → IllSized rs cs

pub record IllStatesAt (place : Place) (rs cs : List ℕ) : Type 0 where
  pub exact : (store_sized rs cs ≡ false) ↔ IllSized rs cs
  -- every step is then refused with 6, and leaves both memories as they were
  pub six : IllSized rs cs → (a : RawStep) → stepped_at place rs cs a.code a.argument ≡ outcome 6 rs cs

-- card after card, on paper
abbrev pub IllStates : List ℕ → List ℕ → Type 0
IllStates rs cs = IllStatesAt card_after_card rs cs
