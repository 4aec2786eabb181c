-- What a panel shows (RULES 11.6) is the state of the algorithm that the store runs (claims/specs/Found); where the copies lie (11.8) and how words
-- are packed (11.12): said apart from the definitions that code and laws share.
use Rattle.std.specs.Prelude.{ℕ, ◌+◌, ◌*◌, ◌<◌, ◌≤◌, ◌≡◌, ◌⊎◌, cond, List, length, get_or}
use Rattle.names.specs.declared.Card.{Card}
use Rattle.names.specs.declared.Task.{Task}
use Rattle.names.specs.declared.Register.{Register}
use Rattle.names.specs.Placement.{Placement, tasks, registers, copy}
use Rattle.claims.specs.Found.{Found, quiet}
use Rattle.tables.specs.declared.Doing.TheVariants.{Quiet, AskingUpdate, DoneUpdate}
use Rattle.tables.specs.Layout.{Place, side_by_side, card_after_card, home_in, primary_in, holders_in, copy_at, copy_of, requests_of}
use Rattle.tables.specs.Doings.{doing_kind_in, asked_in, doing_function_in, task_word_of, doing_in, doing_value}
use Rattle.tables.specs.Panel.{value_shown_at, copies_shown_at, doing_shown}
use Rattle.tables.specs.Shows.{status_of}

-- of memories that show placement P and state s
pub record PanelMeaningAt (place : Place) (rs cs : List ℕ) (P : Placement) (s : Found) : Type 0 where
  -- the value of a present card's copy of a present register is the one in the table; any other is 0
  pub value : (i : Card) (x : Register) → i.0 < P.cards → x.0 < registers P → value_shown_at place rs cs i x ≡ s.table i.0 x.0
  pub no_value : (i : Card) (x : Register) → (P.cards ≤ i.0) ⊎ (registers P ≤ x.0) → value_shown_at place rs cs i x ≡ 0
  -- what a present task is doing is its status, with the value read or found; an absent one is quiet
  pub doing : (t : Task) → t.0 < tasks P → status_of (doing_shown rs cs t) ≡ s.status t.0
  pub no_doing : (t : Task) → tasks P ≤ t.0 → status_of (doing_shown rs cs t) ≡ quiet
  -- the number of requests taken
  pub requests : requests_of rs ≡ s.requests

abbrev pub PanelMeaning : List ℕ → List ℕ → Placement → Found → Type 0
PanelMeaning rs cs P s = PanelMeaningAt card_after_card rs cs P s

-- the copies of a register at once, for eight cards: that of each card with a copy is the one in the table; any other is 0
pub record CopiesMeaning (place : Place) (rs cs : List ℕ) (P : Placement) (s : Found) : Type 0 where
  pub eight : (x : Register) → length (copies_shown_at place rs cs x) ≡ 8
  pub copies : (i : ℕ) (x : Register) → get_or (copies_shown_at place rs cs x) i 0 ≡ cond (copy P x.0 i) (s.table i x.0) 0

-- the copies lie register after register: from word 65 on 8 words for each register, in the order of the cards
abbrev pub RegisterAfterRegister : Type 0
RegisterAfterRegister = (rs : List ℕ) (i x : ℕ) → i < 8 → x < 32 → copy_at side_by_side rs i x ≡ get_or rs (65 + 8 * x + i) 0

-- and on paper card after card: 32 words for each card, in the order of the registers
abbrev pub CardAfterCard : Type 0
CardAfterCard = (rs : List ℕ) (i x : ℕ) → i < 8 → x < 32 → copy_of rs i x ≡ get_or rs (65 + 32 * i + x) 0

-- the fields of a task's first word and of a register's word are its digits (RULES 11.12): none overlaps another, and together they are the word
pub record FieldsMean : Type 0 where
  pub task : (w : ℕ) → w ≡ doing_kind_in w + 8 * asked_in w + 256 * doing_function_in w + 2048 * home_in w
  pub kind : (w : ℕ) → doing_kind_in w < 8
  pub asked : (w : ℕ) → asked_in w < 32
  pub function : (w : ℕ) → doing_function_in w < 8
  pub register : (w : ℕ) → w ≡ primary_in w + 8 * holders_in w
  pub primary : (w : ℕ) → primary_in w < 8

-- task 3 of home 2 asks to set register 1 to 9: its word; the words of a task of home 2 whose update found 7; and what a register with primary 1 and
-- copies on 0, 1 and 2 has
pub record FieldsComputed : Type 0 where
  pub asks : task_word_of 2 (AskingUpdate (record { 0 = 1 }) 1 9) ≡ 4362
  pub quiet_at_home : task_word_of 7 Quiet ≡ 14336
  pub found : (task_word_of 2 (DoneUpdate 7) ≡ 4101) × (doing_value (DoneUpdate 7) ≡ 7) × (doing_in 4101 7 ≡ DoneUpdate 7)
  pub home_in_asks : home_in 4362 ≡ 2
  pub primary_in_placed : primary_in 57 ≡ 1
  pub holders_in_placed : holders_in 57 ≡ 7
