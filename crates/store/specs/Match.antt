-- Stores that match: alike but for where the copies lie (RULES 11.8). What the store does side by side it does on paper card after card: starts
-- match, and from matching states, whatever they are, each step gives the same answer and matching states again.
use Rattle.std.specs.Prelude.{◌≡◌, ◌≢◌, List, length}
use Rattle.names.specs.Placement.{Placement, placement_refusal}
use Rattle.claims.specs.Steps.{RawStep}
use Rattle.tables.specs.Layout.{Place, side_by_side, card_after_card}
use Rattle.tables.specs.Match.{IsLayout, RegistersMatch}
use Rattle.store.specs.Step.{advanced_at}
use Rattle.store.specs.Run.{Store, started, next_at, answer_at, store_after_at, answers_of_at, advance_at, advance_all_at, answers_advancing_at, table_of_at}

-- the registers' memories match, and the channels' are the same
pub record MatchAt (p q : Place) (m n : Store) : Type 0 where
  pub registers : RegistersMatch p q m.registers n.registers
  pub channel= : m.channel ≡ n.channel

-- the first card after card, the second side by side
abbrev pub Match : Store → Store → Type 0
Match = MatchAt card_after_card side_by_side

module _ (p q : Place) where
  -- a step on matching states: the same answer, and matching states again
  pub record StepMatches (m n : Store) (a : RawStep) : Type 0 where
    pub answer= : answer_at p m a ≡ answer_at q n a
    pub next : MatchAt p q (next_at p m a) (next_at q n a)

  -- so too one that does not check the state
  pub record AdvanceMatches (m n : Store) (a : RawStep) : Type 0 where
    pub answer= : (advanced_at p m.registers m.channel a.code a.argument).answer ≡ (advanced_at q n.registers n.channel a.code a.argument).answer
    pub next : MatchAt p q (advance_at p m a) (advance_at q n a)

  -- of any two layouts
  pub record Matching : Type 0 where
    -- starts, in memories of any content; a refused one changes nothing
    pub start : (P : Placement) → placement_refusal P ≡ 0 → (m n : Store) → MatchAt p q (started P m) (started P n)
    pub no_start : (P : Placement) → placement_refusal P ≢ 0 → (m n : Store) → MatchAt p q m n → MatchAt p q (started P m) (started P n)
    -- steps of any code and argument, on any states: taken and refused ones, well-sized and ill-sized states
    pub step : (m n : Store) → MatchAt p q m n → (a : RawStep) → StepMatches m n a
    pub advance : (m n : Store) → MatchAt p q m n → (a : RawStep) → AdvanceMatches m n a
    -- so lists of steps
    pub answers : (m n : Store) → MatchAt p q m n → (steps : List RawStep) → answers_of_at p m steps ≡ answers_of_at q n steps
    pub after : (m n : Store) → MatchAt p q m n → (steps : List RawStep) → MatchAt p q (store_after_at p m steps) (store_after_at q n steps)
    pub unchecked_answers : (m n : Store) → MatchAt p q m n → (steps : List RawStep) → answers_advancing_at p m steps ≡ answers_advancing_at q n steps
    pub unchecked_after : (m n : Store) → MatchAt p q m n → (steps : List RawStep) → MatchAt p q (advance_all_at p m steps) (advance_all_at q n steps)
    -- each store has one that it matches, and only one; matching stores have the same table of copies
    pub like : (n : Store) → length n.registers ≡ 593 → (m : Store) × MatchAt p q m n
    pub one : (m n o : Store) → MatchAt p q m n → MatchAt p q m o → n ≡ o
    pub table : (m n : Store) → MatchAt p q m n → table_of_at p m ≡ table_of_at q n

abbrev pub LayoutsMatch : Type 0
LayoutsMatch = (p q : Place) → IsLayout p → IsLayout q → Matching p q
