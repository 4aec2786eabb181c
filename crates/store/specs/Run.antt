-- The store from a start on (RULES 12.2): each step gets the store that the one before left, taken or refused; nobody else writes it.
use Rattle.std.specs.Prelude.{ℕ, List, [], ◌∷◌}
use Rattle.names.specs.declared.Answer.{Answer}
use Rattle.names.specs.Placement.{Placement}
use Rattle.claims.specs.Steps.{RawStep}
use Rattle.tables.specs.Layout.{Place, card_after_card, copy_at}
use Rattle.tables.specs.Start.{start_registers, start_channel}
use Rattle.store.specs.Step.{advanced_at, stepped_at}

-- the two memories
pub record Store : Type 0 where
  pub registers : List ℕ
  pub channel : List ℕ

-- a start from a placement, in memories of any content
abbrev pub started : Placement → Store → Store
started P m = record { registers = start_registers P m.registers; channel = start_channel P m.channel }

-- ---- where the copies lie at `place`

-- a step: the store that it leaves, and what it answers
abbrev pub next_at : Place → Store → RawStep → Store
next_at place m a = record {
  registers = (stepped_at place m.registers m.channel a.code a.argument).registers;
  channel = (stepped_at place m.registers m.channel a.code a.argument).channel;
}

abbrev pub answer_at : Place → Store → RawStep → Answer
answer_at place m a = (stepped_at place m.registers m.channel a.code a.argument).answer

-- a list of steps
abbrev pub store_after_at : Place → Store → List RawStep → Store
store_after_at place m [] = m
store_after_at place m (a ∷ l) = store_after_at place (next_at place m a) l

abbrev pub answers_of_at : Place → Store → List RawStep → List Answer
answers_of_at place m [] = []
answers_of_at place m (a ∷ l) = answer_at place m a ∷ answers_of_at place (next_at place m a) l

-- the same by steps that do not check the state
abbrev pub advance_at : Place → Store → RawStep → Store
advance_at place m a = record {
  registers = (advanced_at place m.registers m.channel a.code a.argument).registers;
  channel = (advanced_at place m.registers m.channel a.code a.argument).channel;
}

abbrev pub advance_all_at : Place → Store → List RawStep → Store
advance_all_at place m [] = m
advance_all_at place m (a ∷ l) = advance_all_at place (advance_at place m a) l

abbrev pub answers_advancing_at : Place → Store → List RawStep → List Answer
answers_advancing_at place m [] = []
answers_advancing_at place m (a ∷ l) = (advanced_at place m.registers m.channel a.code a.argument).answer ∷ answers_advancing_at place (advance_at place m a) l

-- the store's table of copies (RULES 11.8)
abbrev pub table_of_at : Place → Store → ℕ → ℕ → ℕ
table_of_at place m i x = copy_at place m.registers i x

-- ---- card after card, on paper; SideBySide has the case of the memory

abbrev pub next : Store → RawStep → Store
next = next_at card_after_card

abbrev pub answer : Store → RawStep → Answer
answer = answer_at card_after_card

abbrev pub store_after : Store → List RawStep → Store
store_after = store_after_at card_after_card

abbrev pub answers_of : Store → List RawStep → List Answer
answers_of = answers_of_at card_after_card

abbrev pub advance : Store → RawStep → Store
advance = advance_at card_after_card

abbrev pub advance_all : Store → List RawStep → Store
advance_all = advance_all_at card_after_card

abbrev pub answers_advancing : Store → List RawStep → List Answer
answers_advancing = answers_advancing_at card_after_card

abbrev pub table_of : Store → ℕ → ℕ → ℕ
table_of = table_of_at card_after_card
