-- A channel's memory at the start (RULES 10.3).
use Rattle.std.specs.Prelude.{ℕ, Bool, cond, ◌&&◌, List, leb, replicate, set, Result, Ok, Err}
use Rattle.names.specs.declared.refusals.Refusal.{Refusal}
use Rattle.names.specs.declared.refusals.Refusal.TheVariants.{SizeOutOfRange}
use Rattle.names.specs.declared.refusals.Taken.{Taken}
use Rattle.names.specs.declared.refusals.Taken.TheVariants.{Done}
use Rattle.channel.specs.Layout.{channel_words, cards_word, tasks_word, registers_word}

-- the sizes of RULES 1.3
unfoldable pub sizes_fit : ℕ → ℕ → ℕ → Bool
sizes_fit cards tasks registers = leb 1 cards && leb cards 8 && leb 1 tasks && leb tasks 16 && leb 1 registers && leb registers 32

-- every word zero but the sizes
unfoldable pub begun : ℕ → ℕ → ℕ → List ℕ
begun cards tasks registers = set (set (set (replicate channel_words 0) cards_word cards) tasks_word tasks) registers_word registers

-- 3: a size is out of range
unfoldable pub begin_answer : ℕ → ℕ → ℕ → Result Taken Refusal
begin_answer cards tasks registers = cond (sizes_fit cards tasks registers) (Ok Done) (Err SizeOutOfRange)

unfoldable pub begin_memory : List ℕ → ℕ → ℕ → ℕ → List ℕ
begin_memory ws cards tasks registers = cond (sizes_fit cards tasks registers) (begun cards tasks registers) ws
