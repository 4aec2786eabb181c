-- The head of a run file: its sizes and its placement, with which a file of n steps begins (RULES 3.1); when a file of so many steps is refused
-- (15.3, 17.5), and what a lent output then has in it.
use Rattle.std.specs.Prelude.{ℕ, ◌+◌, ◌*◌, Bool, cond, ◌&&◌, List, ◌++◌, eqb, leb, length, drop, Result, Ok, Err}
use Rattle.names.specs.declared.refusals.Refusal.{Refusal}
use Rattle.names.specs.Refusals.{refusal_number}
use Rattle.names.specs.Placement.{Placement, tasks, registers, sized, placed}
use Rattle.runfile.specs.RunFile.{size_bytes, placement_bytes}

-- what is said of tables: 0 and the length of their run file, or the refusal and 0
pub record Composed : Type 0 where
  pub refusal : ℕ
  pub length : ℕ

abbrev pub told : Result ℕ Refusal → Composed
told (Ok n) = record { refusal = 0; length = n }
told (Err r) = record { refusal = refusal_number r; length = 0 }

-- of sizes in range: 4 as for the reader, then 5 for an output shorter than the file
abbrev pub placed_number : Bool → Bool → ℕ
placed_number placed room = cond placed (cond room 0 5) 4

module _ (P : Placement) (n : ℕ) where
  unfoldable pub head_bytes : List ℕ
  head_bytes = size_bytes P.cards (registers P) (tasks P) n ++ placement_bytes P.homes P.copies P.primaries

  -- the length of the whole file (RULES 3.2)
  unfoldable pub whole_length : ℕ
  whole_length = 5 + tasks P + 2 * registers P + 9 * n

  -- 3: a size is out of range (RULES 1.3), or copies and primaries have not one length
  unfoldable pub head_sized : Bool
  head_sized = sized P && leb n 4096

  -- 0, or the refusal; room is asked for the whole file
  unfoldable pub head_refusal : List ℕ → ℕ
  head_refusal out = cond head_sized (placed_number (placed P) (leb whole_length (length out))) 3

  -- the head at the start of the output, where the steps' bytes will be and past them as it was; a refusal leaves all of it untouched
  unfoldable pub head_output : List ℕ → List ℕ
  head_output out = cond (eqb (head_refusal out) 0) (head_bytes ++ drop (length head_bytes) out) out

  -- what is said: 0 and the whole file's length, or the refusal and 0
  unfoldable pub head_of : List ℕ → Composed
  head_of out = record { refusal = head_refusal out; length = cond (eqb (head_refusal out) 0) whole_length 0 }
