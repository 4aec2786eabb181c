-- A run file written from tables (RULES 15): what file they make, when they are refused, and what a lent output then has in it.
use Rattle.std.specs.Prelude.{ℕ, ◌+◌, ◌*◌, Bool, cond, ◌&&◌, List, ◌++◌, eqb, leb, length, get_or, drop}
use Rattle.lists.specs.Parts.{part}
use Rattle.lists.specs.Listings.{listing}
use Rattle.names.specs.Placement.{Placement, placement, placed}
use Rattle.names.specs.Step.{RawStep}
use Rattle.runfile.specs.RunFile.{steps_in, codes_at, arguments_at, placement_in, RunFile, file_bytes}
use Rattle.runfile.specs.Head.{Composed, placed_number, whole_length, head_sized}

-- what a set-up screen has: a placement, and two parallel tables over steps, codes and arguments, eight bytes a step
pub record Tables : Type 0 where
  pub placement : Placement
  pub codes : List ℕ
  pub arguments : List ℕ

abbrev pub with_steps : Placement → List ℕ → List ℕ → Tables
with_steps p codes arguments = record { placement = p; codes = codes; arguments = arguments }

abbrev pub tables : ℕ → List ℕ → List ℕ → List ℕ → List ℕ → List ℕ → Tables
tables cards homes copies primaries codes arguments = record { placement = placement cards homes copies primaries; codes = codes; arguments = arguments }

-- the tables of a file
unfoldable pub tables_in : List ℕ → Tables
tables_in s = record {
  placement = placement_in s;
  codes = part s (codes_at s) (steps_in s);
  arguments = part s (arguments_at s) (8 * steps_in s);
}

module _ (t : Tables) where
  -- step k; whatever its bytes are, the reader judges them
  abbrev pub step_of : ℕ → RawStep
  step_of k = record { code = get_or t.codes k 0; argument = listing (λ j. get_or t.arguments (8 * k + j) 0) 8 }

  abbrev pub run_file_of : RunFile
  run_file_of = record { placement = t.placement; steps = listing step_of (length t.codes) }

  -- the file, and its length (RULES 3.2)
  unfoldable pub composed : List ℕ
  composed = file_bytes run_file_of

  unfoldable pub composed_length : ℕ
  composed_length = whole_length t.placement (length t.codes)

  -- 3: a size is out of range (RULES 1.3), or parallel tables have not one length
  unfoldable pub tables_sized : Bool
  tables_sized = head_sized t.placement (length t.codes) && eqb (length t.arguments) (8 * length t.codes)

  -- 0, or the refusal
  unfoldable pub compose_refusal : List ℕ → ℕ
  compose_refusal out = cond tables_sized (placed_number (placed t.placement) (leb composed_length (length out))) 3

  -- the file at the start of the output, bytes past it as they were; a refusal leaves all of it untouched
  unfoldable pub compose_output : List ℕ → List ℕ
  compose_output out = cond (eqb (compose_refusal out) 0) (composed ++ drop (length composed) out) out

  -- what is said: 0 and the file's length, or the refusal and 0
  unfoldable pub composed_of : List ℕ → Composed
  composed_of out = record { refusal = compose_refusal out; length = cond (eqb (compose_refusal out) 0) composed_length 0 }
