-- Loads (RULES 17): the run file that is drawn from a seed, for a placement and a number of steps.
use Rattle.std.specs.Prelude.{ℕ, zero, suc, ◌+◌, ◌*◌, ◌%◌, ◌/◌, cond, List, [], ◌∷◌, ◌++◌, eqb, length, drop}
use Rattle.std.proofs.lemmas.List.Edits.{sets}
use Rattle.names.specs.Placement.{Placement, tasks, registers}
use Rattle.names.specs.Step.{RawStep}
use Rattle.claims.specs.Steps.{among}
use Rattle.runfile.specs.RunFile.{placement_in, RunFile, file_refusal, file_bytes}
use Rattle.runfile.specs.AnswerFile.{four_bytes}
use Rattle.runfile.specs.Head.{Composed, head_refusal, head_of}

-- ---- draws (RULES 17.2)

unfoldable pub next : ℕ → ℕ
next state = (1664525 * state + 1013904223) % 4294967296

-- the state goes on before a draw
unfoldable pub draw : ℕ → ℕ
draw state = next state / 65536

-- ---- a step (RULES 17.3)

pub data Field : Type 0 where
  task : Field
  card : Field
  register : Field
  chosen : Field  -- the chosen card of code 4
  function : Field
  operand : Field

-- what a code from 1 to 10 names, in layout order (RULES 3.3)
unfoldable pub fields : ℕ → List Field
fields code =
    cond (among code (6 ∷ 7 ∷ 9 ∷ [])) (card ∷ [])
    (cond (eqb code 1) (task ∷ register ∷ [])
    (cond (eqb code 4) (task ∷ chosen ∷ [])
    (cond (eqb code 2) (task ∷ register ∷ function ∷ operand ∷ [])
    (task ∷ []))))

-- the byte of the argument at which a field begins, and its bytes
unfoldable pub place : Field → ℕ
place task = 0
place card = 0
place register = 1
place chosen = 1
place function = 2
place operand = 4

unfoldable pub bytes : Field → ℕ → List ℕ
bytes task v = v ∷ []
bytes card v = v ∷ []
bytes register v = v ∷ []
bytes chosen v = v ∷ []
bytes function v = v ∷ []
bytes operand v = four_bytes v

unfoldable pub code_from : ℕ → ℕ
code_from state = 1 + draw state % 10

-- the state after a draw for each of these fields, and after a step
unfoldable pub after_fields : List Field → ℕ → ℕ
after_fields [] state = state
after_fields (f ∷ fs) state = after_fields fs (next state)

unfoldable pub after_step : ℕ → ℕ
after_step state = after_fields (fields (code_from state)) (next state)

abbrev pub zeros : List ℕ
zeros = 0 ∷ 0 ∷ 0 ∷ 0 ∷ 0 ∷ 0 ∷ 0 ∷ 0 ∷ []

-- how many cards, registers and tasks there are
module _ (cards registers tasks : ℕ) where
  -- what a draw makes of a field
  unfoldable pub drawn : Field → ℕ → ℕ
  drawn task d = d % tasks
  drawn card d = d % cards
  drawn register d = d % registers
  drawn chosen d = d % cards
  drawn function d = 1 + d % 5
  drawn operand d = d

  -- each field in turn takes a draw and stands at its place
  unfoldable pub filled : List Field → ℕ → List ℕ → List ℕ
  filled [] state argument = argument
  filled (f ∷ fs) state argument = filled fs (next state) (sets argument (place f) (bytes f (drawn f (draw state))))

  -- the code, then its fields; bytes that it does not name are zero
  abbrev pub step_from : ℕ → RawStep
  step_from state = record { code = code_from state; argument = filled (fields (code_from state)) (next state) zeros }

  -- steps one after the other
  unfoldable pub steps_from : ℕ → ℕ → List RawStep
  steps_from zero state = []
  steps_from (suc n) state = step_from state ∷ steps_from n (after_step state)

-- ---- the file (RULES 17.4, 17.5)

module _ (seed : ℕ) (P : Placement) (n : ℕ) where
  abbrev pub load_of : RunFile
  load_of = record { placement = P; steps = steps_from P.cards (registers P) (tasks P) n seed }

  unfoldable pub load_file : List ℕ
  load_file = file_bytes load_of

  -- the file at the start of the output, bytes past it as they were; a refusal, as that of the file's head, leaves all of it untouched
  unfoldable pub load_output : List ℕ → List ℕ
  load_output out = cond (eqb (head_refusal P n out) 0) (load_file ++ drop (length load_file) out) out

-- the load for the placement of a run file (RULES 17.7): a refused file is refused with its number
module _ (seed : ℕ) (file : List ℕ) (n : ℕ) where
  unfoldable pub load_for_of : List ℕ → Composed
  load_for_of out = cond (eqb (file_refusal file) 0) (head_of (placement_in file) n out) (record { refusal = file_refusal file; length = 0 })

  unfoldable pub load_for_output : List ℕ → List ℕ
  load_for_output out = cond (eqb (file_refusal file) 0) (load_output seed (placement_in file) n out) out
