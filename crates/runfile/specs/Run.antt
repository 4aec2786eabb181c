-- A whole run: from the bytes of a run file (RULES 3) to those of its answer file (4).
use Rattle.std.specs.Prelude.{ℕ, ◌+◌, ◌*◌, Bool, cond, not, List, [], ◌∷◌, eqb, ltb, length, Result, Ok, Err}
use Rattle.lists.specs.Filters.{filter}
use Rattle.names.specs.declared.Answer.{Answer}
use Rattle.names.specs.declared.refusals.Refusal.{Refusal}
use Rattle.names.specs.Refusals.{refusal_number}
use Rattle.tally.specs.declared.Tally.{Tally}
use Rattle.names.specs.Results.{is_taken}
use Rattle.claims.specs.Found.{begin}
use Rattle.claims.specs.FoundRun.{answers_from}
use Rattle.tables.specs.Start.{start_registers, start_channel}
use Rattle.runfile.specs.RunFile.{steps_in, placement_in, run_file_in, file_refusal}
use Rattle.runfile.specs.AnswerFile.{answer_bytes, answered}

-- a start from an accepted file is the start from its placement; a refused file begins no state (RULES 10.4, 8.1)
unfoldable pub file_registers : List ℕ → List ℕ → List ℕ
file_registers file rs = cond (eqb (file_refusal file) 0) (start_registers (placement_in file) rs) rs

unfoldable pub file_channel : List ℕ → List ℕ → List ℕ
file_channel file cs = cond (eqb (file_refusal file) 0) (start_channel (placement_in file) cs) cs

-- what the algorithm that the store runs answers to the steps of a file, begun from its placement
unfoldable pub answers_in : List ℕ → List Answer
answers_in file = answers_from (placement_in file) begin (run_file_in file).steps

-- what a program writes: the answer file, or the refusal as one byte (RULES 4.6)
unfoldable pub answer_of : List ℕ → List ℕ
answer_of file = cond (eqb (file_refusal file) 0) (answer_bytes (answers_in file)) (file_refusal file ∷ [])

-- the file's refusal, then 5 for an output shorter than 2 + 5N (RULES 8.3)
unfoldable pub answer_refusal : List ℕ → List ℕ → ℕ
answer_refusal file out = cond (eqb (file_refusal file) 0) (cond (ltb (length out) (2 + 5 * steps_in file)) 5 0) (file_refusal file)

-- the lent output: bytes from 2 + 5N on stay as they were (RULES 4.4), and all of it where the file or the output is refused (4.5)
unfoldable pub answer_output : List ℕ → List ℕ → List ℕ
answer_output file out = cond (eqb (answer_refusal file out) 0) (answered (answers_in file) out) out

-- every refusal of a step counts, 6 too (RULES 9.3)
unfoldable pub is_refused : ℕ → Bool
is_refused result = not (is_taken result)

-- the steps taken, the steps refused
abbrev pub taken_of : List Answer → ℕ
taken_of answers = length (filter (λ a. is_taken a.result) answers)

abbrev pub refused_of : List Answer → ℕ
refused_of answers = length (filter (λ a. is_refused a.result) answers)

-- what is said of a whole run: 0 and how many steps were taken and refused, or the refusal of the file or of the output, and no steps
pub record Answered : Type 0 where
  pub refusal : ℕ
  pub taken : ℕ
  pub refused : ℕ

abbrev pub run_told : Result Tally Refusal → Answered
run_told (Ok tally) = record { refusal = 0; taken = tally.taken; refused = tally.refused }
run_told (Err r) = record { refusal = refusal_number r; taken = 0; refused = 0 }

-- 0 and the counts of its steps, or the refusal and no steps (RULES 9.4)
unfoldable pub answered_of : List ℕ → List ℕ → Answered
answered_of file out =
    cond (eqb (answer_refusal file out) 0)
    (record { refusal = 0; taken = taken_of (answers_in file); refused = refused_of (answers_in file) })
    (record { refusal = answer_refusal file out; taken = 0; refused = 0 })
