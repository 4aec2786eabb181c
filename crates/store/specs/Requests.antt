-- Steps 1 and 2: the quiet task now asks (RULES 5.1, 5.2). Step 10: the done task becomes quiet (5.10).
use Rattle.std.specs.Prelude.{ℕ, ◌+◌, Bool, true, false, cond, Result, Ok, Err, List, eqb, ltb, set}
use Rattle.names.specs.declared.Answer.{Answer}
use Rattle.names.specs.declared.refusals.Refusal.{Refusal}
use Rattle.names.specs.Refusals.{refusal_number}
use Rattle.names.specs.Results.{is_taken}
use Rattle.tables.specs.declared.Doing.{Doing}
use Rattle.tables.specs.declared.Doing.TheVariants.{Quiet, AskingRead, AskingUpdate, Waiting, DoneRead, DoneUpdate}
use Rattle.tables.specs.Layout.{requests_word, requests_of}
use Rattle.tables.specs.Doings.{doing_at, doing_stored}

-- an answer without a value
abbrev pub bare : ℕ → Answer
bare n = record { result = n; value = 0 }

-- the answer to a taken report
abbrev pub told : ℕ → Answer
told v = record { result = 0; value = v }

-- the answer to a report
abbrev pub answered : Result ℕ Refusal → Answer
answered (Ok v) = told v
answered (Err r) = bare (refusal_number r)

unfoldable pub is_quiet : Doing → Bool
is_quiet Quiet = true
is_quiet (AskingRead x) = false
is_quiet (AskingUpdate x f w) = false
is_quiet Waiting = false
is_quiet (DoneRead v) = false
is_quiet (DoneUpdate v) = false

-- 20: the task is not quiet; 23: 65,535 requests were taken before (RULES 7.8)
unfoldable pub request_number : List ℕ → ℕ → ℕ
request_number ws t = cond (is_quiet (doing_at ws t)) (cond (ltb (requests_of ws) 65535) 0 23) 20

-- the new words where the step is taken, else the old
unfoldable pub request_words : List ℕ → ℕ → Doing → List ℕ
request_words ws t d = cond (eqb (request_number ws t) 0) (set (doing_stored ws t d) requests_word (requests_of ws + 1)) ws

-- 21: the task is not done; the value read or found for a report, else 0 (RULES 4.3)
unfoldable pub report_of : Doing → Answer
report_of Quiet = bare 21
report_of (AskingRead x) = bare 21
report_of (AskingUpdate x f w) = bare 21
report_of Waiting = bare 21
report_of (DoneRead v) = told v
report_of (DoneUpdate v) = told v

unfoldable pub report_answer : List ℕ → ℕ → Answer
report_answer ws t = report_of (doing_at ws t)

unfoldable pub report_words : List ℕ → ℕ → List ℕ
report_words ws t = cond (is_taken (report_answer ws t).result) (doing_stored ws t Quiet) ws
