-- A run of the published algorithm over a list of steps as they are given, and what it answers (RULES 4.2, 4.3).
use Rattle.std.specs.Prelude.{ℕ, cond, List, [], ◌∷◌, eqb}
pub use Rattle.names.specs.declared.Answer.{Answer}
use Rattle.names.specs.Placement.{Placement}
use Rattle.claims.specs.Command.{Command, request_read, request_update, perform, send_read, send_update, dispatch, take_broadcast, take_single, deliver, report}
use Rattle.claims.specs.Steps.{RawStep, Decoded, bad, good, decode}
use Rattle.claims.specs.Published.{Doing, quiet, asking_read, asking_update, waiting, done_read, done_update, Published, begin, mail, answered, effect, sight, command_refusal}
use Rattle.claims.specs.Results.{result}

-- the value that a task's report gives
abbrev pub value_of : Doing → ℕ
value_of quiet = 0
value_of (asking_read x) = 0
value_of (asking_update x f w) = 0
value_of waiting = 0
value_of (done_read v) = v
value_of done_update = 0

abbrev pub value_at : Published → Command → ℕ
value_at s (request_read c x) = 0
value_at s (request_update c x f w) = 0
value_at s (perform c) = 0
value_at s (send_read c j) = 0
value_at s (send_update c) = 0
value_at s (dispatch i) = 0
value_at s (take_broadcast i) = 0
value_at s (take_single c) = 0
value_at s (deliver i) = 0
value_at s (report c) = value_of (s.status c)

module _ (P : Placement) where
  -- rising number, then 6 for the outcome (RULES 8.5): 10 to 15 first, then 20 to 35, then 6
  abbrev pub decoded_refusal : Published → Decoded → ℕ
  decoded_refusal s (bad n) = n
  decoded_refusal s (good c) = command_refusal P s c

  -- what a decoded step answers: its refusal, else whether it holds a message (RULES 4.2)
  abbrev pub command_result : Published → Command → ℕ
  command_result s c = result P mail (answered P) (sight P s) c

  abbrev pub refusal_of : Published → RawStep → ℕ
  refusal_of s a = decoded_refusal s (decode P a)

  -- a refused step leaves the state as it was and answers value 0 (RULES 8.1)
  abbrev pub after_decoded : Published → Decoded → Published
  after_decoded s (bad n) = s
  after_decoded s (good c) = cond (eqb (command_refusal P s c) 0) (effect P s c) s

  abbrev pub answer_decoded : Published → Decoded → Answer
  answer_decoded s (bad n) = record { result = n; value = 0 }
  answer_decoded s (good c) = record { result = command_result s c; value = cond (eqb (command_refusal P s c) 0) (value_at s c) 0 }

  -- the state after a list of steps, and the answers
  abbrev pub final_from : Published → List RawStep → Published
  final_from s [] = s
  final_from s (a ∷ l) = final_from (after_decoded s (decode P a)) l

  abbrev pub answers_from : Published → List RawStep → List Answer
  answers_from s [] = []
  answers_from s (a ∷ l) = answer_decoded s (decode P a) ∷ answers_from (after_decoded s (decode P a)) l

  -- a run from a start (RULES 12.2)
  abbrev pub published_run : List RawStep → Published × List Answer
  published_run l = (final_from begin l, answers_from begin l)
