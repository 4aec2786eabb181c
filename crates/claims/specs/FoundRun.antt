-- A run of the algorithm that the store runs over a list of steps as they are given, and what it answers (RULES 4.2, 4.3): as PublishedRun, and a
-- report of an update gives the value found.
use Rattle.std.specs.Prelude.{ℕ, cond, List, [], ◌∷◌, eqb}
pub use Rattle.names.specs.declared.Answer.{Answer}
use Rattle.names.specs.Placement.{Placement}
use Rattle.claims.specs.Command.{Command, request_read, request_update, perform, send_read, send_update, dispatch, take_broadcast, take_single, deliver, report}
use Rattle.claims.specs.Steps.{RawStep, Decoded, bad, good, decode}
use Rattle.claims.specs.Found.{Doing, quiet, asking_read, asking_update, waiting, done_read, done_update, Found, begin, mail, answered, effect, sight, command_refusal}
use Rattle.claims.specs.Results.{result}

-- the value that a task's report gives
abbrev pub value_of : Doing → ℕ
value_of quiet = 0
value_of (asking_read x) = 0
value_of (asking_update x f w) = 0
value_of waiting = 0
value_of (done_read v) = v
value_of (done_update v) = v

abbrev pub value_at : Found → Command → ℕ
value_at s (request_read c x) = 0
value_at s (request_update c x f w) = 0
value_at s (perform c) = 0
value_at s (send_read c j) = 0
value_at s (send_update c) = 0
value_at s (dispatch i) = 0
value_at s (take_broadcast i) = 0
value_at s (take_single c) = 0
value_at s (deliver i) = 0
value_at s (report c) = value_of (s.status c)

module _ (P : Placement) where
  abbrev pub command_result : Found → Command → ℕ
  command_result s c = result P mail (answered P) (sight P s) c

  abbrev pub after_decoded : Found → Decoded → Found
  after_decoded s (bad n) = s
  after_decoded s (good c) = cond (eqb (command_refusal P s c) 0) (effect P s c) s

  abbrev pub answer_decoded : Found → Decoded → Answer
  answer_decoded s (bad n) = record { result = n; value = 0 }
  answer_decoded s (good c) = record { result = command_result s c; value = cond (eqb (command_refusal P s c) 0) (value_at s c) 0 }

  abbrev pub final_from : Found → List RawStep → Found
  final_from s [] = s
  final_from s (a ∷ l) = final_from (after_decoded s (decode P a)) l

  abbrev pub answers_from : Found → List RawStep → List Answer
  answers_from s [] = []
  answers_from s (a ∷ l) = answer_decoded s (decode P a) ∷ answers_from (after_decoded s (decode P a)) l

  -- a run from a start (RULES 12.2)
  abbrev pub found_run : List RawStep → Found × List Answer
  found_run l = (final_from begin l, answers_from begin l)
