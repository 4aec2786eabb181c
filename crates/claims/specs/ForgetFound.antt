-- The forgetting map (RULES 12.1), from the states and answers of the algorithm that the store runs (Found) to those of the published one
-- (Published): the value found is left out of replies to updates and of tasks that are done with an update, and counts as 0 in the answer to a
-- report of one. Each step commutes with it, on every state. So the store's moves are the paper's, values found apart.
use Rattle.std.specs.Prelude.{ℕ, ◌≡◌, List, [], ◌∷◌, map}
use Rattle.names.specs.declared.Answer.{Answer}
use Rattle.names.specs.declared.Body as B
use Rattle.names.specs.declared.Body.TheVariants as N
use Rattle.names.specs.Placement.{Placement}
use Rattle.automaton.specs.Renaming.{channel_map}
use Rattle.claims.specs.Command.{Command, request_read, request_update, perform, send_read, send_update, dispatch, take_broadcast, take_single, deliver, report}
use Rattle.claims.specs.Steps.{RawStep, Decoded, bad, good, decode}
use Rattle.claims.specs.Messages.{Body, ReadDo, ReadReply, UpdateDo, UpdateReply}
use Rattle.claims.specs.Published.{Doing, quiet, asking_read, asking_update, waiting, done_read, done_update, Letter, Published, begin}
use Rattle.claims.specs.PublishedRun.{after_decoded, answer_decoded, final_from, answers_from}
use Rattle.claims.specs.Found.{Found}
use Rattle.claims.specs.Found as F
use Rattle.claims.specs.FoundRun as R

-- ---- of states

abbrev pub forget_body : B.Body → Body
forget_body N.ReadDo = ReadDo
forget_body (N.ReadReply v) = ReadReply v
forget_body (N.UpdateDo f w) = UpdateDo f w
forget_body (N.UpdateReply v) = UpdateReply

abbrev pub forget_letter : F.Letter → Letter
forget_letter m = record { task = m.task; reg = m.reg; body = forget_body m.body; to = m.to }

abbrev pub forget_doing : F.Doing → Doing
forget_doing F.quiet = quiet
forget_doing (F.asking_read x) = asking_read x
forget_doing (F.asking_update x f w) = asking_update x f w
forget_doing F.waiting = waiting
forget_doing (F.done_read v) = done_read v
forget_doing (F.done_update v) = done_update

abbrev pub forget : Found → Published
forget s = record {
  requests = s.requests;
  status = λ c. forget_doing (s.status c);
  table = s.table;
  out = λ i. map forget_letter (s.out i);
  channel = channel_map forget_letter s.channel;
}

-- ---- of answers

-- a value that a task gives at its report: of an update 0
abbrev pub forget_value : F.Doing → ℕ → ℕ
forget_value F.quiet n = n
forget_value (F.asking_read x) n = n
forget_value (F.asking_update x f w) n = n
forget_value F.waiting n = n
forget_value (F.done_read v) n = n
forget_value (F.done_update v) n = 0

abbrev pub forget_at : Found → Command → ℕ → ℕ
forget_at s (request_read c x) n = n
forget_at s (request_update c x f w) n = n
forget_at s (perform c) n = n
forget_at s (send_read c j) n = n
forget_at s (send_update c) n = n
forget_at s (dispatch i) n = n
forget_at s (take_broadcast i) n = n
forget_at s (take_single c) n = n
forget_at s (deliver i) n = n
forget_at s (report c) n = forget_value (s.status c) n

-- the answer to a step in state s
abbrev pub forget_answer : Found → Decoded → Answer → Answer
forget_answer s (bad n) a = a
forget_answer s (good c) a = record { result = a.result; value = forget_at s c a.value }

module _ (P : Placement) where
  -- the answers to a list of steps from state s on
  abbrev pub forget_answers : Found → List RawStep → List Answer → List Answer
  forget_answers s [] r = r
  forget_answers s (a ∷ l) [] = []
  forget_answers s (a ∷ l) (x ∷ r) = forget_answer s (decode P a) x ∷ forget_answers (R.after_decoded P s (decode P a)) l r

  -- ---- it commutes

  pub record Commutes : Type 0 where
    pub start : forget F.begin ≡ begin
    -- with each step, from every state: taken or refused, what it leaves and what it answers
    pub after : (s : Found) (d : Decoded) → forget (R.after_decoded P s d) ≡ after_decoded P (forget s) d
    pub answer : (s : Found) (d : Decoded) → forget_answer s d (R.answer_decoded P s d) ≡ answer_decoded P (forget s) d
    -- so with each list of steps
    pub final : (s : Found) (l : List RawStep) → forget (R.final_from P s l) ≡ final_from P (forget s) l
    pub answers : (s : Found) (l : List RawStep) → forget_answers s l (R.answers_from P s l) ≡ answers_from P (forget s) l
