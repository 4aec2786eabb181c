-- The algorithm that the store runs: 000 Figures 5 and 7, a move for each of the ten steps as in Published, and with the end of each update the
-- value that it found (RULES 5.3, 5.9, 5.10): a reply to an update and a task that is done with one have it with them. Nothing else looks at it.
-- ForgetFound leaves it out again, and what is left are the moves of Published.
use Rattle.std.specs.Prelude.{ℕ, suc, Bool, true, false, cond, ◌&&◌, not, List, [], ◌∷◌, eqb}
use Rattle.lists.specs.Queues.{push, pop}
use Rattle.names.specs.declared.Body.{Body}
use Rattle.names.specs.declared.Body.TheVariants.{ReadDo, ReadReply, UpdateDo, UpdateReply}
use Rattle.names.specs.CardSet.{member_of, several, sole_of, just_of}
use Rattle.names.specs.Update.{updated}
use Rattle.names.specs.Placement.{Placement, home, holders, primary, copy}
use Rattle.automaton.specs.Mail.{Mail}
use Rattle.automaton.specs.State.{ChannelState, initial_channel, channel_step}
use Rattle.automaton.specs.State as C
use Rattle.claims.specs.Command.{Command, request_read, request_update, perform, send_read, send_update, dispatch, take_broadcast, take_single, deliver, report}
pub use Rattle.claims.specs.Published.{set_copy}
use Rattle.claims.specs.Refusals.{Stage, Sight, refusal}
use Rattle.claims.specs.Refusals as S

-- ---- the state

-- status(c)
pub data Doing : Type 0 where
  quiet : Doing
  asking_read : ℕ → Doing
  asking_update : ℕ → ℕ → ℕ → Doing
  waiting : Doing
  done_read : ℕ → Doing  -- the value read
  done_update : ℕ → Doing  -- the value found

-- an entry of buffer; a reply to an update has the value found in its body
pub record Letter : Type 0 where
  pub task : ℕ
  pub reg : ℕ
  pub body : Body
  pub to : ℕ

pub record Found : Type 0 where
  pub requests : ℕ
  pub status : ℕ → Doing
  pub table : ℕ → ℕ → ℕ
  pub out : ℕ → List Letter
  pub channel : ChannelState Letter

abbrev pub begin : Found
begin = record { requests = 0; status = λ c. quiet; table = λ i x. 0; out = λ i. []; channel = initial_channel }

abbrev pub mail : Mail Letter
mail = record { task = λ m. m.task; to = λ m i. member_of m.to i; multi = λ m. several m.to; dest = λ m. sole_of m.to }

-- status(c) := v
abbrev pub set_status : ℕ → Doing → (ℕ → Doing) → ℕ → Doing
set_status c v f d = cond (eqb c d) v (f d)

-- add m to the buffer of card i
abbrev pub post : ℕ → Letter → (ℕ → List Letter) → ℕ → List Letter
post i m o j = push (eqb j i) m (o j)

-- ---- one part of the state changed

abbrev pub with_status : Found → ℕ → Doing → Found
with_status s c v = record { requests = s.requests; status = set_status c v s.status; table = s.table; out = s.out; channel = s.channel }

abbrev pub with_copy : Found → ℕ → ℕ → ℕ → Found
with_copy s i x v = record { requests = s.requests; status = s.status; table = set_copy i x v s.table; out = s.out; channel = s.channel }

abbrev pub with_letter : Found → ℕ → Letter → Found
with_letter s i m = record { requests = s.requests; status = s.status; table = s.table; out = post i m s.out; channel = s.channel }

abbrev pub with_channel : Found → ChannelState Letter → Found
with_channel s w = record { requests = s.requests; status = s.status; table = s.table; out = s.out; channel = w }

-- ---- steps 1 and 2

abbrev pub requesting : Found → ℕ → Doing → Found
requesting s c v = record { requests = suc s.requests; status = set_status c v s.status; table = s.table; out = s.out; channel = s.channel }

-- ---- step 3: the update finds the value of the home's copy just before

abbrev pub performing : Found → ℕ → ℕ → Doing → Found
performing s c i quiet = s
performing s c i (asking_read x) = with_status s c (done_read (s.table i x))
performing s c i (asking_update x f w) = with_status (with_copy s i x (updated f w (s.table i x))) c (done_update (s.table i x))
performing s c i waiting = s
performing s c i (done_read v) = s
performing s c i (done_update v) = s

module _ (P : Placement) where
  -- ---- steps 4 and 5: an update message carries no value

  abbrev pub sending : Found → ℕ → ℕ → Body → ℕ → Found
  sending s c x b to = with_letter (with_status s c waiting) (home P c) (record { task = c; reg = x; body = b; to = to })

  abbrev pub sending_read : Found → ℕ → ℕ → Doing → Found
  sending_read s c j quiet = s
  sending_read s c j (asking_read x) = sending s c x ReadDo (just_of j)
  sending_read s c j (asking_update x f w) = s
  sending_read s c j waiting = s
  sending_read s c j (done_read v) = s
  sending_read s c j (done_update v) = s

  abbrev pub sending_update : Found → ℕ → Doing → Found
  sending_update s c quiet = s
  sending_update s c (asking_read x) = s
  sending_update s c (asking_update x f w) = sending s c x (UpdateDo f w) (holders P x)
  sending_update s c waiting = s
  sending_update s c (done_read v) = s
  sending_update s c (done_update v) = s

  -- ---- step 6

  abbrev pub dispatching : Found → ℕ → List Letter → Found
  dispatching s i [] = s
  dispatching s i (m ∷ r) = record {
    requests = s.requests;
    status = s.status;
    table = s.table;
    out = λ j. pop (eqb j i) (s.out j);
    channel = channel_step mail s.channel (C.dispatch i m);
  }

  -- ---- step 9

  abbrev pub replies : Letter → ℕ → Body → Bool
  replies m i ReadDo = true
  replies m i (ReadReply v) = false
  replies m i (UpdateDo f w) = eqb i (primary P m.reg) && not (copy P m.reg (home P m.task))
  replies m i (UpdateReply v) = false

  abbrev pub answered : Letter → ℕ → Bool
  answered m i = replies m i m.body

  abbrev pub reply_to : Letter → Body → Letter
  reply_to m b = record { task = m.task; reg = m.reg; body = b; to = just_of (home P m.task) }

  -- the head leaves the inbox of card i
  abbrev pub popping : Found → ℕ → Found
  popping s i = with_channel s (channel_step mail s.channel (C.deliver i))

  abbrev pub receiving : Found → ℕ → Letter → Body → Found
  receiving s i m ReadDo = with_letter (popping s i) i (reply_to m (ReadReply (s.table i m.reg)))
  receiving s i m (ReadReply v) = with_status (popping s i) m.task (done_read v)
  -- an update finds the value of this card's copy just before: the task of this card is done with it, the primary's reply brings it
  receiving s i m (UpdateDo f w) = record {
    requests = s.requests;
    status = cond (eqb i (home P m.task)) (set_status m.task (done_update (s.table i m.reg)) s.status) s.status;
    table = set_copy i m.reg (updated f w (s.table i m.reg)) s.table;
    out = cond (replies m i (UpdateDo f w)) (post i (reply_to m (UpdateReply (s.table i m.reg))) s.out) s.out;
    channel = channel_step mail s.channel (C.deliver i);
  }
  receiving s i m (UpdateReply v) = with_status (popping s i) m.task (done_update v)

  abbrev pub delivering : Found → ℕ → List Letter → Found
  delivering s i [] = s
  delivering s i (m ∷ r) = receiving s i m m.body

  -- ---- what a taken step does

  abbrev pub effect : Found → Command → Found
  effect s (request_read c x) = requesting s c (asking_read x)
  effect s (request_update c x f w) = requesting s c (asking_update x f w)
  effect s (perform c) = performing s c (home P c) (s.status c)
  effect s (send_read c j) = sending_read s c j (s.status c)
  effect s (send_update c) = sending_update s c (s.status c)
  effect s (dispatch i) = dispatching s i (s.out i)
  effect s (take_broadcast i) = with_channel s (channel_step mail s.channel (C.take_broadcast i))
  effect s (take_single c) = with_channel s (channel_step mail s.channel (C.take_single c))
  effect s (deliver i) = delivering s i (s.channel.inbox i)
  effect s (report c) = with_status s c quiet

  -- ---- with which number it is refused

  abbrev pub stage : Doing → Stage
  stage quiet = S.quiet
  stage (asking_read x) = S.asks_read x
  stage (asking_update x f w) = S.asks_update x
  stage waiting = S.waits
  stage (done_read v) = S.done
  stage (done_update v) = S.done

  abbrev pub sight : Found → Sight Letter
  sight s = record { requests = s.requests; stage = λ c. stage (s.status c); out = s.out; channel = s.channel }

  abbrev pub command_refusal : Found → Command → ℕ
  command_refusal s c = refusal P mail answered (sight s) c
