-- The published algorithm, 000 Figure 5 (automaton P_i) and Figure 7 (the daemon), over idealised lists, one state for all cards. One move for
-- each of the ten steps: what it does (`effect`, RULES 5.1 to 5.10). When it may be taken stands in Allowed, with which number it is refused in
-- Refusals. A step merges some fragments and fixes the figures' choices (RULES 1.2); each move says which fragments it is.
use Rattle.std.specs.Prelude.{ℕ, suc, Bool, true, false, cond, ◌&&◌, not, List, [], ◌∷◌, eqb}
use Rattle.lists.specs.Queues.{push, pop}
use Rattle.names.specs.CardSet.{member_of, several, sole_of, just_of}
use Rattle.names.specs.Update.{updated}
use Rattle.names.specs.Placement.{Placement, home, holders, primary, copy}
use Rattle.automaton.specs.Mail.{Mail}
use Rattle.automaton.specs.State.{ChannelState, initial_channel, channel_step}
use Rattle.automaton.specs.State as C
use Rattle.claims.specs.Command.{Command, request_read, request_update, perform, send_read, send_update, dispatch, take_broadcast, take_single, deliver, report}
use Rattle.claims.specs.Messages.{Body, ReadDo, ReadReply, UpdateDo, UpdateReply}
use Rattle.claims.specs.Refusals.{Stage, Sight, refusal}
use Rattle.claims.specs.Refusals as S

-- ---- the state

-- Figure 5: status(c). The operation's name ξ is left out: a task has one open request.
pub data Doing : Type 0 where
  quiet : Doing
  asking_read : ℕ → Doing  -- (read-perform, x)
  asking_update : ℕ → ℕ → ℕ → Doing  -- (update-perform, x, f): register, function, operand
  waiting : Doing  -- (read-wait, x), (update-wait, x)
  done_read : ℕ → Doing  -- (read-report, x, v): the value read
  done_update : Doing  -- (update-report, x)

-- Figure 5: an entry of buffer, (message, destination set)
pub record Letter : Type 0 where
  pub task : ℕ
  pub reg : ℕ
  pub body : Body
  pub to : ℕ  -- the set of its destinations

pub record Published : Type 0 where
  pub requests : ℕ  -- requests taken, for refusal 23
  pub status : ℕ → Doing  -- by task: status(c)
  pub table : ℕ → ℕ → ℕ  -- by card and register: val(x)
  pub out : ℕ → List Letter  -- by card: buffer
  pub channel : ChannelState Letter  -- Figure 7: seqno, msgs, ppwait; and what BC and PP carry

-- at the start (RULES 10.3)
abbrev pub begin : Published
begin = record { requests = 0; status = λ c. quiet; table = λ i x. 0; out = λ i. []; channel = initial_channel }

-- what the channel reads off a letter
abbrev pub mail : Mail Letter
mail = record { task = λ m. m.task; to = λ m i. member_of m.to i; multi = λ m. several m.to; dest = λ m. sole_of m.to }

-- status(c) := v
abbrev pub set_status : ℕ → Doing → (ℕ → Doing) → ℕ → Doing
set_status c v f d = cond (eqb c d) v (f d)

-- val(x) := v on card i
abbrev pub set_copy : ℕ → ℕ → ℕ → (ℕ → ℕ → ℕ) → ℕ → ℕ → ℕ
set_copy i x v t j y = cond (eqb j i && eqb x y) v (t j y)

-- add m to the buffer of card i
abbrev pub post : ℕ → Letter → (ℕ → List Letter) → ℕ → List Letter
post i m o j = push (eqb j i) m (o j)

abbrev pub with_channel : Published → ChannelState Letter → Published
with_channel s w = record { requests = s.requests; status = s.status; table = s.table; out = s.out; channel = w }

-- ---- steps 1 and 2 (Figure 5: request-read, request-update)

abbrev pub requesting : Published → ℕ → Doing → Published
requesting s c v = record { requests = suc s.requests; status = set_status c v s.status; table = s.table; out = s.out; channel = s.channel }

-- ---- step 3 (Figure 5: perform-read, perform-update), on the home card i of task c

abbrev pub performing : Published → ℕ → ℕ → Doing → Published
performing s c i quiet = s
performing s c i (asking_read x) = record {
  requests = s.requests;
  status = set_status c (done_read (s.table i x)) s.status;
  table = s.table;
  out = s.out;
  channel = s.channel;
}
performing s c i (asking_update x f w) = record {
  requests = s.requests;
  status = set_status c done_update s.status;
  table = set_copy i x (updated f w (s.table i x)) s.table;
  out = s.out;
  channel = s.channel;
}
performing s c i waiting = s
performing s c i (done_read v) = s
performing s c i done_update = s

module _ (P : Placement) where
  -- ---- steps 4 and 5 (Figure 5: global-read, global-update): a do message of task c joins its home's outbox, to `to`

  abbrev pub sending : Published → ℕ → ℕ → Body → ℕ → Published
  sending s c x b to = record {
    requests = s.requests;
    status = set_status c waiting s.status;
    table = s.table;
    out = post (home P c) (record { task = c; reg = x; body = b; to = to }) s.out;
    channel = s.channel;
  }

  -- global-read: to {j}, "where j is any element of sites(x)": the step chooses it
  abbrev pub sending_read : Published → ℕ → ℕ → Doing → Published
  sending_read s c j quiet = s
  sending_read s c j (asking_read x) = sending s c x ReadDo (just_of j)
  sending_read s c j (asking_update x f w) = s
  sending_read s c j waiting = s
  sending_read s c j (done_read v) = s
  sending_read s c j done_update = s

  -- global-update: to sites(x)
  abbrev pub sending_update : Published → ℕ → Doing → Published
  sending_update s c quiet = s
  sending_update s c (asking_read x) = s
  sending_update s c (asking_update x f w) = sending s c x (UpdateDo f w) (holders P x)
  sending_update s c waiting = s
  sending_update s c (done_read v) = s
  sending_update s c done_update = s

  -- ---- step 6 (Figure 5: mcast; Figure 7: mcast to BC or to PP): the head leaves the outbox of card i for the channel

  abbrev pub dispatching : Published → ℕ → List Letter → Published
  dispatching s i [] = s
  dispatching s i (m ∷ r) = record {
    requests = s.requests;
    status = s.status;
    table = s.table;
    out = λ j. pop (eqb j i) (s.out j);
    channel = channel_step mail s.channel (C.dispatch i m);
  }

  -- ---- steps 7 and 8 (Figure 7: receive from BC, receive from PP) are the channel's alone

  -- ---- step 9 (Figure 7: receive, with Figure 5's receive of the same message): the head leaves the inbox of card i, then what its body
  -- says: the four fragments in the figure's order. The sender j of a do message is the home of its task; who sent a reply makes no difference.

  -- Figure 5: whether a reply is added to buffer: of read-do always; of update-do "if j ∉ sites(x) and i = primary(x)"
  abbrev pub replies : Letter → ℕ → Body → Bool
  replies m i ReadDo = true
  replies m i (ReadReply v) = false
  replies m i (UpdateDo f w) = eqb i (primary P m.reg) && not (copy P m.reg (home P m.task))
  replies m i UpdateReply = false

  abbrev pub answered : Letter → ℕ → Bool
  answered m i = replies m i m.body

  -- the reply of card i to message m: to {j}
  abbrev pub reply_to : Letter → Body → Letter
  reply_to m b = record { task = m.task; reg = m.reg; body = b; to = just_of (home P m.task) }

  abbrev pub receiving : Published → ℕ → Letter → Body → Published
  -- receive((read-do, c, ξ, x), j)_i
  receiving s i m ReadDo = record {
    requests = s.requests;
    status = s.status;
    table = s.table;
    out = post i (reply_to m (ReadReply (s.table i m.reg))) s.out;
    channel = channel_step mail s.channel (C.deliver i);
  }
  -- receive((read-reply, c, ξ, x, v), j)_i
  receiving s i m (ReadReply v) = record {
    requests = s.requests;
    status = set_status m.task (done_read v) s.status;
    table = s.table;
    out = s.out;
    channel = channel_step mail s.channel (C.deliver i);
  }
  -- receive((update-do, c, ξ, x, f), j)_i
  receiving s i m (UpdateDo f w) = record {
    requests = s.requests;
    status = cond (eqb i (home P m.task)) (set_status m.task done_update s.status) s.status;
    table = set_copy i m.reg (updated f w (s.table i m.reg)) s.table;
    out = cond (eqb i (primary P m.reg) && not (copy P m.reg (home P m.task))) (post i (reply_to m UpdateReply) s.out) s.out;
    channel = channel_step mail s.channel (C.deliver i);
  }
  -- receive((update-reply, c, ξ, x), j)_i
  receiving s i m UpdateReply = record {
    requests = s.requests;
    status = set_status m.task done_update s.status;
    table = s.table;
    out = s.out;
    channel = channel_step mail s.channel (C.deliver i);
  }

  abbrev pub delivering : Published → ℕ → List Letter → Published
  delivering s i [] = s
  delivering s i (m ∷ r) = receiving s i m m.body

  -- ---- what a taken step does

  abbrev pub effect : Published → Command → Published
  effect s (request_read c x) = requesting s c (asking_read x)
  effect s (request_update c x f w) = requesting s c (asking_update x f w)
  effect s (perform c) = performing s c (home P c) (s.status c)
  effect s (send_read c j) = sending_read s c j (s.status c)
  effect s (send_update c) = sending_update s c (s.status c)
  effect s (dispatch i) = dispatching s i (s.out i)
  effect s (take_broadcast i) = with_channel s (channel_step mail s.channel (C.take_broadcast i))
  effect s (take_single c) = with_channel s (channel_step mail s.channel (C.take_single c))
  effect s (deliver i) = delivering s i (s.channel.inbox i)
  -- step 10 (Figure 5: report-read, report-update)
  effect s (report c) = record { requests = s.requests; status = set_status c quiet s.status; table = s.table; out = s.out; channel = s.channel }

  -- ---- with which number it is refused

  abbrev pub stage : Doing → Stage
  stage quiet = S.quiet
  stage (asking_read x) = S.asks_read x
  stage (asking_update x f w) = S.asks_update x
  stage waiting = S.waits
  stage (done_read v) = S.done
  stage done_update = S.done

  abbrev pub sight : Published → Sight Letter
  sight s = record { requests = s.requests; stage = λ c. stage (s.status c); out = s.out; channel = s.channel }

  abbrev pub command_refusal : Published → Command → ℕ
  command_refusal s c = refusal P mail answered (sight s) c
