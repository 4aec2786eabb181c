-- The ledger on paper (RULES 12.3). It is given the placement, the codes and the arguments, and nothing of the store or its answers.
use Rattle.std.specs.Prelude.{ℕ, Bool, true, false, cond, ◌&&◌, List, [], ◌∷◌, ◌++◌, eqb, length, get_or}
use Rattle.std.proofs.Math.Option
use Rattle.std.proofs.Math.Option.{Option, none, some}
use Rattle.names.specs.CardSet.{several, sole_of}
use Rattle.names.specs.Placement.{Placement, home, holders, primary}
use Rattle.automaton.specs.Mail.{Mail}
use Rattle.automaton.specs.State.{ChannelState, ChannelAction, initial_channel, channel_step}
use Rattle.automaton.specs.State as C
use Rattle.registers.specs.Layer.{Values, World, Msg, ask, reply, op_of, Status, State, start, base, answers, to, next}
use Rattle.registers.specs.Layer as R
use Rattle.claims.specs.Holders.{in_set}
use Rattle.claims.specs.Command.{Command}
use Rattle.claims.specs.Command as K
use Rattle.claims.specs.Steps.{RawStep, Decoded, bad, good, decode}
use Rattle.claims.specs.Refusals.{Stage, Sight, refusal}
use Rattle.claims.specs.Refusals as S
use Rattle.claims.specs.Results.{result}

-- ---- what it writes down

-- an operation (RULES 12.4)
pub record Op : Type 0 where
  pub task : ℕ
  pub reg : ℕ
  pub upd : Bool
  pub fn : ℕ
  pub arg : ℕ
  pub holders : ℕ  -- the copies of its register,
  pub primary : ℕ  -- and the primary

abbrev pub read_op : Placement → ℕ → ℕ → Op
read_op P c x = record { task = c; reg = x; upd = false; fn = 0; arg = 0; holders = holders P x; primary = primary P x }

abbrev pub update_op : Placement → ℕ → ℕ → ℕ → ℕ → Op
update_op P c x f w = record { task = c; reg = x; upd = true; fn = f; arg = w; holders = holders P x; primary = primary P x }

-- stands for an operation that is not there
abbrev pub no_op : Op
no_op = record { task = 0; reg = 0; upd = false; fn = 0; arg = 0; holders = 0; primary = 0 }

-- With values U or, on paper, without (`unvalued`). The ledger that demand 3 speaks of (SerialOrder) is the one without (RULES 12.3).
pub record Ledger (U : Values) : Type 0 where
  pub ops : List Op  -- the operations, numbered from 0 in the order taken
  pub chosen : ℕ → Option ℕ  -- by operation: the holder that a taken 4 chose
  pub layer : State U  -- what each task does, the outboxes, the updates applied on each card (the register layer)
  pub channel : ChannelState (Msg U)  -- broadcasts made and taken, messages in flight and held, inboxes (the channel)

-- it begins as a store does (RULES 10.3)
abbrev pub initial_ledger : {U : Values} → Ledger U
initial_ledger {U} = record { ops = []; chosen = λ k. none; layer = start U; channel = initial_channel }

-- the operation of number k
abbrev pub op_at : List Op → ℕ → Op
op_at ops k = get_or ops k no_op

-- ---- what a taken step is

pub data Action (U : Values) : Type 0 where
  request : Op → Action U  -- 1, 2
  perform : ℕ → ℕ → Action U  -- 3: task, operation
  send : ℕ → ℕ → ℕ → Action U  -- 4, 5: task, operation, chosen card
  dispatch : ℕ → Msg U → Action U  -- 6: card, the head of its outbox
  take_broadcast : ℕ → Action U  -- 7: card
  take_single : ℕ → Action U  -- 8: task
  deliver : Msg U → ℕ → Action U  -- 9: the head of a card's inbox, card
  report : ℕ → ℕ → U.Val → Action U  -- 10: task, operation, what it is done with

-- of the operation that a task's status is about
abbrev pub about : {U : Values} → Status U → (ℕ → Action U) → Option (Action U)
about R.quiet f = none
about (R.asking k) f = some (f k)
about (R.waiting k) f = some (f k)
about (R.done k v) f = some (f k)

-- of the operation that it is done with
abbrev pub telling : {U : Values} → Status U → (ℕ → U.Val → Action U) → Option (Action U)
telling R.quiet f = none
telling (R.asking k) f = none
telling (R.waiting k) f = none
telling (R.done k v) f = some (f k v)

-- of the head of a queue
abbrev pub headed : {U : Values} → List (Msg U) → (Msg U → Action U) → Option (Action U)
headed [] f = none
headed (m ∷ l) f = some (f m)

-- what a step is, where it is taken: a 10 reports the operation that its task is done with (RULES 12.5)
abbrev pub plan : {U : Values} → Placement → Ledger U → Command → Option (Action U)
plan P b (K.request_read c x) = some (Action.request (read_op P c x))
plan P b (K.request_update c x f w) = some (Action.request (update_op P c x f w))
plan P b (K.perform c) = about (b.layer.status c) (Action.perform c)
plan P b (K.send_read c i) = about (b.layer.status c) (λ k. Action.send c k i)
plan P b (K.send_update c) = about (b.layer.status c) (λ k. Action.send c k 0)
plan P b (K.dispatch i) = headed (b.layer.out i) (Action.dispatch i)
plan P b (K.take_broadcast i) = some (Action.take_broadcast i)
plan P b (K.take_single c) = some (Action.take_single c)
plan P b (K.deliver i) = headed (b.channel.inbox i) (λ m. Action.deliver m i)
plan P b (K.report c) = telling (b.layer.status c) (Action.report c)

-- the chosen card, kept at its first value
abbrev pub first : Option ℕ → ℕ → Option ℕ
first none i = some i
first (some j) i = some j

abbrev pub choosing : (ℕ → Option ℕ) → ℕ → ℕ → ℕ → Option ℕ
choosing f k i j = cond (eqb j k) (first (f j) i) (f j)

-- what the rules ask of a task and of a message
abbrev pub asks : Op → Stage
asks o = cond o.upd (S.asks_update o.reg) (S.asks_read o.reg)

abbrev pub stage_of : {U : Values} → List Op → Status U → Stage
stage_of ops R.quiet = S.quiet
stage_of ops (R.asking k) = asks (op_at ops k)
stage_of ops (R.waiting k) = S.waits
stage_of ops (R.done k v) = S.done

-- delivered on card i, the message is answered by a reply
abbrev pub answered_of : {U : Values} → World U → Msg U → ℕ → Bool
answered_of W (ask k) i = answers W k i
answered_of W (reply k v) i = false

-- one more action, if there is one
abbrev pub noted : {U : Values} → Option (Action U) → List (Action U) → List (Action U)
noted none ds = ds
noted (some d) ds = d ∷ ds

-- the copies of each operation's register
abbrev pub sets_of : List Op → ℕ → ℕ
sets_of ops k = (op_at ops k).holders

-- A message carries its operation's number; a reply, that of the message that it answers (RULES 12.4). What the channel reads off a message:
module _ {U : Values} (sets : ℕ → ℕ) (W : World U) where
  abbrev pub wide : Msg U → Bool
  wide (ask k) = W.upd k && several (sets k)
  wide (reply k v) = false

  abbrev pub target : Msg U → ℕ
  target (ask k) = cond (W.upd k) (sole_of (sets k)) (W.chosen k)
  target (reply k v) = base W k

  abbrev pub mail_of : Mail (Msg U)
  mail_of = record { task = λ m. W.task (op_of m); to = to W; multi = wide; dest = target }

module _ {U : Values} (P : Placement) where
  -- ---- how it is done

  -- the placement and the operations, as the register layer sees them
  abbrev pub world_of : List Op → (ℕ → Option ℕ) → World U
  world_of ops chosen = record {
    home = home P;
    copy = λ x. in_set (holders P x);
    task = λ k. (op_at ops k).task;
    reg = λ k. (op_at ops k).reg;
    upd = λ k. (op_at ops k).upd;
    fn = λ k. (op_at ops k).fn;
    arg = λ k. (op_at ops k).arg;
    chosen = λ k. Option.get_or (chosen k) 0;
    holds = λ k. in_set (op_at ops k).holders;
    primary = λ k. (op_at ops k).primary;
  }

  abbrev pub world : Ledger U → World U
  world b = world_of b.ops b.chosen

  abbrev pub ledger_mail : Ledger U → Mail (Msg U)
  ledger_mail b = mail_of (sets_of b.ops) (world b)

  abbrev pub channel_after : Ledger U → ChannelAction (Msg U) → ChannelState (Msg U)
  channel_after b x = channel_step (ledger_mail b) b.channel x

  -- what a taken step does; an update is applied (RULES 12.6) as the register layer's `applied` says
  abbrev pub step : Ledger U → Action U → Ledger U
  step b (request o) = record {
    ops = b.ops ++ (o ∷ []);
    chosen = b.chosen;
    layer = next (world_of (b.ops ++ (o ∷ [])) b.chosen) b.layer (R.request (length b.ops));
    channel = b.channel;
  }
  step b (perform c k) = record { ops = b.ops; chosen = b.chosen; layer = next (world b) b.layer (R.perform k); channel = b.channel }
  step b (send c k i) = record { ops = b.ops; chosen = choosing b.chosen k i; layer = next (world b) b.layer (R.send k); channel = b.channel }
  step b (dispatch i m) = record { ops = b.ops; chosen = b.chosen; layer = next (world b) b.layer (R.dispatch m); channel = channel_after b (C.dispatch i m) }
  step b (take_broadcast i) = record { ops = b.ops; chosen = b.chosen; layer = b.layer; channel = channel_after b (C.take_broadcast i) }
  step b (take_single c) = record { ops = b.ops; chosen = b.chosen; layer = b.layer; channel = channel_after b (C.take_single c) }
  step b (deliver m i) = record { ops = b.ops; chosen = b.chosen; layer = next (world b) b.layer (R.deliver m i); channel = channel_after b (C.deliver i) }
  step b (report c k v) = record { ops = b.ops; chosen = b.chosen; layer = next (world b) b.layer (R.report k v); channel = b.channel }

  -- the ledger after a list of actions, newest first
  abbrev pub ledger : List (Action U) → Ledger U
  ledger [] = initial_ledger
  ledger (d ∷ ds) = step (ledger ds) d

  -- ---- which steps are taken, and with which number the others are refused

  -- the requests taken are the operations
  abbrev pub sight_of : Ledger U → Sight (Msg U)
  sight_of b = record { requests = length b.ops; stage = λ c. stage_of b.ops (b.layer.status c); out = b.layer.out; channel = b.channel }

  abbrev pub ledger_refusal : Ledger U → Command → ℕ
  ledger_refusal b c = refusal P (ledger_mail b) (answered_of (world b)) (sight_of b) c

  -- the result of a step as it is given: 0 or 100 if it is taken, else the number
  abbrev pub decoded_number : Ledger U → Decoded → ℕ
  decoded_number b (bad n) = n
  decoded_number b (good c) = result P (ledger_mail b) (answered_of (world b)) (sight_of b) c

  abbrev pub number_of : Ledger U → RawStep → ℕ
  number_of b s = decoded_number b (decode P s)

  -- ---- following the list: a refused step changes nothing (RULES 5.12)

  abbrev pub notes : List (Action U) → Decoded → List (Action U)
  notes ds (bad n) = ds
  notes ds (good c) = noted (cond (eqb (ledger_refusal (ledger ds) c) 0) (plan P (ledger ds) c) none) ds

  -- the actions of the steps taken, newest first
  abbrev pub paper_from : List (Action U) → List RawStep → List (Action U)
  paper_from ds [] = ds
  paper_from ds (s ∷ l) = paper_from (notes ds (decode P s)) l

  abbrev pub paper : List RawStep → List (Action U)
  paper l = paper_from [] l
