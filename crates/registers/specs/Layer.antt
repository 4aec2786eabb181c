-- The register layer (000 §5.1, Figure 5; RULES 5.1 to 5.5, 5.9, 5.10, and of 5.6 that the head leaves the outbox), with its values: the
-- table of copies, the value that a reply brings, the value that a task is done with, the value that a report gives.
-- Of the channel it sees only the events `dispatch` and `deliver` (Figure 5's mcast and receive).
--
-- The operations of a run are numbered from 0 as they are requested. What an operation is (its task, its register, whether it is an
-- update, the holder that a remote read asks, where its register's copies lie) never changes, so it stands in the world and not in the
-- state.
use Rattle.std.specs.Prelude.{ℕ, zero, suc, ◌≡◌, refl, Bool, true, false, cond, ◌&&◌, not, List, [], ◌∷◌, eqb}
use Rattle.lists.specs.Queues.{push, pop}
use Rattle.multicast.specs.Promise.{Act, mcast, receive, other}

-- What values are: any type, what each register starts at, and what an update makes of a value, by its function and operand. That values
-- can be told apart is for a channel that compares messages; nothing in this crate uses it. Where values are left out, all are the same
-- (`unvalued`).
pub record Values : Type 1 where
  pub Val : Type 0
  pub nought : ℕ → Val
  pub apply : ℕ → ℕ → Val → Val
  pub same : Val → Val → Bool
  pub same_eq : (v w : Val) → same v w ≡ true → v ≡ w
  pub same_refl : (v : Val) → same v v ≡ true

abbrev pub unvalued : Values
unvalued = record { Val = Unit {0}; nought = λ x. tt; apply = λ f w v. tt; same = λ v w. true; same_eq = λ v w e. refl; same_refl = λ v. refl }

pub record World (U : Values) : Type 0 where
  pub home : ℕ → ℕ  -- the card of a task: site(c)
  pub copy : ℕ → ℕ → Bool  -- register, card: the card holds a copy
  pub task : ℕ → ℕ  -- of an operation: its task,
  pub reg : ℕ → ℕ  -- its register,
  pub upd : ℕ → Bool  -- whether it is an update,
  pub fn : ℕ → ℕ  -- its function,
  pub arg : ℕ → ℕ  -- its operand,
  pub chosen : ℕ → ℕ  -- the holder that it asks if it is a remote read (j of global-read),
  pub holds : ℕ → ℕ → Bool  -- card: it holds a copy of the register: i ∈ sites(x),
  pub primary : ℕ → ℕ  -- the primary card of the register

-- the messages of an operation
pub data Msg (U : Values) : Type 0 where
  ask : ℕ → Msg U  -- its do message: read-do or update-do
  reply : ℕ → U.Val → Msg U  -- its reply message, with the value found: read-reply or update-reply

-- status(c), with the operation that it is about
pub data Status (U : Values) : Type 0 where
  quiet : Status U
  asking : ℕ → Status U  -- read-perform, update-perform
  waiting : ℕ → Status U  -- read-wait, update-wait
  done : ℕ → U.Val → Status U  -- read-report, update-report: with the value found

pub data Event (U : Values) : Type 0 where
  request : ℕ → Event U  -- request-read, request-update (steps 1 and 2)
  perform : ℕ → Event U  -- perform-read, perform-update (step 3)
  send : ℕ → Event U  -- global-read, global-update (steps 4 and 5)
  dispatch : Msg U → Event U  -- mcast (step 6)
  deliver : Msg U → ℕ → Event U  -- receive (step 9): message, card
  report : ℕ → U.Val → Event U  -- report-read, report-update (step 10): operation, the value that is told
  idle : Event U  -- any other step

pub record State (U : Values) : Type 0 where
  pub count : ℕ  -- operations requested so far
  pub status : ℕ → Status U  -- of each task
  pub val : ℕ → ℕ → U.Val  -- card, register: the table of copies, val
  pub out : ℕ → List (Msg U)  -- the outbox of each card, oldest first: buffer
  pub applied : ℕ → List ℕ  -- the updates applied on each card, oldest first
  pub shown : ℕ → ℕ → List ℕ  -- card, register: the updates that the copy shows, oldest first

module _ {U : Values} where
  -- the operation of a message
  abbrev pub op_of : Msg U → ℕ
  op_of (ask k) = k
  op_of (reply k v) = k

  -- status(c) := v, if a test says so
  abbrev pub put : Bool → ℕ → Status U → (ℕ → Status U) → ℕ → Status U
  put b c v f d = cond (b && eqb c d) v (f d)

abbrev pub start : (U : Values) → State U
start U = record { count = zero; status = λ c. quiet; val = λ i x. U.nought x; out = λ i. []; applied = λ i. []; shown = λ i x. [] }

module _ {U : Values} (W : World U) where
  -- the home card of an operation's task
  abbrev pub base : ℕ → ℕ
  base k = W.home (W.task k)

  -- what update k makes of a value
  abbrev pub fun : ℕ → U.Val → U.Val
  fun k v = U.apply (W.fn k) (W.arg k) v

  -- the card that answers the operation by a reply, if any does
  abbrev pub site : ℕ → ℕ
  site k = cond (W.upd k) (W.primary k) (W.chosen k)

  -- Card i answers the do message that it delivers: of a read always; of an update "if j ∉ sites(x) and i = primary(x)", j the sender.
  abbrev pub answers : ℕ → ℕ → Bool
  answers k i = cond (W.upd k) (eqb i (W.primary k) && not (W.holds k (base k))) true

  -- card i alone has a copy of the operation's register: sites(x) = {i}, given that i ∈ sites(x)
  abbrev pub Sole : ℕ → ℕ → Type 0
  Sole k i = (j : ℕ) → W.holds k j ≡ true → j ≡ i

  -- the sending card of a message, and its destinations
  abbrev pub from : Msg U → ℕ
  from (ask k) = base k
  from (reply k v) = site k

  abbrev pub to : Msg U → ℕ → Bool
  to (ask k) i = cond (W.upd k) (W.holds k i) (eqb i (W.chosen k))
  to (reply k v) i = eqb i (base k)

  -- what the channel sees
  abbrev pub view : Event U → Act (Msg U)
  view (request k) = other
  view (perform k) = other
  view (send k) = other
  view (dispatch m) = mcast m (from m) (to m)
  view (deliver m i) = receive m i
  view (report k v) = other
  view idle = other

  -- Figure 5's preconditions. A delivery is limited only by the channel's promise. (The figure also has i ∉ sites(x) for a remote read and
  -- sites(x) ≠ {i} for a global update. Sequential consistency needs neither.) A report gives the value that its task is done with.
  abbrev pub Precondition : State U → Event U → Type 0
  Precondition s (request k) = (k ≡ s.count) × (s.status (W.task k) ≡ quiet) × ((i : ℕ) → W.holds k i ≡ W.copy (W.reg k) i)
  Precondition s (perform k) = (s.status (W.task k) ≡ asking k) × (W.holds k (base k) ≡ true) × (W.upd k ≡ true → Sole k (base k))
  Precondition s (send k) = (s.status (W.task k) ≡ asking k) × (W.upd k ≡ false → W.holds k (W.chosen k) ≡ true)
  Precondition s (dispatch m) = (r : List (Msg U)) × (s.out (from m) ≡ m ∷ r)
  Precondition s (deliver m i) = Unit {0}
  Precondition s (report k v) = s.status (W.task k) ≡ done k v
  Precondition s idle = Unit {0}

  -- Figure 5's effects. What an operation finds is the copy's value just before, of a read and of an update alike.
  abbrev pub next : State U → Event U → State U
  next s (request k) = record {
    count = suc s.count;
    status = put true (W.task k) (asking k) s.status;
    val = s.val;
    out = s.out;
    applied = s.applied;
    shown = s.shown;
  }
  next s (perform k) = record {
    count = s.count;
    status = put true (W.task k) (done k (s.val (base k) (W.reg k))) s.status;
    val = λ i x. cond (W.upd k && eqb i (base k) && eqb (W.reg k) x) (fun k (s.val i x)) (s.val i x);
    out = s.out;
    applied = λ i. push (W.upd k && eqb i (base k)) k (s.applied i);
    shown = λ i x. push (W.upd k && eqb i (base k) && eqb (W.reg k) x) k (s.shown i x);
  }
  next s (send k) = record {
    count = s.count;
    status = put true (W.task k) (waiting k) s.status;
    val = s.val;
    out = λ i. push (eqb i (base k)) (ask k) (s.out i);
    applied = s.applied;
    shown = s.shown;
  }
  next s (dispatch m) = record {
    count = s.count;
    status = s.status;
    val = s.val;
    out = λ i. pop (eqb i (from m)) (s.out i);
    applied = s.applied;
    shown = s.shown;
  }
  next s (deliver (ask k) i) = record {
    count = s.count;
    status = put (W.upd k && eqb i (base k)) (W.task k) (done k (s.val i (W.reg k))) s.status;
    val = λ j x. cond (W.upd k && eqb j i && eqb (W.reg k) x) (fun k (s.val j x)) (s.val j x);
    out = λ j. push (eqb j i && answers k i) (reply k (s.val i (W.reg k))) (s.out j);
    applied = λ j. push (W.upd k && eqb j i) k (s.applied j);
    shown = λ j x. push (W.upd k && eqb j i && eqb (W.reg k) x) k (s.shown j x);
  }
  next s (deliver (reply k v) i) = record {
    count = s.count;
    status = put true (W.task k) (done k v) s.status;
    val = s.val;
    out = s.out;
    applied = s.applied;
    shown = s.shown;
  }
  next s (report k v) = record {
    count = s.count;
    status = put true (W.task k) quiet s.status;
    val = s.val;
    out = s.out;
    applied = s.applied;
    shown = s.shown;
  }
  next s idle = s

  -- the state after a history (newest first), and that each of its events could take place
  abbrev pub run : List (Event U) → State U
  run [] = start U
  run (e ∷ E) = next (run E) e

  abbrev pub Valid : List (Event U) → Type 0
  Valid [] = Unit {0}
  Valid (e ∷ E) = Precondition (run E) e × Valid E
