-- Refusals 20 to 35, then 6 for the outcome (RULES 8.2, 8.5, 8.8), of a decoded step. They are read off the requests taken, what each task
-- does, the outboxes and the channel; the messages may be of any type. The published algorithm and the ledger each give their own. 0: the step
-- is taken.
use Rattle.std.specs.Prelude.{ℕ, Bool, cond, ◌&&◌, not, List, [], ◌∷◌, leb, ltb, length}
use Rattle.lists.specs.Places.{nth}
use Rattle.names.specs.CardSet.{several}
use Rattle.names.specs.Placement.{Placement, home, holders, copy}
use Rattle.automaton.specs.Mail.{Mail}
use Rattle.automaton.specs.State.{ChannelState}
use Rattle.automaton.specs.Refusals.{otherwise, dispatch_refusal, take_refusal, single_refusal}
use Rattle.claims.specs.Command.{Command, request_read, request_update, perform, send_read, send_update, dispatch, take_broadcast, take_single, deliver, report}

-- what a task does
pub data Stage : Type 0 where
  quiet : Stage
  asks_read : ℕ → Stage  -- register
  asks_update : ℕ → Stage  -- register
  waits : Stage
  done : Stage

pub record Sight (M : Type 0) : Type 0 where
  pub requests : ℕ  -- requests taken
  pub stage : ℕ → Stage  -- by task
  pub out : ℕ → List M  -- by card: the outbox, oldest first
  pub channel : ChannelState M

-- 20: the task is not quiet; 23: 65,535 requests were taken before (RULES 7.8)
abbrev pub request_refusal : ℕ → Stage → ℕ
request_refusal n quiet = otherwise 23 (ltb n 65535)
request_refusal n (asks_read x) = 20
request_refusal n (asks_update x) = 20
request_refusal n waits = 20
request_refusal n done = 20

-- 21: the task is not done
abbrev pub report_refusal : Stage → ℕ
report_refusal quiet = 21
report_refusal (asks_read x) = 21
report_refusal (asks_update x) = 21
report_refusal waits = 21
report_refusal done = 0

-- one message more fits in an outbox (RULES 7.1), else 6
abbrev pub outbox_room : {M : Type 0} → List M → ℕ
outbox_room l = otherwise 6 (ltb (length l) 16)

module _ (P : Placement) where
  -- the card is the only holder
  abbrev pub alone : ℕ → ℕ → Bool
  alone x i = copy P x i && not (several (holders P x))

  -- 21: the task does not ask for this; 22: copies lie otherwise than the step asks. Card i is the task's home.
  -- Step 3 (RULES 5.3): a read with a copy at home, an update while home is the only holder.
  abbrev pub perform_refusal : ℕ → Stage → ℕ
  perform_refusal i quiet = 21
  perform_refusal i (asks_read x) = otherwise 22 (copy P x i)
  perform_refusal i (asks_update x) = otherwise 22 (alone x i)
  perform_refusal i waits = 21
  perform_refusal i done = 21

  -- step 4 (RULES 5.4): a read with no copy at home, and one on the chosen card
  abbrev pub send_read_refusal : {M : Type 0} → ℕ → ℕ → List M → Stage → ℕ
  send_read_refusal i j l quiet = 21
  send_read_refusal i j l (asks_read x) = cond (not (copy P x i) && copy P x j) (outbox_room l) 22
  send_read_refusal i j l (asks_update x) = 21
  send_read_refusal i j l waits = 21
  send_read_refusal i j l done = 21

  -- step 5 (RULES 5.5): an update while home is not the only holder. 6 too for a message to nobody (8.8), which no accepted placement has: its
  -- registers have holders.
  abbrev pub update_room : {M : Type 0} → ℕ → List M → ℕ
  update_room x l = cond (leb 1 (holders P x)) (outbox_room l) 6

  abbrev pub send_update_refusal : {M : Type 0} → ℕ → List M → Stage → ℕ
  send_update_refusal i l quiet = 21
  send_update_refusal i l (asks_read x) = 21
  send_update_refusal i l (asks_update x) = cond (not (alone x i)) (update_room x l) 22
  send_update_refusal i l waits = 21
  send_update_refusal i l done = 21

  -- `replies m i`: delivered on card i, message m puts a reply in the card's outbox
  module _ {M : Type 0} (mail : Mail M) (replies : M → ℕ → Bool) where
    -- step 6: 30, the outbox is empty; then the channel's own: 34, 6
    abbrev pub head_refusal : ChannelState M → List M → ℕ
    head_refusal w [] = 30
    head_refusal w (m ∷ r) = dispatch_refusal mail P.cards w m

    -- step 9: 33, the inbox is empty; 6: the reply would be the 17th in the outbox
    abbrev pub deliver_refusal : ℕ → List M → List M → ℕ
    deliver_refusal i l [] = 33
    deliver_refusal i l (m ∷ r) = cond (replies m i) (outbox_room l) 0

    -- steps 7 and 8 have the channel's refusals: 31, 35, 6 and 32, 6
    abbrev pub refusal : Sight M → Command → ℕ
    refusal s (request_read c x) = request_refusal s.requests (s.stage c)
    refusal s (request_update c x f w) = request_refusal s.requests (s.stage c)
    refusal s (perform c) = perform_refusal (home P c) (s.stage c)
    refusal s (send_read c i) = send_read_refusal (home P c) i (s.out (home P c)) (s.stage c)
    refusal s (send_update c) = send_update_refusal (home P c) (s.out (home P c)) (s.stage c)
    refusal s (dispatch i) = head_refusal s.channel (s.out i)
    refusal s (take_broadcast i) = take_refusal mail P.cards s.channel i (nth s.channel.sent (s.channel.taken i))
    refusal s (take_single c) = single_refusal mail P.cards s.channel (s.channel.flight c)
    refusal s (deliver i) = deliver_refusal i (s.out i) (s.channel.inbox i)
    refusal s (report c) = report_refusal (s.stage c)
