-- The channel's state as lists, and what its four operations do (RULES 5.6 to 5.9, 6.1 to 6.5; 000 Figure 7, with what BC and PP carry).
use Rattle.std.specs.Prelude.{ℕ, zero, suc, Bool, true, false, cond, List, [], ◌∷◌, ◌++◌, eqb, leb}
use Rattle.std.proofs.Math.Option.{Option, none, some}
use Rattle.lists.specs.Places.{nth}
use Rattle.lists.specs.Queues.{push, pop}
use Rattle.automaton.specs.Mail.{Mail}

-- a message with one destination, and its tag
pub record Tagged (M : Type 0) : Type 0 where
  pub msg : M
  pub mark : ℕ

pub record ChannelState (M : Type 0) : Type 0 where
  pub sent : List M  -- the broadcasts made (BC); number n stands at place n - 1
  pub taken : ℕ → ℕ  -- by card: broadcasts taken (seqno)
  pub flight : ℕ → Option (Tagged M)  -- by task: the message in flight (PP)
  pub held : ℕ → List (Tagged M)  -- by card, in order of arrival (ppwait)
  pub inbox : ℕ → List M  -- by card, oldest first (msgs)

-- at the start (RULES 10.3)
abbrev pub initial_channel : {M : Type 0} → ChannelState M
initial_channel = record { sent = []; taken = λ i. zero; flight = λ c. none; held = λ i. []; inbox = λ i. [] }

module _ {M : Type 0} where
  -- of the held messages, those with tag n, in their order
  abbrev pub choose : Bool → M → List M → List M
  choose true m l = m ∷ l
  choose false m l = l

  abbrev pub released : ℕ → List (Tagged M) → List M
  released n [] = []
  released n (x ∷ l) = choose (eqb x.mark n) x.msg (released n l)

  -- and the others
  abbrev pub leave : Bool → Tagged M → List (Tagged M) → List (Tagged M)
  leave true x l = l
  leave false x l = x ∷ l

  abbrev pub kept : ℕ → List (Tagged M) → List (Tagged M)
  kept n [] = []
  kept n (x ∷ l) = leave (eqb x.mark n) x (kept n l)

-- the four operations, by what they name
pub data ChannelAction (M : Type 0) : Type 0 where
  dispatch : ℕ → M → ChannelAction M  -- step 6: sending card, message
  take_broadcast : ℕ → ChannelAction M  -- step 7: card
  take_single : ℕ → ChannelAction M  -- step 8: task
  deliver : ℕ → ChannelAction M  -- step 9: card

-- the message with its tag, the number of broadcasts that the sending card has taken (RULES 6.3)
abbrev pub tagging : {M : Type 0} → ChannelState M → ℕ → M → Tagged M
tagging w i m = record { msg = m; mark = w.taken i }

module _ {M : Type 0} (mail : Mail M) where
  -- the tag is at most the number taken at the destination (RULES 5.8)
  abbrev pub ripe : ChannelState M → Tagged M → Bool
  ripe w x = leb x.mark (w.taken (mail.dest x.msg))

  -- step 6 (mcast to BC or PP): the next broadcast, or tagged and in flight (RULES 5.6)
  abbrev pub dispatching : Bool → ChannelState M → ℕ → M → ChannelState M
  dispatching true w i m = record { sent = w.sent ++ (m ∷ []); taken = w.taken; flight = w.flight; held = w.held; inbox = w.inbox }
  dispatching false w i m = record {
    sent = w.sent;
    taken = w.taken;
    flight = λ c. cond (eqb c (mail.task m)) (some (tagging w i m)) (w.flight c);
    held = w.held;
    inbox = w.inbox;
  }

  -- step 7 (receive from BC): the next broadcast joins or is dropped, then held messages with its number as tag join (RULES 5.7)
  abbrev pub taking : ChannelState M → ℕ → Option M → ChannelState M
  taking w i none = w
  taking w i (some m) = record {
    sent = w.sent;
    taken = λ j. cond (eqb j i) (suc (w.taken j)) (w.taken j);
    flight = w.flight;
    held = λ j. cond (eqb j i) (kept (suc (w.taken i)) (w.held j)) (w.held j);
    inbox = λ j. cond (eqb j i) (push (mail.to m i) m (w.inbox j) ++ released (suc (w.taken i)) (w.held j)) (w.inbox j);
  }

  -- step 8 (receive from PP): the message joins the inbox, or is held (RULES 5.8)
  abbrev pub landing : Bool → ChannelState M → ℕ → Tagged M → ChannelState M
  landing true w c x = record {
    sent = w.sent;
    taken = w.taken;
    flight = λ d. cond (eqb d c) none (w.flight d);
    held = w.held;
    inbox = λ j. push (eqb j (mail.dest x.msg)) x.msg (w.inbox j);
  }
  landing false w c x = record {
    sent = w.sent;
    taken = w.taken;
    flight = λ d. cond (eqb d c) none (w.flight d);
    held = λ j. push (eqb j (mail.dest x.msg)) x (w.held j);
    inbox = w.inbox;
  }

  abbrev pub arriving : ChannelState M → ℕ → Option (Tagged M) → ChannelState M
  arriving w c none = w
  arriving w c (some x) = landing (ripe w x) w c x

  -- step 9 (receive): the head leaves the inbox (RULES 5.9)
  abbrev pub delivering : ChannelState M → ℕ → ChannelState M
  delivering w i = record { sent = w.sent; taken = w.taken; flight = w.flight; held = w.held; inbox = λ j. pop (eqb j i) (w.inbox j) }

  abbrev pub channel_step : ChannelState M → ChannelAction M → ChannelState M
  channel_step w (dispatch i m) = dispatching (mail.multi m) w i m
  channel_step w (take_broadcast i) = taking w i (nth w.sent (w.taken i))
  channel_step w (take_single c) = arriving w c (w.flight c)
  channel_step w (deliver i) = delivering w i
