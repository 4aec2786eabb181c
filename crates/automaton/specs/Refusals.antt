-- Which operation of the channel is refused, and with which number: 31 to 35, then 6 for the outcome (RULES 8.2, 8.5, 8.8). 0: it is done.
use Rattle.std.specs.Prelude.{ℕ, suc, Bool, true, false, cond, ◌&&◌, List, [], ◌∷◌, ◌++◌, leb, ltb, length}
use Rattle.std.proofs.Math.Option.{Option, none, some}
use Rattle.lists.specs.Every.{each}
use Rattle.lists.specs.Filters.{filter}
use Rattle.lists.specs.Queues.{push}
use Rattle.lists.specs.Places.{nth}
use Rattle.automaton.specs.MostBehind.{keeps_up}
use Rattle.automaton.specs.Mail.{Mail}
use Rattle.automaton.specs.State.{Tagged, ChannelState, released, ChannelAction, dispatch, take_broadcast, take_single, deliver, ripe}

-- 0 if the test passes, else the refusal
abbrev pub otherwise : ℕ → Bool → ℕ
otherwise n true = 0
otherwise n false = n

module _ {M : Type 0} (mail : Mail M) (cards : ℕ) where
  -- 34: a card would be more than `most_behind` behind (RULES 7.5); 6: broadcast 65,536 (7.7)
  abbrev pub broadcast_refusal : ChannelState M → ℕ
  broadcast_refusal w =
      cond (each cards (λ i. keeps_up (suc (length w.sent)) (w.taken i))) (otherwise 6 (ltb (length w.sent) 65535)) 34

  -- 6: a second message of the task in flight (RULES 7.4)
  abbrev pub flight_refusal : Option (Tagged M) → ℕ
  flight_refusal none = 0
  flight_refusal (some x) = 6

  -- step 6, once there is a message to dispatch
  abbrev pub dispatch_refusal : ChannelState M → M → ℕ
  dispatch_refusal w m = cond (mail.multi m) (broadcast_refusal w) (flight_refusal (w.flight (mail.task m)))

  -- step 7. 31: no broadcast to take; 35: the card is a destination with 32 undelivered broadcasts (RULES 7.6); 6: a 49th in the inbox (7.2)
  abbrev pub take_refusal : ChannelState M → ℕ → Option M → ℕ
  take_refusal w i none = 31
  take_refusal w i (some m) =
      cond (mail.to m i && leb 32 (length (filter mail.multi (w.inbox i)))) 35
      (otherwise 6 (leb (length (push (mail.to m i) m (w.inbox i) ++ released (suc (w.taken i)) (w.held i))) 48))

  -- step 8. 32: nothing of the task in flight; 6: a 49th message in the inbox (RULES 7.2), or a 17th held (7.3)
  abbrev pub single_refusal : ChannelState M → Option (Tagged M) → ℕ
  single_refusal w none = 32
  single_refusal w (some x) =
      cond (ripe mail w x)
      (otherwise 6 (ltb (length (w.inbox (mail.dest x.msg))) 48))
      (otherwise 6 (ltb (length (w.held (mail.dest x.msg))) 16))

  -- step 9. 33: the inbox is empty
  abbrev pub receive_refusal : List M → ℕ
  receive_refusal [] = 33
  receive_refusal (m ∷ l) = 0

  unfoldable pub channel_refusal : ChannelState M → ChannelAction M → ℕ
  channel_refusal w (dispatch i m) = dispatch_refusal w m
  channel_refusal w (take_broadcast i) = take_refusal w i (nth w.sent (w.taken i))
  channel_refusal w (take_single c) = single_refusal w (w.flight c)
  channel_refusal w (deliver i) = receive_refusal (w.inbox i)
