-- No refusal of the channel is 100 or more, so none is the result of a held message (RULES 5.8).
use mathlib.Core.Bool.{Bool, true, false, cond, ◌&&◌}
use mathlib.Core.List.{List, [], ◌∷◌, ◌++◌}
use mathlib.Core.Option.{Option, none, some}
use Prim.Native.Nat.{ℕ, suc, ◌<◌}
use native.Mathlib.Omega.{arith}
use lib.Dec.{leb, ltb}
use lib.ListN.{length}
use Rattle.lists.specs.Every.{each}
use Rattle.lists.specs.Filters.{filter}
use Rattle.lists.specs.Queues.{push}
use Rattle.lists.specs.Places.{nth}
use Rattle.automaton.specs.MostBehind.{keeps_up}
use Rattle.automaton.specs.Mail.{Mail}
use Rattle.automaton.specs.State.{Tagged, ChannelState, ChannelAction, released, dispatch, take_broadcast, take_single, deliver, ripe}
use Rattle.automaton.specs.Refusals.{otherwise, broadcast_refusal, flight_refusal, dispatch_refusal, take_refusal, single_refusal, receive_refusal, channel_refusal}

pub otherwise_small : (n : ℕ) (b : Bool) → n < 100 → otherwise n b < 100
otherwise_small n true h = omega arith
otherwise_small n false h = h

pub cond_small : (b : Bool) (m n : ℕ) → m < 100 → n < 100 → cond b m n < 100
cond_small true m n h g = h
cond_small false m n h g = g

module _ {M : Type 0} (mail : Mail M) (cards : ℕ) (w : ChannelState M) where
  pub flight_small : (o : Option (Tagged M)) → flight_refusal mail cards o < 100
  flight_small none = omega arith
  flight_small (some x) = omega arith

  pub broadcast_small : broadcast_refusal mail cards w < 100
  broadcast_small =
      cond_small (each cards (λ i. keeps_up (suc (length w.sent)) (w.taken i))) (otherwise 6 (ltb (length w.sent) 65535)) 34
      (otherwise_small 6 (ltb (length w.sent) 65535) (omega arith)) (omega arith)

  pub dispatch_small : (m : M) → dispatch_refusal mail cards w m < 100
  dispatch_small m =
      cond_small (mail.multi m) (broadcast_refusal mail cards w) (flight_refusal mail cards (w.flight (mail.task m)))
      broadcast_small (flight_small (w.flight (mail.task m)))

  pub take_small : (i : ℕ) (o : Option M) → take_refusal mail cards w i o < 100
  take_small i none = omega arith
  take_small i (some m) =
      cond_small (mail.to m i && leb 32 (length (filter mail.multi (w.inbox i)))) 35 _ (omega arith)
      (otherwise_small 6 (leb (length (push (mail.to m i) m (w.inbox i) ++ released (suc (w.taken i)) (w.held i))) 48) (omega arith))

  pub single_small : (o : Option (Tagged M)) → single_refusal mail cards w o < 100
  single_small none = omega arith
  single_small (some x) =
      cond_small (ripe mail w x) _ _
      (otherwise_small 6 (ltb (length (w.inbox (mail.dest x.msg))) 48) (omega arith))
      (otherwise_small 6 (ltb (length (w.held (mail.dest x.msg))) 16) (omega arith))

  receive_small : (l : List M) → receive_refusal mail cards l < 100
  receive_small [] = omega arith
  receive_small (m ∷ l) = omega arith

  pub channel_small : (x : ChannelAction M) → channel_refusal mail cards w x < 100
  unfolding channel_refusal
  channel_small (dispatch i m) = dispatch_small m
  channel_small (take_broadcast i) = take_small i (nth w.sent (w.taken i))
  channel_small (take_single c) = single_small (w.flight c)
  channel_small (deliver i) = receive_small (w.inbox i)
