-- Which steps of the automaton (Automaton, 000 Figure 7) an operation of the channel's state (State) is, on a history, newest first.
use Rattle.std.specs.Prelude.{cond, List, [], ◌∷◌, ℕ, suc}
use Rattle.std.proofs.Math.Option.{Option, none, some}
use Rattle.lists.specs.Places.{nth}
use Rattle.automaton.specs.Mail.{Mail}
use Rattle.automaton.specs.State.{Tagged, ChannelState, released, ChannelAction, dispatch, take_broadcast, take_single, deliver, ripe}
use Rattle.automaton.specs.Automaton.{Step, mcast, take, join, receive}

module _ {M : Type 0} where
  -- the messages of a list join, one after the other
  abbrev pub joins : List M → List (Step M) → List (Step M)
  joins [] E = E
  joins (m ∷ l) E = joins l (join m ∷ E)

  -- step 7: the card takes the broadcast, then the released messages join
  abbrev pub steps_take : ChannelState M → ℕ → Option M → List (Step M) → List (Step M)
  steps_take w i none E = E
  steps_take w i (some m) E = joins (released (suc (w.taken i)) (w.held i)) (take i m ∷ E)

  -- step 9: the head is received
  abbrev pub steps_deliver : List M → ℕ → List (Step M) → List (Step M)
  steps_deliver [] i E = E
  steps_deliver (m ∷ r) i E = receive m i ∷ E

module _ {M : Type 0} (mail : Mail M) where
  -- step 8: the message joins, or is held, which the automaton does not see
  abbrev pub steps_single : ChannelState M → Option (Tagged M) → List (Step M) → List (Step M)
  steps_single w none E = E
  steps_single w (some x) E = cond (ripe mail w x) (join x.msg ∷ E) E

  abbrev pub steps : ChannelState M → ChannelAction M → List (Step M) → List (Step M)
  steps w (dispatch i m) E = mcast m ∷ E
  steps w (take_broadcast i) E = steps_take w i (nth w.sent (w.taken i)) E
  steps w (take_single c) E = steps_single w (w.flight c) E
  steps w (deliver i) E = steps_deliver (w.inbox i) i E
