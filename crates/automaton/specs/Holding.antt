-- Whether step 8 holds the message (RULES 5.8; 000 Figure 7, receive from PP): its tag is above the number of broadcasts taken at its
-- destination. No other operation holds one.
use Rattle.std.specs.Prelude.{Bool, false, not}
use Rattle.std.proofs.Math.Option.{Option, none, some}
use Rattle.automaton.specs.Mail.{Mail}
use Rattle.automaton.specs.State.{Tagged, ChannelState, ChannelAction, dispatch, take_broadcast, take_single, deliver, ripe}

module _ {M : Type 0} (mail : Mail M) (w : ChannelState M) where
  abbrev pub held_back : Option (Tagged M) → Bool
  held_back none = false
  held_back (some x) = not (ripe mail w x)

  abbrev pub holds : ChannelAction M → Bool
  holds (dispatch i m) = false
  holds (take_broadcast i) = false
  holds (take_single c) = held_back (w.flight c)
  holds (deliver i) = false
