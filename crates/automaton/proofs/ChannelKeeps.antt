-- Every run of the operations in which each message is dispatched once, by its sender, is a run of the automaton.
use mathlib.Core.Path.{◌≡◌}
use mathlib.Core.List.{List}
use Rattle.lists.specs.Histories.{Any}
use Rattle.automaton.specs.State.{ChannelState, ChannelAction, dispatch, take_broadcast, take_single, deliver}
use Rattle.automaton.specs.Network.{Network}
use Rattle.automaton.specs.Automaton.{Step, Mcasts, ChannelExecution}
use Rattle.automaton.proofs.Agreement.{Agrees, Kept}
use Rattle.automaton.proofs.DispatchKeeps.{dispatch_agrees}
use Rattle.automaton.proofs.TakeBroadcastKeeps.{take_broadcast_keeps}
use Rattle.automaton.proofs.TakeSingleKeeps.{take_single_keeps}
use Rattle.automaton.proofs.DeliverKeeps.{deliver_keeps}

module _ {M : Type 0} (N : Network M) where
  -- the caller's part: a message is dispatched once, by the card that sends it
  abbrev pub FreshAction : ChannelAction M → List (Step M) → Type 0
  FreshAction (dispatch i m) E = (¬ Any (Mcasts m) E) × (N.from m ≡ i)
  FreshAction (take_broadcast i) E = Unit {0}
  FreshAction (take_single c) E = Unit {0}
  FreshAction (deliver i) E = Unit {0}

  pub channel_step_keeps : (w : ChannelState M) (E : List (Step M)) → Agrees N w E → ChannelExecution N E → (x : ChannelAction M)
      → FreshAction x E → Kept N w x E
  channel_step_keeps w E a v (dispatch i m) f = (dispatch_agrees N w E a v i m f.0 f.1, (f.0, v))
  channel_step_keeps w E a v (take_broadcast i) f = take_broadcast_keeps N w E a v i
  channel_step_keeps w E a v (take_single c) f = take_single_keeps N w E a v c
  channel_step_keeps w E a v (deliver i) f = deliver_keeps N w E a v i
