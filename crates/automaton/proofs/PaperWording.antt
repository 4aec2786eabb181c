-- The channel of 000 §6 in the words of 000 §4, with its own order T: receive consistent, context safe and, of a complete run, a context
-- multicast channel (000 Lemmas 6.8 and 6.7, Theorem 6.1).
use mathlib.Core.List.{List}
use Prim.Native.Nat.{ℕ}
use Rattle.lists.specs.Histories.{Any}
use Rattle.multicast.specs.Promise.{McastTo, IsReceive}
use Rattle.multicast.specs.ContextMulticast.{ReceiveConsistent, ContextSafe, ContextMulticast}
use Rattle.multicast.proofs.PaperWording.{receives_in_order, sends_above, complete_run}
use Rattle.automaton.specs.Network.{Network}
use Rattle.automaton.specs.Automaton.{Step, ChannelExecution, external}
use Rattle.automaton.specs.TotalOrder.{rank, Before}
use Rattle.automaton.proofs.KeepsPromise.{keeps_promise}

module _ {M : Type 0} (N : Network M) (E : List (Step M)) (v : ChannelExecution N E) where
  pub channel_receive_consistent : ReceiveConsistent (external N) (Before N E) E
  channel_receive_consistent = receives_in_order (external N) (rank N E) E (keeps_promise N E v)

  pub channel_context_safe : ContextSafe (external N) (Before N E) E
  channel_context_safe = sends_above (external N) (rank N E) E (keeps_promise N E v)

  -- 000 Theorem 6.1, of a complete run
  pub channel_complete : ((m : M) (i : ℕ) → Any (λ e. McastTo m i (external N e)) E → Any (λ e. IsReceive m i (external N e)) E)
      → ContextMulticast (external N) (Before N E) E
  channel_complete = complete_run (external N) (rank N E) E (keeps_promise N E v)
