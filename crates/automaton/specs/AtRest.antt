-- The channel at rest: nothing is on its way. A run that has come to rest is complete, as 000 §4 speaks of runs.
use Rattle.std.specs.Prelude.{◌≡◌, true, List, [], ℕ, ◌<◌, length}
use Rattle.std.proofs.Math.Option.{none}
use Rattle.multicast.specs.ContextMulticast.{ContextMulticast}
use Rattle.automaton.specs.State.{ChannelState, ChannelAction, dispatch}
use Rattle.automaton.specs.Automaton.{external}
use Rattle.automaton.specs.TotalOrder.{Before}
use Rattle.automaton.specs.Calls.{Setup, goes, calls, network, history}

pub record AtRest {M : Type 0} (cards : ℕ) (w : ChannelState M) : Type 0 where
  pub none_flying : (c : ℕ) → w.flight c ≡ none
  pub none_held : (i : ℕ) → i < cards → w.held i ≡ []
  pub all_taken : (i : ℕ) → i < cards → w.taken i ≡ length w.sent
  pub all_received : (i : ℕ) → i < cards → w.inbox i ≡ []

-- a message in range goes to present cards
abbrev pub GoesToCards : {M : Type 0} → Setup M → Type 0
GoesToCards {M} C = (i : ℕ) (m : M) → C.in_range (dispatch i m) ≡ true → (j : ℕ) → goes C m j ≡ true → j < C.cards

-- a list of calls that leaves the channel at rest is a complete run of a context multicast channel (000 Theorem 6.1)
abbrev pub CallsComplete : {M : Type 0} → Setup M → List (ChannelAction M) → Type 0
CallsComplete C xs = GoesToCards C → AtRest C.cards (calls C xs)
    → ContextMulticast (external (network C xs)) (Before (network C xs) (history C xs)) (history C xs)
