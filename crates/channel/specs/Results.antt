-- The result of an operation of the idealised channel (RULES 5.8): the number that refuses it; where none does, 100 if it holds a message, else 0.
use Rattle.std.specs.Prelude.{ℕ}
use Rattle.names.specs.Results.{result_from}
use Rattle.automaton.specs.Mail.{Mail}
use Rattle.automaton.specs.State.{ChannelState, ChannelAction}
use Rattle.automaton.specs.Refusals.{channel_refusal}
use Rattle.automaton.specs.Holding.{holds}

unfoldable pub channel_result : {M : Type 0} → Mail M → ℕ → ChannelState M → ChannelAction M → ℕ
channel_result mail cards w x = result_from (channel_refusal mail cards w x) (holds mail w x)
