-- What a step answers (RULES 4.2, 5.8): the number that refuses it; where none does, 100 if it holds a message, else 0. The published algorithm
-- and the ledger each give their own.
use Rattle.std.specs.Prelude.{ℕ, Bool, false}
use Rattle.names.specs.Placement.{Placement}
use Rattle.names.specs.Results.{result_from}
use Rattle.automaton.specs.Mail.{Mail}
use Rattle.automaton.specs.State as C
use Rattle.automaton.specs.Holding.{holds}
use Rattle.claims.specs.Command.{Command, request_read, request_update, perform, send_read, send_update, dispatch, take_broadcast, take_single, deliver, report}
use Rattle.claims.specs.Refusals.{Sight, refusal}

-- only step 8 holds a message, where the channel does
abbrev pub holding : {M : Type 0} → Mail M → Sight M → Command → Bool
holding mail s (request_read c x) = false
holding mail s (request_update c x f w) = false
holding mail s (perform c) = false
holding mail s (send_read c i) = false
holding mail s (send_update c) = false
holding mail s (dispatch i) = false
holding mail s (take_broadcast i) = false
holding mail s (take_single c) = holds mail s.channel (C.take_single c)
holding mail s (deliver i) = false
holding mail s (report c) = false

module _ (P : Placement) {M : Type 0} (mail : Mail M) (replies : M → ℕ → Bool) where
  abbrev pub result : Sight M → Command → ℕ
  result s c = result_from (refusal P mail replies s c) (holding mail s c)
