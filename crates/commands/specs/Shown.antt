-- What a decoded step is on paper (claims/specs/Steps), and which names it may have.
use Rattle.std.specs.Prelude.{ℕ, ◌<◌, ◌≡◌, ◌≢◌, true, Result, Ok, Err}
use Rattle.names.specs.declared.refusals.Refusal.{Refusal}
use Rattle.names.specs.Refusals.{refusal_number}
use Rattle.names.specs.Update.{known_function}
use Rattle.claims.specs.Command.{request_read, request_update, perform, send_read, send_update, dispatch, take_broadcast, take_single, deliver, report}
use Rattle.claims.specs.Command as F
use Rattle.claims.specs.Steps.{bad, good}
use Rattle.claims.specs.Steps as S
use Rattle.commands.specs.declared.Command.{Command}
use Rattle.commands.specs.declared.Command.TheVariants.{RequestRead, RequestUpdate, Perform, SendRead, SendUpdate, Dispatch, TakeBroadcast, TakeSingle, Deliver, Report}

-- the command, as it is on paper
abbrev pub command_shown : Command → F.Command
command_shown (RequestRead t x) = request_read t.0 x.0
command_shown (RequestUpdate t x f w) = request_update t.0 x.0 f w
command_shown (Perform t) = perform t.0
command_shown (SendRead t j) = send_read t.0 j.0
command_shown (SendUpdate t) = send_update t.0
command_shown (Dispatch i) = dispatch i.0
command_shown (TakeBroadcast i) = take_broadcast i.0
command_shown (TakeSingle t) = take_single t.0
command_shown (Deliver i) = deliver i.0
command_shown (Report t) = report t.0

-- and with a refusal by its number
abbrev pub decoded_shown : Result Command Refusal → S.Decoded
decoded_shown (Ok c) = good (command_shown c)
decoded_shown (Err r) = bad (refusal_number r)

-- what it names is among so many
module _ (cards registers tasks : ℕ) where
  abbrev pub InRange : Command → Type 0
  InRange (RequestRead t x) = (t.0 < tasks) × (x.0 < registers)
  InRange (RequestUpdate t x f w) = (t.0 < tasks) × (x.0 < registers) × (known_function f ≡ true)
  InRange (Perform t) = t.0 < tasks
  InRange (SendRead t j) = (t.0 < tasks) × (j.0 < cards)
  InRange (SendUpdate t) = t.0 < tasks
  InRange (Dispatch i) = i.0 < cards
  InRange (TakeBroadcast i) = i.0 < cards
  InRange (TakeSingle t) = t.0 < tasks
  InRange (Deliver i) = i.0 < cards
  InRange (Report t) = t.0 < tasks

  -- and what is refused has a number
  abbrev pub DecodedInRange : Result Command Refusal → Type 0
  DecodedInRange (Ok c) = InRange c
  DecodedInRange (Err r) = refusal_number r ≢ 0
