-- Demand 2.
use Prim.Native.Nat.{ℕ}
use mathlib.Core.Path.{◌≡◌, refl, subst}
use mathlib.Core.Bool.{true, false}
use mathlib.Core.List.{List}
use borrow.Author.Tests.{lt-ltb}
use Rattle.lists.specs.Tests.{and_intro}
use Rattle.std.specs.Prelude.{Result, Ok, Err}
use Rattle.names.specs.declared.refusals.Refusal.{Refusal}
use Rattle.names.specs.Placement.{Placement}
use Rattle.channel.specs.Layout.{cards_of, tasks_of, registers_of}
use Rattle.claims.specs.Steps.{RawStep, good, decode}
use Rattle.claims.specs.Found.{Found}
use Rattle.commands.specs.declared.Command.TheVariants.{RequestRead, RequestUpdate, Perform, SendRead, SendUpdate, Dispatch, TakeBroadcast, TakeSingle, Deliver, Report}
use Rattle.commands.specs.declared.Command.{Command}
use Rattle.commands.specs.Decode.{decode_of}
use Rattle.tables.specs.Sized.{doing_fits, store_sized}
use Rattle.store.specs.Step.{outcome, taken, decoded, advanced, stepped}
use Rattle.store.specs.Demand2.{Stands, StepFollows}
use Rattle.store.proofs.Standing.{Ready, ready, stands}
use Rattle.store.proofs.RequestLaw.{request_read_follows, request_update_follows, report_follows}
use Rattle.store.proofs.PerformLaw.{perform_follows}
use Rattle.store.proofs.SendLaw.{send_read_follows, send_update_follows}
use Rattle.store.proofs.TrafficLaw.{dispatch_follows, take_broadcast_follows, take_single_follows}
use Rattle.store.proofs.DeliverLaw.{deliver_follows}
use Rattle.commands.proofs.DecodeLaw.{command_shown, decoded_shown, InRange, DecodedInRange, decode_is, decode_range}

module _ (rs cs : List ℕ) (P : Placement) (s : Found) (z : Ready rs cs P s) where
  -- a decoded step
  taken_follows : (d : Command) → InRange (cards_of cs) (registers_of cs) (tasks_of cs) d → StepFollows rs cs P s (taken rs cs d) (good (command_shown d))
  unfolding taken doing_fits
  taken_follows (RequestRead t x) r = request_read_follows rs cs P s z t.0 r.0 x r.1
  taken_follows (RequestUpdate t x f w) r =
      request_update_follows rs cs P s z t.0 r.0 x f w (and_intro (lt-ltb x.0 (registers_of cs) r.1) r.2)
  taken_follows (Perform t) r = perform_follows rs cs P s z t.0 r
  taken_follows (SendRead t j) r = send_read_follows rs cs P s z t.0 r.0 j.0 r.1
  taken_follows (SendUpdate t) r = send_update_follows rs cs P s z t.0 r
  taken_follows (Dispatch i) r = dispatch_follows rs cs P s z i r
  taken_follows (TakeBroadcast i) r = take_broadcast_follows rs cs P s z i r
  taken_follows (TakeSingle t) r = take_single_follows rs cs P s z t r
  taken_follows (Deliver i) r = deliver_follows rs cs P s z i r
  taken_follows (Report t) r = report_follows rs cs P s z t.0 r

  decoded_follows : (d : Result Command Refusal) → DecodedInRange (cards_of cs) (registers_of cs) (tasks_of cs) d → StepFollows rs cs P s (decoded rs cs d) (decoded_shown d)
  decoded_follows (Ok c) r = taken_follows c r
  decoded_follows (Err e) r = record { answer= = refl; stands = stands rs cs P s z; refused = λ h. (refl, refl) }

  -- a step as it is given, on memories that are well sized
  pub advance_follows : (a : RawStep) → StepFollows rs cs P s (advanced rs cs a.code a.argument) (decode P a)
  unfolding advanced
  advance_follows a = subst (StepFollows rs cs P s (decoded rs cs d)) same (decoded_follows d (decode_range (cards_of cs) (registers_of cs) (tasks_of cs) a.code a.argument))
    where
      d : Result Command Refusal
      d = decode_of a.code a.argument (cards_of cs) (registers_of cs) (tasks_of cs)

      same : decoded_shown d ≡ decode P a
      same = rw (← z.cards=, ← z.registers=, ← z.tasks=) (decode_is P a.argument a.code)

pub step_follows : (rs cs : List ℕ) (P : Placement) (s : Found) → Stands rs cs P s → (a : RawStep)
    → StepFollows rs cs P s (stepped rs cs a.code a.argument) (decode P a)
unfolding stepped
step_follows rs cs P s z a = rw z.sized (advance_follows rs cs P s (ready rs cs P s z) a)

pub ill_sized : (rs cs : List ℕ) → store_sized rs cs ≡ false → (a : RawStep) → stepped rs cs a.code a.argument ≡ outcome 6 rs cs
unfolding stepped
ill_sized rs cs e a = rw e

-- on a well-sized state the check changes nothing
pub advance_is : (rs cs : List ℕ) → store_sized rs cs ≡ true → (a : RawStep) → stepped rs cs a.code a.argument ≡ advanced rs cs a.code a.argument
unfolding stepped
advance_is rs cs e a = rw e
