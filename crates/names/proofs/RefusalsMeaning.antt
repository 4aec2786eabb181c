-- The numbers of refusals.
use Rattle.std.proofs.Common.{◌≡◌, true, false, eqb, ◌≢◌, refl, arith, ne_eqb}
use Rattle.std.specs.Prelude.{Ok}
use Rattle.names.specs.declared.refusals.Refusal.{Refusal}
use Rattle.names.specs.declared.refusals.Refusal.TheVariants.{FileTooShort, FileTooLong, SizeOutOfRange, Misplaced, OutputTooShort, IllSized, NoStep, NotZero, NoTask, NoRegister, NoCard, NoFunction, RequestOpen, NotReady, CopiesForbid, NoRequests, NothingToSend, NoBroadcast, NoneInFlight, NothingToDeliver, FarBehind, Crowded, NoPhrase}
use Rattle.names.specs.declared.refusals.Taken.{Taken}
use Rattle.names.specs.declared.refusals.Taken.TheVariants.{Done, Held}
use Rattle.names.specs.Refusals.{refusal_number, result_number}
use Rattle.names.specs.Results.{is_taken}
use Rattle.names.specs.RefusalsMeaning.{RefusalsMeaning}

small : (r : Refusal) → (refusal_number r ≢ 0) × (refusal_number r ≢ 100)
small FileTooShort = (λ e. omega arith, λ e. omega arith)
small FileTooLong = (λ e. omega arith, λ e. omega arith)
small SizeOutOfRange = (λ e. omega arith, λ e. omega arith)
small Misplaced = (λ e. omega arith, λ e. omega arith)
small OutputTooShort = (λ e. omega arith, λ e. omega arith)
small IllSized = (λ e. omega arith, λ e. omega arith)
small NoStep = (λ e. omega arith, λ e. omega arith)
small NotZero = (λ e. omega arith, λ e. omega arith)
small NoTask = (λ e. omega arith, λ e. omega arith)
small NoRegister = (λ e. omega arith, λ e. omega arith)
small NoCard = (λ e. omega arith, λ e. omega arith)
small NoFunction = (λ e. omega arith, λ e. omega arith)
small RequestOpen = (λ e. omega arith, λ e. omega arith)
small NotReady = (λ e. omega arith, λ e. omega arith)
small CopiesForbid = (λ e. omega arith, λ e. omega arith)
small NoRequests = (λ e. omega arith, λ e. omega arith)
small NothingToSend = (λ e. omega arith, λ e. omega arith)
small NoBroadcast = (λ e. omega arith, λ e. omega arith)
small NoneInFlight = (λ e. omega arith, λ e. omega arith)
small NothingToDeliver = (λ e. omega arith, λ e. omega arith)
small FarBehind = (λ e. omega arith, λ e. omega arith)
small Crowded = (λ e. omega arith, λ e. omega arith)
small NoPhrase = (λ e. omega arith, λ e. omega arith)

-- no step is taken with a refusal
pub refused : (r : Refusal) → is_taken (refusal_number r) ≡ false
unfolding is_taken
refused r = rw (ne_eqb _ 0 (small r).0, ne_eqb _ 100 (small r).1)

pub not_zero : (r : Refusal) → eqb (refusal_number r) 0 ≡ false
not_zero r = ne_eqb _ 0 (small r).0

-- a step is taken where its message is held too
pub taken : (t : Taken) → is_taken (result_number (Ok t)) ≡ true
unfolding is_taken
taken Done = refl
taken Held = refl

pub refusals_meaning : RefusalsMeaning
refusals_meaning = record {
  numbers = refl;
  not_taken = small;
  done_is = refl;
  held_is = refl;
  read_back = λ n r e. e;
  no_refusal = λ n e h. h;
}
