-- The numbers of the refusals (RULES 8.2), and of the steps taken (RULES 4.2, 5.8).
use Rattle.std.specs.Prelude.{ℕ, ◌≡◌, Result, Ok, Err}
use Rattle.names.specs.declared.refusals.Refusal.{Refusal}
use Rattle.names.specs.declared.refusals.Refusal.TheVariants.{FileTooShort, FileTooLong, SizeOutOfRange, Misplaced, OutputTooShort, IllSized, NoStep, NotZero, NoTask, NoRegister, NoCard, NoFunction, RequestOpen, NotReady, CopiesForbid, NoRequests, NothingToSend, NoBroadcast, NoneInFlight, NothingToDeliver, FarBehind, Crowded, NoPhrase}
use Rattle.names.specs.declared.refusals.NoRefusal.{NoRefusal}
use Rattle.names.specs.declared.refusals.Taken.{Taken}
use Rattle.names.specs.declared.refusals.Taken.TheVariants.{Done, Held}

abbrev pub refusal_number : Refusal → ℕ
refusal_number FileTooShort = 1
refusal_number FileTooLong = 2
refusal_number SizeOutOfRange = 3
refusal_number Misplaced = 4
refusal_number OutputTooShort = 5
refusal_number IllSized = 6
refusal_number NoStep = 10
refusal_number NotZero = 11
refusal_number NoTask = 12
refusal_number NoRegister = 13
refusal_number NoCard = 14
refusal_number NoFunction = 15
refusal_number RequestOpen = 20
refusal_number NotReady = 21
refusal_number CopiesForbid = 22
refusal_number NoRequests = 23
refusal_number NothingToSend = 30
refusal_number NoBroadcast = 31
refusal_number NoneInFlight = 32
refusal_number NothingToDeliver = 33
refusal_number FarBehind = 34
refusal_number Crowded = 35
refusal_number NoPhrase = 36

-- 0 where nothing is refused
abbrev pub number_of : {X : Type 0} → Result X Refusal → ℕ
number_of (Ok x) = 0
number_of (Err r) = refusal_number r

-- the result of a step: 0, 100 where its message is held, or the refusal
abbrev pub result_number : Result Taken Refusal → ℕ
result_number (Ok Done) = 0
result_number (Ok Held) = 100
result_number (Err r) = refusal_number r

-- what a number is read as: the refusal that has it, or none has it
abbrev pub IsRefusal : ℕ → Result Refusal NoRefusal → Type 0
IsRefusal n (Ok r) = refusal_number r ≡ n
IsRefusal n (Err e) = (e.0 ≡ n) × ((r : Refusal) → refusal_number r ≡ n → ⊥)
