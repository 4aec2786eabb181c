-- What the numbers of refusals mean (RULES 4.2, 5.8, 8.2), stated apart from them.
use Rattle.std.specs.Prelude.{◌≡◌, ℕ, ◌≢◌, List, [], ◌∷◌, map, Ok, Err}
use Rattle.names.specs.declared.refusals.Refusal.{Refusal}
use Rattle.names.specs.declared.refusals.Refusal.TheVariants.{FileTooShort, FileTooLong, SizeOutOfRange, Misplaced, OutputTooShort, IllSized, NoStep, NotZero, NoTask, NoRegister, NoCard, NoFunction, RequestOpen, NotReady, CopiesForbid, NoRequests, NothingToSend, NoBroadcast, NoneInFlight, NothingToDeliver, FarBehind, Crowded, NoPhrase}
use Rattle.names.specs.declared.refusals.NoRefusal.{NoRefusal}
use Rattle.names.specs.declared.refusals.Taken.TheVariants.{Done, Held}
use Rattle.names.specs.Refusals.{refusal_number, result_number, IsRefusal}

-- in the order of the table of 8.2
abbrev pub refusals : List Refusal
refusals =
    FileTooShort ∷ FileTooLong ∷ SizeOutOfRange ∷ Misplaced ∷ OutputTooShort ∷ IllSized ∷ NoStep ∷ NotZero ∷ NoTask ∷ NoRegister ∷ NoCard ∷ NoFunction ∷
    RequestOpen ∷ NotReady ∷ CopiesForbid ∷ NoRequests ∷ NothingToSend ∷ NoBroadcast ∷ NoneInFlight ∷ NothingToDeliver ∷ FarBehind ∷ Crowded ∷ NoPhrase ∷ []

pub record RefusalsMeaning : Type 0 where
  pub numbers : map refusal_number refusals ≡ 1 ∷ 2 ∷ 3 ∷ 4 ∷ 5 ∷ 6 ∷ 10 ∷ 11 ∷ 12 ∷ 13 ∷ 14 ∷ 15 ∷ 20 ∷ 21 ∷ 22 ∷ 23 ∷ 30 ∷ 31 ∷ 32 ∷ 33 ∷ 34 ∷ 35 ∷ 36 ∷ []
  -- no refusal has the number of a step that is taken
  pub not_taken : (r : Refusal) → (refusal_number r ≢ 0) × (refusal_number r ≢ 100)
  pub done_is : result_number (Ok Done) ≡ 0
  pub held_is : result_number (Ok Held) ≡ 100
  -- a number is read as the refusal that has it
  pub read_back : (n : ℕ) (r : Refusal) → IsRefusal n (Ok r) → refusal_number r ≡ n
  -- a number of no refusal is told as it is
  pub no_refusal : (n : ℕ) (e : NoRefusal) → IsRefusal n (Err e) → (e.0 ≡ n) × ((r : Refusal) → refusal_number r ≢ n)
