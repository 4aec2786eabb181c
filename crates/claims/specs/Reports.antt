-- The ledger step by step (RULES 12.3 to 12.5): which steps it takes, which of them opens an operation, and which reports it. SerialOrder's
-- `ReportedAt` is the same by what the ledger writes down.
use Rattle.std.specs.Prelude.{ℕ, suc, ◌<◌, ◌≡◌, ◌↔◌, true, List, length, take}
use Rattle.std.proofs.Math.Option.{some}
use Rattle.lists.specs.Places.{nth}
use Rattle.names.specs.Placement.{Placement}
use Rattle.names.specs.Results.{is_taken}
use Rattle.claims.specs.Command.{report}
use Rattle.claims.specs.Steps.{RawStep, good, decode}
use Rattle.claims.specs.Ledger.{number_of}
use Rattle.claims.specs.Paper.{Ledger, ledger, paper}
use Rattle.claims.specs.PublishedRun.{Answer}
use Rattle.claims.specs.SerialOrder.{op, ReportedAt}

module _ (P : Placement) (steps : List RawStep) where
  -- the ledger after the first n steps, which is the one before step n (from 0)
  abbrev pub book_at : ℕ → Ledger
  book_at n = ledger P (paper P (take n steps))

  -- each answer's result is the ledger's of that step: 100 if the ledger takes it and holds a message, 0 if it takes it else, or the refusal
  abbrev pub LedgerNumbers : List Answer → Type 0
  LedgerNumbers answers = (n : ℕ) (a : RawStep) → nth steps n ≡ some a
      → (v : ℕ) × (nth answers n ≡ some (record { result = number_of P (book_at n) a; value = v }))

  -- step m is taken and opens operation k (RULES 12.4)
  pub record RequestedAt (k m : ℕ) : Type 0 where
    pub it : RawStep
    pub stands : nth steps m ≡ some it
    pub taken : is_taken (number_of P (book_at m) it) ≡ true
    pub before= : length (book_at m).ops ≡ k
    pub after= : length (book_at (suc m)).ops ≡ suc k

  -- step n is a taken 10 of task c
  pub record Reports10 (c n : ℕ) : Type 0 where
    pub it : RawStep
    pub stands : nth steps n ≡ some it
    pub ten : decode P it ≡ good (report c)
    pub taken : is_taken (number_of P (book_at n) it) ≡ true

  -- step n is the first taken 10 of k's task after the step that opened k (RULES 12.5)
  pub record FirstReport (k n : ℕ) : Type 0 where
    pub request : ℕ
    pub requested : RequestedAt k request
    pub later : request < n
    pub reports : Reports10 (op P steps k).task n
    pub none_between : (j : ℕ) → request < j → j < n → ¬ Reports10 (op P steps k).task j

  -- operation k is reported at n exactly if that is so, and at one step only
  pub record ReportsExact : Type 0 where
    pub exactly : (k n : ℕ) → ReportedAt P steps k n ↔ FirstReport k n
    pub at_one_step : (k n m : ℕ) → ReportedAt P steps k n → ReportedAt P steps k m → n ≡ m
