-- Demand 3 (RULES 12.8), one claim about the whole list (12.9). One serial order explains a list of steps that begins at the start from an
-- accepted placement. Operations, reports and applied updates are the ledger's; the values are those that the store answered, and those in its
-- table of copies at the end.
use Rattle.std.specs.Prelude.{ℕ, ◌<◌, ◌≡◌, ◌⊎◌, Bool, true, ◌&&◌, List, [], ◌∷◌, ◌++◌, eqb, length}
use Rattle.std.proofs.Math.Option.{some}
use Rattle.lists.specs.Histories.{In}
use Rattle.lists.specs.Places.{nth}
use Rattle.lists.specs.Queues.{Once}
use Rattle.lists.specs.Filters.{filter, Precedes}
use Rattle.lists.specs.Made.{make}
use Rattle.names.specs.Update.{updated}
use Rattle.names.specs.Placement.{Placement, copy}
use Rattle.claims.specs.Steps.{RawStep}
use Rattle.claims.specs.Ledger.{Op, op_at}
use Rattle.claims.specs.Paper.{Ledger, report, ledger, paper}
use Rattle.claims.specs.PublishedRun.{Answer}

module _ (P : Placement) (steps : List RawStep) where
  -- the ledger after the list
  abbrev pub book : Ledger
  book = ledger P (paper P steps)

  -- operation k
  abbrev pub op : ℕ → Op
  op k = op_at book.ops k

  -- operation k is reported (RULES 12.5): at step n (from 0) the ledger takes a 10 of a task that is done with k
  pub record ReportedAt (k n : ℕ) : Type 0 where
    pub before : List RawStep
    pub it : RawStep
    pub after : List RawStep
    pub whole : steps ≡ before ++ it ∷ after
    pub place= : length before ≡ n
    pub task : ℕ
    pub taken : paper P (before ++ (it ∷ [])) ≡ report task k ∷ paper P before

  -- the updates applied on card i, in the order applied there (RULES 12.6)
  abbrev pub applied_on : ℕ → List ℕ
  applied_on i = book.layer.applied i

  -- k is an update of register x
  abbrev pub updates : ℕ → ℕ → Bool
  updates x k = (op k).upd && eqb (op k).reg x

  -- what updates make of zero (RULES 12.7)
  abbrev pub made_of_zero : List ℕ → ℕ
  made_of_zero l = make (λ k. updated (op k).fn (op k).arg) 0 l

  -- a serial order is a list of operations (RULES 12.8, parts a to e)
  pub record SerialOrder (answers : List Answer) (table : ℕ → ℕ → ℕ) (order : List ℕ) : Type 0 where
    -- a: exactly the reported operations and the updates applied on some card, each once
    pub only : (k : ℕ) → In k order → ((n : ℕ) × ReportedAt k n) ⊎ ((i : ℕ) × (((op k).upd ≡ true) × In k (applied_on i)))
    pub reported : (k n : ℕ) → ReportedAt k n → In k order
    pub applied : (k i : ℕ) → In k (applied_on i) → In k order
    pub once : Once order
    -- b: a task's operations stand in the order of their numbers, which is that of its requests
    pub tasks : (j k : ℕ) → In j order → In k order → (op j).task ≡ (op k).task → j < k → Precedes j k order
    -- c: each reported operation gave (12.5) exactly what its register's earlier updates in the order make of zero: a read what it read, an update
    -- what it found
    pub gives : (k n : ℕ) → ReportedAt k n → (pre post : List ℕ) → order ≡ pre ++ k ∷ post
        → nth answers n ≡ some (record { result = 0; value = made_of_zero (filter (updates (op k).reg) pre) })
    -- d: each copy shows (12.6) a first part of its register's updates in the order; it may be empty or the whole
    pub copies : (x i : ℕ) → copy P x i ≡ true → (rest : List ℕ) × (filter (updates x) order ≡ filter (updates x) (applied_on i) ++ rest)
    -- e: and its value, the one in the store's table of copies, is exactly what they make of zero
    pub copy_values : (x i : ℕ) → copy P x i ≡ true → table i x ≡ made_of_zero (filter (updates x) (applied_on i))

  -- the claim: there is one
  abbrev pub Explained : List Answer → (ℕ → ℕ → ℕ) → Type 0
  Explained answers table = (order : List ℕ) × SerialOrder answers table order
