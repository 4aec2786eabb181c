-- What the log of a run tells of the store (RULES 16.6, 16.7).
use Rattle.std.specs.Prelude.{ℕ, ◌<◌, ◌≡◌, true, List}
use Rattle.lists.specs.Histories.{In}
use Rattle.names.specs.Placement.{Placement, placement_refusal, registers, primary}
use Rattle.totals.specs.Totals.{log_refusal, total_of, total_by_card}
use Rattle.totals.specs.TotalsMeaning.{result}
use Rattle.claims.specs.Steps.{RawStep}
use Rattle.claims.specs.SerialOrder.{op, applied_on, updates}
use Rattle.store.specs.Run.{Store, started}
use Rattle.store.specs.SideBySide.{store_after, table_of}
use Rattle.logs.specs.Log.{log_cards, log_operands}

module _ (P : Placement) (m : Store) (steps : List RawStep) (x : ℕ) where
  -- every update of the register that its primary has applied so far has function 5
  abbrev pub OnlySums : Type 0
  OnlySums = (k : ℕ) → In k (applied_on P steps (primary P x)) → updates P steps x k ≡ true → (op P steps k).fn ≡ 5

  -- the value of the primary's copy, in the store's table
  abbrev pub primary_copy : ℕ
  primary_copy = table_of (store_after (started P m) steps) (primary P x) x

  pub record LogMeaning : Type 0 where
    -- no log of a run is refused
    pub accepted : log_refusal (log_cards P steps x) (log_operands P steps x) ≡ 0
    -- its total is the value of the primary's copy, in both readings
    pub is_copy : OnlySums → total_of (log_cards P steps x) (log_operands P steps x) ≡ result 0 primary_copy
    pub is_copy_by_card : OnlySums → total_by_card (log_cards P steps x) (log_operands P steps x) ≡ result 0 primary_copy

-- for every run from a start and every register that is present
abbrev pub LogsMean : Type 0
LogsMean = (P : Placement) → placement_refusal P ≡ 0 → (m : Store) (steps : List RawStep) (x : ℕ) → x < registers P → LogMeaning P m steps x
