-- Demand 3 (RULES 12.8), one claim about the whole list (12.9). For every accepted placement, memories of any content that it is begun in, and
-- every list of steps of any code and argument, one serial order explains what the store answered and what its table of copies has. The ledger
-- is given the placement and the codes and arguments, nothing of the store (12.3).
use Rattle.std.specs.Prelude.{ℕ, ◌≡◌, List}
use Rattle.names.specs.Placement.{Placement, placement_refusal}
use Rattle.claims.specs.Steps.{RawStep}
use Rattle.claims.specs.SerialOrder.{SerialOrder}
use Rattle.claims.specs.Reports.{LedgerNumbers}
use Rattle.tables.specs.Layout.{Place, card_after_card}
use Rattle.store.specs.Run.{Store, started, store_after_at, answers_of_at, table_of_at}

abbrev pub Demand3At : Place → Type 0
Demand3At place = (P : Placement) → placement_refusal P ≡ 0 → (m : Store) (steps : List RawStep)
    → (order : List ℕ) × SerialOrder P steps (answers_of_at place (started P m) steps) (table_of_at place (store_after_at place (started P m) steps)) order

-- The ledger takes the steps that the store takes (RULES 12.3): the store's result at each step is the ledger's, 0, 100 or the refusal.
abbrev pub LedgerResultsAt : Place → Type 0
LedgerResultsAt place = (P : Placement) → placement_refusal P ≡ 0 → (m : Store) (steps : List RawStep) → LedgerNumbers P steps (answers_of_at place (started P m) steps)

-- ---- card after card, on paper; SideBySide has the case of the memory

abbrev pub Demand3 : Type 0
Demand3 = Demand3At card_after_card

abbrev pub LedgerResults : Type 0
LedgerResults = LedgerResultsAt card_after_card
