-- The ledger of demand 3 (RULES 12.3): the one that leaves values out.
use Rattle.std.specs.Prelude.{ℕ, List}
use Rattle.names.specs.Placement.{Placement}
use Rattle.registers.specs.Layer.{unvalued}
use Rattle.claims.specs.Steps.{RawStep}
use Rattle.claims.specs.Ledger as L

abbrev pub Ledger : Type 0
Ledger = L.Ledger unvalued

abbrev pub Action : Type 0
Action = L.Action unvalued

-- task, operation
abbrev pub report : ℕ → ℕ → Action
report c k = L.report c k tt

abbrev pub ledger : Placement → List Action → Ledger
ledger P ds = L.ledger P ds

abbrev pub paper : Placement → List RawStep → List Action
paper P l = L.paper P l
