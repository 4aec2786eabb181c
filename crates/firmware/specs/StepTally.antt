-- A step as a tally counts it (RULES 9.3): taken for result 0 or 100, else refused, 6 too.
use Rattle.std.specs.Prelude.{ℕ, cond}
use Rattle.names.specs.Results.{is_taken}
use Rattle.tally.specs.declared.Tally.{Tally}

unfoldable pub counts_of : ℕ → Tally
counts_of r = record { taken = cond (is_taken r) 1 0; refused = cond (is_taken r) 0 1 }
