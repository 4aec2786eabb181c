-- A tally of steps taken and steps refused, lent by its owner and brought up to date in place (RULES 9.1 to 9.3).
use Rattle.std.specs.Prelude.{ℕ, cond, not, List, [], ◌∷◌, length}
use Rattle.lists.specs.Filters.{filter}
use Rattle.names.specs.Results.{is_taken}
use Rattle.names.specs.Update.{raised}
use Rattle.tally.specs.declared.Tally.{Tally}

abbrev pub tally_of : ℕ → ℕ → Tally
tally_of a b = record { taken = a; refused = b }

-- so many more steps taken, so many more refused; a count stays at its largest value (RULES 9.2)
unfoldable pub counted : Tally → ℕ → ℕ → Tally
counted t n m = record { taken = raised t.taken n; refused = raised t.refused m }

-- one step: taken, a held message too, or else refused, 6 too (RULES 9.3)
unfoldable pub counted_step : Tally → ℕ → Tally
counted_step t result = cond (is_taken result) (counted t 1 0) (counted t 0 1)

-- steps one by one
unfoldable pub counted_steps : Tally → List ℕ → Tally
counted_steps t [] = t
counted_steps t (r ∷ rs) = counted_steps (counted_step t r) rs

-- how many of some results are taken, and how many are refusals
unfoldable pub taken_in : List ℕ → ℕ
taken_in rs = length (filter is_taken rs)

unfoldable pub refused_in : List ℕ → ℕ
refused_in rs = length (filter (λ r. not (is_taken r)) rs)
