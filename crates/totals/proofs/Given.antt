-- A total as a result gives it.
use Prim.Native.Nat.{ℕ}
use mathlib.Core.Path.{◌≡◌}
use Rattle.std.specs.Prelude.{Err}
use Rattle.lists.specs.Tests.{eqb_not}
use Rattle.names.specs.declared.refusals.Refusal.{Refusal}
use Rattle.names.specs.Refusals.{refusal_number}
use Rattle.names.proofs.RefusalsMeaning.{refusals_meaning}
use Rattle.totals.specs.Totals.{given, totalled}

-- with a refusal no total is given
pub given_err : (e : Refusal) (t : ℕ) → totalled (Err e) ≡ given (refusal_number e) t
given_err e t = rw (eqb_not (refusals_meaning.not_taken e).0)
