-- A step counted by the two numbers that `count_of` says of it is the step counted.
use Prim.Native.Nat.{ℕ}
use mathlib.Core.Path.{◌≡◌, refl}
use mathlib.Core.Bool.{Bool, true, false, cond}
use Rattle.tally.specs.declared.Tally.{Tally}
use Rattle.names.specs.Results.{is_taken}
use Rattle.tally.specs.Tally.{counted, counted_step}
use Rattle.firmware.specs.StepTally.{counts_of}

pub counted_once : (t : Tally) (result : ℕ) → counted t (counts_of result).taken (counts_of result).refused ≡ counted_step t result
unfolding counted_step counts_of
counted_once t result = go (is_taken result)
  where
    go : (b : Bool) → counted t (cond b 1 0) (cond b 0 1) ≡ cond b (counted t 1 0) (counted t 0 1)
    go true = refl
    go false = refl
