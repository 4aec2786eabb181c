-- What counting means: a count goes up by what is counted until it is at its largest value and then stays there, and counting the steps
-- of a run at once is counting them one by one.
use Prim.Native.Nat.{ℕ, ◌+◌, ◌≤◌, ◌<◌}
use mathlib.Core.Path.{◌≡◌, refl, sym, ap, ap₂, ◌∙◌}
use mathlib.Core.Bool.{Bool, true, false, cond, not}
use mathlib.Core.List.{List, [], ◌∷◌}
use mathlib.Core.Logic.{◌⊎◌}
use native.Mathlib.Omega.{arith}
use lib.ListN.{length}
use Rattle.lists.specs.Filters.{keep, filter}
use Rattle.lists.specs.Tests.{false_of}
use Rattle.names.specs.Results.{is_taken}
use Rattle.names.specs.Update.{raised}
use Rattle.names.proofs.Results.{results_meaning}
use Rattle.names.proofs.Raised.{raised_below, raised_past, raised_most, raised_again}
use Rattle.tally.specs.declared.Tally.{Tally}
use Rattle.tally.specs.Tally.{tally_of, counted, counted_step, counted_steps, taken_in, refused_in}

-- each count is a 32-bit number
abbrev pub Fits : Tally → Type 0
Fits t = (t.taken ≤ 4294967295) × (t.refused ≤ 4294967295)

-- a step taken, with 0 or with 100, raises the one count by one and leaves the other, below the largest value
pub step_taken : (t : Tally) (result : ℕ) → (result ≡ 0) ⊎ (result ≡ 100) → t.taken < 4294967295 → t.refused ≤ 4294967295
    → counted_step t result ≡ tally_of (t.taken + 1) t.refused
unfolding counted_step counted
step_taken t result e h g =
    rw ((results_meaning.taken_if result).1 e) (ap₂ tally_of (raised_below t.taken 1 (omega arith)) (omega (arith, raised_below t.refused 0 (omega arith))))

-- every refusal counts, 6 too (RULES 9.3)
pub step_refused : (t : Tally) (number : ℕ) → ¬ ((number ≡ 0) ⊎ (number ≡ 100)) → t.taken ≤ 4294967295 → t.refused < 4294967295
    → counted_step t number ≡ tally_of t.taken (t.refused + 1)
unfolding counted_step counted
step_refused t number n h g =
    rw (false_of (is_taken number) (λ e. n ((results_meaning.taken_if number).0 e)))
    (ap₂ tally_of (omega (arith, raised_below t.taken 0 (omega arith))) (raised_below t.refused 1 (omega arith)))

-- past the largest value a count is the largest value, and stays there (RULES 9.2)
pub counted_past : (t : Tally) (n m : ℕ) → (4294967295 ≤ t.taken + n → (counted t n m).taken ≡ 4294967295) × (4294967295 ≤ t.refused + m → (counted t n m).refused ≡ 4294967295)
unfolding counted
counted_past t n m = (raised_past t.taken n, raised_past t.refused m)

pub counted_fits : (t : Tally) (n m : ℕ) → Fits (counted t n m)
unfolding counted
counted_fits t n m = (raised_most t.taken n, raised_most t.refused m)

pub counted_none : (t : Tally) → Fits t → counted t 0 0 ≡ t
unfolding counted
counted_none t f = ap₂ tally_of (raised_none t.taken f.0) (raised_none t.refused f.1)
  where
    raised_none : (a : ℕ) → a ≤ 4294967295 → raised a 0 ≡ a
    raised_none a h = omega (arith, raised_below a 0 (omega arith))

pub counted_again : (t : Tally) (n m j k : ℕ) → counted (counted t n m) j k ≡ counted t (n + j) (m + k)
unfolding counted
counted_again t n m j k = ap₂ tally_of (raised_again t.taken n j) (raised_again t.refused m k)

step_is : (t : Tally) (r : ℕ) (b : Bool) → is_taken r ≡ b → counted_step t r ≡ cond b (counted t 1 0) (counted t 0 1)
unfolding counted_step
step_is t r b e = rw e refl

step_fits : (t : Tally) (r : ℕ) → Fits (counted_step t r)
step_fits t r = go (is_taken r) refl
  where
    go : (b : Bool) → is_taken r ≡ b → Fits (counted_step t r)
    go true e = rw (step_is t r true e) (counted_fits t 1 0)
    go false e = rw (step_is t r false e) (counted_fits t 0 1)

-- the steps of a run at once: as one by one
pub all_at_once : (t : Tally) (rs : List ℕ) → Fits t → counted_steps t rs ≡ counted t (taken_in rs) (refused_in rs)
unfolding counted_steps taken_in refused_in
all_at_once t [] f = sym (counted_none t f)
all_at_once t (r ∷ rs) f = go (is_taken r) refl (all_at_once (counted_step t r) rs (step_fits t r))
  where
    go : (b : Bool) → is_taken r ≡ b → counted_steps (counted_step t r) rs ≡ counted (counted_step t r) (taken_in rs) (refused_in rs)
        → counted_steps (counted_step t r) rs ≡ counted t (length (keep b r (filter is_taken rs))) (length (keep (not b) r (filter (λ x. not (is_taken x)) rs)))
    go true e h = h ∙ ap (λ s. counted s (taken_in rs) (refused_in rs)) (step_is t r true e) ∙ counted_again t 1 0 (taken_in rs) (refused_in rs) ∙ ap₂ (counted t) (omega arith) (omega arith)
    go false e h = h ∙ ap (λ s. counted s (taken_in rs) (refused_in rs)) (step_is t r false e) ∙ counted_again t 0 1 (taken_in rs) (refused_in rs) ∙ ap₂ (counted t) (omega arith) (omega arith)
