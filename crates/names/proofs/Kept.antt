-- What a body keeps of the kind, function and value that it is read from.
use Rattle.std.proofs.Common.{◌≡◌, ℕ, zero, suc, ◌<◌, cond, not, ◌||◌, eqb, ltb, refl, arith, lt-ltb, ne_eqb}
use Rattle.names.specs.Letters.{body_of, kind_of, function_of, value_of}

abbrev Kept : ℕ → ℕ → ℕ → Type 0
Kept k f v =
    (kind_of (body_of k f v) ≡ cond (eqb k 0 || ltb 4 k) 4 k)
    × (function_of (body_of k f v) ≡ cond (eqb k 2) f 0)
    × (value_of (body_of k f v) ≡ cond (not (eqb k 1)) v 0)

kept_past : (k f v : ℕ) → 4 < k → Kept k f v
unfolding body_of kind_of function_of value_of
kept_past k f v h =
    rw (
      ne_eqb k 0 (λ e. omega arith),
      ne_eqb k 1 (λ e. omega arith),
      ne_eqb k 2 (λ e. omega arith),
      ne_eqb k 3 (λ e. omega arith),
      lt-ltb 4 k h,
    )
    (refl, refl, refl)

pub kept : (k f v : ℕ) → Kept k f v
unfolding body_of kind_of function_of value_of
kept zero f v = (refl, refl, refl)
kept (suc zero) f v = (refl, refl, refl)
kept (suc (suc zero)) f v = (refl, refl, refl)
kept (suc (suc (suc zero))) f v = (refl, refl, refl)
kept (suc (suc (suc (suc zero)))) f v = (refl, refl, refl)
kept (suc (suc (suc (suc (suc k))))) f v = kept_past (suc (suc (suc (suc (suc k))))) f v (omega arith)
