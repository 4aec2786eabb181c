-- The results that `update` works out, each 0 where the function is another, or'ed: the function's own.
use Rattle.std.proofs.Common.{◌≡◌, ℕ, zero, suc, ◌<◌, Bool, true, false, cond, not, ◌&&◌, ◌||◌, eqb, ltb, refl, ◌∙◌, inr, arith, ltb-false, ltb-true, ne_eqb}
use lib.Bits.{bit_or, or_zero_r, or_lt, or_add_and, and_le_l}
use Rattle.names.specs.Update.{raised, larger_of, sum_of, updated, known_function}
use Rattle.names.proofs.KnownFunctions.{functions_unknown}

-- a number or'ed with 0, n times
abbrev zeros : ℕ → ℕ → ℕ
zeros x zero = x
zeros x (suc n) = bit_or (zeros x n) 0

zeros_leave : (x n : ℕ) → zeros x n ≡ x
zeros_leave x zero = refl
zeros_leave x (suc n) = or_zero_r (zeros x n) ∙ zeros_leave x n

-- a word or'ed with all ones
ones : (x : ℕ) → x < 4294967296 → bit_or x 4294967295 ≡ 4294967295
ones x h =
    let a : bit_or x 4294967295 < 4294967296 = or_lt 32 x 4294967295 h (omega arith) in
    let b = or_add_and x 4294967295 in
    let d = and_le_l x 4294967295 in
    omega arith

module _ (v w : ℕ) (hv : v < 4294967296) (hw : w < 4294967296) where
  -- the sum ran over
  abbrev over : Bool
  over = ltb (sum_of v w) v

  -- function 2: the sum, with all ones where it ran over
  sum_or_ones : bit_or (sum_of v w) (cond over 4294967295 0) ≡ updated 2 w v
  unfolding updated sum_of raised
  sum_or_ones = go over refl
    where
      go : (t : Bool) → over ≡ t → bit_or (sum_of v w) (cond t 4294967295 0) ≡ updated 2 w v
      go true e = let l = ltb-true (sum_of v w) _ e in ones (sum_of v w) (omega arith) ∙ omega arith
      go false e = let l = ltb-false (sum_of v w) _ e in or_zero_r (sum_of v w) ∙ omega arith

  abbrev picks : ℕ → ℕ
  picks f =
      bit_or
      (bit_or
      (bit_or
      (bit_or
      (bit_or (cond (eqb f 1) w 0) (cond (eqb f 2 || eqb f 5) (sum_of v w) 0))
      (cond (eqb f 2 && over) 4294967295 0))
      (cond (eqb f 3) (larger_of v w) 0))
      (cond (eqb f 4) (bit_or v w) 0))
      (cond (not (known_function f)) v 0)

  past : (f : ℕ) → 5 < f → picks f ≡ updated f w v
  unfolding updated
  past f h =
      rw (
        ne_eqb f 1 (λ e. omega arith),
        ne_eqb f 2 (λ e. omega arith),
        ne_eqb f 3 (λ e. omega arith),
        ne_eqb f 4 (λ e. omega arith),
        ne_eqb f 5 (λ e. omega arith),
        (functions_unknown f).1 (inr h),
      )

  pub picks_updated : (f : ℕ) → picks f ≡ updated f w v
  unfolding updated known_function
  picks_updated zero = refl
  picks_updated (suc zero) = zeros_leave w 5
  picks_updated (suc (suc zero)) = zeros_leave (bit_or (sum_of v w) (cond over 4294967295 0)) 3 ∙ sum_or_ones
  picks_updated (suc (suc (suc zero))) = zeros_leave (larger_of v w) 2
  picks_updated (suc (suc (suc (suc zero)))) = zeros_leave (bit_or v w) 1
  picks_updated (suc (suc (suc (suc (suc zero))))) = zeros_leave (sum_of v w) 4
  picks_updated (suc (suc (suc (suc (suc (suc f)))))) = past (suc (suc (suc (suc (suc (suc f)))))) (omega arith)
