-- A count is raised until it is at its largest value and then stays there (RULES 2.2, 9.2).
use Rattle.std.proofs.Common.{◌≡◌, ℕ, zero, suc, ◌+◌, ◌≤◌, ap, ◌∙◌, arith}
use Rattle.lists.specs.Loops.{turns, turns_zero, turns_suc}
use Rattle.names.specs.Update.{raised}

pub raised_below : (a n : ℕ) → a + n ≤ 4294967295 → raised a n ≡ a + n
unfolding raised
raised_below a n h = omega arith

pub raised_past : (a n : ℕ) → 4294967295 ≤ a + n → raised a n ≡ 4294967295
unfolding raised
raised_past a n h = omega arith

pub raised_most : (a n : ℕ) → raised a n ≤ 4294967295
unfolding raised
raised_most a n = omega arith

-- by n, then by m: by n + m
pub raised_again : (a n m : ℕ) → raised (raised a n) m ≡ raised a (n + m)
unfolding raised
raised_again a n m = omega arith

-- one by one, n times: by n
pub one_by_one : (a n : ℕ) → a ≤ 4294967295 → turns (λ _ b. raised b 1) n a ≡ raised a n
one_by_one a zero h = turns_zero (λ _ b. raised b 1) a ∙ (omega (arith, raised_below a 0 (omega arith)))
one_by_one a (suc n) h = rw (turns_suc (λ (_ : ℕ) b. raised b 1) n a, one_by_one a n h, raised_again a n 1) (ap (raised a) (omega arith))
