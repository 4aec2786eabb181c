-- A test of every number below a bound, as a loop with an early exit makes it.
use Rattle.std.specs.Prelude.{ℕ, zero, suc, ◌+◌, ◌<◌, ◌≡◌, refl, Bool, true, false, ◌&&◌}
use Rattle.std.proofs.Common.{ap, ◌∙◌, subst, true≢false, add-one, arith}
use Rattle.std.proofs.Math.Decide.{ℕ_discrete}
use Rattle.lists.specs.Tests.{and_fst, and_snd, and_intro, and_false}

-- each of 0 .. n - 1 passes
unfoldable pub each : ℕ → (ℕ → Bool) → Bool
each zero p = true
each (suc n) p = each n p && p n

pub each_zero : (p : ℕ → Bool) → each 0 p ≡ true
unfolding each
each_zero p = refl

pub each_suc : (n : ℕ) (p : ℕ → Bool) → each (suc n) p ≡ (each n p && p n)
unfolding each
each_suc n p = refl

-- one more number that passes
pub each_more : (n : ℕ) (p : ℕ → Bool) → each n p ≡ true → p n ≡ true → each (n + 1) p ≡ true
each_more n p a e = rw (add-one n, each_suc n p) (and_intro a e)

-- one more
pub each_next : (n : ℕ) (p : ℕ → Bool) → each (n + 1) p ≡ (each n p && p n)
each_next n p = rw (add-one n) (each_suc n p)

-- each that is below the bound passes
pub each_at : (n : ℕ) (p : ℕ → Bool) → each n p ≡ true → (i : ℕ) → i < n → p i ≡ true
unfolding each
each_at zero p a i h = absurd (omega arith)
each_at (suc n) p a i h = go (ℕ_discrete i n) (each_at n p (and_fst (each n p) (p n) a) i)
  where
    go : Dec (i ≡ n) → (i < n → p i ≡ true) → p i ≡ true
    go (yes e) r = ap p e ∙ and_snd (each n p) (p n) a
    go (no e) r = r (omega arith)

-- and the other way
pub each_of : (n : ℕ) (p : ℕ → Bool) → ((i : ℕ) → i < n → p i ≡ true) → each n p ≡ true
unfolding each
each_of zero p h = refl
each_of (suc n) p h = and_intro (each_of n p (λ i g. h i (omega arith))) (h n (omega arith))

-- one that fails
pub each_fails : (n : ℕ) (p : ℕ → Bool) (i : ℕ) → i < n → p i ≡ false → each n p ≡ false
unfolding each
each_fails zero p i h e = absurd (omega arith)
each_fails (suc n) p i h e = go (ℕ_discrete i n) (λ g. each_fails n p i g e)
  where
    go : Dec (i ≡ n) → (i < n → each n p ≡ false) → (each n p && p n) ≡ false
    go (yes q) r = rw (subst (λ k. p k ≡ false) q e) (and_false (each n p))
    go (no q) r = rw (r (omega arith))

-- tests that agree below the bound
pub each_cong : (n : ℕ) (p q : ℕ → Bool) → ((i : ℕ) → i < n → p i ≡ q i) → each n p ≡ each n q
unfolding each
each_cong zero p q h = refl
each_cong (suc n) p q h = rw (each_cong n p q (λ i g. h i (omega arith)), h n (omega arith))

-- where not all pass, there is one that fails
pub each_failing : (n : ℕ) (p : ℕ → Bool) → each n p ≡ false → (i : ℕ) × (i < n) × (p i ≡ false)
unfolding each
each_failing zero p e = absurd (true≢false e)
each_failing (suc n) p e = go (each n p) refl (p n) refl e (λ q. each_failing n p q)
  where
    go : (a : Bool) → each n p ≡ a → (b : Bool) → p n ≡ b → (a && b) ≡ false
        → (each n p ≡ false → (i : ℕ) × (i < n) × (p i ≡ false)) → (i : ℕ) × (i < suc n) × (p i ≡ false)
    go false q b r h f = let x = f q in (x.0, omega arith, x.2)
    go true q false r h f = (n, omega arith, r)
    go true q true r h f = absurd (true≢false h)
