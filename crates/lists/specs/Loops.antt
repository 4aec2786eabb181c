-- A counted loop as a fold.
use Rattle.std.specs.Prelude.{ℕ, zero, suc, ◌+◌, ◌≤◌, ◌<◌, ◌≡◌, refl}
use Rattle.std.proofs.Common.{ap, ◌∙◌, add-one, arith}

-- `f 0`, then `f 1`, and so on: n turns
unfoldable pub turns {ℓ} : {S : Type ℓ} → (ℕ → S → S) → ℕ → S → S
turns f zero s = s
turns f (suc n) s = f n (turns f n s)

pub turns_zero {ℓ} : {S : Type ℓ} (f : ℕ → S → S) (s : S) → turns f 0 s ≡ s
unfolding turns
turns_zero f s = refl

pub turns_suc {ℓ} : {S : Type ℓ} (f : ℕ → S → S) (n : ℕ) (s : S) → turns f (suc n) s ≡ f n (turns f n s)
unfolding turns
turns_suc f n s = refl

pub turns_more {ℓ} : {S : Type ℓ} (f : ℕ → S → S) (n : ℕ) (s : S) → turns f (n + 1) s ≡ f n (turns f n s)
turns_more f n s = ap (λ (k : ℕ). turns f k s) (add-one n) ∙ turns_suc f n s

-- what each turn keeps, the loop keeps
pub turns_keeps : {S : Type 0} (P : S → Type 0) (f : ℕ → S → S) (n : ℕ) (s : S) → ((k : ℕ) (s : S) → k < n → P s → P (f k s)) → P s → P (turns f n s)
unfolding turns
turns_keeps P f zero s h p = p
turns_keeps P f (suc n) s h p = h n (turns f n s) (omega arith) (turns_keeps P f n s (λ k s g. h k s (omega arith)) p)

-- f 0 + f 1 + .. of n numbers
unfoldable pub total : (ℕ → ℕ) → ℕ → ℕ
total f n = turns (λ k s. s + f k) n 0

pub total_zero : (f : ℕ → ℕ) → total f 0 ≡ 0
unfolding total turns
total_zero f = refl

pub total_more : (f : ℕ → ℕ) (n : ℕ) → total f (n + 1) ≡ total f n + f n
unfolding total
total_more f n = turns_more (λ k s. s + f k) n 0

pub total_suc : (f : ℕ → ℕ) (n : ℕ) → total f (suc n) ≡ total f n + f n
unfolding total
total_suc f n = turns_suc (λ k s. s + f k) n 0

-- each at most one: the sum is at most their number
pub total_most : (f : ℕ → ℕ) (n : ℕ) → ((k : ℕ) → k < n → f k ≤ 1) → total f n ≤ n
total_most f zero h = let e = total_zero f in omega arith
total_most f (suc n) h = let e = total_suc f n in let a = total_most f n (λ k g. h k (omega arith)) in let b = h n (omega arith) in omega arith

pub total_cong : (f g : ℕ → ℕ) (n : ℕ) → ((k : ℕ) → k < n → f k ≡ g k) → total f n ≡ total g n
total_cong f g zero h = rw (total_zero f, total_zero g)
total_cong f g (suc n) h = rw (total_suc f n, total_suc g n, total_cong f g n (λ k r. h k (omega arith)), h n (omega arith))
