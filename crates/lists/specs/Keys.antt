-- A place and a time as one number: the place counts first, and every time is below b.
use Rattle.std.specs.Prelude.{◌≡◌, ℕ, ◌+◌, ◌*◌, ◌≤◌, ◌<◌}
use Rattle.std.proofs.Common.{mul-le-mul_right, arith}
use Rattle.std.proofs.Math.Decide.{dec_lt}

-- which of two numbers is the larger
pub data Tri (m n : ℕ) : Type 0 where
  less : m < n → Tri m n
  alike : m ≡ n → Tri m n
  more : n < m → Tri m n

pub tri : (m n : ℕ) → Tri m n
tri m n = go (dec_lt m n) (dec_lt n m)
  where
    go : Dec (m < n) → Dec (n < m) → Tri m n
    go (yes p) d = less p
    go (no p) (yes q) = more q
    go (no p) (no q) = alike (omega arith)

unfoldable pub enc : ℕ → ℕ → ℕ → ℕ
enc b p s = p * b + s

pub enc_place : (b p s q t : ℕ) → p < q → s < b → enc b p s < enc b q t
unfolding enc
enc_place b p s q t h k = omega (arith, mul-le-mul_right b h)

pub enc_time : (b p s q t : ℕ) → p ≤ q → s < t → enc b p s < enc b q t
unfolding enc
enc_time b p s q t h k = omega (arith, mul-le-mul_right b h)

pub enc_le : (b p s q t : ℕ) → p ≤ q → s ≤ t → enc b p s ≤ enc b q t
unfolding enc
enc_le b p s q t h k = omega (arith, mul-le-mul_right b h)

-- the other way
pub place_le : (b p s q t : ℕ) → t < b → enc b p s < enc b q t → p ≤ q
place_le b p s q t k h = go (dec_lt q p)
  where
    go : Dec (q < p) → p ≤ q
    go (yes l) = let z = enc_place b q t p s l k in absurd (omega arith)
    go (no l) = omega arith

pub place_lt : (b p s q : ℕ) → enc b p s < enc b q 0 → p < q
place_lt b p s q h = go (dec_lt p q)
  where
    go : Dec (p < q) → p < q
    go (yes l) = l
    go (no l) = let z = enc_le b q 0 p s (omega arith) (omega arith) in absurd (omega arith)

pub enc_inj : (b p s q t : ℕ) → s < b → t < b → enc b p s ≡ enc b q t → (p ≡ q) × (s ≡ t)
enc_inj b p s q t hs ht e = go (tri p q)
  where
    go : Tri p q → (p ≡ q) × (s ≡ t)
    go (less h) = let k = enc_place b p s q t h hs in absurd (omega arith)
    go (more h) = let k = enc_place b q t p s h ht in absurd (omega arith)
    go (alike h) = (h, fin (tri s t))
      where
        fin : Tri s t → s ≡ t
        fin (less k) = let w = enc_time b p s q t (omega arith) k in absurd (omega arith)
        fin (alike k) = k
        fin (more k) = let w = enc_time b q t p s (omega arith) k in absurd (omega arith)
