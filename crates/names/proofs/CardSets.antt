-- Sets of one card and of several, and some sets computed.
use Rattle.std.proofs.Common.{◌≡◌, ℕ, ◌+◌, ◌-◌, ◌*◌, ◌/◌, ◌%◌, ◌^◌, ◌<◌, ◌≤◌, Bool, true, false, cond, not, eqb, ltb, ◌≢◌, sym, refl, ap, ◌∙◌, arith, le-ltb, lt-ltb, ne_eqb, eqb-true}
use lib.Bits.{bit_and}
use lib.Pow.{field, mod-mod-pow}
use Rattle.lists.specs.Every.{each, each_at}
use Rattle.lists.specs.Loops.{total, turns, total_cong}
use Rattle.names.specs.CardSet.{bit_of, member_of, size_of, single, several, sole_of}
use Rattle.names.specs.CardSetMeaning.{CardSetsComputed}

-- a set that has not several cards has one
pub single_of : (set : ℕ) → several set ≡ false → single set ≡ true
unfolding several
single_of set e = sym (not_not (single set)) ∙ ap not e
  where
    not_not : (b : Bool) → not (not b) ≡ b
    not_not true = refl
    not_not false = refl

-- and a set of one card has not several
pub not_several : (set : ℕ) → single set ≡ true → several set ≡ false
unfolding several
not_several set e = ap not e

-- ---- one shifted by a number of places does not run over a word

shifts : ℕ → Bool
shifts k = eqb (1 * 2 ^ k % 4294967296) (2 ^ k)

all_shift : each 32 shifts ≡ true
unfolding each shifts
all_shift = refl

pub one_shifted : (k : ℕ) → k < 32 → 1 * 2 ^ k % 4294967296 ≡ 2 ^ k
unfolding shifts
one_shifted k h = eqb-true _ _ (each_at 32 shifts all_shift k h)

-- ---- one card only, told by taking one from the number

-- only the cards 0 to 7 count: each bit below 2^8
bit_low : (set k : ℕ) → k < 8 → bit_of (set % 256) k ≡ bit_of set k
bit_low set k h =
    let e : 8 ≡ 7 - k + 1 + k = omega arith in
    ap (λ n. set % 2 ^ n / 2 ^ k % 2) e
    ∙ ap (λ x. x % 2) (field set (7 - k + 1) k)
    ∙ mod-mod-pow (set / 2 ^ k) (7 - k) 1

module _ (set : ℕ) where
  pub single_low : single (set % 256) ≡ single set
  unfolding single size_of
  single_low = ap (λ n. eqb n 1) (total_cong (bit_of (set % 256)) (bit_of set) 8 (bit_low set))

  pub sole_low : sole_of (set % 256) ≡ sole_of set
  unfolding sole_of
  sole_low = total_cong (λ k. k * bit_of (set % 256) k) (λ k. k * bit_of set k) 8 (λ k h. ap (λ b. k * b) (bit_low set k h))

-- tried on each set of the cards 0 to 7
agrees : ℕ → Bool
agrees x = cond (eqb x 0) (not (single x)) (cond (eqb (bit_and x (x - 1)) 0) (single x) (not (single x)))

all_agree : each 256 agrees ≡ true
unfolding each agrees single size_of total turns
all_agree = refl

pub none_single : single 0 ≡ false
unfolding single size_of total turns
none_single = refl

pub single_bits : (x : ℕ) → x < 256 → x ≢ 0 → eqb (bit_and x (x - 1)) 0 ≡ single x
unfolding agrees
single_bits x h n = go (eqb (bit_and x (x - 1)) 0) (single x) (rw (ne_eqb x 0 n) at (each_at 256 agrees all_agree x h))
  where
    go : (a b : Bool) → cond a b (not b) ≡ true → a ≡ b
    go true true e = refl
    go true false e = sym e
    go false true e = e
    go false false e = refl

-- ---- the only card, told by halving, for each of those sets

halves : ℕ → Bool
halves x = cond (single x) (eqb (sole_of x) (cond (ltb x 16) (x / 2 - x / 8) (4 + x / 16 / 2 - x / 16 / 8))) true

all_halve : each 256 halves ≡ true
unfolding each halves single size_of sole_of total turns
all_halve = refl

module _ (x : ℕ) (h : x < 256) (one : single x ≡ true) where
  sole_halved : sole_of x ≡ cond (ltb x 16) (x / 2 - x / 8) (4 + x / 16 / 2 - x / 16 / 8)
  unfolding halves
  sole_halved = eqb-true _ _ (rw one at (each_at 256 halves all_halve x h))

  pub sole_few : x < 16 → sole_of x ≡ x / 2 - x / 8
  sole_few l = rw (lt-ltb x 16 l) at sole_halved

  pub sole_more : 16 ≤ x → sole_of x ≡ 4 + x / 16 / 2 - x / 16 / 8
  sole_more l = rw (le-ltb x 16 l) at sole_halved

pub card_sets_computed : CardSetsComputed
unfolding member_of size_of single several sole_of total turns
card_sets_computed = record {
  zero_of_six = refl;
  one_of_six = refl;
  two_of_six = refl;
  three_of_six = refl;
  lowest = refl;
  highest = refl;
  sole_lowest = refl;
  sole_middle = refl;
  sole_highest = refl;
  none = refl;
  one = refl;
  two = refl;
  all = refl;
  past = refl;
}
