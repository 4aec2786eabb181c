-- Tests on numbers and Booleans. `search (needs, cases)` closes a return whose contract picks by tests: each rule of `cases` gives a
-- test's value from the fact that a branch's arm knows.
use Rattle.std.specs.Prelude.{ℕ, ◌+◌, ◌/◌, ◌≤◌, ◌<◌, ◌≡◌, refl, ◌⊎◌, Bool, true, false, cond, ◌&&◌, eqb, ltb}
use Rattle.std.proofs.Common.{sym, ◌∙◌, inl, inr, true≢false, arith, div-lt_iff_lt-mul, lt-ltb, le-ltb, le-leb, eq-eqb, ne_eqb}
use Rattle.std.proofs.lemmas.Bool.{false≢true, lt-leb}
use Rattle.std.proofs.Math.Decide.{dec_lt}
use Rattle.std.proofs.Math.Nat.{div-eq_of_lt}

pub ruleset cases = (lt-ltb, le-ltb, le-leb, lt-leb, eq-eqb, ne_eqb)

-- a number that is at least k and not k is past k: what the last arm of a `match` on numbers knows, one number at a time (omega splits
-- at most six `≢`)
pub past : (k x : ℕ) → k ≤ x → (x ≡ k → ⊥) → k + 1 ≤ x
past k x h n = omega arith

pub eqb_refl : (n : ℕ) → eqb n n ≡ true
eqb_refl n = eq-eqb n n refl

pub eqb_of : {m n : ℕ} → m ≡ n → eqb m n ≡ true
eqb_of {m} {n} p = eq-eqb m n p

pub eqb_not : {m n : ℕ} → ¬ (m ≡ n) → eqb m n ≡ false
eqb_not {m} {n} h = ne_eqb m n h

pub bool : (b : Bool) → (b ≡ true) ⊎ (b ≡ false)
bool true = inl refl
bool false = inr refl

pub clash : {b : Bool} → b ≡ true → b ≡ false → ⊥
clash p q = true≢false (sym p ∙ q)

pub false_of : (b : Bool) → (b ≡ true → ⊥) → b ≡ false
false_of true n = absurd (n refl)
false_of false n = refl

-- what holds of one of two, by the test that picks it
pub cond_cases : {A : Type 0} (Q : A → Type 0) (b : Bool) (x y : A) → Q (cond b x y) → ((b ≡ true) × Q x) ⊎ ((b ≡ false) × Q y)
cond_cases Q true x y h = inl (refl, h)
cond_cases Q false x y h = inr (refl, h)

pub and_fst : (a b : Bool) → (a && b) ≡ true → a ≡ true
and_fst true b e = refl
and_fst false b e = e

pub and_snd : (a b : Bool) → (a && b) ≡ true → b ≡ true
and_snd true b e = e
and_snd false b e = absurd (false≢true e)

pub and_intro : {a b : Bool} → a ≡ true → b ≡ true → (a && b) ≡ true
and_intro p q = rw (p, q)

pub and_false : (b : Bool) → (b && false) ≡ false
and_false true = refl
and_false false = refl

-- a quotient is zero exactly where the number is below the divisor
pub div_zero : (a b : ℕ) → 0 < b → eqb (a / b) 0 ≡ ltb a b
div_zero a b h = go (dec_lt a b)
  where
    go : Dec (a < b) → eqb (a / b) 0 ≡ ltb a b
    go (yes l) = rw (div-eq_of_lt l, lt-ltb a b l)
    go (no n) =
        ne_eqb (a / b) 0 (λ q. let w = (div-lt_iff_lt-mul {k = b} {x = a} {y = 1} h).0 (omega arith) in absurd (omega arith))
        ∙ sym (le-ltb a b (omega arith))
