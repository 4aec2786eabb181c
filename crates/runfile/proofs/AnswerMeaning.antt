-- The answer file's definitions mean what specs/AnswerMeaning says.
use Prim.Native.Nat.{ℕ, zero, suc, ◌+◌, ◌*◌, ◌/◌, ◌%◌, ◌≤◌, ◌<◌}
use mathlib.Core.Path.{◌≡◌, refl}
use mathlib.Core.Logic.{◌⊎◌, inl, inr, ◌≢◌}
use mathlib.Core.Bool.{Bool, true, false, cond}
use mathlib.Core.List.{List}
use native.Mathlib.Omega.{arith}
use lib.Dec.{eqb, ltb}
use lib.ListN.{length, get_or}
use borrow.Author.Tests.{ltb-true, ltb-false, lt-ltb, le-ltb, eqb-true, eqb-false, eq-eqb, ne_eqb}
use Rattle.runfile.specs.RunFile.{two_bytes}
use Rattle.runfile.specs.AnswerFile.{four_bytes, answer_bytes, write_refusal}
use Rattle.runfile.specs.AnswerMeaning.{WriteMeaning, BytesMeaning, BytesComputed}

-- the three numbers, and what each asks of the two tables' lengths and the output's
data Verdict (n m o : ℕ) : ℕ → Type 0 where
  fits : m ≡ n → n ≤ 4096 → 2 + 5 * n ≤ o → Verdict n m o 0
  unsized : (m ≢ n) ⊎ (4096 < n) → Verdict n m o 3
  short : m ≡ n → n ≤ 4096 → o < 2 + 5 * n → Verdict n m o 5

module _ (results values out : List ℕ) where
  abbrev n : ℕ
  n = length results

  abbrev m : ℕ
  m = length values

  abbrev o : ℕ
  o = length out

  found : (a b c : Bool) → ltb 4096 n ≡ a → eqb m n ≡ b → ltb o (2 + 5 * n) ≡ c → Verdict n m o (cond a 3 (cond b (cond c 5 0) 3))
  found true b c p q r = unsized (inr (ltb-true 4096 n p))
  found false false c p q r = unsized (inl (eqb-false m n q))
  found false true true p q r = short (eqb-true m n q) (ltb-false 4096 n p) (ltb-true o (2 + 5 * n) r)
  found false true false p q r = fits (eqb-true m n q) (ltb-false 4096 n p) (ltb-false o (2 + 5 * n) r)

  verdict : Verdict n m o (write_refusal results values out)
  unfolding write_refusal
  verdict = found (ltb 4096 n) (eqb m n) (ltb o (2 + 5 * n)) refl refl refl

  three : (b : Bool) → ◌≡◌ {A = ℕ} (cond b 3 3) 3
  three true = refl
  three false = refl

  told : {k : ℕ} → Verdict n m o k → write_refusal results values out ≡ k
  unfolding write_refusal
  told (fits e l r) = rw (le-ltb 4096 n l, eq-eqb m n e, le-ltb o (2 + 5 * n) r)
  told (short e l r) = rw (le-ltb 4096 n l, eq-eqb m n e, lt-ltb o (2 + 5 * n) r)
  told (unsized (inl e)) = rw (ne_eqb m n e) (three (ltb 4096 n))
  told (unsized (inr h)) = rw (lt-ltb 4096 n h)

  at_0 : {k : ℕ} → Verdict n m o k → k ≡ 0 → (m ≡ n) × (n ≤ 4096) × (2 + 5 * n ≤ o)
  at_0 (fits e l r) k = (e, l, r)
  at_0 (unsized h) k = absurd (omega arith)
  at_0 (short e l r) k = absurd (omega arith)

  at_3 : {k : ℕ} → Verdict n m o k → k ≡ 3 → (m ≢ n) ⊎ (4096 < n)
  at_3 (fits e l r) k = absurd (omega arith)
  at_3 (unsized h) k = h
  at_3 (short e l r) k = absurd (omega arith)

  at_5 : {k : ℕ} → Verdict n m o k → k ≡ 5 → (m ≡ n) × (n ≤ 4096) × (o < 2 + 5 * n)
  at_5 (fits e l r) k = absurd (omega arith)
  at_5 (unsized h) k = absurd (omega arith)
  at_5 (short e l r) k = (e, l, r)

  pub write_meaning : WriteMeaning results values out
  write_meaning = record {
    written_if = (at_0 verdict, λ h. told (fits h.0 h.1 h.2));
    unsized_if = (at_3 verdict, λ h. told (unsized h));
    short_if = (at_5 verdict, λ h. told (short h.0 h.1 h.2));
  }

-- ---- bytes

four_bytes_lem : (v i : ℕ) → i < 4 → get_or (four_bytes v) i 0 < 256
four_bytes_lem v zero h = omega arith
four_bytes_lem v (suc zero) h = omega arith
four_bytes_lem v (suc (suc zero)) h = omega arith
four_bytes_lem v (suc (suc (suc zero))) h = omega arith
four_bytes_lem v (suc (suc (suc (suc i)))) h = absurd (omega arith)

two_bytes_lem : (v i : ℕ) → i < 2 → get_or (two_bytes v) i 0 < 256
two_bytes_lem v zero h = omega arith
two_bytes_lem v (suc zero) h = omega arith
two_bytes_lem v (suc (suc i)) h = absurd (omega arith)

byte_off : (x : ℕ) → x ≡ x % 256 + 256 * (x / 256)
byte_off x = omega arith

summed : (v p a q b r c : ℕ) → v ≡ p + 256 * a → a ≡ q + 256 * b → b ≡ r + 256 * c → p + 256 * q + 65536 * r + 16777216 * c ≡ v
summed v p a q b r c d e f = omega arith

four_back : (v : ℕ) → v < 4294967296 → v % 256 + 256 * (v / 256 % 256) + 65536 * (v / 65536 % 256) + 16777216 * (v / 16777216 % 256) ≡ v
four_back v h =
    let a : v / 65536 ≡ v / 256 / 256 = omega arith in
    let b : v / 16777216 % 256 ≡ v / 256 / 256 / 256 = omega arith in
    rw (a, b) (summed v (v % 256) (v / 256) (v / 256 % 256) (v / 256 / 256) (v / 256 / 256 % 256) (v / 256 / 256 / 256) (byte_off v) (byte_off (v / 256)) (byte_off (v / 256 / 256)))

pub bytes_meaning : BytesMeaning
bytes_meaning = record {
  four_are_four = λ v. refl;
  four_are_bytes = four_bytes_lem;
  four_read_back = four_back;
  two_are_two = λ n. refl;
  two_are_bytes = two_bytes_lem;
  two_read_back = λ n h. omega arith;
}

pub bytes_computed : BytesComputed
unfolding answer_bytes
bytes_computed = record { four = refl; few = refl; most = refl; whole = refl }
