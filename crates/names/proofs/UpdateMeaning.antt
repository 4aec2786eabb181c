-- An update means what specs/UpdateMeaning says.
use Rattle.std.proofs.Common.{◌≡◌, ℕ, ◌+◌, ◌*◌, ◌/◌, ◌%◌, ◌^◌, ◌<◌, ◌≤◌, min, max, ◌⊎◌, ◌↔◌, List, [], ◌∷◌, sym, refl, ap, ◌∙◌, inl, inr, arith, ne_eqb}
use native.Mathlib.Nat.{le-max_left, le-max_right}
use native.Mathlib.Decide.{dec_lt}
use lib.Bits.{bit_or, or_step, or_shr}
use Rattle.lists.specs.Made.{make, made_rearranged}
use Rattle.names.specs.Update.{raised, larger_of, sum_of, updated, known_function}
use Rattle.names.specs.UpdateMeaning.{UpdatesMean, UpdatesSum, UpdatesComputed}
use Rattle.names.proofs.KnownFunctions.{functions_unknown}
use Rattle.names.proofs.Raised.{raised_most}

-- ---- 3 and 5

wrapped : (s : ℕ) → s < 8589934592 → (s % 4294967296 ≡ s) ⊎ (s % 4294967296 + 4294967296 ≡ s)
wrapped s h = go (dec_lt s 4294967296)
  where
    go : Dec (s < 4294967296) → (s % 4294967296 ≡ s) ⊎ (s % 4294967296 + 4294967296 ≡ s)
    go (yes l) = inl (omega arith)
    go (no l) = inr (omega arith)

one_of : (v w : ℕ) → (max v w ≡ v) ⊎ (max v w ≡ w)
one_of v w = go (dec_lt v w)
  where
    go : Dec (v < w) → (max v w ≡ v) ⊎ (max v w ≡ w)
    go (yes l) = inr (omega arith)
    go (no l) = inl (omega arith)

-- ---- 4

low_bit : (a b m : ℕ) → a ≡ b * 2 + m → m < 2 → a % 2 ≡ m
low_bit a b m e h = omega arith

or_bit : (v w i : ℕ) → bit_or v w / 2 ^ i % 2 ≡ max (v / 2 ^ i % 2) (w / 2 ^ i % 2)
or_bit v w i =
    ap (λ x. x % 2) (or_shr v w i)
    ∙ low_bit (bit_or (v / 2 ^ i) (w / 2 ^ i)) (bit_or (v / 2 ^ i / 2) (w / 2 ^ i / 2)) (max (v / 2 ^ i % 2) (w / 2 ^ i % 2)) (or_step (v / 2 ^ i) (w / 2 ^ i)) (omega arith)

set_in : (x y : ℕ) → x < 2 → y < 2 → max x y ≡ 1 → (x ≡ 1) ⊎ (y ≡ 1)
set_in x y h g e = go (dec_lt x 1)
  where
    go : Dec (x < 1) → (x ≡ 1) ⊎ (y ≡ 1)
    go (yes l) = inr (omega arith)
    go (no l) = inl (omega arith)

set_of : (x y : ℕ) → x < 2 → y < 2 → (x ≡ 1) ⊎ (y ≡ 1) → max x y ≡ 1
set_of x y h g (inl e) = omega arith
set_of x y h g (inr e) = omega arith

or_bits : (v w i : ℕ) → (bit_or v w / 2 ^ i % 2 ≡ 1) ↔ ((v / 2 ^ i % 2 ≡ 1) ⊎ (w / 2 ^ i % 2 ≡ 1))
or_bits v w i = (
  λ e. set_in (v / 2 ^ i % 2) (w / 2 ^ i % 2) (omega arith) (omega arith) (sym (or_bit v w i) ∙ e),
  λ e. or_bit v w i ∙ set_of (v / 2 ^ i % 2) (w / 2 ^ i % 2) (omega arith) (omega arith) e,
)

-- ---- functions that are not known

unknown_leaves : (f v w : ℕ) → (f ≡ 0) ⊎ (5 < f) → updated f w v ≡ v
unfolding updated
unknown_leaves f v w (inl e) = rw e
unknown_leaves f v w (inr h) = rw (ne_eqb f 1 (λ e. omega arith), ne_eqb f 2 (λ e. omega arith), ne_eqb f 3 (λ e. omega arith), ne_eqb f 4 (λ e. omega arith), ne_eqb f 5 (λ e. omega arith))

-- ----

pub updates_mean : UpdatesMean
unfolding updated raised larger_of sum_of
updates_mean v w h g = record {
  operand = refl;
  raised_below = λ l. omega arith;
  raised_past = λ l. omega arith;
  never_falls = omega arith;
  larger_most = (le-max_left v w, le-max_right v w);
  larger_one = one_of v w;
  or_bits = or_bits v w;
  sum_word = omega arith;
  sum = wrapped (v + w) (omega arith);
  unknown = λ f e. unknown_leaves f v w ((functions_unknown f).0 e);
}

-- ---- many updates

abbrev pub add : ℕ → ℕ → ℕ
add w s = s + w

-- added up from v: v more than from 0
pub added_from : (v : ℕ) (ws : List ℕ) → make add v ws ≡ v + make add 0 ws
added_from v [] = omega arith
added_from v (w ∷ ws) = go (added_from (v + w) ws) (added_from (0 + w) ws)
  where
    go : make add (v + w) ws ≡ v + w + make add 0 ws → make add (0 + w) ws ≡ 0 + w + make add 0 ws → make add (v + w) ws ≡ v + make add (0 + w) ws
    go h k = omega arith

raised_all : (v : ℕ) (ws : List ℕ) → v ≤ 4294967295 → make (updated 2) v ws ≡ min (make add v ws) 4294967295
unfolding updated raised
raised_all v [] h = omega arith
raised_all v (w ∷ ws) h =
    let e = raised_all (raised v w) ws (raised_most v w) in
    let p = added_from (raised v w) ws in
    let q = added_from (v + w) ws in
    omega arith

summed_all : (v : ℕ) (ws : List ℕ) → v < 4294967296 → make (updated 5) v ws ≡ make add v ws % 4294967296
unfolding updated sum_of
summed_all v [] h = omega arith
summed_all v (w ∷ ws) h =
    let e = summed_all ((v + w) % 4294967296) ws (omega arith) in
    let p = added_from ((v + w) % 4294967296) ws in
    let q = added_from (v + w) ws in
    omega arith

raised_swap : (a b v : ℕ) → updated 2 b (updated 2 a v) ≡ updated 2 a (updated 2 b v)
unfolding updated raised
raised_swap a b v = omega arith

sum_swap : (a b v : ℕ) → updated 5 b (updated 5 a v) ≡ updated 5 a (updated 5 b v)
unfolding updated sum_of
sum_swap a b v = omega arith

pub updates_sum : UpdatesSum
updates_sum v ws h = record {
  raised_all = raised_all v ws (omega arith);
  never_falls = let e = raised_all v ws (omega arith) in let p = added_from v ws in omega arith;
  summed_all = summed_all v ws h;
  any_order = λ us r. (made_rearranged (updated 2) raised_swap r v, made_rearranged (updated 5) sum_swap r v);
}

pub updates_computed : UpdatesComputed
unfolding updated raised larger_of sum_of known_function
updates_computed = record {
  set = refl;
  add_stays = refl;
  larger = refl;
  or = refl;
  add_comes_round = refl;
  add_below = refl;
  or_some = refl;
  or_words = refl;
  which = refl;
}
