-- Two parallel arrays filled together, turn by turn: in the end they stand one behind the other, as if each had been stored whole.
use Prim.Native.Nat.{ℕ, zero, suc, ◌+◌, ◌*◌, ◌≤◌, ◌<◌}
use mathlib.Core.Path.{◌≡◌, refl, sym, ap, ap₂, ◌∙◌}
use mathlib.Core.List.{List, [], ◌∷◌, ◌++◌}
use native.Mathlib.Omega.{arith}
use native.Mathlib.Nat.{mul-suc, mul-zero}
use lib.ListN.{length, set, length-append}
use lib.Seq.{sets, set_comm}
use Rattle.lists.specs.Parts.{sets_append}
use Rattle.lists.specs.Listings.{listing, listing_zero, listing_snoc, listing_length}
use Rattle.lists.specs.Loops.{turns, turns_zero, turns_suc}
use Rattle.runfile.specs.RunFile.{joined}
use Rattle.runfile.proofs.Joined.{joined_snoc}

-- a store ahead of others does not meet them
set_ahead : (l : List ℕ) (i j v : ℕ) (vs : List ℕ) → j < i → set (sets l i vs) j v ≡ sets (set l j v) i vs
set_ahead l i j v [] h = refl
set_ahead l i j v (w ∷ vs) h = set_ahead (set l i w) (suc i) j v vs (omega arith) ∙ ap (λ o. sets o (suc i) vs) (set_comm l i j w v (λ e. absurd (omega (arith, h, e))))

-- f k at place k of the one, the w elements g k in the other; n places each, the first array at a
module _ (f : ℕ → ℕ) (g : ℕ → List ℕ) (w : ℕ) (wide : (k : ℕ) → length (g k) ≡ w) (a n : ℕ) (out : List ℕ) where
  abbrev pub turn : ℕ → List ℕ → List ℕ
  turn k o = sets (set o (a + k) (f k)) (a + n + w * k) (g k)

  pieces_snoc : (k : ℕ) → joined (listing g (suc k)) ≡ joined (listing g k) ++ g k
  pieces_snoc k = ap joined (listing_snoc g k) ∙ joined_snoc (listing g k) (g k)

  pub pieces_length : (k : ℕ) → length (joined (listing g k)) ≡ w * k
  pieces_length zero = ap (λ l. length (joined l)) (listing_zero g) ∙ sym (mul-zero w)
  pieces_length (suc k) = ap length (pieces_snoc k) ∙ length-append (joined (listing g k)) (g k) ∙ ap₂ ◌+◌ (pieces_length k) (wide k) ∙ sym (mul-suc w k)

  -- both after k turns
  abbrev both : ℕ → List ℕ
  both k = sets (sets out a (listing f k)) (a + n) (joined (listing g k))

  goes_on : (k : ℕ) → k < n → turn k (both k) ≡ both (suc k)
  goes_on k h =
      let one : List ℕ = sets out a (listing f k) in
      let i : a + n + w * k ≡ a + n + length (joined (listing g k)) = ap (λ m. a + n + m) (sym (pieces_length k)) in
      let j : a + k ≡ a + length (listing f k) = ap (λ m. a + m) (sym (listing_length f k)) in
      ap (λ o. sets o (a + n + w * k) (g k)) (set_ahead one (a + n) (a + k) (f k) (joined (listing g k)) (omega arith))
      ∙ ap (λ m. sets (sets (set one (a + k) (f k)) (a + n) (joined (listing g k))) m (g k)) i
      ∙ sym (sets_append (set one (a + k) (f k)) (a + n) (joined (listing g k)) (g k))
      ∙ ap₂ (λ o v. sets o (a + n) v) (ap (λ m. set one m (f k)) j ∙ sym (sets_append out a (listing f k) (f k ∷ [])) ∙ ap (sets out a) (sym (listing_snoc f k))) (sym (pieces_snoc k))

  pub in_parallel : (k : ℕ) → k ≤ n → turns turn k out ≡ both k
  in_parallel zero h = turns_zero turn out ∙ sym (ap₂ (λ x y. sets (sets out a x) (a + n) (joined y)) (listing_zero f) (listing_zero g))
  in_parallel (suc k) h = turns_suc turn k out ∙ ap (turn k) (in_parallel k (omega arith)) ∙ goes_on k h

  pub one_behind_other : turns turn n out ≡ sets out a (listing f n ++ joined (listing g n))
  one_behind_other =
      let e : a + n ≡ a + length (listing f n) = ap (λ m. a + m) (sym (listing_length f n)) in
      in_parallel n (omega arith)
      ∙ ap (λ m. sets (sets out a (listing f n)) m (joined (listing g n))) e
      ∙ sym (sets_append out a (listing f n) (joined (listing g n)))
