-- What stands at a place of a list: of one that has grown at its end, of one given place by place, and past the end.
use Rattle.std.specs.Prelude.{ℕ, zero, suc, ◌<◌, ◌≤◌, ◌≡◌, refl, List, [], ◌∷◌, ◌++◌, length}
use Rattle.std.proofs.Common.{ap, ◌∙◌, arith}
use Rattle.std.proofs.Math.Option.{Option, none, some}
use Rattle.std.proofs.Math.Decide.{dec_lt}
use Rattle.lists.specs.Listings.{listing, listing_snoc, listing_length}

module _ {M : Type 0} where
  -- place n of a list
  abbrev pub nth : List M → ℕ → Option M
  nth [] n = none
  nth (a ∷ l) zero = some a
  nth (a ∷ l) (suc n) = nth l n

  pub nth_last : (s : List M) (a : M) → nth (s ++ (a ∷ [])) (length s) ≡ some a
  nth_last [] a = refl
  nth_last (b ∷ s) a = nth_last s a

  pub nth_old : (s : List M) (a : M) (k : ℕ) → k < length s → nth (s ++ (a ∷ [])) k ≡ nth s k
  nth_old [] a k h = absurd (omega arith)
  nth_old (b ∷ s) a zero h = refl
  nth_old (b ∷ s) a (suc k) h = nth_old s a k (omega arith)

  -- nothing stands past the end, and only there
  pub nth_past : (s : List M) (k : ℕ) → length s ≤ k → nth s k ≡ none
  nth_past [] k h = refl
  nth_past (a ∷ s) zero h = absurd (omega arith)
  nth_past (a ∷ s) (suc k) h = nth_past s k (omega arith)

  pub nth_none : (s : List M) (k : ℕ) → nth s k ≡ none → length s ≤ k
  nth_none [] k e = omega arith
  nth_none (a ∷ s) zero e = let z : ◌≡◌ {A = ℕ} 0 1 = cc in absurd (omega arith)
  nth_none (a ∷ s) (suc k) e = let h = nth_none s k e in omega arith

  -- of a list given by what stands at each place
  pub nth_listing : (f : ℕ → M) (n k : ℕ) → k < n → nth (listing f n) k ≡ some (f k)
  nth_listing f zero k h = absurd (omega arith)
  nth_listing f (suc n) k h = rw (listing_snoc f n) (go (dec_lt k n) (nth_listing f n k))
    where
      go : Dec (k < n) → (k < n → nth (listing f n) k ≡ some (f k)) → nth (listing f n ++ (f n ∷ [])) k ≡ some (f k)
      go (yes p) r = nth_old (listing f n) (f n) k (omega (arith, listing_length f n)) ∙ r p
      go (no q) r =
          let e : k ≡ length (listing f n) = omega (arith, listing_length f n) in
          let d : n ≡ k = omega arith in
          rw d (ap (λ j. nth (listing f k ++ (f k ∷ [])) j) (rw d at e) ∙ nth_last (listing f k) (f k))
