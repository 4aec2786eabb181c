-- How many elements of a list pass a test.
use Rattle.std.specs.Prelude.{ℕ, zero, suc, ◌+◌, ◌≡◌, refl, Bool, true, false, cond, List, [], ◌∷◌, ◌++◌, length}
use Rattle.std.proofs.Common.{ap, ap₂, length-append}
use Rattle.lists.specs.Loops.{total, total_zero, total_suc}
use Rattle.lists.specs.Listings.{listing, listing_zero, listing_snoc}
use Rattle.lists.specs.Filters.{keep, filter}

module _ {A : Type 0} where
  pub filter_append : (p : A → Bool) (xs ys : List A) → filter p (xs ++ ys) ≡ filter p xs ++ filter p ys
  filter_append p [] ys = refl
  filter_append p (x ∷ xs) ys = go (p x) (filter_append p xs ys)
    where
      go : (t : Bool) → filter p (xs ++ ys) ≡ filter p xs ++ filter p ys → keep t x (filter p (xs ++ ys)) ≡ keep t x (filter p xs) ++ filter p ys
      go true e = ap (x ∷◌) e
      go false e = e

  keep_count : (t : Bool) (x : A) → length (keep t x []) ≡ cond t 1 0
  keep_count true x = refl
  keep_count false x = refl

  -- of a list given by what stands at each place: the sum over the places
  pub filter_listing : (p : A → Bool) (f : ℕ → A) (n : ℕ) → length (filter p (listing f n)) ≡ total (λ k. cond (p (f k)) 1 0) n
  filter_listing p f zero = rw (listing_zero f, total_zero (λ k. cond (p (f k)) 1 0))
  filter_listing p f (suc n) =
      rw (listing_snoc f n, filter_append p (listing f n) (f n ∷ []), length-append (filter p (listing f n)) (filter p (f n ∷ [])), total_suc (λ k. cond (p (f k)) 1 0) n)
      (ap₂ ◌+◌ (filter_listing p f n) (keep_count (p (f n)) (f n)))
