-- What a release takes out of a list of held messages, and what it leaves, when the list grows at its end.
use Prim.Native.Nat.{ℕ, suc}
use mathlib.Core.Path.{◌≡◌, refl, ap}
use mathlib.Core.Bool.{Bool, true, false}
use mathlib.Core.List.{List, [], ◌∷◌, ◌++◌}
use lib.Dec.{eqb}
use lib.ListN.{length}
use Rattle.lists.specs.Filters.{keep, filter}
use Rattle.automaton.specs.State.{Tagged, kept, released, leave, choose}

module _ {M : Type 0} where
  pub released_snoc : (n : ℕ) (xs : List (Tagged M)) (x : Tagged M) → released n (xs ++ (x ∷ [])) ≡ released n xs ++ choose (eqb x.mark n) x.msg []
  released_snoc n [] x = refl
  released_snoc n (y ∷ xs) x = go (eqb y.mark n) (released_snoc n xs x)
    where
      go : (t : Bool) → released n (xs ++ (x ∷ [])) ≡ released n xs ++ choose (eqb x.mark n) x.msg []
          → choose t y.msg (released n (xs ++ (x ∷ []))) ≡ choose t y.msg (released n xs) ++ choose (eqb x.mark n) x.msg []
      go true r = ap (y.msg ∷◌) r
      go false r = r

  pub kept_snoc : (n : ℕ) (xs : List (Tagged M)) (x : Tagged M) → kept n (xs ++ (x ∷ [])) ≡ kept n xs ++ leave (eqb x.mark n) x []
  kept_snoc n [] x = refl
  kept_snoc n (y ∷ xs) x = go (eqb y.mark n) (kept_snoc n xs x)
    where
      go : (t : Bool) → kept n (xs ++ (x ∷ [])) ≡ kept n xs ++ leave (eqb x.mark n) x []
          → leave t y (kept n (xs ++ (x ∷ []))) ≡ leave t y (kept n xs) ++ leave (eqb x.mark n) x []
      go true r = r
      go false r = ap (y ∷◌) r

  -- as many are released as have the tag
  pub released_count : (n : ℕ) (xs : List (Tagged M)) → length (released n xs) ≡ length (filter (λ x. eqb x.mark n) xs)
  released_count n [] = refl
  released_count n (y ∷ xs) = go (eqb y.mark n) (released_count n xs)
    where
      go : (t : Bool) → length (released n xs) ≡ length (filter (λ x. eqb x.mark n) xs)
          → length (choose t y.msg (released n xs)) ≡ length (keep t y (filter (λ x. eqb x.mark n) xs))
      go true e = ap suc e
      go false e = e
