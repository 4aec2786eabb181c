-- Lists of broadcasts and of held messages under other names.
use mathlib.Core.Path.{◌≡◌, refl, ap}
use mathlib.Core.Bool.{Bool, true, false}
use mathlib.Core.List.{List, [], ◌∷◌, map}
use mathlib.Core.Option
use Prim.Native.Nat.{ℕ, zero, suc}
use lib.Dec.{eqb}
use Rattle.lists.specs.Places.{nth}
use Rattle.automaton.specs.State.{Tagged, choose, released, leave, kept}
use Rattle.automaton.specs.Renaming.{tag_map}

module _ {M N : Type 0} (h : M → N) where
  pub nth_map : (l : List M) (n : ℕ) → nth (map h l) n ≡ Option.map h (nth l n)
  nth_map [] n = refl
  nth_map (m ∷ l) zero = refl
  nth_map (m ∷ l) (suc n) = nth_map l n

  pub released_map : (n : ℕ) (l : List (Tagged M)) → released n (map (tag_map h) l) ≡ map h (released n l)
  released_map n [] = refl
  released_map n (x ∷ l) = go (eqb x.mark n) (released_map n l)
    where
      go : (t : Bool) → released n (map (tag_map h) l) ≡ map h (released n l)
          → choose t (h x.msg) (released n (map (tag_map h) l)) ≡ map h (choose t x.msg (released n l))
      go true e = ap (λ k. h x.msg ∷ k) e
      go false e = e

  pub kept_map : (n : ℕ) (l : List (Tagged M)) → kept n (map (tag_map h) l) ≡ map (tag_map h) (kept n l)
  kept_map n [] = refl
  kept_map n (x ∷ l) = go (eqb x.mark n) (kept_map n l)
    where
      go : (t : Bool) → kept n (map (tag_map h) l) ≡ map (tag_map h) (kept n l)
          → leave t (tag_map h x) (kept n (map (tag_map h) l)) ≡ map (tag_map h) (leave t x (kept n l))
      go true e = e
      go false e = ap (λ k. tag_map h x ∷ k) e
