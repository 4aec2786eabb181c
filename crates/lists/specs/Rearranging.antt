-- Lists with the same elements in another order (Made, `Rearranged`): how one comes from another.
use Rattle.std.specs.Prelude.{◌≡◌, List, [], ◌∷◌, ◌++◌}
use Rattle.std.proofs.Common.{subst}
use Rattle.lists.specs.Made.{Rearranged, none, same, swapped, further}

module _ {A : Type 0} where
  pub rearranged_itself : (l : List A) → Rearranged l l
  rearranged_itself [] = none
  rearranged_itself (a ∷ l) = same a (rearranged_itself l)

  pub rearranged_is : {l r : List A} → l ≡ r → Rearranged l r
  rearranged_is {l} e = subst (Rearranged l) e (rearranged_itself l)

  -- the first element goes behind a list
  pub moved_behind : (a : A) (l r : List A) → Rearranged (a ∷ l ++ r) (l ++ a ∷ r)
  moved_behind a [] r = same a (rearranged_itself r)
  moved_behind a (b ∷ l) r = further (swapped a b (l ++ r)) (same b (moved_behind a l r))

  -- with the same list behind both
  pub rearranged_ahead : {l r : List A} (z : List A) → Rearranged l r → Rearranged (l ++ z) (r ++ z)
  rearranged_ahead z none = rearranged_itself z
  rearranged_ahead z (same a p) = same a (rearranged_ahead z p)
  rearranged_ahead z (swapped a b l) = swapped a b (l ++ z)
  rearranged_ahead z (further p q) = further (rearranged_ahead z p) (rearranged_ahead z q)
