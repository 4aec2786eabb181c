-- Lists one after the other.
use Prim.Native.Nat.{ℕ, zero, suc, ◌+◌, ◌*◌}
use mathlib.Core.Path.{◌≡◌, sym, ap, ◌∙◌}
use mathlib.Core.List.{List, [], ◌∷◌, ◌++◌, append_assoc, append-nil}
use native.Mathlib.Nat.{mul-suc, mul-zero}
use Rattle.lists.specs.Listings.{listing, listing_zero, listing_snoc, listing_add}
use Rattle.runfile.specs.RunFile.{joined}

pub joined_snoc : (l : List (List ℕ)) (x : List ℕ) → joined (l ++ (x ∷ [])) ≡ joined l ++ x
joined_snoc [] x = append-nil x
joined_snoc (y ∷ l) x = ap (λ r. y ++ r) (joined_snoc l x) ∙ sym (append_assoc y (joined l) x)

-- n pieces of w elements each
pub joined_pieces : (f : ℕ → ℕ) (w n : ℕ) → joined (listing (λ k. listing (λ j. f (w * k + j)) w) n) ≡ listing f (w * n)
joined_pieces f w zero = ap joined (listing_zero _) ∙ sym (ap (listing f) (mul-zero w) ∙ listing_zero f)
joined_pieces f w (suc n) =
    ap joined (listing_snoc (λ k. listing (λ j. f (w * k + j)) w) n)
    ∙ joined_snoc (listing (λ k. listing (λ j. f (w * k + j)) w) n) (listing (λ j. f (w * n + j)) w)
    ∙ ap (λ l. l ++ listing (λ j. f (w * n + j)) w) (joined_pieces f w n)
    ∙ sym (ap (listing f) (mul-suc w n) ∙ listing_add f (w * n) w)
