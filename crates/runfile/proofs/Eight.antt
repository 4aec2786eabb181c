-- The eight bytes of an argument, copied at once.
use Prim.Native.Nat.{ℕ, ◌+◌, ◌-◌, ◌*◌, ◌≤◌, ◌<◌}
use mathlib.Core.Path.{◌≡◌, sym, ap, ◌∙◌}
use mathlib.Core.List.{List}
use native.Mathlib.Omega.{arith}
use lib.ListN.{length, get_or, take, drop}
use Rattle.lists.specs.Parts.{part, part_at, part_whole}
use Rattle.lists.specs.Listings.{listing, listing_all, listing_cong}

pub argument_copied : (s : List ℕ) (a k n : ℕ) → k < n → a + 8 * n ≤ length s → take (a + 8 * k + 8 - (a + 8 * k)) (drop (a + 8 * k) s) ≡ listing (λ j. get_or (part s a (8 * n)) (8 * k + j) 0) 8
argument_copied s a k n h m =
    let eight : a + 8 * k + 8 - (a + 8 * k) ≡ 8 = omega arith in
    let p : List ℕ = part s (a + 8 * k) 8 in
    ap (λ i. take i (drop (a + 8 * k) s)) eight
    ∙ sym (listing_all p 0)
    ∙ ap (listing (λ j. get_or p j 0)) (part_whole s (a + 8 * k) 8 (omega arith))
    ∙ listing_cong _ _ 8 (λ j g. same j g)
  where
    same : (j : ℕ) → j < 8 → get_or (part s (a + 8 * k) 8) j 0 ≡ get_or (part s a (8 * n)) (8 * k + j) 0
    same j g = let e : a + 8 * k + j ≡ a + (8 * k + j) = omega arith in part_at s (a + 8 * k) 8 j 0 g ∙ ap (λ i. get_or s i 0) e ∙ sym (part_at s a (8 * n) (8 * k + j) 0 (omega arith))
