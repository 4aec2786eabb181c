-- The groups of cards 0 to 7, one after the other, are the operands in another order; so each card's group, then the groups, add up to the same.
use Prim.Native.Nat.{ℕ, zero, suc, ◌<◌, ◌≤◌}
use mathlib.Core.Path.{◌≡◌, refl, sym, ap, ap₂, ◌∙◌}
use mathlib.Core.List.{List, [], ◌∷◌, ◌++◌}
use native.Mathlib.Decide.{ℕ_discrete}
use native.Mathlib.Omega.{arith}
use lib.ListN.{length}
use Rattle.lists.specs.Filters.{keep}
use Rattle.lists.specs.Histories.{In, here, there}
use Rattle.lists.specs.Listings.{listing, listing_zero, listing_snoc}
use Rattle.lists.specs.Made.{Rearranged, none, same, further}
use Rattle.lists.specs.Rearranging.{rearranged_is, rearranged_ahead, moved_behind}
use Rattle.lists.specs.Tests.{eqb_of, eqb_not}
use Rattle.totals.specs.Totals.{added, summed, group, group_count, card_sums}
use Rattle.totals.specs.TotalsMeaning.{groups_below}
use Rattle.totals.proofs.Adding.{summed_append, summed_snoc, summed_rearranged}

-- one update more, of card c
module _ (c w : ℕ) (cs ws : List ℕ) where
  mine : (n : ℕ) → c ≡ n → group n (c ∷ cs) (w ∷ ws) ≡ w ∷ group n cs ws
  mine n e = ap (λ t. keep t w (group n cs ws)) (eqb_of e)

  others : (n : ℕ) → ¬ (c ≡ n) → group n (c ∷ cs) (w ∷ ws) ≡ group n cs ws
  others n q = ap (λ t. keep t w (group n cs ws)) (eqb_not q)

  not_below : (n : ℕ) → n ≤ c → groups_below n (c ∷ cs) (w ∷ ws) ≡ groups_below n cs ws
  not_below zero h = refl
  not_below (suc n) h = ap₂ (λ (a b : List ℕ). a ++ b) (not_below n (omega arith)) (others n (λ e. omega arith))

  joins : (n : ℕ) → c < n → Rearranged (w ∷ groups_below n cs ws) (groups_below n (c ∷ cs) (w ∷ ws))
  joins zero h = absurd (omega arith)
  joins (suc n) h = go (ℕ_discrete c n) (joins n)
    where
      go : Dec (c ≡ n) → (c < n → Rearranged (w ∷ groups_below n cs ws) (groups_below n (c ∷ cs) (w ∷ ws)))
          → Rearranged (w ∷ groups_below (suc n) cs ws) (groups_below (suc n) (c ∷ cs) (w ∷ ws))
      go (yes e) r =
          further
          (moved_behind w (groups_below n cs ws) (group n cs ws))
          (rearranged_is (sym (ap₂ (λ (a b : List ℕ). a ++ b) (not_below n (omega arith)) (mine n e))))
      go (no q) r =
          further
          (rearranged_ahead (group n cs ws) (r (omega arith)))
          (rearranged_is (ap (λ b. groups_below n (c ∷ cs) (w ∷ ws) ++ b) (sym (others n q))))

pub all_grouped : (cs ws : List ℕ) → length cs ≡ length ws → ((c : ℕ) → In c cs → c ≤ 7) → Rearranged ws (groups_below 8 cs ws)
all_grouped [] [] e h = none
all_grouped [] (w ∷ ws) e h = absurd (omega arith)
all_grouped (c ∷ cs) [] e h = absurd (omega arith)
all_grouped (c ∷ cs) (w ∷ ws) e h =
    let low = h c (here refl) in
    further (same w (all_grouped cs ws (omega arith) (λ d i. h d (there i)))) (joins c w cs ws 8 (omega arith))

-- each group added up, then these sums: as the groups one after the other
groups_summed : (cs ws : List ℕ) (n : ℕ) → summed (listing (λ i. summed (group i cs ws)) n) ≡ summed (groups_below n cs ws)
groups_summed cs ws zero = ap summed (listing_zero _)
groups_summed cs ws (suc n) =
    ap summed (listing_snoc (λ i. summed (group i cs ws)) n)
    ∙ summed_snoc (listing (λ i. summed (group i cs ws)) n) (summed (group n cs ws))
    ∙ ap (λ s. added s (summed (group n cs ws))) (groups_summed cs ws n)
    ∙ sym (summed_append (groups_below n cs ws) (group n cs ws))

pub by_card : (cs ws : List ℕ) → length cs ≡ length ws → ((c : ℕ) → In c cs → c ≤ 7) → summed (card_sums cs ws) ≡ summed ws
unfolding card_sums
by_card cs ws e h = groups_summed cs ws group_count ∙ sym (summed_rearranged (all_grouped cs ws e h))
