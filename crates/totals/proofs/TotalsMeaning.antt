-- The two readings of a log mean what specs/TotalsMeaning says.
use Prim.Native.Nat.{ℕ, zero, suc, ◌<◌, ◌≤◌}
use mathlib.Core.Path.{◌≡◌, refl, sym, ap, ◌∙◌, subst}
use mathlib.Core.Logic.{◌≢◌, ◌⊎◌, inl, inr}
use mathlib.Core.Bool.{Bool, true, false, cond}
use mathlib.Core.List.{List, [], ◌∷◌}
use native.Mathlib.Decide.{ℕ_discrete}
use native.Mathlib.Omega.{arith}
use borrow.Author.Tests.{leb-true, leb-false, le-leb}
use lib.Dec.{leb}
use lib.ListN.{length, get_or}
use Rattle.lists.specs.Every.{each, each_at, each_of, each_failing}
use Rattle.lists.specs.Histories.{In, here, there, any_nil}
use Rattle.lists.specs.Listings.{listing}
use Rattle.lists.specs.Tests.{bool, eqb_of, eqb_not, false_of}
use Rattle.names.specs.Update.{sum_of}
use Rattle.totals.specs.Totals.{summed, card_sums, cards_known, log_refusal, given, total_of, total_by_card}
use Rattle.totals.specs.TotalsMeaning.{TotalsSame, result, TotalsMean, TotalsComputed}
use Rattle.totals.proofs.Adding.{summed_all}
use Rattle.totals.proofs.Grouping.{all_grouped, by_card}

-- ---- the cards of a log

-- what is in a list stands at some place
place_of : (l : List ℕ) (c : ℕ) → In c l → (k : ℕ) × (k < length l) × (get_or l k 0 ≡ c)
place_of [] c h = absurd (any_nil h)
place_of (a ∷ l) c (here e) = (0, omega arith, e)
place_of (a ∷ l) c (there h) = let r = place_of l c h in (suc r.0, omega (arith, r.1), r.2)

in_place : (l : List ℕ) (k : ℕ) → k < length l → In (get_or l k 0) l
in_place [] k h = absurd (omega arith)
in_place (a ∷ l) zero h = here refl
in_place (a ∷ l) (suc k) h = there (in_place l k (omega arith))

known_low : (cs : List ℕ) → cards_known cs ≡ true → (c : ℕ) → In c cs → c ≤ 7
unfolding cards_known
known_low cs e c h = let r = place_of cs c h in subst (λ d. d ≤ 7) r.2 (leb-true (get_or cs r.0 0) 7 (each_at (length cs) (λ k. leb (get_or cs k 0) 7) e r.0 r.1))

low_known : (cs : List ℕ) → ((c : ℕ) → In c cs → c ≤ 7) → cards_known cs ≡ true
unfolding cards_known
low_known cs h = each_of (length cs) (λ k. leb (get_or cs k 0) 7) (λ k g. le-leb (get_or cs k 0) 7 (h (get_or cs k 0) (in_place cs k g)))

unknown_high : (cs : List ℕ) → cards_known cs ≡ false → (c : ℕ) × In c cs × (7 < c)
unfolding cards_known
unknown_high cs e = let r = each_failing (length cs) (λ k. leb (get_or cs k 0) 7) e in (get_or cs r.0 0, in_place cs r.0 r.1, leb-false (get_or cs r.0 0) 7 r.2)

-- ---- the refusal

module _ (cs ws : List ℕ) where
  abbrev Even : Type 0
  Even = length cs ≡ length ws

  number_uneven : ¬ Even → log_refusal cs ws ≡ 3
  unfolding log_refusal
  number_uneven n = rw (eqb_not n)

  number_even : Even → (b : Bool) → cards_known cs ≡ b → log_refusal cs ws ≡ cond b 0 14
  unfolding log_refusal
  number_even e b k = rw (eqb_of e, k)

  -- accepted, refused with 14, refused with 3
  record Kinds : Type 0 where
    accepted : log_refusal cs ws ≡ 0 → Even × (cards_known cs ≡ true)
    three : log_refusal cs ws ≡ 3 → ¬ Even
    fourteen : Even → log_refusal cs ws ≡ 14 → cards_known cs ≡ false

  kinds : Kinds
  kinds = record {
    accepted = λ z. go z (ℕ_discrete (length cs) (length ws)) (bool (cards_known cs));
    three = λ z e. no_three e z (bool (cards_known cs));
    fourteen = λ e z. no_fourteen e z (bool (cards_known cs));
  }
    where
      go : log_refusal cs ws ≡ 0 → Dec Even → (cards_known cs ≡ true) ⊎ (cards_known cs ≡ false) → Even × (cards_known cs ≡ true)
      go z (no n) k = absurd (omega (arith, z, number_uneven n))
      go z (yes e) (inl k) = (e, k)
      go z (yes e) (inr k) = absurd (omega (arith, z, number_even e false k))

      no_three : Even → log_refusal cs ws ≡ 3 → (cards_known cs ≡ true) ⊎ (cards_known cs ≡ false) → ⊥
      no_three e z (inl k) = omega (arith, z, number_even e true k)
      no_three e z (inr k) = omega (arith, z, number_even e false k)

      no_fourteen : Even → log_refusal cs ws ≡ 14 → (cards_known cs ≡ true) ⊎ (cards_known cs ≡ false) → cards_known cs ≡ false
      no_fourteen e z (inl k) = absurd (omega (arith, z, number_even e true k))
      no_fourteen e z (inr k) = k

  -- with a refusal no number is given
  given_none : (n s : ℕ) → n ≢ 0 → (given n s).total ≡ 0
  given_none n s q = rw (eqb_not q)

-- lists of one length with known cards are accepted, and no others
pub accepted_if : (cs ws : List ℕ) → length cs ≡ length ws → ((c : ℕ) → In c cs → c ≤ 7) → log_refusal cs ws ≡ 0
accepted_if cs ws e h = number_even cs ws e true (low_known cs h)

pub total_accepted : (cs ws : List ℕ) → log_refusal cs ws ≡ 0 → total_of cs ws ≡ result 0 (summed ws)
unfolding total_of
total_accepted cs ws z = rw z

-- ---- both readings

pub totals_same : TotalsSame
unfolding total_of total_by_card
totals_same cs ws = go (ℕ_discrete (log_refusal cs ws) 0)
  where
    go : Dec (log_refusal cs ws ≡ 0) → given (log_refusal cs ws) (summed (card_sums cs ws)) ≡ given (log_refusal cs ws) (summed ws)
    go (yes z) = let k = (kinds cs ws).accepted z in ap (given (log_refusal cs ws)) (by_card cs ws k.0 (known_low cs k.1))
    go (no n) =
        ap (λ t. record { refusal = log_refusal cs ws; total = t })
        (given_none cs ws (log_refusal cs ws) (summed (card_sums cs ws)) n ∙ sym (given_none cs ws (log_refusal cs ws) (summed ws) n))

pub totals_mean : TotalsMean
unfolding total_of
totals_mean cs ws = record {
  unequal = ((kinds cs ws).three, number_uneven cs ws);
  high = λ e. (
    (λ z. unknown_high cs ((kinds cs ws).fourteen e z)),
    (λ h. number_even cs ws e false (false_of (cards_known cs) (λ k. let g = known_low cs k h.0 h.1 in let f = h.2 in omega arith))),
  );
  refused = λ n. given_none cs ws (log_refusal cs ws) (summed ws) n;
  accepted = λ e h. total_accepted cs ws (accepted_if cs ws e h) ∙ ap (result 0) (summed_all ws);
  all_grouped = all_grouped cs ws;
}

pub totals_computed : TotalsComputed
unfolding total_of total_by_card log_refusal cards_known each card_sums summed listing sum_of
totals_computed = (
  record { empty = refl; example = refl; every_card = refl; comes_round = refl; unequal = refl; high = refl },
  record { empty = refl; example = refl; every_card = refl; comes_round = refl; unequal = refl; high = refl },
)
