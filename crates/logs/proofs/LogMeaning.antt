-- The log of a run tells of the store what specs/LogMeaning says.
use Prim.Native.Nat.{ℕ, ◌≤◌, ◌<◌}
use mathlib.Core.Path.{◌≡◌, refl, sym, ap, ◌∙◌}
use mathlib.Core.Bool.{Bool, true, false, ◌&&◌}
use mathlib.Core.List.{List, [], ◌∷◌, map}
use native.Mathlib.Omega.{arith}
use lib.ListN.{length, length-map}
use Rattle.lists.specs.Filters.{keep, filter}
use Rattle.lists.specs.Histories.{In, here, there, any_nil}
use Rattle.lists.specs.Made.{make}
use Rattle.lists.specs.Tests.{eqb_of}
use Rattle.names.specs.Placement.{Placement, placement_refusal, registers, home, primary, copy}
use Rattle.names.specs.Update.{updated}
use Rattle.names.proofs.PlacementLaws.{accepted_is}
use Rattle.totals.specs.Totals.{total_of}
use Rattle.totals.proofs.Adding.{as_updates}
use Rattle.totals.proofs.TotalsMeaning.{accepted_if, total_accepted, totals_same}
use Rattle.claims.specs.Steps.{RawStep}
use Rattle.claims.specs.SerialOrder.{op, applied_on, updates}
use Rattle.claims.proofs.CardSets.{home_low, copy_member}
use Rattle.store.specs.Run.{Store}
use Rattle.store.proofs.SideBySide.{store_demand_3}
use Rattle.logs.specs.Log.{is_sum, adds, logged, log_cards, log_operands}
use Rattle.logs.specs.LogMeaning.{OnlySums, primary_copy, LogsMean}

mapped_low : (f : ℕ → ℕ) → ((k : ℕ) → f k < 8) → (l : List ℕ) (c : ℕ) → In c (map f l) → c ≤ 7
mapped_low f low [] c h = absurd (any_nil h)
mapped_low f low (k ∷ l) c (here e) = let h = low k in omega arith
mapped_low f low (k ∷ l) c (there h) = mapped_low f low l c h

module _ (P : Placement) (ok : placement_refusal P ≡ 0) (m : Store) (steps : List RawStep) (x : ℕ) (present : x < registers P) where
  primary_copied : copy P x (primary P x) ≡ true
  primary_copied = copy_member P ok x (primary P x) ∙ ((accepted_is P ok).1.1 x present).1

  even : length (log_cards P steps x) ≡ length (log_operands P steps x)
  even = length-map (logged P steps x) (λ k. home P (op P steps k).task) ∙ sym (length-map (logged P steps x) (λ k. (op P steps k).arg))

  low : (c : ℕ) → In c (log_cards P steps x) → c ≤ 7
  low = mapped_low (λ k. home P (op P steps k).task) (λ k. home_low P ok (op P steps k).task) (logged P steps x)

  -- the operands of updates by function 5 alone, added up, are what these updates make of a value
  made_sums : (l : List ℕ) → ((k : ℕ) → In k l → updates P steps x k ≡ true → (op P steps k).fn ≡ 5) → (v : ℕ)
      → make (updated 5) v (map (λ k. (op P steps k).arg) (filter (adds P steps x) l)) ≡ make (λ k. updated (op P steps k).fn (op P steps k).arg) v (filter (updates P steps x) l)
  made_sums [] h v = refl
  made_sums (k ∷ l) h v = go (updates P steps x k) (h k (here refl)) (made_sums l (λ j i. h j (there i)))
    where
      rest : List ℕ
      rest = filter (adds P steps x) l

      go : (t : Bool) → (t ≡ true → (op P steps k).fn ≡ 5)
          → ((w : ℕ) → make (updated 5) w (map (λ j. (op P steps j).arg) rest) ≡ make (λ j. updated (op P steps j).fn (op P steps j).arg) w (filter (updates P steps x) l))
          → make (updated 5) v (map (λ j. (op P steps j).arg) (keep (t && is_sum (op P steps k).fn) k rest))
          ≡ make (λ j. updated (op P steps j).fn (op P steps j).arg) v (keep t k (filter (updates P steps x) l))
      go true f r =
          ap (λ t. make (updated 5) v (map (λ j. (op P steps j).arg) (keep t k rest))) (eqb_of (f refl))
          ∙ r (updated 5 (op P steps k).arg v)
          ∙ ap (λ g. make (λ j. updated (op P steps j).fn (op P steps j).arg) (updated g (op P steps k).arg v) (filter (updates P steps x) l)) (sym (f refl))
      go false f r = r v

  is_copy : OnlySums P m steps x → total_of (log_cards P steps x) (log_operands P steps x) ≡ record { refusal = 0; total = primary_copy P m steps x }
  is_copy h =
      total_accepted (log_cards P steps x) (log_operands P steps x) (accepted_if (log_cards P steps x) (log_operands P steps x) even low)
      ∙ ap (λ t. record { refusal = 0; total = t })
      (as_updates (log_operands P steps x)
      ∙ made_sums (applied_on P steps (primary P x)) h 0
      ∙ sym ((store_demand_3 P ok m steps).1.copy_values x (primary P x) primary_copied))

pub logs_mean : LogsMean
logs_mean P ok m steps x h = record {
  accepted = accepted_if (log_cards P steps x) (log_operands P steps x) (even P ok m steps x h) (low P ok m steps x h);
  is_copy = is_copy P ok m steps x h;
  is_copy_by_card = λ o. totals_same (log_cards P steps x) (log_operands P steps x) ∙ is_copy P ok m steps x h o;
}
