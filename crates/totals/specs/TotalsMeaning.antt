-- What the two readings of a log mean, stated apart from them (RULES 16.2 to 16.5, 16.9).
use Rattle.std.specs.Prelude.{ℕ, zero, suc, ◌+◌, ◌%◌, ◌<◌, ◌≤◌, ◌≡◌, ◌↔◌, ◌≢◌, List, [], ◌∷◌, ◌++◌, map, length}
use Rattle.lists.specs.Histories.{In}
use Rattle.lists.specs.Made.{Rearranged, make}
use Rattle.totals.specs.Totals.{Totalled, group, total_of, total_by_card}

-- Both readings are one, for every two lists (RULES 16.5): empty, refused, of any length.
abbrev pub TotalsSame : Type 0
TotalsSame = (cards operands : List ℕ) → total_by_card cards operands ≡ total_of cards operands

-- the groups of cards 0 to n - 1, one after the other
abbrev pub groups_below : ℕ → List ℕ → List ℕ → List ℕ
groups_below zero cards operands = []
groups_below (suc n) cards operands = groups_below n cards operands ++ group n cards operands

abbrev pub result : ℕ → ℕ → Totalled
result refusal total = record { refusal = refusal; total = total }

pub record TotalsMeaning (cards operands : List ℕ) : Type 0 where
  -- 3 exactly for lists of unequal length, whatever cards they name; else 14 exactly for a card above 7 (RULES 16.4)
  pub unequal : ((total_of cards operands).refusal ≡ 3) ↔ (length cards ≢ length operands)
  pub high : length cards ≡ length operands → ((total_of cards operands).refusal ≡ 14) ↔ ((c : ℕ) × In c cards × (7 < c))
  pub refused : (total_of cards operands).refusal ≢ 0 → (total_of cards operands).total ≡ 0
  -- else all operands, added up without a limit, modulo 2^32 (RULES 16.2)
  pub accepted : length cards ≡ length operands → ((c : ℕ) → In c cards → c ≤ 7) → total_of cards operands ≡ result 0 (make (λ w s. s + w) 0 operands % 4294967296)
  -- the groups have every operand, each as often as the log (RULES 16.3)
  pub all_grouped : length cards ≡ length operands → ((c : ℕ) → In c cards → c ≤ 7) → Rearranged operands (groups_below 8 cards operands)

abbrev pub TotalsMean : Type 0
TotalsMean = (cards operands : List ℕ) → TotalsMeaning cards operands

-- ---- computed, in both readings

pub record Computes (read : List ℕ → List ℕ → Totalled) : Type 0 where
  pub empty : read [] [] ≡ result 0 0
  pub example : read (2 ∷ 0 ∷ 2 ∷ []) (4294967295 ∷ 3 ∷ 5 ∷ []) ≡ result 0 7
  pub every_card : read (7 ∷ 6 ∷ 5 ∷ 4 ∷ 3 ∷ 2 ∷ 1 ∷ 0 ∷ []) (1 ∷ 20 ∷ 300 ∷ 4000 ∷ 50000 ∷ 600000 ∷ 7000000 ∷ 80000000 ∷ []) ≡ result 0 87654321
  pub comes_round : read (1 ∷ 1 ∷ []) (4294967295 ∷ 1 ∷ []) ≡ result 0 0
  pub unequal : map (λ cards. read cards (5 ∷ [])) ([] ∷ (0 ∷ 0 ∷ []) ∷ (8 ∷ 0 ∷ []) ∷ (255 ∷ 255 ∷ []) ∷ []) ≡ result 3 0 ∷ result 3 0 ∷ result 3 0 ∷ result 3 0 ∷ []
  pub high : map (λ c. read (c ∷ []) (5 ∷ [])) (6 ∷ 7 ∷ 8 ∷ 255 ∷ []) ≡ result 0 5 ∷ result 0 5 ∷ result 14 0 ∷ result 14 0 ∷ []

abbrev pub TotalsComputed : Type 0
TotalsComputed = Computes total_of × Computes total_by_card
