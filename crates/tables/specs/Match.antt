-- Memories that are alike but for where the copies lie.
use Rattle.std.specs.Prelude.{ℕ, ◌%◌, ◌<◌, ◌≤◌, ◌≡◌, ◌⊎◌, List, length, get_or}
use Rattle.tables.specs.Layout.{Place, side_by_side, card_after_card, copy_at}

-- A layout: the copies of 8 cards and 32 registers fill words 65 to 320, each with a word of its own; a card or register past these counts as
-- the remainder.
pub record IsLayout (place : Place) : Type 0 where
  pub inside : (i x : ℕ) → (65 ≤ place i x) × (place i x < 321)
  pub apart : (i x j y : ℕ) → i < 8 → x < 32 → j < 8 → y < 32 → place i x ≡ place j y → (i ≡ j) × (x ≡ y)
  pub filled : (k : ℕ) → 65 ≤ k → k < 321 → (i : ℕ) × (x : ℕ) × (place i x ≡ k)
  pub remainder : (i x : ℕ) → place i x ≡ place (i % 8) (x % 32)

pub record Layouts : Type 0 where
  pub side_by_side_lem : IsLayout side_by_side
  pub card_after_card_lem : IsLayout card_after_card

-- Two memories of the registers that read alike: one has at p the copies that the other has at q, and every other word is the same.
pub record ReadAlike (p q : Place) (rs us : List ℕ) : Type 0 where
  pub copy= : (i x : ℕ) → copy_at p rs i x ≡ copy_at q us i x
  pub word= : (k : ℕ) → (k < 65) ⊎ (321 ≤ k) → get_or rs k 0 ≡ get_or us k 0

-- and match: both are of the length that the caller lends (RULES 11.1)
pub record RegistersMatch (p q : Place) (rs us : List ℕ) : Type 0 where
  pub long : length rs ≡ 593
  pub long' : length us ≡ 593
  pub alike : ReadAlike p q rs us
