-- What an update makes of a value (RULES 2.1 to 2.6), stated apart from `updated`: a function that were wrong in code and definition alike
-- would fail here. `updated f w v` is function f with operand w on value v.
use Rattle.std.specs.Prelude.{◌≡◌, ℕ, ◌+◌, ◌/◌, ◌%◌, ◌^◌, ◌<◌, ◌≤◌, min, true, false, ◌⊎◌, ◌↔◌, List, [], ◌∷◌, map}
use Rattle.lists.specs.Made.{Rearranged, make}
use Rattle.names.specs.Update.{updated, known_function}

-- of a value and an operand that are words
pub record UpdateMeaning (v w : ℕ) : Type 0 where
  -- function 1 (RULES 2.1)
  pub operand : updated 1 w v ≡ w
  -- function 2 (RULES 2.2): v + w where that is a word, else the largest word; it never falls
  pub raised_below : v + w ≤ 4294967295 → updated 2 w v ≡ v + w
  pub raised_past : 4294967295 ≤ v + w → updated 2 w v ≡ 4294967295
  pub never_falls : v ≤ updated 2 w v
  -- function 3 (RULES 2.3): at least both, and one of them
  pub larger_most : (v ≤ updated 3 w v) × (w ≤ updated 3 w v)
  pub larger_one : (updated 3 w v ≡ v) ⊎ (updated 3 w v ≡ w)
  -- function 4 (RULES 2.4): a bit is set exactly if it is set in one of the two
  pub or_bits : (i : ℕ) → (updated 4 w v / 2 ^ i % 2 ≡ 1) ↔ ((v / 2 ^ i % 2 ≡ 1) ⊎ (w / 2 ^ i % 2 ≡ 1))
  -- function 5 (RULES 2.5): a word, and v + w or 2^32 less
  pub sum_word : updated 5 w v < 4294967296
  pub sum : (updated 5 w v ≡ v + w) ⊎ (updated 5 w v + 4294967296 ≡ v + w)
  -- an unknown function leaves the value (RULES 2.6)
  pub unknown : (f : ℕ) → known_function f ≡ false → updated f w v ≡ v

abbrev pub UpdatesMean : Type 0
UpdatesMean = (v w : ℕ) → v < 4294967296 → w < 4294967296 → UpdateMeaning v w

-- a function is unknown exactly if it is 0 or above 5 (RULES 2.6)
abbrev pub FunctionsUnknown : Type 0
FunctionsUnknown = (f : ℕ) → (known_function f ≡ false) ↔ ((f ≡ 0) ⊎ (5 < f))

-- ---- many updates of one function, with these operands

-- a value and the operands, added up without a limit
abbrev added_up : ℕ → List ℕ → ℕ
added_up v ws = make (λ w s. s + w) v ws

pub record UpdatesInTurn (v : ℕ) (ws : List ℕ) : Type 0 where
  -- function 2: the sum of all, or the largest word where that is smaller; it never falls
  pub raised_all : make (updated 2) v ws ≡ min (added_up v ws) 4294967295
  pub never_falls : v ≤ make (updated 2) v ws
  -- function 5: the sum of all modulo 2^32
  pub summed_all : make (updated 5) v ws ≡ added_up v ws % 4294967296
  -- both in any order
  pub any_order : (us : List ℕ) → Rearranged ws us → (make (updated 2) v ws ≡ make (updated 2) v us) × (make (updated 5) v ws ≡ make (updated 5) v us)

abbrev pub UpdatesSum : Type 0
UpdatesSum = (v : ℕ) (ws : List ℕ) → v < 4294967296 → UpdatesInTurn v ws

-- ---- computed: every function at 0, 1, 2^31 and 2^32 - 1

abbrev pub corners : List ℕ
corners = 0 ∷ 1 ∷ 2147483648 ∷ 4294967295 ∷ []

-- a row for each value, in it a number for each operand
abbrev pub rows : ℕ → List (List ℕ)
rows f = map (λ v. map (λ w. updated f w v) corners) corners

pub record UpdatesComputed : Type 0 where
  pub set : rows 1 ≡ corners ∷ corners ∷ corners ∷ corners ∷ []
  pub add_stays : rows 2 ≡
      (0 ∷ 1 ∷ 2147483648 ∷ 4294967295 ∷ [])
      ∷ (1 ∷ 2 ∷ 2147483649 ∷ 4294967295 ∷ [])
      ∷ (2147483648 ∷ 2147483649 ∷ 4294967295 ∷ 4294967295 ∷ [])
      ∷ (4294967295 ∷ 4294967295 ∷ 4294967295 ∷ 4294967295 ∷ [])
      ∷ []
  pub larger : rows 3 ≡
      (0 ∷ 1 ∷ 2147483648 ∷ 4294967295 ∷ [])
      ∷ (1 ∷ 1 ∷ 2147483648 ∷ 4294967295 ∷ [])
      ∷ (2147483648 ∷ 2147483648 ∷ 2147483648 ∷ 4294967295 ∷ [])
      ∷ (4294967295 ∷ 4294967295 ∷ 4294967295 ∷ 4294967295 ∷ [])
      ∷ []
  pub or : rows 4 ≡
      (0 ∷ 1 ∷ 2147483648 ∷ 4294967295 ∷ [])
      ∷ (1 ∷ 1 ∷ 2147483649 ∷ 4294967295 ∷ [])
      ∷ (2147483648 ∷ 2147483649 ∷ 2147483648 ∷ 4294967295 ∷ [])
      ∷ (4294967295 ∷ 4294967295 ∷ 4294967295 ∷ 4294967295 ∷ [])
      ∷ []
  pub add_comes_round : rows 5 ≡
      (0 ∷ 1 ∷ 2147483648 ∷ 4294967295 ∷ [])
      ∷ (1 ∷ 2 ∷ 2147483649 ∷ 0 ∷ [])
      ∷ (2147483648 ∷ 2147483649 ∷ 0 ∷ 2147483647 ∷ [])
      ∷ (4294967295 ∷ 0 ∷ 2147483647 ∷ 4294967294 ∷ [])
      ∷ []
  -- between them: one below the top; 0110 and 0011; 0xF0000000 and 0x0F0F0F0F
  pub add_below : updated 2 1 4294967294 ≡ 4294967295
  pub or_some : updated 4 3 6 ≡ 7
  pub or_words : updated 4 252645135 4026531840 ≡ 4279176975
  -- functions 0 to 7, and the largest that a byte has
  pub which : map known_function (0 ∷ 1 ∷ 2 ∷ 3 ∷ 4 ∷ 5 ∷ 6 ∷ 7 ∷ 255 ∷ []) ≡ false ∷ true ∷ true ∷ true ∷ true ∷ true ∷ false ∷ false ∷ false ∷ []
