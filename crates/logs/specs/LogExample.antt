-- A log, computed (RULES 16.6). Three cards: task 0 on card 2, task 1 on card 0, task 2 on card 1, so that no task has its home's number.
-- Register 0 is on cards 0 and 1, with primary 1; register 1 on card 0 alone.
use Rattle.std.specs.Prelude.{ℕ, ◌≡◌, List, [], ◌∷◌, ◌++◌}
use Rattle.names.specs.Placement.{Placement}
use Rattle.claims.specs.NamedRuns.{step}
use Rattle.claims.specs.Steps.{RawStep}
use Rattle.logs.specs.Log.{log_cards, log_operands}

abbrev pub placed : Placement
placed = record { cards = 3; homes = 2 ∷ 0 ∷ 1 ∷ []; copies = 3 ∷ 1 ∷ []; primaries = 1 ∷ 0 ∷ [] }

-- task c updates register x by function f with operand w, a byte
abbrev pub update : ℕ → ℕ → ℕ → ℕ → RawStep
update c x f w = record { code = 2; argument = c ∷ x ∷ f ∷ 0 ∷ w ∷ 0 ∷ 0 ∷ 0 ∷ [] }

-- task 0 adds 200 by function 5, and card 1, the primary, delivers it; then task 1 adds 3, which card 0 delivers, but card 1 does not
abbrev pub first : List RawStep
first =
    update 0 0 5 200 ∷ step 5 (0 ∷ []) ∷ step 6 (2 ∷ []) ∷ step 7 (1 ∷ []) ∷ step 9 (1 ∷ [])
    ∷ update 1 0 5 3 ∷ step 5 (1 ∷ []) ∷ step 6 (0 ∷ []) ∷ step 7 (0 ∷ []) ∷ step 9 (0 ∷ []) ∷ step 7 (0 ∷ []) ∷ step 9 (0 ∷ []) ∷ []

-- card 1 delivers it; task 2 adds 9 by function 2, and card 1 delivers that; task 1 reports, and performs an update of register 1, on its home
abbrev pub whole : List RawStep
whole =
    first
    ++ (step 7 (1 ∷ []) ∷ step 9 (1 ∷ [])
    ∷ update 2 0 2 9 ∷ step 5 (2 ∷ []) ∷ step 6 (1 ∷ []) ∷ step 6 (1 ∷ []) ∷ step 7 (1 ∷ []) ∷ step 9 (1 ∷ [])
    ∷ step 10 (1 ∷ []) ∷ update 1 1 5 7 ∷ step 3 (1 ∷ []) ∷ [])

pub record LogComputed : Type 0 where
  pub first_cards : log_cards placed first 0 ≡ 2 ∷ []
  pub first_operands : log_operands placed first 0 ≡ 200 ∷ []
  pub cards : log_cards placed whole 0 ≡ 2 ∷ 0 ∷ []
  pub operands : log_operands placed whole 0 ≡ 200 ∷ 3 ∷ []
  pub other_cards : log_cards placed whole 1 ≡ 0 ∷ []
  pub other_operands : log_operands placed whole 1 ≡ 7 ∷ []
