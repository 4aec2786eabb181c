-- K2, K9 and K10 (RULES 13), as lists of steps on the idealised level.
use Rattle.std.specs.Prelude.{ℕ, List, [], ◌∷◌, ◌++◌, map}
use Rattle.names.specs.Placement.{Placement}
use Rattle.claims.specs.Steps.{RawStep}
use Rattle.claims.specs.PublishedRun.{published_run}

-- a code and the first bytes of its argument
abbrev pub step : ℕ → List ℕ → RawStep
step n b = record { code = n; argument = b ++ (0 ∷ 0 ∷ 0 ∷ 0 ∷ 0 ∷ 0 ∷ 0 ∷ []) }

-- task c sets register x to v (RULES 2.1)
abbrev pub set : ℕ → ℕ → ℕ → RawStep
set c x v = record { code = 2; argument = c ∷ x ∷ 1 ∷ 0 ∷ v ∷ 0 ∷ 0 ∷ 0 ∷ [] }

-- what the run answers
abbrev pub results : Placement → List RawStep → List ℕ
results P l = map (λ a. a.result) (published_run P l).1

-- one card, one register, one task
abbrev pub tiny : Placement
tiny = record { cards = 1; homes = 0 ∷ []; copies = 1 ∷ []; primaries = 0 ∷ [] }

-- K2's steps (RULES 3.6): task 0 adds 5 to register 0, then reads it
abbrev pub k2 : List RawStep
k2 =
    record { code = 2; argument = 0 ∷ 0 ∷ 2 ∷ 0 ∷ 5 ∷ 0 ∷ 0 ∷ 0 ∷ [] }
    ∷ step 3 (0 ∷ []) ∷ step 10 (0 ∷ []) ∷ step 1 (0 ∷ []) ∷ step 3 (0 ∷ []) ∷ step 10 (0 ∷ []) ∷ []

-- K9 (RULES 3.5): three cards, a task on each; register 0 on all of them, register 1 on card 1
abbrev pub three : Placement
three = record { cards = 3; homes = 0 ∷ 1 ∷ 2 ∷ []; copies = 7 ∷ 2 ∷ []; primaries = 0 ∷ 1 ∷ [] }

-- task 2 sets register 0 to 7; card 0 takes and delivers it; task 0 reads 7, then sends the setting of register 1 to 9, which is tagged 1;
-- step 8 holds it at card 1
abbrev pub k9_held : List RawStep
k9_held =
    set 2 0 7 ∷ step 5 (2 ∷ []) ∷ step 6 (2 ∷ []) ∷ step 7 (0 ∷ []) ∷ step 9 (0 ∷ [])
    ∷ step 1 (0 ∷ 0 ∷ []) ∷ step 3 (0 ∷ []) ∷ step 10 (0 ∷ [])
    ∷ set 0 1 9 ∷ step 5 (0 ∷ []) ∷ step 6 (0 ∷ []) ∷ step 8 (0 ∷ []) ∷ []

-- step 9 there gives 33; when card 1 has taken broadcast 1, two deliveries set 7, then 9
abbrev pub k9 : List RawStep
k9 = k9_held ++ (step 9 (1 ∷ []) ∷ step 7 (1 ∷ []) ∷ step 9 (1 ∷ []) ∷ step 9 (1 ∷ []) ∷ [])

-- K10, the cards of K9: card 1 delivers broadcast 1, then replies to a read of task 0
abbrev pub k10_held : List RawStep
k10_held =
    set 2 0 7 ∷ step 5 (2 ∷ []) ∷ step 6 (2 ∷ []) ∷ step 7 (1 ∷ []) ∷ step 9 (1 ∷ [])
    ∷ step 1 (0 ∷ 1 ∷ []) ∷ step 4 (0 ∷ 1 ∷ []) ∷ step 6 (0 ∷ []) ∷ step 8 (0 ∷ []) ∷ step 9 (1 ∷ []) ∷ step 6 (1 ∷ []) ∷ step 8 (0 ∷ []) ∷ []
