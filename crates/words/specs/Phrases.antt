-- The phrase of each refusal of a step (RULES 14.3; docs/PHRASES.md has them for a reader).
use Rattle.std.specs.Prelude.{ℕ, Bool, cond, List, [], ◌∷◌, ◌++◌, eqb, length}
use Rattle.words.specs.Bytes.{bytes_of}

-- refusals of the memory and of a step's bytes
abbrev pub of_bytes : List (ℕ × List ℕ)
of_bytes =
    (6, bytes_of "the store was changed from outside")
    ∷ (10, bytes_of "there is no such step")
    ∷ (11, bytes_of "a byte that must be zero is not")
    ∷ (12, bytes_of "there is no such task")
    ∷ (13, bytes_of "there is no such register")
    ∷ (14, bytes_of "there is no such card")
    ∷ (15, bytes_of "there is no such function")
    ∷ []

-- of the task
abbrev pub of_tasks : List (ℕ × List ℕ)
of_tasks =
    (20, bytes_of "the task has an open request")
    ∷ (21, bytes_of "the task is not ready for this step")
    ∷ (22, bytes_of "the copies do not allow this step")
    ∷ (23, bytes_of "no requests are left")
    ∷ []

-- of the next move
abbrev pub of_moves : List (ℕ × List ℕ)
of_moves =
    (30, bytes_of "the card has nothing to send")
    ∷ (31, bytes_of "the card has taken every broadcast")
    ∷ (32, bytes_of "the task has nothing on the way")
    ∷ (33, bytes_of "the card has nothing to deliver")
    ∷ (34, bytes_of "a card is too many broadcasts behind")
    ∷ (35, bytes_of "the card must deliver broadcasts first")
    ∷ []

abbrev pub phrases : List (ℕ × List ℕ)
phrases = of_bytes ++ (of_tasks ++ of_moves)

-- what stands in a table beside a number; nothing where the number is not there
unfoldable pub found : ℕ → List (ℕ × List ℕ) → List ℕ
found n [] = []
found n (e ∷ es) = cond (eqb n e.0) e.1 (found n es)

unfoldable pub phrase_of : ℕ → List ℕ
phrase_of refusal = found refusal phrases

-- a number with no phrase
unfoldable pub silent : ℕ → Bool
silent refusal = eqb (length (phrase_of refusal)) 0
