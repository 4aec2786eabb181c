-- The run file: where each part of it lies (RULES 3.1, 3.2), what it holds, and when it is refused (8.2, 8.3).
use Rattle.std.specs.Prelude.{ℕ, ◌+◌, ◌*◌, ◌%◌, ◌/◌, Bool, cond, ◌&&◌, List, [], ◌∷◌, ◌++◌, map, eqb, ltb, leb, length, get_or, Result, Ok, Err}
use Rattle.lists.specs.Parts.{part}
use Rattle.lists.specs.Listings.{listing}
use Rattle.names.specs.Placement.{Placement, placement, tasks, registers, sizes_in_range, placed}
use Rattle.names.specs.Step.{RawStep}
use Rattle.names.specs.declared.refusals.Refusal.{Refusal}
use Rattle.names.specs.Refusals.{refusal_number}
use Rattle.runfile.specs.declared.Sizes.{Sizes}

-- ---- what a file holds

-- the sizes first: cards, registers, tasks, a byte each, and N in two bytes, low byte first
abbrev pub cards_in : List ℕ → ℕ
cards_in s = get_or s 0 0

abbrev pub registers_in : List ℕ → ℕ
registers_in s = get_or s 1 0

abbrev pub tasks_in : List ℕ → ℕ
tasks_in s = get_or s 2 0

unfoldable pub steps_in : List ℕ → ℕ
steps_in s = get_or s 3 0 + 256 * get_or s 4 0

-- then the home of each task; then two parallel arrays over registers, copies and primaries
abbrev pub homes_at : ℕ
homes_at = 5

unfoldable pub copies_at : List ℕ → ℕ
copies_at s = homes_at + tasks_in s

unfoldable pub primaries_at : List ℕ → ℕ
primaries_at s = copies_at s + registers_in s

-- then two parallel arrays over steps, codes and arguments
unfoldable pub codes_at : List ℕ → ℕ
codes_at s = primaries_at s + registers_in s

unfoldable pub arguments_at : List ℕ → ℕ
arguments_at s = codes_at s + steps_in s

-- the length that the sizes ask for (RULES 3.2)
unfoldable pub file_length : List ℕ → ℕ
file_length s = 5 + tasks_in s + 2 * registers_in s + 9 * steps_in s

unfoldable pub placement_in : List ℕ → Placement
placement_in s =
    placement (cards_in s) (part s homes_at (tasks_in s)) (part s (copies_at s) (registers_in s)) (part s (primaries_at s) (registers_in s))

-- code and argument of step k; zeros past the last step and past the end of the file
unfoldable pub code_in : List ℕ → ℕ → ℕ
code_in s k = get_or (part s (codes_at s) (steps_in s)) k 0

unfoldable pub argument_in : List ℕ → ℕ → List ℕ
argument_in s k = listing (λ j. get_or (part s (arguments_at s) (8 * steps_in s)) (8 * k + j) 0) 8

abbrev pub step_in : List ℕ → ℕ → RawStep
step_in s k = record { code = code_in s k; argument = argument_in s k }

pub record RunFile : Type 0 where
  pub placement : Placement
  pub steps : List RawStep

abbrev pub run_file_in : List ℕ → RunFile
run_file_in s = record { placement = placement_in s; steps = listing (step_in s) (steps_in s) }

abbrev pub sizes_in : List ℕ → Sizes
sizes_in s = record { cards = cards_in s; registers = registers_in s; tasks = tasks_in s; steps = steps_in s }

-- ---- which file is accepted

-- 3: a size is out of range (RULES 1.3)
unfoldable pub sizes_sound : List ℕ → Bool
sizes_sound s = sizes_in_range (cards_in s) (registers_in s) (tasks_in s) && leb (steps_in s) 4096

-- 1 for fewer than 5 bytes, 3, 1 and 2 by its length, 4 (RULES 8.3). 0: the file is accepted.
unfoldable pub file_refusal : List ℕ → ℕ
file_refusal s =
    cond (ltb (length s) 5) 1
    (cond (sizes_sound s)
    (cond (ltb (length s) (file_length s)) 1
    (cond (ltb (file_length s) (length s)) 2
    (cond (placed (placement_in s)) 0 4)))
    3)

-- what the reader says of a file: its sizes, or its number
pub data Judgement : Type 0 where
  Accepted : Sizes → Judgement
  Refused : ℕ → Judgement

abbrev pub judged : Result Sizes Refusal → Judgement
judged (Ok sizes) = Accepted sizes
judged (Err refusal) = Refused (refusal_number refusal)

unfoldable pub judgement_of : List ℕ → Judgement
judgement_of s = cond (eqb (file_refusal s) 0) (Accepted (sizes_in s)) (Refused (file_refusal s))

-- ---- the layout, from what a file holds to its bytes

-- a number in two bytes, low byte first
abbrev pub two_bytes : ℕ → List ℕ
two_bytes n = n % 256 ∷ n / 256 % 256 ∷ []

-- lists one after the other
abbrev pub joined {ℓ} : {A : Type ℓ} → List (List A) → List A
joined [] = []
joined (l ∷ ls) = l ++ joined ls

-- cards, registers, tasks, N
unfoldable pub size_bytes : ℕ → ℕ → ℕ → ℕ → List ℕ
size_bytes cards registers tasks n = cards ∷ registers ∷ tasks ∷ two_bytes n

-- homes, copies, primaries
unfoldable pub placement_bytes : List ℕ → List ℕ → List ℕ → List ℕ
placement_bytes homes copies primaries = homes ++ copies ++ primaries

unfoldable pub file_bytes : RunFile → List ℕ
file_bytes f =
    size_bytes f.placement.cards (registers f.placement) (tasks f.placement) (length f.steps)
    ++ placement_bytes f.placement.homes f.placement.copies f.placement.primaries
    ++ map (λ s. s.code) f.steps
    ++ joined (map (λ s. s.argument) f.steps)
