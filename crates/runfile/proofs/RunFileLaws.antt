-- What an accepted run file is, and which file meets which refusal, in plain terms.
use Prim.Native.Nat.{ℕ, ◌+◌, ◌≤◌, ◌<◌}
use mathlib.Core.Path.{◌≡◌, refl, sym, ◌∙◌, subst}
use mathlib.Core.Logic.{◌↔◌}
use mathlib.Core.Bool.{Bool, true, false, cond}
use mathlib.Core.List.{List}
use native.Mathlib.Omega.{arith}
use lib.Dec.{ltb, leb}
use lib.ListN.{length, get_or}
use borrow.Author.Tests.{ltb-true, ltb-false, lt-ltb, le-ltb, leb-true, le-leb}
use Rattle.lists.specs.Tests.{and_fst, and_snd, and_intro, clash, false_of}
use Rattle.lists.specs.Parts.{part, part_whole, part_at}
use Rattle.lists.specs.Listings.{listing_length}
use Rattle.names.specs.Placement.{tasks, registers, sizes_in_range, placed, placement_refusal}
use Rattle.names.proofs.PlacementLaws.{InRange, Lies, Sized, in_range_lem, placed_is, placement_verdict}
use Rattle.names.proofs.PlacementLaws.PlacementVerdict.{accepted as accepted_one}
use Rattle.runfile.specs.RunFile.{cards_in, registers_in, tasks_in, steps_in, copies_at, primaries_at, codes_at, file_length, placement_in, step_in, run_file_in, sizes_sound, file_refusal}

-- ---- the tests of a file

module _ (s : List ℕ) where
  -- the sizes of RULES 1.3
  abbrev pub SizesInRange : Type 0
  SizesInRange = InRange (cards_in s) (registers_in s) (tasks_in s) × (steps_in s ≤ 4096)

  -- every home is present; every register's copies lie on present cards, one of them on its primary
  abbrev pub WellPlaced : Type 0
  WellPlaced =
      ((c : ℕ) → c < tasks_in s → get_or s (5 + c) 0 < cards_in s)
      × ((x : ℕ) → x < registers_in s → Lies (cards_in s) (get_or s (5 + tasks_in s + x) 0) (get_or s (5 + tasks_in s + registers_in s + x) 0))

  pub sizes_are : (sizes_sound s ≡ true) ↔ SizesInRange
  unfolding sizes_sound
  sizes_are =
      let r = in_range_lem (cards_in s) (registers_in s) (tasks_in s) in
      let test : Bool = sizes_in_range (cards_in s) (registers_in s) (tasks_in s) in (
        λ e. (r.0 (and_fst test (leb (steps_in s) 4096) e), leb-true (steps_in s) 4096 (and_snd test (leb (steps_in s) 4096) e)),
        λ h. and_intro (r.1 h.0) (le-leb (steps_in s) 4096 h.1),
      )

  -- where the file has the length of its sizes, the tables of its placement have the sizes' lengths
  module _ (whole : length s ≡ file_length s) where
    pub homes_length : tasks (placement_in s) ≡ tasks_in s
    unfolding placement_in file_length
    homes_length = part_whole s 5 (tasks_in s) (omega arith)

    pub copies_length : registers (placement_in s) ≡ registers_in s
    unfolding placement_in file_length copies_at
    copies_length = part_whole s (copies_at s) (registers_in s) (omega arith)

    pub primaries_length : length (placement_in s).primaries ≡ registers_in s
    unfolding placement_in file_length primaries_at copies_at
    primaries_length = part_whole s (primaries_at s) (registers_in s) (omega arith)

    pub well_placed : (placed (placement_in s) ≡ true) ↔ WellPlaced
    unfolding placement_in primaries_at copies_at
    well_placed =
        let n = homes_length in
        let m = copies_length in
        let home : (c : ℕ) → c < tasks_in s → get_or (part s 5 (tasks_in s)) c 0 ≡ get_or s (5 + c) 0 = λ c h. part_at s 5 (tasks_in s) c 0 h in
        let copy : (x : ℕ) → x < registers_in s → get_or (part s (copies_at s) (registers_in s)) x 0 ≡ get_or s (copies_at s + x) 0 = λ x h. part_at s (copies_at s) (registers_in s) x 0 h in
        let first : (x : ℕ) → x < registers_in s → get_or (part s (primaries_at s) (registers_in s)) x 0 ≡ get_or s (primaries_at s + x) 0 = λ x h. part_at s (primaries_at s) (registers_in s) x 0 h in (
          λ e.
              let p = (placed_is (placement_in s)).0 e in (
                λ c h. rw (home c h) at (p.0 c (omega arith)),
                λ x h. rw (copy x h, first x h) at (p.1 x (omega arith)),
              ),
          λ w.
              (placed_is (placement_in s)
              ).1 (
                λ c h. rw (home c (omega arith)) (w.0 c (omega arith)),
                λ x h. rw (copy x (omega arith), first x (omega arith)) (w.1 x (omega arith)),
              ),
        )

-- ---- which file meets which refusal

-- the number of a file: 1 for fewer than 5 bytes, 3, 1, 2, 4 (RULES 8.3)
pub data FileVerdict (s : List ℕ) : ℕ → Type 0 where
  under_five : length s < 5 → FileVerdict s 1
  size_out_of_range : 5 ≤ length s → ¬ SizesInRange s → FileVerdict s 3
  too_short : 5 ≤ length s → SizesInRange s → length s < file_length s → FileVerdict s 1
  too_long : SizesInRange s → file_length s < length s → FileVerdict s 2
  misplaced : SizesInRange s → length s ≡ file_length s → ¬ WellPlaced s → FileVerdict s 4
  accepted : SizesInRange s → length s ≡ file_length s → WellPlaced s → FileVerdict s 0

-- a file's refusal is its verdict's number, and no other
pub file_verdict : (s : List ℕ) (n : ℕ) → (file_refusal s ≡ n) ↔ FileVerdict s n
unfolding file_refusal file_length
file_verdict s n = (
  λ e.
      subst (FileVerdict s) e
      (found (ltb (length s) 5) (sizes_sound s) (ltb (length s) (file_length s)) (ltb (file_length s) (length s)) (placed (placement_in s)) refl refl refl refl refl),
  told,
)
  where
    same : ltb (length s) (file_length s) ≡ false → ltb (file_length s) (length s) ≡ false → length s ≡ file_length s
    same c d = let a = ltb-false (length s) (file_length s) c in let b = ltb-false (file_length s) (length s) d in omega arith

    found :
        (a b c d e : Bool) → ltb (length s) 5 ≡ a → sizes_sound s ≡ b → ltb (length s) (file_length s) ≡ c → ltb (file_length s) (length s) ≡ d → placed (placement_in s) ≡ e → FileVerdict s (cond a 1 (cond b (cond c 1 (cond d 2 (cond e 0 4))) 3))
    found true b c d e pa pb pc pd pe = under_five (ltb-true (length s) 5 pa)
    found false false c d e pa pb pc pd pe = size_out_of_range (ltb-false (length s) 5 pa) (λ h. clash ((sizes_are s).1 h) pb)
    found false true true d e pa pb pc pd pe = too_short (ltb-false (length s) 5 pa) ((sizes_are s).0 pb) (ltb-true (length s) (file_length s) pc)
    found false true false true e pa pb pc pd pe = too_long ((sizes_are s).0 pb) (ltb-true (file_length s) (length s) pd)
    found false true false false true pa pb pc pd pe = accepted ((sizes_are s).0 pb) (same pc pd) ((well_placed s (same pc pd)).0 pe)
    found false true false false false pa pb pc pd pe = misplaced ((sizes_are s).0 pb) (same pc pd) (λ h. clash ((well_placed s (same pc pd)).1 h) pe)

    told : {m : ℕ} → FileVerdict s m → file_refusal s ≡ m
    told (under_five h) = rw (lt-ltb (length s) 5 h)
    told (size_out_of_range h k) = rw (le-ltb (length s) 5 h, false_of (sizes_sound s) (λ e. k ((sizes_are s).0 e)))
    told (too_short h k l) = rw (le-ltb (length s) 5 h, (sizes_are s).1 k, lt-ltb (length s) (file_length s) l)
    told (too_long k l) = rw (le-ltb (length s) 5 (omega arith), (sizes_are s).1 k, le-ltb (length s) (file_length s) (omega arith), lt-ltb (file_length s) (length s) l)
    told (misplaced k l w) =
        rw (
          le-ltb (length s) 5 (omega arith),
          (sizes_are s).1 k,
          le-ltb (length s) (file_length s) (omega arith),
          le-ltb (file_length s) (length s) (omega arith),
          false_of (placed (placement_in s)) (λ e. w ((well_placed s l).0 e)),
        )
    told (accepted k l w) =
        rw (
          le-ltb (length s) 5 (omega arith),
          (sizes_are s).1 k,
          le-ltb (length s) (file_length s) (omega arith),
          le-ltb (file_length s) (length s) (omega arith),
          (well_placed s l).1 w,
        )

-- ---- an accepted file

module _ (s : List ℕ) (ok : file_refusal s ≡ 0) where
  of_verdict : {n : ℕ} → FileVerdict s n → n ≡ 0 → SizesInRange s × (length s ≡ file_length s) × WellPlaced s
  of_verdict (under_five a) e = absurd (omega arith)
  of_verdict (size_out_of_range a b) e = absurd (omega arith)
  of_verdict (too_short a b c) e = absurd (omega arith)
  of_verdict (too_long a b) e = absurd (omega arith)
  of_verdict (misplaced a b c) e = absurd (omega arith)
  of_verdict (accepted a b c) e = (a, b, c)

  facts : SizesInRange s × (length s ≡ file_length s) × WellPlaced s
  facts = of_verdict ((file_verdict s 0).0 ok) refl

  pub accepted_length : length s ≡ file_length s
  accepted_length = facts.1

  -- so it has its whole placement
  pub accepted_tables : codes_at s ≤ length s
  unfolding codes_at primaries_at copies_at file_length
  accepted_tables = let e = facts.1 in omega arith

  pub accepted_sizes : SizesInRange s
  accepted_sizes = facts.0

  pub accepted_placed : placed (placement_in s) ≡ true
  accepted_placed = (well_placed s facts.1).1 facts.2

  -- the placement has the tasks and registers that the sizes say
  pub accepted_tasks : tasks (placement_in s) ≡ tasks_in s
  accepted_tasks = homes_length s facts.1

  pub accepted_registers : registers (placement_in s) ≡ registers_in s
  accepted_registers = copies_length s facts.1

  pub accepted_primaries : length (placement_in s).primaries ≡ registers_in s
  accepted_primaries = primaries_length s facts.1

  -- an accepted file's placement is accepted for a start without a file
  pub accepted_placement : placement_refusal (placement_in s) ≡ 0
  unfolding placement_in
  accepted_placement =
      let range : InRange (cards_in s) (registers (placement_in s)) (tasks (placement_in s)) = rw (accepted_tasks, accepted_registers) facts.0.0 in
      let sizes : Sized (placement_in s) = (range, accepted_primaries ∙ sym accepted_registers) in
      (placement_verdict (placement_in s) 0).1 (accepted_one sizes ((placed_is (placement_in s)).0 accepted_placed))

  pub accepted_most : steps_in s ≤ 4096
  accepted_most = facts.0.1

  pub accepted_steps : length (run_file_in s).steps ≡ steps_in s
  accepted_steps = listing_length (step_in s) (steps_in s)
