-- A file of the length that its sizes ask for: its tables make its run and, if it is of bytes, the file itself.
use Prim.Native.Nat.{ℕ, ◌*◌, ◌≤◌}
use mathlib.Core.Path.{◌≡◌, refl, sym, ap, ap₂, ◌∙◌}
use mathlib.Core.List.{List, [], ◌∷◌, ◌++◌, append_assoc}
use native.Mathlib.Omega.{arith}
use lib.ListN.{length, get_or, take, drop, take-append-drop, length-drop}
use lib.Seq.{take_all}
use Rattle.lists.specs.Parts.{part, part_whole, part_split}
use Rattle.lists.specs.Listings.{listing}
use Rattle.runfile.specs.RunFile.{cards_in, registers_in, tasks_in, steps_in, copies_at, primaries_at, codes_at, arguments_at, file_length, placement_in, code_in, argument_in, step_in, run_file_in, file_refusal, two_bytes, size_bytes, placement_bytes, file_bytes}
use Rattle.runfile.specs.Compose.{tables_in, run_file_of, composed}
use Rattle.runfile.specs.ComposeMeaning.{Bytes}
use Rattle.runfile.proofs.RunFileLaws.{homes_length, copies_length, accepted_length}
use Rattle.runfile.proofs.TableBytes.{sizes_of, placement_of, composed_is}

five : (s : List ℕ) → 5 ≤ length s → take 5 s ≡ get_or s 0 0 ∷ get_or s 1 0 ∷ get_or s 2 0 ∷ get_or s 3 0 ∷ get_or s 4 0 ∷ []
five (a ∷ b ∷ c ∷ d ∷ e ∷ r) h = refl
five (a ∷ b ∷ c ∷ d ∷ []) h = absurd (omega arith)
five (a ∷ b ∷ c ∷ []) h = absurd (omega arith)
five (a ∷ b ∷ []) h = absurd (omega arith)
five (a ∷ []) h = absurd (omega arith)
five [] h = absurd (omega arith)

in_a_row : (a b c d e f : List ℕ) → a ++ (b ++ (c ++ (d ++ (e ++ f)))) ≡ a ++ (b ++ c ++ d) ++ e ++ f
in_a_row a b c d e f = simp append_assoc

module _ (s : List ℕ) (whole : length s ≡ file_length s) where
  pub codes_length : length (tables_in s).codes ≡ steps_in s
  unfolding tables_in file_length codes_at primaries_at copies_at
  codes_length = part_whole s (codes_at s) (steps_in s) (omega arith)

  pub tables_even : length (tables_in s).arguments ≡ 8 * length (tables_in s).codes
  unfolding tables_in file_length arguments_at codes_at primaries_at copies_at
  tables_even = part_whole s (arguments_at s) (8 * steps_in s) (omega arith) ∙ ap (λ n. 8 * n) (sym codes_length)

  pub run_of_tables : run_file_in s ≡ run_file_of (tables_in s)
  unfolding tables_in code_in argument_in
  run_of_tables = ap (λ n. record { placement = placement_in s; steps = listing (step_in s) n }) (sym codes_length)

  -- its parts, one after the other
  split : Bytes s → s ≡ sizes_of (tables_in s) ++ placement_of (tables_in s) ++ (tables_in s).codes ++ (tables_in s).arguments
  unfolding tables_in size_bytes placement_bytes placement_in steps_in arguments_at codes_at primaries_at copies_at file_length
  split byte =
      let low = byte 3 in
      let high = byte 4 in
      let n = codes_length in
      let two : two_bytes (length (part s (codes_at s) (steps_in s))) ≡ get_or s 3 0 ∷ get_or s 4 0 ∷ [] = ap₂ (λ a b. a ∷ b ∷ []) (omega arith) (omega arith) in
      let sizes : List ℕ = sizes_of (tables_in s) in
      let head : take 5 s ≡ sizes =
      five s (omega arith)
      ∙ sym (ap₂ (λ (r : ℕ) (t : ℕ). cards_in s ∷ r ∷ t ∷ two_bytes (length (part s (codes_at s) (steps_in s)))) (copies_length s whole) (homes_length s whole) ∙ ap (λ b. cards_in s ∷ registers_in s ∷ tasks_in s ∷ b) two) in
      let homes : List ℕ = part s 5 (tasks_in s) in
      let copies : List ℕ = part s (copies_at s) (registers_in s) in
      let primaries : List ℕ = part s (primaries_at s) (registers_in s) in
      let codes : List ℕ = part s (codes_at s) (steps_in s) in
      let arguments : List ℕ = part s (arguments_at s) (8 * steps_in s) in
      let rest : drop (arguments_at s) s ≡ arguments = sym (take_all (8 * steps_in s) (drop (arguments_at s) s) (let d = length-drop (arguments_at s) s in omega arith)) in
      sym (take-append-drop 5 s)
      ∙ ap₂ ◌++◌ head (part_split s 5 (tasks_in s))
      ∙ ap (λ r. sizes ++ (homes ++ r)) (part_split s (copies_at s) (registers_in s))
      ∙ ap (λ r. sizes ++ (homes ++ (copies ++ r))) (part_split s (primaries_at s) (registers_in s))
      ∙ ap (λ r. sizes ++ (homes ++ (copies ++ (primaries ++ r)))) (part_split s (codes_at s) (steps_in s) ∙ ap (λ r. codes ++ r) rest)
      ∙ in_a_row sizes homes copies primaries codes arguments

  pub same_file : Bytes s → composed (tables_in s) ≡ s
  same_file byte = composed_is (tables_in s) tables_even ∙ sym (split byte)

-- the bytes of an accepted file are those of the layout, in its order, for what the file holds
pub accepted_layout : (s : List ℕ) → file_refusal s ≡ 0 → Bytes s → s ≡ file_bytes (run_file_in s)
unfolding composed
accepted_layout s ok byte = let whole = accepted_length s ok in sym (ap file_bytes (run_of_tables s whole) ∙ same_file s whole byte)
