-- Writer and reader undo each other.
use Prim.Native.Nat.{ℕ, ◌+◌, ◌*◌}
use mathlib.Core.Path.{◌≡◌, refl, sym, ap, ap₂, ◌∙◌}
use mathlib.Core.Bool.{true}
use mathlib.Core.List.{List, [], ◌++◌, append_assoc, append-nil}
use native.Mathlib.Omega.{arith}
use lib.ListN.{length, take, length-append}
use lib.Seq.{take_at, drop_at}
use Rattle.lists.specs.Parts.{part}
use Rattle.names.specs.Placement.{placement, registers, placed}
use Rattle.names.proofs.PlacementLaws.{placed_is}
use Rattle.runfile.specs.RunFile.{steps_in, copies_at, primaries_at, codes_at, arguments_at, file_length, placement_in, run_file_in, file_refusal, size_bytes, placement_bytes}
use Rattle.runfile.specs.Compose.{Tables, tables_in, run_file_of, composed}
use Rattle.runfile.specs.ComposeMeaning.{SizedTables, PlacedTables, ReadBack, WrittenAgain}
use Rattle.runfile.proofs.RunFileLaws.{SizesInRange, file_verdict, homes_length, copies_length, primaries_length, well_placed, accepted_sizes, accepted_length, accepted_placed}
use Rattle.runfile.proofs.RunFileLaws.FileVerdict.{accepted as accepted_one}
use Rattle.runfile.proofs.TableBytes.{sizes_of, placement_of, composed_is, bytes_length, placement_length}
use Rattle.runfile.proofs.FileTables.{codes_length, tables_even, run_of_tables, same_file}

-- what stands between two lists
between : (p m r : List ℕ) (a n : ℕ) → length p ≡ a → length m ≡ n → part (p ++ (m ++ r)) a n ≡ m
between p m r a n e h = ap (take n) (drop_at p (m ++ r) a e) ∙ take_at m r n h

-- six lists in a row
record InParts (a b c d e f : List ℕ) (n : ℕ) : Type 0 where
  homes : part (a ++ (b ++ c ++ d) ++ e ++ f) n (length b) ≡ b
  copies : part (a ++ (b ++ c ++ d) ++ e ++ f) (n + length b) (length c) ≡ c
  primaries : part (a ++ (b ++ c ++ d) ++ e ++ f) (n + length b + length c) (length d) ≡ d
  codes : part (a ++ (b ++ c ++ d) ++ e ++ f) (n + length b + length c + length d) (length e) ≡ e
  arguments : part (a ++ (b ++ c ++ d) ++ e ++ f) (n + length b + length c + length d + length e) (length f) ≡ f

in_parts : (a b c d e f : List ℕ) {n : ℕ} → length a ≡ n → InParts a b c d e f n
in_parts a b c d e f {n} l =
    let lb = length-append a b in
    let lc = length-append (a ++ b) c in
    let ld = length-append (a ++ b ++ c) d in
    let le = length-append (a ++ b ++ c ++ d) e in
    let one : a ++ (b ++ c ++ d) ++ e ++ f ≡ a ++ (b ++ (c ++ (d ++ (e ++ f)))) = simp append_assoc in
    let two : a ++ (b ++ c ++ d) ++ e ++ f ≡ (a ++ b) ++ (c ++ (d ++ (e ++ f))) = simp append_assoc in
    let three : a ++ (b ++ c ++ d) ++ e ++ f ≡ (a ++ b ++ c) ++ (d ++ (e ++ f)) = simp append_assoc in
    let four : a ++ (b ++ c ++ d) ++ e ++ f ≡ (a ++ b ++ c ++ d) ++ (e ++ f) = simp append_assoc in
    let five : a ++ (b ++ c ++ d) ++ e ++ f ≡ (a ++ b ++ c ++ d ++ e) ++ (f ++ []) = simp (append_assoc, append-nil) in
    record {
      homes = ap (λ s. part s n (length b)) one ∙ between a b (c ++ (d ++ (e ++ f))) n (length b) l refl;
      copies = ap (λ s. part s (n + length b) (length c)) two ∙ between (a ++ b) c (d ++ (e ++ f)) (n + length b) (length c) (omega arith) refl;
      primaries = ap (λ s. part s (n + length b + length c) (length d)) three ∙ between (a ++ b ++ c) d (e ++ f) (n + length b + length c) (length d) (omega arith) refl;
      codes = ap (λ s. part s (n + length b + length c + length d) (length e)) four ∙ between (a ++ b ++ c ++ d) e f (n + length b + length c + length d) (length e) (omega arith) refl;
      arguments =
          ap (λ s. part s (n + length b + length c + length d + length e) (length f)) five
          ∙ between (a ++ b ++ c ++ d ++ e) f [] (n + length b + length c + length d + length e) (length f) (omega arith) refl;
    }

-- the tables of a file of the length that its sizes ask for
tables_in_range : (s : List ℕ) → length s ≡ file_length s → SizesInRange s → SizedTables (tables_in s)
unfolding tables_in placement_in
tables_in_range s whole r =
    let c = copies_length s whole in
    let k = homes_length s whole in
    let n = codes_length s whole in (
      (r.0.0, r.0.1),
      (omega (arith, r.0.2, c), omega (arith, r.0.3, c)),
      (omega (arith, r.0.4, k), omega (arith, r.0.5, k)),
      omega (arith, r.1, n),
      primaries_length s whole ∙ sym c,
      tables_even s whole,
    )

tables_placed : (s : List ℕ) → placed (placement_in s) ≡ true → PlacedTables (tables_in s)
unfolding tables_in
tables_placed s e = (placed_is (placement_in s)).0 e

module _ (t : Tables) (h : SizedTables t) where
  abbrev homes : List ℕ
  homes = t.placement.homes

  abbrev copies : List ℕ
  copies = t.placement.copies

  abbrev primaries : List ℕ
  primaries = t.placement.primaries

  -- the file's bytes, as composed_is has them
  abbrev bytes : List ℕ
  bytes = sizes_of t ++ placement_of t ++ t.codes ++ t.arguments

  steps_read : steps_in bytes ≡ length t.codes
  unfolding steps_in size_bytes
  steps_read = let m = h.3 in omega arith

  placement_read : placement_in bytes ≡ t.placement
  unfolding placement_in primaries_at copies_at size_bytes placement_bytes
  placement_read =
      let parts = in_parts (sizes_of t) homes copies primaries t.codes t.arguments refl in
      let same : registers t.placement ≡ length primaries = sym h.4 in
      ap (λ l. placement t.placement.cards l (part bytes (5 + length homes) (length copies)) (part bytes (5 + length homes + length copies) (length copies))) parts.homes
      ∙ ap₂ (placement t.placement.cards homes) parts.copies (ap (part bytes (5 + length homes + length copies)) same ∙ parts.primaries)

  codes_read : part bytes (codes_at bytes) (steps_in bytes) ≡ t.codes
  unfolding codes_at primaries_at copies_at size_bytes placement_bytes
  codes_read =
      let parts = in_parts (sizes_of t) homes copies primaries t.codes t.arguments refl in
      let at : 5 + length homes + length copies + length copies ≡ 5 + length homes + length copies + length primaries = omega (arith, h.4) in
      ap₂ (part bytes) at steps_read ∙ parts.codes

  arguments_read : part bytes (arguments_at bytes) (8 * steps_in bytes) ≡ t.arguments
  unfolding arguments_at codes_at primaries_at copies_at size_bytes placement_bytes
  arguments_read =
      let parts = in_parts (sizes_of t) homes copies primaries t.codes t.arguments refl in
      let n = steps_read in
      let at : 5 + length homes + length copies + length copies + steps_in bytes ≡ 5 + length homes + length copies + length primaries + length t.codes = omega (arith, h.4) in
      let count : 8 * steps_in bytes ≡ length t.arguments = omega (arith, h.5) in
      ap₂ (part bytes) at count ∙ parts.arguments

  is_whole : length bytes ≡ file_length bytes
  unfolding file_length size_bytes
  is_whole =
      let l = bytes_length t h.5 in
      let c = ap length (composed_is t h.5) in
      let p = placement_length homes copies primaries in
      let n = steps_read in
      let e = h.4 in
      omega arith

  in_range_lem : SizesInRange bytes
  unfolding size_bytes
  in_range_lem = let n = steps_read in let m = h.3 in ((h.0.0, h.0.1, h.1.0, h.1.1, h.2.0, h.2.1), omega arith)

  bytes_accepted : PlacedTables t → file_refusal bytes ≡ 0
  bytes_accepted q = (file_verdict bytes 0).1 (accepted_one in_range_lem is_whole ((well_placed bytes is_whole).0 (ap placed placement_read ∙ (placed_is t.placement).1 q)))

  tables_read : tables_in bytes ≡ t
  unfolding tables_in
  tables_read =
      ap (λ p. record { placement = p; codes = part bytes (codes_at bytes) (steps_in bytes); arguments = part bytes (arguments_at bytes) (8 * steps_in bytes) }) placement_read
      ∙ ap₂ (λ c a. record { placement = t.placement; codes = c; arguments = a }) codes_read arguments_read

  pub read_back : PlacedTables t → ReadBack t
  read_back q =
      let e = composed_is t h.5 in record {
        accepted = ap file_refusal e ∙ bytes_accepted q;
        same_tables = ap tables_in e ∙ tables_read;
        same_run = ap run_file_in e ∙ run_of_tables bytes is_whole ∙ ap run_file_of tables_read;
        the_one_file = λ s b ok same. sym (ap composed (sym same) ∙ same_file s (accepted_length s ok) b);
      }

pub written_again : (s : List ℕ) → file_refusal s ≡ 0 → WrittenAgain s
written_again s ok = record {
  sized_tables = sizes;
  placed_tables = places;
  same_file = λ b. same_file s whole b;
}
  where
    whole : length s ≡ file_length s
    whole = accepted_length s ok

    sizes : SizedTables (tables_in s)
    sizes = tables_in_range s whole (accepted_sizes s ok)

    places : PlacedTables (tables_in s)
    places = tables_placed s (accepted_placed s ok)
