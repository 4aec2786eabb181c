-- The bytes of a run file in terms of its tables.
use Prim.Native.Nat.{ℕ, ◌+◌, ◌*◌, ◌≤◌}
use mathlib.Core.Path.{◌≡◌, sym, ap, ap₂, ◌∙◌}
use mathlib.Core.List.{List, ◌++◌, map, append_assoc}
use native.Mathlib.Omega.{arith}
use lib.ListN.{length, get_or, take, drop, length-append}
use lib.Seq.{sets, sets-eq}
use Rattle.std.proofs.Common.{drop-drop}
use borrow.Rule.Slice.PartMut.{put_mid}
use Rattle.lists.specs.Parts.{sets_append}
use Rattle.lists.specs.Listings.{listing, listing_all, listing_length, map_listing}
use Rattle.names.specs.Placement.{tasks, registers}
use Rattle.runfile.specs.RunFile.{joined, size_bytes, placement_bytes, file_bytes}
use Rattle.runfile.specs.Head.{head_bytes}
use Rattle.runfile.specs.Compose.{Tables, step_of, run_file_of, composed}
use Rattle.runfile.proofs.Joined.{joined_pieces}

pub placement_length : (homes copies primaries : List ℕ) → length (placement_bytes homes copies primaries) ≡ length homes + length copies + length primaries
unfolding placement_bytes
placement_length homes copies primaries = simp length-append (omega arith)

pub size_length : (cards registers tasks n : ℕ) → length (size_bytes cards registers tasks n) ≡ 5
unfolding size_bytes
size_length cards registers tasks n = omega arith

-- a table copied over a part of an output
pub copied : (out table : List ℕ) (at n : ℕ) → n ≡ length table → at + n ≤ length out → put_mid at n out table ≡ sets out at table
copied out table at n e h =
    ap (λ k. take at out ++ (table ++ drop k (drop at out))) e
    ∙ ap (λ r. take at out ++ (table ++ r)) (drop-drop (length table) at out)
    ∙ sym (append_assoc (take at out) table (drop (at + length table) out))
    ∙ sym (sets-eq table out at (omega arith))

pub three_in_turn : (out a b c : List ℕ) (i j k : ℕ) → j ≡ i + length a → k ≡ j + length b → sets (sets (sets out i a) j b) k c ≡ sets out i (a ++ b ++ c)
three_in_turn out a b c i j k e f =
    let l = length-append a b in
    let last : k ≡ i + length (a ++ b) = omega arith in
    sym (sets_append out i (a ++ b) c ∙ ap₂ (λ o m. sets o m c) (sets_append out i a b ∙ ap (λ m. sets (sets out i a) m b) (sym e)) (sym last))

module _ (t : Tables) where
  abbrev n : ℕ
  n = length t.codes

  abbrev pub sizes_of : List ℕ
  sizes_of = size_bytes t.placement.cards (registers t.placement) (tasks t.placement) n

  abbrev pub placement_of : List ℕ
  placement_of = placement_bytes t.placement.homes t.placement.copies t.placement.primaries

  module _ (even : length t.arguments ≡ 8 * n) where
    codes_are : map (λ s. s.code) (run_file_of t).steps ≡ t.codes
    codes_are = map_listing (λ s. s.code) (step_of t) n ∙ listing_all t.codes 0

    arguments_are : joined (map (λ s. s.argument) (run_file_of t).steps) ≡ t.arguments
    arguments_are =
        ap joined (map_listing (λ s. s.argument) (step_of t) n)
        ∙ joined_pieces (λ i. get_or t.arguments i 0) 8 n
        ∙ ap (listing (λ i. get_or t.arguments i 0)) (sym even)
        ∙ listing_all t.arguments 0

    pub composed_is : composed t ≡ sizes_of ++ placement_of ++ t.codes ++ t.arguments
    unfolding composed file_bytes
    composed_is =
        ap₂ (λ a b. size_bytes t.placement.cards (registers t.placement) (tasks t.placement) (length (run_file_of t).steps) ++ placement_of ++ a ++ b) codes_are arguments_are
        ∙ ap (λ m. size_bytes t.placement.cards (registers t.placement) (tasks t.placement) m ++ placement_of ++ t.codes ++ t.arguments) (listing_length (step_of t) n)

    pub bytes_length : length (composed t) ≡ 5 + length placement_of + 9 * n
    bytes_length =
        let s = size_length t.placement.cards (registers t.placement) (tasks t.placement) n in
        let a = length-append sizes_of placement_of in
        let b = length-append (sizes_of ++ placement_of) t.codes in
        let c = length-append (sizes_of ++ placement_of ++ t.codes) t.arguments in
        ap length composed_is ∙ omega arith

    -- the steps stored behind the head
    pub steps_behind : (out : List ℕ) (i : ℕ) → i ≡ length (head_bytes t.placement n) → sets (sets out 0 (head_bytes t.placement n)) i (t.codes ++ t.arguments) ≡ sets out 0 (composed t)
    unfolding head_bytes
    steps_behind out i e =
        let at : i ≡ 0 + length (head_bytes t.placement n) = omega arith in
        ap (λ k. sets (sets out 0 (head_bytes t.placement n)) k (t.codes ++ t.arguments)) at
        ∙ sym (sets_append out 0 (head_bytes t.placement n) (t.codes ++ t.arguments))
        ∙ ap (sets out 0) (sym (append_assoc (sizes_of ++ placement_of) t.codes t.arguments) ∙ sym composed_is)
