-- The head of a run file: what its bytes need, and what a call says and leaves.
use Prim.Native.Nat.{ℕ, ◌+◌, ◌*◌, ◌≤◌, ◌<◌}
use mathlib.Core.Path.{◌≡◌, refl, sym, ap, ◌∙◌}
use mathlib.Core.Logic.{◌↔◌}
use mathlib.Core.Bool.{Bool, true, false, cond}
use mathlib.Core.List.{List, ◌++◌}
use native.Mathlib.Omega.{arith}
use lib.Dec.{leb}
use lib.ListN.{length, drop, length-append}
use lib.Seq.{sets, sets-eq}
use borrow.Author.Tests.{leb-true, le-leb}
use Rattle.lists.specs.Parts.{sets_append}
use Rattle.lists.specs.Tests.{and_fst, and_snd, and_intro, clash}
use Rattle.names.specs.Placement.{Placement, tasks, registers, sized, placed}
use Rattle.names.proofs.PlacementLaws.{Sized, sized_is}
use Rattle.runfile.specs.RunFile.{size_bytes, placement_bytes}
use Rattle.runfile.specs.Head.{placed_number, head_bytes, whole_length, head_sized, head_refusal, head_output}
use Rattle.runfile.proofs.TableBytes.{placement_length, size_length}

pub is_zero : (a b c : Bool) → (cond a (placed_number b c) 3 ≡ 0) ↔ ((a ≡ true) × (b ≡ true) × (c ≡ true))
is_zero true true true = (λ e. (refl, refl, refl), λ h. refl)
is_zero true true false = (λ e. absurd (omega arith), λ h. absurd (clash h.2 refl))
is_zero true false true = (λ e. absurd (omega arith), λ h. absurd (clash h.1 refl))
is_zero true false false = (λ e. absurd (omega arith), λ h. absurd (clash h.1 refl))
is_zero false b c = (λ e. absurd (omega arith), λ h. absurd (clash h.0 refl))

module _ (P : Placement) (n : ℕ) where
  -- sizes in range, in plain terms
  pub in_range_lem : (head_sized P n ≡ true) ↔ (Sized P × (n ≤ 4096))
  unfolding head_sized
  in_range_lem = (
    λ e. ((sized_is P).0 (and_fst (sized P) (leb n 4096) e), leb-true n 4096 (and_snd (sized P) (leb n 4096) e)),
    λ h. and_intro ((sized_is P).1 h.0) (le-leb n 4096 h.1),
  )

  pub head_length : length (head_bytes P n) ≡ 5 + tasks P + registers P + length P.primaries
  unfolding head_bytes
  head_length =
      let s = size_length P.cards (registers P) (tasks P) n in
      let p = placement_length P.homes P.copies P.primaries in
      length-append (size_bytes P.cards (registers P) (tasks P) n) (placement_bytes P.homes P.copies P.primaries) ∙ omega arith

  -- the sizes, then the placement behind them
  pub head_in_turn : (out : List ℕ) → sets (sets out 0 (size_bytes P.cards (registers P) (tasks P) n)) 5 (placement_bytes P.homes P.copies P.primaries) ≡ sets out 0 (head_bytes P n)
  unfolding head_bytes
  head_in_turn out =
      let s = size_length P.cards (registers P) (tasks P) n in
      let five : 5 ≡ 0 + length (size_bytes P.cards (registers P) (tasks P) n) = omega arith in
      ap (λ k. sets (sets out 0 (size_bytes P.cards (registers P) (tasks P) n)) k (placement_bytes P.homes P.copies P.primaries)) five
      ∙ sym (sets_append out 0 (size_bytes P.cards (registers P) (tasks P) n) (placement_bytes P.homes P.copies P.primaries))

  -- what the bytes of the head need, and those of the steps behind it
  pub fits : (m : ℕ) → head_sized P n ≡ true → whole_length P n ≤ m → (P.cards < 256) × (registers P < 256) × (tasks P < 256) × (5 + tasks P + registers P + length P.primaries + 9 * n ≤ m)
  unfolding whole_length
  fits m e l =
      let h = in_range_lem.0 e in
      (omega (arith, h.0.0.1), omega (arith, h.0.0.3), omega (arith, h.0.0.5), omega (arith, h.0.1))

  module _ (out : List ℕ) where
    pub has_room : head_refusal P n out ≡ 0 → (head_sized P n ≡ true) × (whole_length P n ≤ length out)
    unfolding head_refusal
    has_room e = let z = (is_zero (head_sized P n) (placed P) (leb (whole_length P n) (length out))).0 e in (z.0, leb-true (whole_length P n) (length out) z.2)

    pub output_written : head_refusal P n out ≡ 0 → sets out 0 (head_bytes P n) ≡ head_output P n out
    unfolding head_output
    output_written e =
        let r = has_room e in
        let f = (fits (length out) r.0 r.1).3 in
        let b = head_length in
        let z : 0 + length (head_bytes P n) ≡ length (head_bytes P n) = omega arith in
        rw e (sets-eq (head_bytes P n) out 0 (omega arith) ∙ ap (λ k. head_bytes P n ++ drop k out) z)

-- the same of a placement as the code has it, its tables apart
module _ {P Q : Placement} (n : ℕ) (seen : P ≡ Q) (sized : head_sized Q n ≡ true) where
  pub few : (tasks P ≤ 16) × (registers P ≤ 32) × (length P.primaries ≡ registers P) × (n ≤ 4096)
  few = rw seen (let h = (in_range_lem Q n).0 sized in (h.0.0.5, h.0.0.3, h.0.1, h.1))

  pub fits_seen : (m : ℕ) → whole_length Q n ≤ m → (P.cards < 256) × (registers P < 256) × (tasks P < 256) × (n ≤ 4096) × (5 ≤ m)
  fits_seen m l = rw seen (let f = fits Q n m sized l in (f.0, f.1, f.2, ((in_range_lem Q n).0 sized).1, omega (arith, f.3)))
