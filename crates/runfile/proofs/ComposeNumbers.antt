-- Which tables and outputs are refused, and what a call touches.
use Prim.Native.Nat.{ℕ, ◌+◌, ◌-◌, ◌*◌, ◌≤◌}
use mathlib.Core.Path.{◌≡◌, refl, sym, ap, ◌∙◌}
use mathlib.Core.Logic.{◌↔◌, ◌≢◌}
use mathlib.Core.Bool.{Bool, true, false, cond}
use mathlib.Core.List.{List, ◌++◌}
use native.Mathlib.Omega.{arith}
use lib.Dec.{eqb, leb}
use lib.ListN.{length, get_or, drop, length-append, length-drop, get_or-append}
use lib.Seq.{sets, sets-eq, get_or-append-add, get_or-drop}
use borrow.Author.Tests.{leb-true, leb-false, le-leb, lt-leb, eqb-true, eq-eqb, ne_eqb}
use Rattle.lists.specs.Tests.{and_fst, and_snd, and_intro, clash, false_of}
use Rattle.names.specs.Placement.{tasks, registers, placed}
use Rattle.names.proofs.PlacementLaws.{placed_is}
use Rattle.runfile.specs.Head.{placed_number, whole_length, head_sized, head_refusal, head_output, head_of}
use Rattle.runfile.specs.Compose.{Tables, composed, composed_length, tables_sized, compose_refusal, compose_output, composed_of}
use Rattle.runfile.specs.ComposeMeaning.{SizedTables, ComposeNumbers, ComposeTouches}
use Rattle.runfile.proofs.TableBytes.{placement_length, bytes_length, steps_behind}
use Rattle.runfile.proofs.HeadLaws.{is_zero, in_range_lem, head_length, fits, has_room}
use Rattle.runfile.proofs.HeadLaws.{output_written as head_written}

-- ---- the number, by three tests (0: HeadLaws)

is_three : (a b c : Bool) → (cond a (placed_number b c) 3 ≡ 3) ↔ (a ≡ false)
is_three true true true = (λ e. absurd (omega arith), λ h. absurd (clash refl h))
is_three true true false = (λ e. absurd (omega arith), λ h. absurd (clash refl h))
is_three true false true = (λ e. absurd (omega arith), λ h. absurd (clash refl h))
is_three true false false = (λ e. absurd (omega arith), λ h. absurd (clash refl h))
is_three false b c = (λ e. refl, λ h. refl)

is_four : (a b c : Bool) → (cond a (placed_number b c) 3 ≡ 4) ↔ ((a ≡ true) × (b ≡ false))
is_four true true true = (λ e. absurd (omega arith), λ h. absurd (clash refl h.1))
is_four true true false = (λ e. absurd (omega arith), λ h. absurd (clash refl h.1))
is_four true false true = (λ e. (refl, refl), λ h. refl)
is_four true false false = (λ e. (refl, refl), λ h. refl)
is_four false b c = (λ e. absurd (omega arith), λ h. absurd (clash h.0 refl))

is_five : (a b c : Bool) → (cond a (placed_number b c) 3 ≡ 5) ↔ ((a ≡ true) × (b ≡ true) × (c ≡ false))
is_five true true true = (λ e. absurd (omega arith), λ h. absurd (clash refl h.2))
is_five true true false = (λ e. (refl, refl, refl), λ h. refl)
is_five true false true = (λ e. absurd (omega arith), λ h. absurd (clash h.1 refl))
is_five true false false = (λ e. absurd (omega arith), λ h. absurd (clash h.1 refl))
is_five false b c = (λ e. absurd (omega arith), λ h. absurd (clash h.0 refl))

-- ---- what the tests ask

module _ (t : Tables) where
  abbrev n : ℕ
  n = length t.codes

  pub sized_tables : (tables_sized t ≡ true) ↔ SizedTables t
  unfolding tables_sized
  sized_tables =
      let head : Bool = head_sized t.placement n in
      let even : Bool = eqb (length t.arguments) (8 * n) in (
        λ e.
            let z = (in_range_lem t.placement n).0 (and_fst head even e) in (
              (z.0.0.0, z.0.0.1),
              (z.0.0.2, z.0.0.3),
              (z.0.0.4, z.0.0.5),
              z.1,
              z.0.1,
              eqb-true (length t.arguments) (8 * n) (and_snd head even e),
            ),
        λ h.
            let z = (in_range_lem t.placement n).1 (((h.0.0, h.0.1, h.1.0, h.1.1, h.2.0, h.2.1), h.4), h.3) in
            and_intro z (eq-eqb (length t.arguments) (8 * n) h.5),
      )

  head_is_sized : tables_sized t ≡ true → head_sized t.placement n ≡ true
  unfolding tables_sized
  head_is_sized e = and_fst (head_sized t.placement n) (eqb (length t.arguments) (8 * n)) e

  pub length_is : SizedTables t → composed_length t ≡ length (composed t)
  unfolding composed_length whole_length
  length_is h =
      let b = bytes_length t h.5 in
      let l = placement_length t.placement.homes t.placement.copies t.placement.primaries in
      let e = h.4 in
      omega arith

  module _ (out : List ℕ) where
    abbrev room : Bool
    room = leb (composed_length t) (length out)

    -- ---- as the code finds them

    -- of sized tables the head is refused as they are
    head_refusal_lem : tables_sized t ≡ true → head_refusal t.placement n out ≡ compose_refusal t out
    unfolding head_refusal compose_refusal composed_length
    head_refusal_lem e = rw (e, head_is_sized e)

    pub said_refused : tables_sized t ≡ true → (head_of t.placement n out).refusal ≢ 0 → (head_of t.placement n out ≡ composed_of t out) × (head_output t.placement n out ≡ compose_output t out)
    unfolding head_of head_output composed_of compose_output
    said_refused e h = let z = ne_eqb (compose_refusal t out) 0 (λ k. h (head_refusal_lem e ∙ k)) in (rw (head_refusal_lem e, z), rw (head_refusal_lem e, z))

    pub said_written : tables_sized t ≡ true → (head_of t.placement n out).refusal ≡ 0 → (i : ℕ) → i ≡ 5 + tasks t.placement + registers t.placement + length t.placement.primaries
        → (head_of t.placement n out ≡ composed_of t out) × (sets (head_output t.placement n out) i (t.codes ++ t.arguments) ≡ compose_output t out)
    unfolding head_of composed_of compose_output composed_length whole_length
    said_written e k i q =
        let r = has_room t.placement n out k in
        let h = sized_tables.0 e in
        let b = bytes_length t h.5 in
        let p = placement_length t.placement.homes t.placement.copies t.placement.primaries in
        let z : 0 + length (composed t) ≡ length (composed t) = omega arith in
        let w = sym (head_refusal_lem e) ∙ k in
        let o = sym (head_written t.placement n out k) in (
          rw (head_refusal_lem e, w),
          rw w
              (ap (λ o. sets o i (t.codes ++ t.arguments)) o
              ∙ steps_behind t h.5 out i (q ∙ sym (head_length t.placement n))
              ∙ sets-eq (composed t) out 0 (omega (arith, r.1, h.4))
              ∙ ap (λ k. composed t ++ drop k out) z),
        )

    -- room for the steps behind the head
    pub room_behind : tables_sized t ≡ true → (head_of t.placement n out).refusal ≡ 0 → 5 + tasks t.placement + registers t.placement + length t.placement.primaries + n + length t.arguments ≤ length out
    unfolding head_of
    room_behind e k =
        let r = has_room t.placement n out k in
        let f = (fits t.placement n (length out) r.0 r.1).3 in
        let h = (sized_tables.0 e).5 in
        omega arith

    -- ---- in plain terms

    pub numbers : ComposeNumbers t out
    unfolding compose_refusal
    numbers =
        let a : Bool = tables_sized t in
        let b : Bool = placed t.placement in
        let p = placed_is t.placement in
        let s = sized_tables in
        record {
          written_if = (
            λ e.
                let z = (is_zero a b room).0 e in
                let h = s.0 z.0 in
                let l = length_is h in
                let r = leb-true (composed_length t) (length out) z.2 in
                (h, p.0 z.1, omega arith),
            λ h. let l = length_is h.0 in (is_zero a b room).1 (s.1 h.0, p.1 h.1, le-leb (composed_length t) (length out) (omega (arith, h.2))),
          );
          unsized_if = (λ e h. clash (s.1 h) ((is_three a b room).0 e), λ h. (is_three a b room).1 (false_of a (λ e. h (s.0 e))));
          misplaced_if = (
            λ e. let z = (is_four a b room).0 e in (s.0 z.0, λ h. clash (p.1 h) z.1),
            λ h. (is_four a b room).1 (s.1 h.0, false_of b (λ e. h.1 (p.0 e))),
          );
          short_if = (
            λ e.
                let z = (is_five a b room).0 e in
                let h = s.0 z.0 in
                let l = length_is h in
                let r = leb-false (composed_length t) (length out) z.2 in
                (h, p.0 z.1, omega arith),
            λ h. let l = length_is h.0 in (is_five a b room).1 (s.1 h.0, p.1 h.1, lt-leb (composed_length t) (length out) (omega (arith, h.2))),
          );
        }

    -- ---- what a call touches

    written : compose_refusal t out ≡ 0 → compose_output t out ≡ composed t ++ drop (length (composed t)) out
    unfolding compose_output
    written e = rw (eq-eqb (compose_refusal t out) 0 e)

    untouched : compose_refusal t out ≢ 0 → compose_output t out ≡ out
    unfolding compose_output
    untouched e = rw (ne_eqb (compose_refusal t out) 0 e)

    past : (i : ℕ) → length (composed t) ≤ i → get_or (composed t ++ drop (length (composed t)) out) i 0 ≡ get_or out i 0
    past i h =
        let l : ℕ = length (composed t) in
        let e : i ≡ l + (i - l) = omega arith in
        ap (λ k. get_or (composed t ++ drop l out) k 0) e
        ∙ get_or-append-add (composed t) (drop l out) (i - l) 0
        ∙ get_or-drop l out (i - l) 0
        ∙ ap (λ k. get_or out k 0) (sym e)

    -- by whether the refusal is 0
    by_refusal : (P : List ℕ → Type 0) → (compose_refusal t out ≡ 0 → P (composed t ++ drop (length (composed t)) out)) → P out → P (compose_output t out)
    unfolding compose_output
    by_refusal P taken left = go (eqb (compose_refusal t out) 0) refl
      where
        go : (b : Bool) → eqb (compose_refusal t out) 0 ≡ b → P (cond b (composed t ++ drop (length (composed t)) out) out)
        go true e = taken (eqb-true (compose_refusal t out) 0 e)
        go false e = left

    pub touches : ComposeTouches t out
    unfolding composed_of
    touches = record {
      file_written = λ e i h. ap (λ o. get_or o i 0) (written e) ∙ get_or-append (composed t) (drop (length (composed t)) out) 0 i h;
      past_untouched = λ i h. by_refusal (λ o. get_or o i 0 ≡ get_or out i 0) (λ e. past i h) refl;
      same_length =
          by_refusal (λ o. length o ≡ length out)
          (λ e.
          let r = (numbers.written_if.0 e).2 in
          let d = length-drop (length (composed t)) out in
          length-append (composed t) (drop (length (composed t)) out) ∙ omega arith)
          refl;
      length_told = λ e. rw (eq-eqb (compose_refusal t out) 0 e) (length_is (numbers.written_if.0 e).0);
      refused_untouched = λ e. (untouched e, rw (ne_eqb (compose_refusal t out) 0 e));
    }
