-- The tables of a load: the writer makes the same file of them, says the same and leaves the same.
use Prim.Native.Nat.{ℕ, zero, suc, ◌+◌, ◌*◌, ◌≤◌, ◌<◌}
use mathlib.Core.Path.{◌≡◌, refl, sym, ap, ap₂, ◌∙◌, subst}
use mathlib.Core.Logic.{◌≢◌}
use mathlib.Core.Bool.{Bool, true, false, cond, ◌&&◌}
use mathlib.Core.List.{List, [], ◌++◌, map}
use native.Mathlib.Omega.{arith}
use native.Mathlib.Decide.{ℕ_discrete}
use borrow.Author.Tests.{eq-eqb, ne_eqb}
use lib.Dec.{eqb, leb}
use lib.ListN.{length, get_or, drop, length-map, get_or-append}
use lib.Seq.{sets, get_or-append-add}
use Rattle.lists.specs.Listings.{listing, listing_all, listing_at, listing_cong, listing_length, listing_snoc, map_listing}
use Rattle.names.specs.Placement.{Placement, tasks, registers, placed}
use Rattle.names.specs.Step.{RawStep}
use Rattle.names.proofs.PlacementLaws.{Sized}
use Rattle.runfile.specs.RunFile.{joined, file_bytes, size_bytes, placement_bytes}
use Rattle.runfile.specs.Head.{placed_number, whole_length, head_sized, head_refusal, head_output, head_of}
use Rattle.runfile.specs.Compose.{Tables, step_of, run_file_of, composed, composed_length, tables_sized, compose_refusal, compose_output, composed_of}
use Rattle.runfile.proofs.Joined.{joined_snoc}
use Rattle.runfile.proofs.TableBytes.{composed_is}
use Rattle.runfile.proofs.ParallelArrays.{pieces_length}
use Rattle.runfile.proofs.HeadLaws.{in_range_lem, has_room, fits}
use Rattle.runfile.proofs.ComposeNumbers.{said_written}
use Rattle.loads.specs.Load.{load_of, load_file, load_output}
use Rattle.loads.specs.LoadMeaning.{load_tables}
use Rattle.loads.proofs.LoadSteps.{state_at, step_at, eight, steps_at}

and_true : (b : Bool) → (b && true) ≡ b
and_true true = refl
and_true false = refl

-- byte j of piece k of n pieces of eight
piece_at : (g : ℕ → List ℕ) → ((k : ℕ) → length (g k) ≡ 8) → (n k j : ℕ) → k < n → j < 8 → get_or (joined (listing g n)) (8 * k + j) 0 ≡ get_or (g k) j 0
piece_at g wide zero k j h i = absurd (omega arith)
piece_at g wide (suc n) k j h i =
    ap (λ l. get_or l (8 * k + j) 0) (ap joined (listing_snoc g n) ∙ joined_snoc (listing g n) (g n)) ∙ go (ℕ_discrete k n) (λ l. piece_at g wide n k j l i)
  where
    before : length (joined (listing g n)) ≡ 8 * n
    before = pieces_length (λ _. 0) g 8 wide 0 n [] n

    go : Dec (k ≡ n) → (k < n → get_or (joined (listing g n)) (8 * k + j) 0 ≡ get_or (g k) j 0) → get_or (joined (listing g n) ++ g n) (8 * k + j) 0 ≡ get_or (g k) j 0
    go (yes e) r =
        let m : 8 * k + j ≡ length (joined (listing g n)) + j = omega (arith, before) in
        ap (λ m. get_or (joined (listing g n) ++ g n) m 0) m ∙ get_or-append-add (joined (listing g n)) (g n) j 0 ∙ ap (λ m. get_or (g m) j 0) (sym e)
    go (no q) r =
        let l : k < n = omega (arith, h, q) in
        get_or-append (joined (listing g n)) (g n) 0 (8 * k + j) (omega (arith, before)) ∙ r l

module _ (seed : ℕ) (P : Placement) (n : ℕ) where
  abbrev t : Tables
  t = load_tables seed P n

  abbrev at : ℕ → RawStep
  at = step_at P.cards (registers P) (tasks P) seed

  abbrev wide : (k : ℕ) → length (at k).argument ≡ 8
  wide k = eight P.cards (registers P) (tasks P) (state_at seed k)

  codes_are : t.codes ≡ listing (λ k. (at k).code) n
  codes_are = ap (map (λ s. s.code)) (steps_at P.cards (registers P) (tasks P) n seed) ∙ map_listing (λ s. s.code) at n

  arguments_are : t.arguments ≡ joined (listing (λ k. (at k).argument) n)
  arguments_are = ap joined (ap (map (λ s. s.argument)) (steps_at P.cards (registers P) (tasks P) n seed) ∙ map_listing (λ s. s.argument) at n)

  pub codes_length : length t.codes ≡ n
  codes_length = ap length codes_are ∙ listing_length (λ k. (at k).code) n

  pub even : length t.arguments ≡ 8 * length t.codes
  even = ap length arguments_are ∙ pieces_length (λ k. (at k).code) (λ k. (at k).argument) 8 wide 0 n [] n ∙ ap (λ m. 8 * m) (sym codes_length)

  pub same_file : load_file seed P n ≡ composed t
  unfolding load_file file_bytes
  same_file =
      ap (λ m. size_bytes P.cards (registers P) (tasks P) m ++ placement_bytes P.homes P.copies P.primaries ++ t.codes ++ t.arguments)
      (sym (length-map (load_of seed P n).steps (λ s. s.code)))
      ∙ sym (composed_is t even)

  -- the reader's step k is the one that was drawn
  step_back : (k : ℕ) → k < n → step_of t k ≡ at k
  step_back k h =
      ap₂ (λ c a. record { code = c; argument = a })
      (ap (λ l. get_or l k 0) codes_are ∙ listing_at (λ k. (at k).code) n k 0 h)
      (ap (λ l. listing (λ j. get_or l (8 * k + j) 0) 8) arguments_are
      ∙ listing_cong (λ j. get_or (joined (listing (λ k. (at k).argument) n)) (8 * k + j) 0) (λ j. get_or (at k).argument j 0) 8 (λ j i. piece_at (λ k. (at k).argument) wide n k j h i)
      ∙ ap (listing (λ j. get_or (at k).argument j 0)) (sym (wide k))
      ∙ listing_all (at k).argument 0)

  pub run_back : run_file_of t ≡ load_of seed P n
  run_back =
      ap (λ l. record { placement = P; steps = l })
      (ap (listing (step_of t)) codes_length ∙ listing_cong (step_of t) at n step_back ∙ sym (steps_at P.cards (registers P) (tasks P) n seed))

  pub sized_alike : tables_sized t ≡ head_sized P n
  unfolding tables_sized
  sized_alike = ap₂ (λ m b. head_sized P m && b) codes_length (eq-eqb (length t.arguments) (8 * length t.codes) even) ∙ and_true (head_sized P n)

  module _ (out : List ℕ) where
    refused_alike : compose_refusal t out ≡ head_refusal P n out
    unfolding compose_refusal composed_length head_refusal
    refused_alike = ap₂ (λ b m. cond b (placed_number (placed P) (leb (whole_length P m) (length out))) 3) sized_alike codes_length

    pub same_said : head_of P n out ≡ composed_of t out
    unfolding head_of composed_of composed_length
    same_said = sym (ap₂ (λ r m. record { refusal = r; length = cond (eqb r 0) (whole_length P m) 0 }) refused_alike codes_length)

    pub same_output : load_output seed P n out ≡ compose_output t out
    unfolding load_output compose_output
    same_output = sym (ap₂ (λ r f. cond (eqb r 0) (f ++ drop (length f) out) out) refused_alike (sym same_file))

    -- as the code finds it
    pub head_refused : (head_of P n out).refusal ≢ 0 → head_output P n out ≡ load_output seed P n out
    unfolding head_of head_output load_output
    head_refused h = rw (ne_eqb (head_refusal P n out) 0 h)

    pub steps_behind : (head_of P n out).refusal ≡ 0 → (i : ℕ) → i ≡ 5 + tasks P + registers P + length P.primaries → sets (head_output P n out) i (t.codes ++ t.arguments) ≡ load_output seed P n out
    unfolding head_of
    steps_behind k i q =
        let s : tables_sized t ≡ true = sized_alike ∙ (has_room P n out k).0 in
        subst (λ m. (head_of P m out).refusal ≡ 0 → sets (head_output P m out) i (t.codes ++ t.arguments) ≡ compose_output t out) codes_length (λ z. (said_written t out s z i q).1) k
        ∙ sym same_output

    pub head_room : (head_of P n out).refusal ≡ 0 → Sized P × (n ≤ 4096) × (5 + tasks P + registers P + length P.primaries + 9 * n ≤ length out)
    unfolding head_of
    head_room k =
        let r = has_room P n out k in
        let z = (in_range_lem P n).0 r.0 in
        (z.0, z.1, (fits P n (length out) r.0 r.1).3)
