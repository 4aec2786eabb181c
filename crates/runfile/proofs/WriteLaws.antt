-- The number of steps, the results and the array of values, stored one after the other, make the answer file.
use Prim.Native.Nat.{ℕ, ◌+◌, ◌*◌, ◌≤◌, ◌<◌}
use mathlib.Core.Path.{◌≡◌, refl, sym, ap, ap₂, ◌∙◌}
use mathlib.Core.List.{List, [], ◌∷◌, ◌++◌, map}
use native.Mathlib.Omega.{arith}
use native.Mathlib.Numerals.{add-one}
use lib.ListN.{length, get_or, take, drop, length-append}
use lib.Seq.{sets, sets-eq, take-suc, length-take-le}
use Rattle.lists.specs.Parts.{sets_in_tail, sets_append}
use Rattle.lists.specs.Listings.{listing, listing_all, listing_length, map_listing}
use Rattle.runfile.specs.RunFile.{two_bytes, joined}
use Rattle.runfile.specs.AnswerFile.{four_bytes, answer_bytes, answered, word_stored, headed, value_bytes, values_filled, answer_at, answers_of}

value_bytes_append : (us vs : List ℕ) → value_bytes (us ++ vs) ≡ value_bytes us ++ value_bytes vs
value_bytes_append [] vs = refl
value_bytes_append (u ∷ us) vs = ap (λ r. four_bytes u ++ r) (value_bytes_append us vs)

value_bytes_length : (vs : List ℕ) → length (value_bytes vs) ≡ 4 * length vs
value_bytes_length [] = refl
value_bytes_length (v ∷ vs) = let e = value_bytes_length vs in omega arith

-- one value more
pub values_more : (part values : List ℕ) (k : ℕ) → k < length values → sets part 0 (value_bytes (take (k + 1) values)) ≡ word_stored (4 * k) (get_or values k 0) (sets part 0 (value_bytes (take k values)))
unfolding word_stored
values_more part values k h =
    let v : ℕ = get_or values k 0 in
    let l : length (value_bytes (take k values)) ≡ 4 * k = value_bytes_length (take k values) ∙ ap (λ m. 4 * m) (length-take-le k values (omega arith)) in
    let e : 0 + length (value_bytes (take k values)) ≡ 4 * k = omega arith in
    ap (λ m. sets part 0 (value_bytes (take m values))) (add-one k)
    ∙ ap (λ r. sets part 0 (value_bytes r)) (take-suc values k 0 h)
    ∙ ap (sets part 0) (value_bytes_append (take k values) (v ∷ []))
    ∙ sets_append part 0 (value_bytes (take k values)) (four_bytes v)
    ∙ ap (λ m. sets (sets part 0 (value_bytes (take k values))) m (four_bytes v)) e

module _ (results values out : List ℕ) (same : length values ≡ length results) (room : 2 + 5 * length results ≤ length out) where
  abbrev n : ℕ
  n = length results

  -- the answers' results are the one table, their values the other
  answer_bytes_lem : answer_bytes (answers_of results values) ≡ two_bytes n ++ results ++ value_bytes values
  unfolding answer_bytes
  answer_bytes_lem =
      let r : map (λ a. a.result) (answers_of results values) ≡ results = map_listing (λ a. a.result) (answer_at results values) n ∙ listing_all results 0 in
      let v : map (λ a. four_bytes a.value) (answers_of results values) ≡ map four_bytes values =
      map_listing (λ a. four_bytes a.value) (answer_at results values) n
      ∙ sym (map_listing four_bytes (λ k. get_or values k 0) n)
      ∙ ap (λ m. map four_bytes (listing (λ k. get_or values k 0) m)) (sym same)
      ∙ ap (map four_bytes) (listing_all values 0) in
      ap₂ (λ a b. two_bytes (length (answers_of results values)) ++ a ++ joined b) r v
      ∙ ap (λ m. two_bytes m ++ results ++ value_bytes values) (listing_length (answer_at results values) n)

  -- the output after the results
  abbrev ys : List ℕ
  ys = sets (headed n out) 2 results

  pub writes_answered : take (2 + n) ys ++ values_filled values (drop (2 + n) ys) ≡ answered (answers_of results values) out
  unfolding values_filled headed answered
  writes_answered =
      let bytes : List ℕ = two_bytes n ++ results ++ value_bytes values in
      let s = length-append (two_bytes n) results in
      let v = value_bytes_length values in
      let l = length-append (two_bytes n ++ results) (value_bytes values) in
      let a = listing_length (answer_at results values) n in
      let seam : 2 + n + 0 ≡ 0 + length (two_bytes n ++ results) = omega arith in
      let whole : 0 + length bytes ≡ 2 + 5 * length (answers_of results values) = omega arith in
      sets_in_tail (2 + n) ys 0 (value_bytes values)
      ∙ ap (λ o. sets o (2 + n + 0) (value_bytes values)) (sym (sets_append out 0 (two_bytes n) results))
      ∙ ap (λ m. sets (sets out 0 (two_bytes n ++ results)) m (value_bytes values)) seam
      ∙ sym (sets_append out 0 (two_bytes n ++ results) (value_bytes values))
      ∙ sets-eq bytes out 0 (omega arith)
      ∙ ap₂ (λ a m. a ++ drop m out) (sym answer_bytes_lem) whole
