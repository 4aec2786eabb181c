-- Answers put one by one into an output make the answer file.
use Prim.Native.Nat.{ℕ, ◌+◌, ◌*◌, ◌≤◌}
use mathlib.Core.Path.{◌≡◌, refl, sym, ap, ap₂, ◌∙◌}
use mathlib.Core.List.{List, ◌++◌, map, append_assoc}
use native.Mathlib.Omega.{arith}
use lib.ListN.{length, drop, length-append}
use lib.Seq.{sets, sets-eq}
use Rattle.lists.specs.Parts.{sets_append}
use Rattle.lists.specs.Listings.{listing, listing_length, map_listing}
use Rattle.names.specs.declared.Answer.{Answer}
use Rattle.runfile.specs.RunFile.{two_bytes, joined}
use Rattle.runfile.specs.AnswerFile.{four_bytes, answer_bytes, answered, word_stored, headed, put_answer, put_answers}
use Rattle.runfile.proofs.ParallelArrays.{one_behind_other, pieces_length}

module _ (answer : ℕ → Answer) (n : ℕ) (out : List ℕ) (room : 2 + 5 * n ≤ length out) where
  abbrev result : ℕ → ℕ
  result j = (answer j).result

  abbrev word : ℕ → List ℕ
  word j = four_bytes (answer j).value

  abbrev bytes : List ℕ
  bytes = two_bytes n ++ (listing result n ++ joined (listing word n))

  bytes_length : length bytes ≡ 2 + 5 * n
  bytes_length =
      let r = listing_length result n in
      let v = pieces_length result word 4 (λ k. refl) 2 n out n in
      let l = length-append (listing result n) (joined (listing word n)) in
      omega arith

  bytes_are : bytes ≡ answer_bytes (listing answer n)
  unfolding answer_bytes
  bytes_are =
      sym (append_assoc (two_bytes n) (listing result n) (joined (listing word n)))
      ∙ sym (ap₂ (λ a b. two_bytes n ++ a ++ joined b) (map_listing (λ a. a.result) answer n) (map_listing (λ a. four_bytes a.value) answer n))
      ∙ ap (λ m. two_bytes m ++ map (λ a. a.result) (listing answer n) ++ joined (map (λ a. four_bytes a.value) (listing answer n))) (sym (listing_length answer n))

  pub puts_answered : put_answers n answer n (headed n out) ≡ answered (listing answer n) out
  unfolding put_answers put_answer word_stored headed answered
  puts_answered =
      let l = bytes_length in
      let i : 0 + length bytes ≡ 2 + 5 * length (listing answer n) = omega (arith, listing_length answer n) in
      one_behind_other result word 4 (λ k. refl) 2 n (sets out 0 (two_bytes n))
      ∙ sym (sets_append out 0 (two_bytes n) (listing result n ++ joined (listing word n)))
      ∙ sets-eq bytes out 0 (omega arith)
      ∙ ap₂ (λ b m. b ++ drop m out) bytes_are i
