-- What a program writes: an output of 20,482 bytes has room for every answer file, so only the file can be refused.
use Prim.Native.Nat.{ℕ, ◌+◌, ◌*◌}
use mathlib.Core.Path.{◌≡◌, refl, sym, ap, ap₂, ◌∙◌}
use mathlib.Core.Logic.{◌≢◌}
use mathlib.Core.Bool.{Bool, true, false, cond}
use mathlib.Core.List.{List, [], ◌∷◌, ◌++◌}
use native.Mathlib.Omega.{arith}
use borrow.Author.Tests.{ne_eqb, eqb-true, le-ltb}
use lib.Dec.{eqb, ltb}
use lib.ListN.{length, set, drop}
use Rattle.runfile.specs.Run.{Answered}
use Rattle.runfile.specs.RunFile.{steps_in, file_refusal}
use Rattle.runfile.specs.Run.{answers_in, answer_of, answer_refusal, answer_output, taken_of, refused_of, answered_of}
use Rattle.runfile.proofs.RunFileLaws.{accepted_most}
use Rattle.runfile.proofs.FileRun.{answer_length, answer_written, output_untouched}

refused_byte : (file : List ℕ) → eqb (file_refusal file) 0 ≡ false → answer_of file ≡ file_refusal file ∷ []
unfolding answer_of
refused_byte file e = rw e

set_first : (v : ℕ) (out : List ℕ) → length out ≢ 0 → set out 0 v ≡ v ∷ drop 1 out
set_first v [] n = absurd (n refl)
set_first v (x ∷ out) n = refl

module _ (file out : List ℕ) (room : length out ≡ 20482) where
  number_is : (answered_of file out).refusal ≡ answer_refusal file out
  unfolding answered_of
  number_is = go (eqb (answer_refusal file out) 0) refl
    where
      go : (t : Bool) → eqb (answer_refusal file out) 0 ≡ t
          → (cond {A = Answered} t (record { refusal = 0; taken = taken_of (answers_in file); refused = refused_of (answers_in file) }) (record { refusal = answer_refusal file out; taken = 0; refused = 0 })).refusal ≡ answer_refusal file out
      go true e = sym (eqb-true (answer_refusal file out) 0 e)
      go false e = refl

  only_file : answer_refusal file out ≡ file_refusal file
  unfolding answer_refusal
  only_file = go (eqb (file_refusal file) 0) refl
    where
      go : (t : Bool) → eqb (file_refusal file) 0 ≡ t → cond t (cond (ltb (length out) (2 + 5 * steps_in file)) 5 0) (file_refusal file) ≡ file_refusal file
      go true e =
          let ok = eqb-true (file_refusal file) 0 e in
          let most = accepted_most file ok in
          rw (le-ltb (length out) (2 + 5 * steps_in file) (omega arith)) (sym ok)
      go false e = refl

  module _ (no : (answered_of file out).refusal ≢ 0) where
    refused_answer : answer_of file ≡ file_refusal file ∷ []
    refused_answer = refused_byte file (ne_eqb (file_refusal file) 0 (λ e. no (number_is ∙ only_file ∙ e)))

    pub refused_count : 1 ≡ length (answer_of file)
    refused_count = sym (ap length refused_answer)

    pub refused_output : set (answer_output file out) 0 (answered_of file out).refusal ≡ answer_of file ++ drop (length (answer_of file)) out
    refused_output =
        ap₂ (λ (o : List ℕ) (v : ℕ). set o 0 v) (output_untouched file out (λ e. no (number_is ∙ e))) (number_is ∙ only_file)
        ∙ set_first (file_refusal file) out (λ e. omega arith)
        ∙ sym (ap (λ a. a ++ drop (length a) out) refused_answer)

  module _ (yes : (answered_of file out).refusal ≡ 0) where
    accepted : file_refusal file ≡ 0
    accepted = sym (number_is ∙ only_file) ∙ yes

    pub accepted_count : 2 + 5 * steps_in file ≡ length (answer_of file)
    accepted_count = sym (answer_length file accepted)

    pub accepted_output : answer_output file out ≡ answer_of file ++ drop (length (answer_of file)) out
    accepted_output = answer_written file out (sym number_is ∙ yes) ∙ ap (λ n. answer_of file ++ drop n out) accepted_count
