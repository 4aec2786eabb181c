-- The run of an accepted file: the store's answers, step by step, are those of the algorithm that it runs.
use Prim.Native.Nat.{ℕ, ◌+◌, ◌*◌, ◌≤◌}
use mathlib.Core.Path.{◌≡◌, sym, ap, ap₂, ◌∙◌}
use mathlib.Core.List.{List}
use borrow.Author.Tests.{eq-eqb, le-ltb}
use lib.ListN.{length}
use Rattle.lists.specs.Listings.{listing}
use Rattle.names.specs.declared.Answer.{Answer}
use Rattle.claims.specs.Found.{begin}
use Rattle.store.specs.Run.{Store, started}
use Rattle.store.proofs.SideBySide.{start_stands, answers_same, checked_once}
use Rattle.runfile.specs.RunFile.{steps_in, placement_in, step_in, run_file_in, file_refusal}
use Rattle.runfile.specs.AnswerFile.{answered, headed, put_answers}
use Rattle.runfile.specs.Run.{answers_in, taken_of, refused_of, answer_refusal, answer_output, answered_of}
use Rattle.runfile.specs.Stepwise.{answer_at, counted}
use Rattle.runfile.proofs.AnswerLaws.{puts_answered}
use Rattle.runfile.proofs.RunFileLaws.{accepted_placement}
use Rattle.runfile.proofs.StepwiseLaws.{answers_listed, taken_counted, refused_counted}

pub run_answers : (file : List ℕ) → file_refusal file ≡ 0 → (m : Store)
    → listing (answer_at (step_in file) (started (placement_in file) m)) (steps_in file) ≡ answers_in file
unfolding answers_in
run_answers file ok m =
    answers_listed (steps_in file) (step_in file) (started (placement_in file) m)
    ∙ checked_once.answers (placement_in file) (accepted_placement file ok) m (run_file_in file).steps
    ∙ answers_same (placement_in file) (started (placement_in file) m) begin (run_file_in file).steps (start_stands (placement_in file) (accepted_placement file ok) m)

-- where the file is accepted and the output has room
module _ (file : List ℕ) (ok : file_refusal file ≡ 0) (m : Store) (out : List ℕ) (room : 2 + 5 * steps_in file ≤ length out) where
  none_refused : answer_refusal file out ≡ 0
  unfolding answer_refusal
  none_refused = rw (eq-eqb (file_refusal file) 0 ok, le-ltb (length out) (2 + 5 * steps_in file) room)

  abbrev answer_of_step : ℕ → Answer
  answer_of_step = answer_at (step_in file) (started (placement_in file) m)

  pub run_counts : counted answer_of_step (steps_in file) ≡ answered_of file out
  unfolding answered_of
  run_counts =
      ap₂ (λ (a : ℕ) (b : ℕ). record { refusal = 0; taken = a; refused = b })
      (taken_counted answer_of_step (steps_in file) ∙ ap taken_of (run_answers file ok m))
      (refused_counted answer_of_step (steps_in file) ∙ ap refused_of (run_answers file ok m))
      ∙ sym (rw (eq-eqb (answer_refusal file out) 0 none_refused))

  pub run_output : put_answers (steps_in file) answer_of_step (steps_in file) (headed (steps_in file) out) ≡ answer_output file out
  unfolding answer_output
  run_output =
      puts_answered answer_of_step (steps_in file) out room
      ∙ ap (λ l. answered l out) (run_answers file ok m)
      ∙ sym (rw (eq-eqb (answer_refusal file out) 0 none_refused))
