-- What is claimed of whole runs.
use Prim.Native.Nat.{ℕ, ◌+◌, ◌*◌}
use mathlib.Core.Path.{◌≡◌, refl, sym, ap, ◌∙◌}
use mathlib.Core.Logic.{◌≢◌}
use mathlib.Core.Bool.{Bool, true, false, cond}
use mathlib.Core.List.{List, [], ◌∷◌, ◌++◌, map}
use native.Mathlib.Omega.{arith}
use borrow.Author.Tests.{eq-eqb, ne_eqb, eqb-true}
use lib.Dec.{eqb, ltb}
use lib.ListN.{length, drop, length-append, length-map}
use Rattle.lists.specs.Histories.{In}
use Rattle.names.specs.declared.Answer.{Answer}
use Rattle.claims.specs.Found.{begin}
use Rattle.claims.specs.SerialOrder.{SerialOrder}
use Rattle.claims.proofs.FewRequests.{never_23}
use Rattle.store.specs.SideBySide.{Stands, store_after, answers_of, table_of}
use Rattle.store.specs.Run.{Store, started}
use Rattle.store.proofs.SideBySide.{start_stands, answers_same, store_demand_3}
use Rattle.runfile.specs.RunFile.{steps_in, placement_in, run_file_in, file_refusal, joined}
use Rattle.runfile.specs.AnswerFile.{four_bytes, answer_bytes, answered}
use Rattle.runfile.specs.Run.{file_registers, file_channel, answers_in, answer_of, answer_refusal, answer_output, taken_of, refused_of}
use Rattle.runfile.specs.FileRun.{FileRun}
use Rattle.runfile.proofs.RunFileLaws.{accepted_placement, accepted_most, accepted_steps}
use Rattle.runfile.proofs.StepwiseLaws.{each_counted}
use Rattle.runfile.proofs.AnswersFrom.{one_each, no_six}
use Rattle.runfile.proofs.LongFile.{long_file}

-- four bytes for each answer
values_length : (l : List Answer) → length (joined (map (λ a. four_bytes a.value) l)) ≡ 4 * length l
values_length [] = refl
values_length (a ∷ l) =
    let e = values_length l in
    length-append (four_bytes a.value) (joined (map (λ a. four_bytes a.value) l)) ∙ omega arith

bytes_length : (l : List Answer) → length (answer_bytes l) ≡ 2 + 5 * length l
unfolding answer_bytes
bytes_length l =
    let result : Answer → ℕ = λ a. a.result in
    let r = length-map l result in
    let v = values_length l in
    let e = length-append (map result l) (joined (map (λ a. four_bytes a.value) l)) in
    omega arith

not_begun : (file : List ℕ) → file_refusal file ≢ 0 → (rs cs : List ℕ) → (file_registers file rs ≡ rs) × (file_channel file cs ≡ cs)
unfolding file_registers file_channel
not_begun file n rs cs = let z = ne_eqb (file_refusal file) 0 n in (rw z, rw z)

module _ (file : List ℕ) (ok : file_refusal file ≡ 0) where
  begun : (rs cs : List ℕ) → Stands (file_registers file rs) (file_channel file cs) (placement_in file) begin
  unfolding file_registers file_channel
  begun rs cs =
      rw (eq-eqb (file_refusal file) 0 ok)
      (start_stands (placement_in file) (accepted_placement file ok) (record { registers = rs; channel = cs }))

  answers_count : length (answers_in file) ≡ steps_in file
  unfolding answers_in
  answers_count = one_each (placement_in file) begin (run_file_in file).steps ∙ accepted_steps file ok

  accepted_answer : answer_of file ≡ answer_bytes (answers_in file)
  unfolding answer_of
  accepted_answer = rw (eq-eqb (file_refusal file) 0 ok)

  pub answer_length : length (answer_of file) ≡ 2 + 5 * steps_in file
  answer_length = ap length accepted_answer ∙ bytes_length (answers_in file) ∙ ap (λ n. 2 + 5 * n) answers_count

  all_counted : taken_of (answers_in file) + refused_of (answers_in file) ≡ steps_in file
  all_counted = each_counted (answers_in file) ∙ answers_count

  store_answers : (m : Store) → answers_in file ≡ answers_of (started (placement_in file) m) (run_file_in file).steps
  unfolding answers_in
  store_answers m =
      sym (answers_same (placement_in file) (started (placement_in file) m) begin (run_file_in file).steps (start_stands (placement_in file) (accepted_placement file ok) m))

  explained : (m : Store)
      → (order : List ℕ) × SerialOrder (placement_in file) (run_file_in file).steps (answers_in file) (table_of (store_after (started (placement_in file) m) (run_file_in file).steps)) order
  explained m = rw (store_answers m) (store_demand_3 (placement_in file) (accepted_placement file ok) m (run_file_in file).steps)

-- no refusal of the output: none of the file
accepted_first : (file out : List ℕ) → answer_refusal file out ≡ 0 → file_refusal file ≡ 0
unfolding answer_refusal
accepted_first file out e = go (eqb (file_refusal file) 0) refl e
  where
    go : (t : Bool) → eqb (file_refusal file) 0 ≡ t → cond t (cond (ltb (length out) (2 + 5 * steps_in file)) 5 0) (file_refusal file) ≡ 0 → file_refusal file ≡ 0
    go true q e = eqb-true (file_refusal file) 0 q
    go false q e = e

pub answer_written : (file out : List ℕ) → answer_refusal file out ≡ 0 → answer_output file out ≡ answer_of file ++ drop (2 + 5 * steps_in file) out
unfolding answer_output answered
answer_written file out e =
    let ok = accepted_first file out e in
    rw (eq-eqb (answer_refusal file out) 0 e, accepted_answer file ok, answers_count file ok)

pub output_untouched : (file out : List ℕ) → answer_refusal file out ≢ 0 → answer_output file out ≡ out
unfolding answer_output
output_untouched file out n = rw (ne_eqb (answer_refusal file out) 0 n)

never_six : (file : List ℕ) → file_refusal file ≡ 0 → (a : Answer) → In a (answers_in file) → a.result ≢ 6
unfolding answers_in
never_six file ok a h = no_six (placement_in file) (accepted_placement file ok) [] (run_file_in file).steps a h

never_twenty_three : (file : List ℕ) → file_refusal file ≡ 0 → (a : Answer) → In a (answers_in file) → a.result ≢ 23
unfolding answers_in
never_twenty_three file ok a h =
    let e = accepted_steps file ok in
    let m = accepted_most file ok in
    never_23 (placement_in file) begin (run_file_in file).steps (omega (arith, e, m)) a h

pub file_run : FileRun
file_run = record {
  begun = begun;
  not_begun = not_begun;
  answer_length = answer_length;
  answer_written = answer_written;
  output_untouched = output_untouched;
  all_counted = all_counted;
  store_answers = store_answers;
  never_six = never_six;
  never_twenty_three = never_twenty_three;
  explained = explained;
  long_file = long_file;
}
