-- One computed test over the table of named runs, and the law that it gives for each.
use Prim.Native.Nat.{ℕ}
use mathlib.Core.Path.{◌≡◌, refl, ap₂, subst}
use mathlib.Core.Bool.{Bool, true, false, ◌&&◌, false≢true}
use mathlib.Core.List.{List, [], ◌∷◌}
use borrow.Author.Tests.{eqb-true}
use lib.Dec.{eqb, leb}
use Rattle.lists.specs.Every.{each}
use Rattle.lists.specs.Histories.{In, here, there}
use Rattle.lists.specs.Listings.{listing}
use Rattle.lists.specs.Loops.{total, turns}
use Rattle.lists.specs.Tests.{and_fst, and_snd}
use Rattle.names.specs.CardSet.{just_of, member_of, several, single, size_of, sole_of}
use Rattle.names.specs.Placement.{home_placed, homes_placed, placed, register_placed, registers_placed, sizes_in_range}
use Rattle.names.specs.Results.{result_from}
use Rattle.names.specs.Update.{known_function, larger_of, raised, sum_of, updated}
use Rattle.claims.specs.Steps.{card_there, command_of, decode, function_there, known, names_card, names_chosen, names_function, names_register, names_task, operand, register_there, task_there, unnamed_zero}
use Rattle.runfile.specs.RunFile.{steps_in, copies_at, primaries_at, codes_at, arguments_at, file_length, placement_in, code_in, argument_in, sizes_sound, file_refusal}
use Rattle.runfile.specs.AnswerFile.{answer_bytes}
use Rattle.runfile.specs.Run.{answers_in, answer_of}
use Rattle.named.specs.NamedRun.{NamedRun}
use Rattle.named.specs.Table.{table, NamedRuns}

same : List ℕ → List ℕ → Bool
same [] [] = true
same [] (y ∷ ys) = false
same (x ∷ xs) [] = false
same (x ∷ xs) (y ∷ ys) = eqb x y && same xs ys

same_is : (xs ys : List ℕ) → same xs ys ≡ true → xs ≡ ys
unfolding same
same_is [] [] e = refl
same_is [] (y ∷ ys) e = absurd (false≢true e)
same_is (x ∷ xs) [] e = absurd (false≢true e)
same_is (x ∷ xs) (y ∷ ys) e =
    ap₂ (λ (a : ℕ) (l : List ℕ). a ∷ l) (eqb-true x y (and_fst (eqb x y) (same xs ys) e)) (same_is xs ys (and_snd (eqb x y) (same xs ys) e))

passes : NamedRun → Bool
passes r = same (answer_of r.file) r.answer

all : List NamedRun → Bool
all [] = true
all (r ∷ rs) = passes r && all rs

checked : all table ≡ true
unfolding all passes same answer_of answers_in result_from answer_bytes file_refusal sizes_sound file_length placement_in code_in argument_in arguments_at codes_at primaries_at copies_at steps_in listing each total turns sizes_in_range placed homes_placed home_placed registers_placed register_placed member_of several single size_of sole_of just_of updated raised larger_of sum_of decode known unnamed_zero task_there register_there card_there function_there known_function names_task names_card names_register names_chosen names_function operand command_of eqb leb
checked = refl

passed : (rs : List NamedRun) → all rs ≡ true → (r : NamedRun) → In r rs → passes r ≡ true
unfolding all
passed [] e r x'' = elim x'' [ ]
passed (q ∷ rs) e r (here p) = subst (λ x. passes x ≡ true) p (and_fst (passes q) (all rs) e)
passed (q ∷ rs) e r (there h) = passed rs (and_snd (passes q) (all rs) e) r h

pub named_runs : NamedRuns
unfolding passes
named_runs r h = same_is (answer_of r.file) r.answer (passed table checked r h)
