-- SerialOrder's fields `tasks`, `gives` and `copies` on small histories: K2 with a forgetful answer, and two tasks that set one register.
use Prim.Native.Nat.{ℕ, ◌<◌}
use lib.Dec.{eqb}
use lib.ListN.{drop, get_or}
use mathlib.Core.Bool.{true}
use mathlib.Core.List.{List, [], ◌++◌, ◌∷◌}
use mathlib.Core.Logic.{inl, inr, ◌⊎◌}
use mathlib.Core.Option.{Option, none, some}
use mathlib.Core.Path.{ap, ap₂, refl, subst, sym, ◌∙◌, ◌≡◌}
use native.Mathlib.Omega.{arith}
use Rattle.lists.specs.Every.{each}
use Rattle.lists.specs.Filters.{Precedes, filter}
use Rattle.lists.specs.Histories.{In, any_nil, any_right, here, there}
use Rattle.lists.specs.Loops.{total, turns}
use Rattle.lists.specs.Places.{nth}
use Rattle.lists.specs.Queues.{push, push_cases}
use Rattle.names.specs.CardSet.{just_of, member_of, several, single, size_of, sole_of}
use Rattle.names.specs.Placement.{Placement, copy, home_placed, homes_placed, placed, placement_refusal, register_placed, registers_placed, sized, sizes_in_range}
use Rattle.names.specs.Update.{known_function, larger_of, raised, sum_of, updated}
use Rattle.claims.proofs.Fields.{just, one_copy, one_of_two, reported_listed, reports_of}
use Rattle.claims.proofs.FieldsNeeded.{copy_values_needed, once_needed, only_needed, reported_needed}
use Rattle.claims.proofs.ForcedAnswer.{reported_0, reported_1}
use Rattle.claims.proofs.NamedRuns.{tiny_accepted}
use Rattle.claims.proofs.Reports.{reports_exact}
use Rattle.claims.specs.Fields.{Field, Needed, Says, applied, copies, copy_values, gives, once, only, reported, tasks}
use Rattle.claims.specs.FoundRun.{found_run}
use Rattle.claims.specs.NamedRuns.{k2, set, step, tiny}
use Rattle.claims.specs.Paper.{paper}
use Rattle.claims.specs.PublishedRun.{Answer}
use Rattle.claims.specs.SerialOrder.{ReportedAt, applied_on, made_of_zero, op, updates}
use Rattle.claims.specs.Steps.{RawStep, card_there, command_of, decode, function_there, known, names_card, names_chosen, names_function, names_register, names_task, operand, register_there, task_there, unnamed_zero}

-- ---- K2: task 0 adds 5 to register 0 (operation 0), then reads it (operation 1); a store that answers 0 to the read

abbrev nought : Answer
nought = record { result = 0; value = 0 }

abbrev forgetful : List Answer
forgetful = nought ∷ nought ∷ nought ∷ nought ∷ nought ∷ nought ∷ []

abbrev k2_table : ℕ → ℕ → ℕ
k2_table = (found_run tiny k2).0.table

k2_tells : reports_of (paper tiny k2) ≡ 1 ∷ 0 ∷ []
unfolding decode known unnamed_zero task_there register_there card_there function_there known_function names_task names_card names_register names_chosen names_function operand command_of each member_of several single size_of sole_of just_of total turns updated raised larger_of sum_of
k2_tells = refl

k2_applies : (i : ℕ) → applied_on tiny k2 i ≡ push (eqb i 0) 0 []
unfolding decode known unnamed_zero task_there register_there card_there function_there known_function names_task names_card names_register names_chosen names_function operand command_of each member_of several single size_of sole_of just_of total turns updated raised larger_of sum_of
k2_applies i = refl

k2_shows : (filter (updates tiny k2 0) (1 ∷ 0 ∷ []) ≡ filter (updates tiny k2 0) (applied_on tiny k2 0) ++ [])
    × (filter (updates tiny k2 0) (0 ∷ 1 ∷ []) ≡ filter (updates tiny k2 0) (applied_on tiny k2 0) ++ [])
unfolding decode known unnamed_zero task_there register_there card_there function_there known_function names_task names_card names_register names_chosen names_function operand command_of each member_of several single size_of sole_of just_of total turns updated raised larger_of sum_of
k2_shows = (refl, refl)

k2_value : k2_table 0 0 ≡ made_of_zero tiny k2 (filter (updates tiny k2 0) (applied_on tiny k2 0))
unfolding decode known unnamed_zero task_there register_there card_there function_there known_function names_task names_card names_register names_chosen names_function operand command_of each member_of several single size_of sole_of just_of total turns updated raised larger_of sum_of
k2_value = refl

one_task : (op tiny k2 0).task ≡ (op tiny k2 1).task
unfolding decode known unnamed_zero task_there register_there card_there function_there known_function names_task names_card names_register names_chosen names_function operand command_of each member_of several single size_of sole_of just_of total turns updated raised larger_of sum_of
one_task = refl

-- an operation gave what the updates of a list make of zero
abbrev Gave : ℕ → ℕ → List ℕ → Type 0
Gave k n l = nth forgetful n ≡ some (record { result = 0; value = made_of_zero tiny k2 (filter (updates tiny k2 (op tiny k2 k).reg) l) })

gave_nothing : Gave 1 5 [] × Gave 0 2 (1 ∷ [])
unfolding decode known unnamed_zero task_there register_there card_there function_there known_function names_task names_card names_register names_chosen names_function operand command_of each member_of several single size_of sole_of just_of total turns updated raised larger_of sum_of
gave_nothing = (refl, refl)

five : made_of_zero tiny k2 (filter (updates tiny k2 (op tiny k2 1).reg) (0 ∷ [])) ≡ 5
unfolding decode known unnamed_zero task_there register_there card_there function_there known_function names_task names_card names_register names_chosen names_function operand command_of each member_of several single size_of sole_of just_of total turns updated raised larger_of sum_of
five = refl

-- operation 1 is reported at step 5, operation 0 at step 2
k2_reports : (k n : ℕ) → ReportedAt tiny k2 k n → ((k ≡ 1) × (n ≡ 5)) ⊎ ((k ≡ 0) × (n ≡ 2))
k2_reports k n r = go (one_of_two (subst (In k) k2_tells (reported_listed tiny tiny_accepted r)))
  where
    go : (1 ≡ k) ⊎ (0 ≡ k) → ((k ≡ 1) × (n ≡ 5)) ⊎ ((k ≡ 0) × (n ≡ 2))
    go (inl e) = inl (sym e, (reports_exact tiny tiny_accepted k2).at_one_step k n 5 r (subst (λ j. ReportedAt tiny k2 j 5) e reported_1))
    go (inr e) = inr (sym e, (reports_exact tiny tiny_accepted k2).at_one_step k n 2 r (subst (λ j. ReportedAt tiny k2 j 2) e reported_0))

k2_applied : (k i : ℕ) → In k (applied_on tiny k2 i) → 0 ≡ k
k2_applied k i h = go (push_cases (eqb i 0) [] (subst (In k) (k2_applies i) h))
  where
    go : In k [] ⊎ ((0 ≡ k) × (eqb i 0 ≡ true)) → 0 ≡ k
    go (inl x) = absurd (any_nil x)
    go (inr x) = x.0

k2_there : {k : ℕ} → (0 ≡ k) ⊎ (1 ≡ k) → ((n : ℕ) × ReportedAt tiny k2 k n) ⊎ ((i : ℕ) × (((op tiny k2 k).upd ≡ true) × In k (applied_on tiny k2 i)))
k2_there (inl e) = inl (2, subst (λ j. ReportedAt tiny k2 j 2) e reported_0)
k2_there (inr e) = inl (5, subst (λ j. ReportedAt tiny k2 j 5) e reported_1)

other_way : {A B : Type 0} → A ⊎ B → B ⊎ A
other_way (inl a) = inr a
other_way (inr b) = inl b

-- in front of operation 1 there is nothing
in_front : (pre post : List ℕ) → 1 ∷ 0 ∷ [] ≡ pre ++ 1 ∷ post → pre ≡ []
in_front [] post e = refl
in_front (a ∷ pre) post e = let z = just (subst (In 1) (sym (ap (drop 1) e)) (any_right pre (here refl))) in absurd (omega arith)

-- and in front of operation 0 only operation 1
in_front_0 : (pre post : List ℕ) → 1 ∷ 0 ∷ [] ≡ pre ++ 0 ∷ post → pre ≡ 1 ∷ []
in_front_0 [] post e = let z = ap (λ l. get_or l 0 0) e in absurd (omega arith)
in_front_0 (a ∷ []) post e = ap (λ x. x ∷ []) (sym (ap (λ l. get_or l 0 0) e))
in_front_0 (a ∷ b ∷ pre) post e = absurd (any_nil (subst (In 0) (sym (ap (drop 2) e)) (any_right pre (here refl))))

-- tasks: a task's read stands behind its own update; in the other order the forgetful answer would do
pub tasks_needed : Needed tasks
tasks_needed = record {
  P = tiny;
  accepted = tiny_accepted;
  steps = k2;
  answers = forgetful;
  table = k2_table;
  order = 1 ∷ 0 ∷ [];
  others = others;
  refused = λ h. behind (h 0 1 (there (here refl)) (here refl) one_task (omega arith));
}
  where
    behind : Precedes {A = ℕ} 0 1 (1 ∷ 0 ∷ []) → ⊥
    behind (pre, post, e, h) = any_nil (subst (In 0) (in_front pre post e) h)

    giving : (k n : ℕ) → ((k ≡ 1) × (n ≡ 5)) ⊎ ((k ≡ 0) × (n ≡ 2)) → (pre post : List ℕ) → 1 ∷ 0 ∷ [] ≡ pre ++ k ∷ post → Gave k n pre
    giving k n (inl (a, b)) pre post e =
        subst (λ j. Gave j n pre) (sym a) (subst (λ m. Gave 1 m pre) (sym b) (subst (Gave 1 5) (sym (in_front pre post (subst (λ j. 1 ∷ 0 ∷ [] ≡ pre ++ j ∷ post) a e))) gave_nothing.0))
    giving k n (inr (a, b)) pre post e =
        subst (λ j. Gave j n pre) (sym a) (subst (λ m. Gave 0 m pre) (sym b) (subst (Gave 0 2) (sym (in_front_0 pre post (subst (λ j. 1 ∷ 0 ∷ [] ≡ pre ++ j ∷ post) a e))) gave_nothing.1))

    others : (g : Field) → ¬ (g ≡ tasks) → Says tiny k2 forgetful k2_table (1 ∷ 0 ∷ []) g
    others only d = λ k h. k2_there (other_way (one_of_two h))
    others reported d = λ k n r. subst (In k) k2_tells (reported_listed tiny tiny_accepted r)
    others applied d = λ k i h. there (here (k2_applied k i h))
    others once d = ((λ h. let z = just h in omega arith), ((λ h. any_nil h), tt))
    others tasks d = absurd (d refl)
    others gives d = λ k n r. giving k n (k2_reports k n r)
    others copies d = one_copy (λ x i. (rest : List ℕ) × (filter (updates tiny k2 x) (1 ∷ 0 ∷ []) ≡ filter (updates tiny k2 x) (applied_on tiny k2 i) ++ rest)) ([], k2_shows.0)
    others copy_values d = one_copy (λ x i. k2_table i x ≡ made_of_zero tiny k2 (filter (updates tiny k2 x) (applied_on tiny k2 i))) k2_value

-- gives: behind its task's update the read gives 5
pub gives_needed : Needed gives
gives_needed = record {
  P = tiny;
  accepted = tiny_accepted;
  steps = k2;
  answers = forgetful;
  table = k2_table;
  order = 0 ∷ 1 ∷ [];
  others = others;
  refused = λ h. forgot (h 1 5 reported_1 (0 ∷ []) [] refl);
}
  where
    value_in : Option Answer → ℕ
    value_in none = 0
    value_in (some a) = a.value

    forgot : Gave 1 5 (0 ∷ []) → ⊥
    forgot e = let z = ap value_in e ∙ five in omega arith

    in_turn : (j k : ℕ) → (0 ≡ j) ⊎ (1 ≡ j) → (0 ≡ k) ⊎ (1 ≡ k) → j < k → Precedes j k (0 ∷ 1 ∷ [])
    in_turn j k (inl a) (inl b) l = absurd (omega arith)
    in_turn j k (inl a) (inr b) l = (j ∷ [], [], ap₂ (λ x y. x ∷ y ∷ []) a b, here refl)
    in_turn j k (inr a) (inl b) l = absurd (omega arith)
    in_turn j k (inr a) (inr b) l = absurd (omega arith)

    swapped : {k : ℕ} → In k (1 ∷ 0 ∷ []) → In k (0 ∷ 1 ∷ [])
    swapped (here p) = there (here p)
    swapped (there h) = here (just h)

    others : (g : Field) → ¬ (g ≡ gives) → Says tiny k2 forgetful k2_table (0 ∷ 1 ∷ []) g
    others only d = λ k h. k2_there (one_of_two h)
    others reported d = λ k n r. swapped (subst (In k) k2_tells (reported_listed tiny tiny_accepted r))
    others applied d = λ k i h. here (k2_applied k i h)
    others once d = ((λ h. let z = just h in omega arith), ((λ h. any_nil h), tt))
    others tasks d = λ j k x y t l. in_turn j k (one_of_two x) (one_of_two y) l
    others gives d = absurd (d refl)
    others copies d = one_copy (λ x i. (rest : List ℕ) × (filter (updates tiny k2 x) (0 ∷ 1 ∷ []) ≡ filter (updates tiny k2 x) (applied_on tiny k2 i) ++ rest)) ([], k2_shows.1)
    others copy_values d = one_copy (λ x i. k2_table i x ≡ made_of_zero tiny k2 (filter (updates tiny k2 x) (applied_on tiny k2 i))) k2_value

-- ---- copies: two tasks of one card set its register to 1, then to 2 (operations 0 and 1); the copy shows them in this order

abbrev pair : Placement
pair = record { cards = 1; homes = 0 ∷ 0 ∷ []; copies = 1 ∷ []; primaries = 0 ∷ [] }

pair_accepted : placement_refusal pair ≡ 0
unfolding placement_refusal sized sizes_in_range placed homes_placed home_placed registers_placed register_placed each member_of
pair_accepted = refl

abbrev two : List RawStep
two = set 0 0 1 ∷ step 3 (0 ∷ []) ∷ set 1 0 2 ∷ step 3 (1 ∷ []) ∷ []

abbrev two_table : ℕ → ℕ → ℕ
two_table = (found_run pair two).0.table

two_tells : reports_of (paper pair two) ≡ []
unfolding decode known unnamed_zero task_there register_there card_there function_there known_function names_task names_card names_register names_chosen names_function operand command_of each member_of several single size_of sole_of just_of total turns updated raised larger_of sum_of
two_tells = refl

two_applies : (i : ℕ) → applied_on pair two i ≡ push (eqb i 0) 1 (push (eqb i 0) 0 [])
unfolding decode known unnamed_zero task_there register_there card_there function_there known_function names_task names_card names_register names_chosen names_function operand command_of each member_of several single size_of sole_of just_of total turns updated raised larger_of sum_of
two_applies i = refl

two_ops : ((op pair two 0).upd ≡ true) × ((op pair two 1).upd ≡ true) × ((op pair two 0).task ≡ 0) × ((op pair two 1).task ≡ 1)
unfolding decode known unnamed_zero task_there register_there card_there function_there known_function names_task names_card names_register names_chosen names_function operand command_of each member_of several single size_of sole_of just_of total turns updated raised larger_of sum_of
two_ops = (refl, refl, refl, refl)

two_show : (filter (updates pair two 0) (1 ∷ 0 ∷ []) ≡ 1 ∷ 0 ∷ []) × (filter (updates pair two 0) (applied_on pair two 0) ≡ 0 ∷ 1 ∷ [])
unfolding decode known unnamed_zero task_there register_there card_there function_there known_function names_task names_card names_register names_chosen names_function operand command_of each member_of several single size_of sole_of just_of total turns updated raised larger_of sum_of
two_show = (refl, refl)

two_value : two_table 0 0 ≡ made_of_zero pair two (filter (updates pair two 0) (applied_on pair two 0))
unfolding decode known unnamed_zero task_there register_there card_there function_there known_function names_task names_card names_register names_chosen names_function operand command_of each member_of several single size_of sole_of just_of total turns updated raised larger_of sum_of
two_value = refl

has_copy : copy pair 0 0 ≡ true
unfolding decode known unnamed_zero task_there register_there card_there function_there known_function names_task names_card names_register names_chosen names_function operand command_of each member_of several single size_of sole_of just_of total turns updated raised larger_of sum_of
has_copy = refl

pub copies_needed : Needed copies
copies_needed = record {
  P = pair;
  accepted = pair_accepted;
  steps = two;
  answers = (found_run pair two).1;
  table = two_table;
  order = 1 ∷ 0 ∷ [];
  others = others;
  refused = λ h. turned (h 0 0 has_copy);
}
  where
    turned : (rest : List ℕ) × (filter (updates pair two 0) (1 ∷ 0 ∷ []) ≡ filter (updates pair two 0) (applied_on pair two 0) ++ rest) → ⊥
    turned (rest, e) = let z = ap (λ l. get_or l 0 0) (sym two_show.0 ∙ e ∙ ap (λ l. l ++ rest) two_show.1) in omega arith

    none : (k n : ℕ) → ReportedAt pair two k n → ⊥
    none k n r = any_nil (subst (In k) two_tells (reported_listed pair pair_accepted r))

    by : {k : ℕ} → (1 ≡ k) ⊎ (0 ≡ k) → ((n : ℕ) × ReportedAt pair two k n) ⊎ ((i : ℕ) × (((op pair two k).upd ≡ true) × In k (applied_on pair two i)))
    by (inl e) = inr (0, subst (λ j. ((op pair two j).upd ≡ true) × In j (applied_on pair two 0)) e (two_ops.1, subst (In 1) (sym (two_applies 0)) (there (here refl))))
    by (inr e) = inr (0, subst (λ j. ((op pair two j).upd ≡ true) × In j (applied_on pair two 0)) e (two_ops.0, subst (In 0) (sym (two_applies 0)) (here refl)))

    held : (k i : ℕ) → In k (applied_on pair two i) → In k (1 ∷ 0 ∷ [])
    held k i h = last (push_cases (eqb i 0) (push (eqb i 0) 0 []) (subst (In k) (two_applies i) h))
      where
        first : In k [] ⊎ ((0 ≡ k) × (eqb i 0 ≡ true)) → In k (1 ∷ 0 ∷ [])
        first (inl x) = absurd (any_nil x)
        first (inr x) = there (here x.0)

        last : In k (push (eqb i 0) 0 []) ⊎ ((1 ≡ k) × (eqb i 0 ≡ true)) → In k (1 ∷ 0 ∷ [])
        last (inl x) = first (push_cases (eqb i 0) [] x)
        last (inr x) = here x.0

    two_tasks : (j k : ℕ) → (1 ≡ j) ⊎ (0 ≡ j) → (1 ≡ k) ⊎ (0 ≡ k) → (op pair two j).task ≡ (op pair two k).task → j < k → ⊥
    two_tasks j k (inl a) (inl b) t l = omega arith
    two_tasks j k (inl a) (inr b) t l = omega arith
    two_tasks j k (inr a) (inl b) t l =
        let z = sym two_ops.2 ∙ ap (λ o. (op pair two o).task) a ∙ t ∙ ap (λ o. (op pair two o).task) (sym b) ∙ two_ops.3 in
        omega arith
    two_tasks j k (inr a) (inr b) t l = omega arith

    others : (g : Field) → ¬ (g ≡ copies) → Says pair two (found_run pair two).1 two_table (1 ∷ 0 ∷ []) g
    others only d = λ k h. by (one_of_two h)
    others reported d = λ k n r. absurd (none k n r)
    others applied d = held
    others once d = ((λ h. let z = just h in omega arith), ((λ h. any_nil h), tt))
    others tasks d = λ j k x y t l. absurd (two_tasks j k (one_of_two x) (one_of_two y) t l)
    others gives d = λ k n r. absurd (none k n r)
    others copies d = absurd (d refl)
    others copy_values d = one_copy (λ x i. two_table i x ≡ made_of_zero pair two (filter (updates pair two x) (applied_on pair two i))) two_value

-- ---- each field but `applied` (AppliedFollows)

pub each_needed : (f : Field) → ¬ (f ≡ applied) → Needed f
each_needed only d = only_needed
each_needed reported d = reported_needed
each_needed applied d = absurd (d refl)
each_needed once d = once_needed
each_needed tasks d = tasks_needed
each_needed gives d = gives_needed
each_needed copies d = copies_needed
each_needed copy_values d = copy_values_needed
