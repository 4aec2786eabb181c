-- SerialOrder's fields `only`, `reported`, `once`, `applied` and `copy_values` on small histories of one card with one task and one register.
use Prim.Native.Nat.{ℕ}
use lib.Dec.{eqb}
use lib.ListN.{length, length-append}
use mathlib.Core.Bool.{true}
use mathlib.Core.List.{List, [], ◌++◌, ◌∷◌}
use mathlib.Core.Logic.{inl, inr, ◌⊎◌}
use mathlib.Core.Path.{ap, refl, subst, sym, ◌∙◌, ◌≡◌}
use native.Mathlib.Omega.{arith}
use Rattle.lists.specs.Every.{each}
use Rattle.lists.specs.Filters.{filter}
use Rattle.lists.specs.Histories.{In, any_nil, here, there}
use Rattle.lists.specs.Loops.{total, turns}
use Rattle.lists.specs.Queues.{push, push_cases}
use Rattle.names.specs.CardSet.{just_of, member_of, several, single, size_of, sole_of}
use Rattle.names.specs.Placement.{copy}
use Rattle.names.specs.Update.{known_function, larger_of, raised, sum_of, updated}
use Rattle.claims.proofs.Fields.{just, one_copy, reported_listed, reports_of}
use Rattle.claims.proofs.NamedRuns.{tiny_accepted}
use Rattle.claims.specs.Fields.{Field, Needed, Says, applied, copies, copy_values, gives, once, only, reported, tasks}
use Rattle.claims.specs.FoundRun.{found_run}
use Rattle.claims.specs.NamedRuns.{step, tiny}
use Rattle.claims.specs.Paper.{paper}
use Rattle.claims.specs.PublishedRun.{Answer}
use Rattle.claims.specs.SerialOrder.{ReportedAt, SerialOrder, applied_on, made_of_zero, op, updates}
use Rattle.claims.specs.Steps.{RawStep, card_there, command_of, decode, function_there, known, names_card, names_chosen, names_function, names_register, names_task, operand, register_there, task_there, unnamed_zero}

-- task 0 adds 5 to register 0
abbrev add5 : RawStep
add5 = record { code = 2; argument = 0 ∷ 0 ∷ 2 ∷ 0 ∷ 5 ∷ 0 ∷ 0 ∷ 0 ∷ [] }

-- what the store answers, and its table
abbrev answers : List RawStep → List Answer
answers l = (found_run tiny l).1

abbrev table : List RawStep → ℕ → ℕ → ℕ
table l = (found_run tiny l).0.table

-- ---- only: an update that is requested and no more is no part of the order

abbrev asked : List RawStep
asked = add5 ∷ []

asked_tells : reports_of (paper tiny asked) ≡ []
unfolding decode known unnamed_zero task_there register_there card_there function_there known_function names_task names_card names_register names_chosen names_function operand command_of each member_of several single size_of sole_of just_of total turns updated raised larger_of sum_of
asked_tells = refl

asked_applies : (i : ℕ) → applied_on tiny asked i ≡ []
unfolding decode known unnamed_zero task_there register_there card_there function_there known_function names_task names_card names_register names_chosen names_function operand command_of each member_of several single size_of sole_of just_of total turns updated raised larger_of sum_of
asked_applies i = refl

asked_shows : filter (updates tiny asked 0) (0 ∷ []) ≡ filter (updates tiny asked 0) (applied_on tiny asked 0) ++ (0 ∷ [])
unfolding decode known unnamed_zero task_there register_there card_there function_there known_function names_task names_card names_register names_chosen names_function operand command_of each member_of several single size_of sole_of just_of total turns updated raised larger_of sum_of
asked_shows = refl

asked_value : table asked 0 0 ≡ made_of_zero tiny asked (filter (updates tiny asked 0) (applied_on tiny asked 0))
unfolding decode known unnamed_zero task_there register_there card_there function_there known_function names_task names_card names_register names_chosen names_function operand command_of each member_of several single size_of sole_of just_of total turns updated raised larger_of sum_of
asked_value = refl

pub only_needed : Needed only
only_needed = record {
  P = tiny;
  accepted = tiny_accepted;
  steps = asked;
  answers = answers asked;
  table = table asked;
  order = 0 ∷ [];
  others = others;
  refused = λ h. no (h 0 (here refl));
}
  where
    none : {k n : ℕ} → ReportedAt tiny asked k n → ⊥
    none r = any_nil (subst (In _) asked_tells (reported_listed tiny tiny_accepted r))

    no : ((n : ℕ) × ReportedAt tiny asked 0 n) ⊎ ((i : ℕ) × (((op tiny asked 0).upd ≡ true) × In 0 (applied_on tiny asked i))) → ⊥
    no (inl (n, r)) = none r
    no (inr (i, (u, h))) = any_nil (subst (In 0) (asked_applies i) h)

    others : (g : Field) → ¬ (g ≡ only) → Says tiny asked (answers asked) (table asked) (0 ∷ []) g
    others only d = absurd (d refl)
    others reported d = λ k n r. absurd (none r)
    others applied d = λ k i h. absurd (any_nil (subst (In k) (asked_applies i) h))
    others once d = ((λ h. any_nil h), tt)
    others tasks d = λ j k x y t l. let a = just x in let b = just y in absurd (omega arith)
    others gives d = λ k n r. absurd (none r)
    others copies d = one_copy (λ x i. (rest : List ℕ) × (filter (updates tiny asked x) (0 ∷ []) ≡ filter (updates tiny asked x) (applied_on tiny asked i) ++ rest)) (0 ∷ [], asked_shows)
    others copy_values d = one_copy (λ x i. table asked i x ≡ made_of_zero tiny asked (filter (updates tiny asked x) (applied_on tiny asked i))) asked_value

-- ---- reported: a read that is reported is part of the order

abbrev looked : List RawStep
looked = step 1 (0 ∷ []) ∷ step 3 (0 ∷ []) ∷ step 10 (0 ∷ []) ∷ []

looked_report : ReportedAt tiny looked 0 2
unfolding decode known unnamed_zero task_there register_there card_there function_there known_function names_task names_card names_register names_chosen names_function operand command_of each member_of several single size_of sole_of just_of total turns updated raised larger_of sum_of
looked_report = record { before = step 1 (0 ∷ []) ∷ step 3 (0 ∷ []) ∷ []; it = step 10 (0 ∷ []); after = []; whole = refl; place= = refl; task = 0; taken = refl }

looked_applies : (i : ℕ) → applied_on tiny looked i ≡ []
unfolding decode known unnamed_zero task_there register_there card_there function_there known_function names_task names_card names_register names_chosen names_function operand command_of each member_of several single size_of sole_of just_of total turns updated raised larger_of sum_of
looked_applies i = refl

looked_value : table looked 0 0 ≡ made_of_zero tiny looked (filter (updates tiny looked 0) (applied_on tiny looked 0))
unfolding decode known unnamed_zero task_there register_there card_there function_there known_function names_task names_card names_register names_chosen names_function operand command_of each member_of several single size_of sole_of just_of total turns updated raised larger_of sum_of
looked_value = refl

pub reported_needed : Needed reported
reported_needed = record {
  P = tiny;
  accepted = tiny_accepted;
  steps = looked;
  answers = answers looked;
  table = table looked;
  order = [];
  others = others;
  refused = λ h. any_nil (h 0 2 looked_report);
}
  where
    empty : (k : ℕ) (pre post : List ℕ) → [] ≡ pre ++ k ∷ post → ⊥
    empty k pre post e = let z = ap length e in let y = length-append pre (k ∷ post) in omega arith

    others : (g : Field) → ¬ (g ≡ reported) → Says tiny looked (answers looked) (table looked) [] g
    others only d = λ k h. absurd (any_nil h)
    others reported d = absurd (d refl)
    others applied d = λ k i h. absurd (any_nil (subst (In k) (looked_applies i) h))
    others once d = tt
    others tasks d = λ j k x. absurd (any_nil x)
    others gives d = λ k n r pre post e. absurd (empty k pre post e)
    others copies d = λ x i c. ([], sym (ap (λ l. filter (updates tiny looked x) l ++ []) (looked_applies i)))
    others copy_values d = one_copy (λ x i. table looked i x ≡ made_of_zero tiny looked (filter (updates tiny looked x) (applied_on tiny looked i))) looked_value

-- ---- once: an update stands in the order once; applied: if some card has applied it; copy_values: and the copy has the value that it makes

abbrev performed : List RawStep
performed = add5 ∷ step 3 (0 ∷ []) ∷ []

performed_tells : reports_of (paper tiny performed) ≡ []
unfolding decode known unnamed_zero task_there register_there card_there function_there known_function names_task names_card names_register names_chosen names_function operand command_of each member_of several single size_of sole_of just_of total turns updated raised larger_of sum_of
performed_tells = refl

performed_applies : (i : ℕ) → applied_on tiny performed i ≡ push (eqb i 0) 0 []
unfolding decode known unnamed_zero task_there register_there card_there function_there known_function names_task names_card names_register names_chosen names_function operand command_of each member_of several single size_of sole_of just_of total turns updated raised larger_of sum_of
performed_applies i = refl

performed_updates : (op tiny performed 0).upd ≡ true
unfolding decode known unnamed_zero task_there register_there card_there function_there known_function names_task names_card names_register names_chosen names_function operand command_of each member_of several single size_of sole_of just_of total turns updated raised larger_of sum_of
performed_updates = refl

performed_shows : filter (updates tiny performed 0) (0 ∷ []) ≡ filter (updates tiny performed 0) (applied_on tiny performed 0) ++ []
unfolding decode known unnamed_zero task_there register_there card_there function_there known_function names_task names_card names_register names_chosen names_function operand command_of each member_of several single size_of sole_of just_of total turns updated raised larger_of sum_of
performed_shows = refl

performed_twice : filter (updates tiny performed 0) (0 ∷ 0 ∷ []) ≡ filter (updates tiny performed 0) (applied_on tiny performed 0) ++ (0 ∷ [])
unfolding decode known unnamed_zero task_there register_there card_there function_there known_function names_task names_card names_register names_chosen names_function operand command_of each member_of several single size_of sole_of just_of total turns updated raised larger_of sum_of
performed_twice = refl

performed_value : table performed 0 0 ≡ made_of_zero tiny performed (filter (updates tiny performed 0) (applied_on tiny performed 0))
unfolding decode known unnamed_zero task_there register_there card_there function_there known_function names_task names_card names_register names_chosen names_function operand command_of each member_of several single size_of sole_of just_of total turns updated raised larger_of sum_of
performed_value = refl

performed_five : made_of_zero tiny performed (filter (updates tiny performed 0) (applied_on tiny performed 0)) ≡ 5
unfolding decode known unnamed_zero task_there register_there card_there function_there known_function names_task names_card names_register names_chosen names_function operand command_of each member_of several single size_of sole_of just_of total turns updated raised larger_of sum_of
performed_five = refl

has_copy : copy tiny 0 0 ≡ true
unfolding decode known unnamed_zero task_there register_there card_there function_there known_function names_task names_card names_register names_chosen names_function operand command_of each member_of several single size_of sole_of just_of total turns updated raised larger_of sum_of
has_copy = refl

performed_none : {k n : ℕ} → ReportedAt tiny performed k n → ⊥
performed_none r = any_nil (subst (In _) performed_tells (reported_listed tiny tiny_accepted r))

performed_only : (k i : ℕ) → In k (applied_on tiny performed i) → 0 ≡ k
performed_only k i h = go (push_cases (eqb i 0) [] (subst (In k) (performed_applies i) h))
  where
    go : In k [] ⊎ ((0 ≡ k) × (eqb i 0 ≡ true)) → 0 ≡ k
    go (inl x) = absurd (any_nil x)
    go (inr x) = x.0

performed_there : {k : ℕ} → 0 ≡ k → ((n : ℕ) × ReportedAt tiny performed k n) ⊎ ((i : ℕ) × (((op tiny performed k).upd ≡ true) × In k (applied_on tiny performed i)))
performed_there {k} e = inr (0, subst (λ j. ((op tiny performed j).upd ≡ true) × In j (applied_on tiny performed 0)) e (performed_updates, subst (In 0) (sym (performed_applies 0)) (here refl)))

pub once_needed : Needed once
once_needed = record {
  P = tiny;
  accepted = tiny_accepted;
  steps = performed;
  answers = answers performed;
  table = table performed;
  order = 0 ∷ 0 ∷ [];
  others = others;
  refused = λ h. h.0 (here refl);
}
  where
    zero : {k : ℕ} → In k (0 ∷ 0 ∷ []) → 0 ≡ k
    zero (here p) = p
    zero (there h) = just h

    others : (g : Field) → ¬ (g ≡ once) → Says tiny performed (answers performed) (table performed) (0 ∷ 0 ∷ []) g
    others only d = λ k h. performed_there (zero h)
    others reported d = λ k n r. absurd (performed_none r)
    others applied d = λ k i h. here (performed_only k i h)
    others once d = absurd (d refl)
    others tasks d = λ j k x y t l. let a = zero x in let b = zero y in absurd (omega arith)
    others gives d = λ k n r. absurd (performed_none r)
    others copies d = one_copy (λ x i. (rest : List ℕ) × (filter (updates tiny performed x) (0 ∷ 0 ∷ []) ≡ filter (updates tiny performed x) (applied_on tiny performed i) ++ rest)) (0 ∷ [], performed_twice)
    others copy_values d = one_copy (λ x i. table performed i x ≡ made_of_zero tiny performed (filter (updates tiny performed x) (applied_on tiny performed i))) performed_value

-- a table that was left as it was
pub copy_values_needed : Needed copy_values
copy_values_needed = record {
  P = tiny;
  accepted = tiny_accepted;
  steps = performed;
  answers = answers performed;
  table = λ i x. 0;
  order = 0 ∷ [];
  others = others;
  refused = λ h. let e = h 0 0 has_copy ∙ performed_five in omega arith;
}
  where
    others : (g : Field) → ¬ (g ≡ copy_values) → Says tiny performed (answers performed) (λ i x. 0) (0 ∷ []) g
    others only d = λ k h. performed_there (just h)
    others reported d = λ k n r. absurd (performed_none r)
    others applied d = λ k i h. here (performed_only k i h)
    others once d = ((λ h. any_nil h), tt)
    others tasks d = λ j k x y t l. let a = just x in let b = just y in absurd (omega arith)
    others gives d = λ k n r. absurd (performed_none r)
    others copies d = one_copy (λ x i. (rest : List ℕ) × (filter (updates tiny performed x) (0 ∷ []) ≡ filter (updates tiny performed x) (applied_on tiny performed i) ++ rest)) ([], performed_shows)
    others copy_values d = absurd (d refl)

-- an order without an update that a card has applied is refused by `applied`
pub applied_refuses : (a : List Answer) (t : ℕ → ℕ → ℕ) → ¬ SerialOrder tiny performed a t []
applied_refuses a t X = any_nil (X.applied 0 0 (subst (In 0) (sym (performed_applies 0)) (here refl)))
