-- Demand 3 is not hollow: of K2's steps no other answer to the read than 5 is explained, nor another value of the copy than 5; and where 5 is added
-- twice, no other answer to the second update than 5. So neither a store that answers 0 to each read or to each update, nor one that tells the value
-- after an update, nor one that refuses all, nor one that leaves its table as it was, is.
use Prim.Native.Nat.{suc, zero, ℕ}
use lib.ListN.{drop, take}
use lib.Dec.{eqb}
use mathlib.Core.Bool.{false≢true, true, ◌&&◌}
use mathlib.Core.List.{List, [], ◌++◌, ◌∷◌}
use mathlib.Core.Option.{some}
use mathlib.Core.Path.{ap, refl, subst, sym, ◌∙◌, ◌≡◌}
use native.Mathlib.Omega.{arith}
use Rattle.lists.specs.Counting.{filter_once, once_front, once_left, only_one}
use Rattle.lists.specs.Every.{each}
use Rattle.lists.specs.Filters.{Precedes, filter, filter_in, in_filter, keep}
use Rattle.lists.specs.Histories.{In}
use Rattle.lists.specs.Loops.{total, turns}
use Rattle.lists.specs.Places.{nth}
use Rattle.lists.specs.Queues.{Once}
use Rattle.names.specs.CardSet.{just_of, member_of, several, single, size_of, sole_of}
use Rattle.names.specs.Placement.{copy}
use Rattle.names.specs.Update.{known_function, larger_of, raised, sum_of, updated}
use Rattle.claims.specs.Ledger.{Op, op_at, read_op, update_op}
use Rattle.claims.specs.NamedRuns.{k2, step, tiny}
use Rattle.claims.specs.PublishedRun.{Answer}
use Rattle.claims.specs.SerialOrder.{Explained, ReportedAt, SerialOrder, applied_on, book, made_of_zero, op, updates}
use Rattle.claims.specs.Steps.{RawStep, card_there, command_of, decode, function_there, known, names_card, names_chosen, names_function, names_register, names_task, operand, register_there, task_there, unnamed_zero}

abbrev first : Op
first = update_op tiny 0 0 2 5

-- ---- two operations of task 0 on register 0, of which the first adds 5 and the second finds or reads what it made

module _ (steps : List RawStep) (second : Op) (ops_are : (book tiny steps).ops ≡ first ∷ second ∷ []) (mine : second.task ≡ 0) (on : second.reg ≡ 0)
    (reported_first : ReportedAt tiny steps 0 2) (reported_second : ReportedAt tiny steps 1 5) (five : made_of_zero tiny steps (0 ∷ []) ≡ 5)
    (answers : List Answer) (table : ℕ → ℕ → ℕ) (order : List ℕ) (X : SerialOrder tiny steps answers table order) where
  updates_are : (k : ℕ) → updates tiny steps 0 k ≡ ((op_at (first ∷ second ∷ []) k).upd && eqb (op_at (first ∷ second ∷ []) k).reg 0)
  updates_are k = ap (λ ops. (op_at ops k).upd && eqb (op_at ops k).reg 0) ops_are

  only_zero : (k : ℕ) → ((op_at (first ∷ second ∷ []) k).upd && eqb (op_at (first ∷ second ∷ []) k).reg 0) ≡ true → ¬ (1 ≡ k) → k ≡ 0
  only_zero zero e n = refl
  only_zero (suc zero) e n = absurd (n refl)
  only_zero (suc (suc k)) e n = absurd (false≢true e)

  one_task : (op tiny steps 0).task ≡ (op tiny steps 1).task
  one_task = ap (λ ops. (op_at ops 0).task) ops_are ∙ sym mine ∙ sym (ap (λ ops. (op_at ops 1).task) ops_are)

  -- the updates ahead of operation 1
  ahead : (pre post : List ℕ) → order ≡ pre ++ 1 ∷ post → In 0 pre → filter (updates tiny steps 0) pre ≡ 0 ∷ []
  ahead pre post e h =
      let o = subst Once e X.once in
      only_one 0 (filter (updates tiny steps 0) pre) (filter_once (updates tiny steps 0) pre (once_left pre (1 ∷ post) o))
      (λ k x.
      let f = filter_in (updates tiny steps 0) pre x in
      only_zero k (sym (updates_are k) ∙ f.1) (λ q. once_front pre post 1 o (subst (λ j. In j pre) (sym q) f.0)))
      (in_filter (updates tiny steps 0) h (updates_are 0))

  pub second_gives : nth answers 5 ≡ some (record { result = 0; value = 5 })
  second_gives = go (X.tasks 0 1 (X.reported 0 2 reported_first) (X.reported 1 5 reported_second) one_task (omega arith))
    where
      go : Precedes 0 1 order → nth answers 5 ≡ some (record { result = 0; value = 5 })
      go (pre, post, e, h) =
          X.gives 1 5 reported_second pre post e
          ∙ ap (λ x. some (record { result = 0; value = made_of_zero tiny steps (filter (updates tiny steps x) pre) })) (ap (λ ops. (op_at ops 1).reg) ops_are ∙ on)
          ∙ ap (λ l. some (record { result = 0; value = made_of_zero tiny steps l })) (ahead pre post e h)
          ∙ ap (λ v. some (record { result = 0; value = v })) five

-- ---- K2: the second is a read

k2_ops : (book tiny k2).ops ≡ first ∷ read_op tiny 0 0 ∷ []
unfolding decode known unnamed_zero task_there register_there card_there function_there known_function names_task names_card names_register names_chosen names_function operand command_of each member_of several single size_of sole_of just_of total turns updated raised larger_of sum_of
k2_ops = refl

applied_are : applied_on tiny k2 0 ≡ 0 ∷ []
unfolding decode known unnamed_zero task_there register_there card_there function_there known_function names_task names_card names_register names_chosen names_function operand command_of each member_of several single size_of sole_of just_of total turns updated raised larger_of sum_of
applied_are = refl

pub reported_0 : ReportedAt tiny k2 0 2
unfolding decode known unnamed_zero task_there register_there card_there function_there known_function names_task names_card names_register names_chosen names_function operand command_of each member_of several single size_of sole_of just_of total turns updated raised larger_of sum_of
reported_0 = record { before = take 2 k2; it = step 10 (0 ∷ []); after = drop 3 k2; whole = refl; place= = refl; task = 0; taken = refl }

pub reported_1 : ReportedAt tiny k2 1 5
unfolding decode known unnamed_zero task_there register_there card_there function_there known_function names_task names_card names_register names_chosen names_function operand command_of each member_of several single size_of sole_of just_of total turns updated raised larger_of sum_of
reported_1 = record { before = take 5 k2; it = step 10 (0 ∷ []); after = []; whole = refl; place= = refl; task = 0; taken = refl }

k2_five : made_of_zero tiny k2 (0 ∷ []) ≡ 5
unfolding decode known unnamed_zero task_there register_there card_there function_there known_function names_task names_card names_register names_chosen names_function operand command_of each member_of several single size_of sole_of just_of total turns updated raised larger_of sum_of
k2_five = refl

has_copy : copy tiny 0 0 ≡ true
unfolding decode known unnamed_zero task_there register_there card_there function_there known_function names_task names_card names_register names_chosen names_function operand command_of each member_of several single size_of sole_of just_of total turns updated raised larger_of sum_of
has_copy = refl

pub k2_forced : (answers : List Answer) (table : ℕ → ℕ → ℕ) → Explained tiny k2 answers table → (nth answers 5 ≡ some (record { result = 0; value = 5 })) × (table 0 0 ≡ 5)
k2_forced answers table (order, X) = (second_gives k2 (read_op tiny 0 0) k2_ops refl refl reported_0 reported_1 k2_five answers table order X, value)
  where
    shown_zero : filter (updates tiny k2 0) (0 ∷ []) ≡ 0 ∷ []
    shown_zero = ap (λ ops. keep ((op_at ops 0).upd && eqb (op_at ops 0).reg 0) 0 []) k2_ops

    value : table 0 0 ≡ 5
    value = X.copy_values 0 0 has_copy ∙ ap (λ l. made_of_zero tiny k2 (filter (updates tiny k2 0) l)) applied_are ∙ ap (made_of_zero tiny k2) shown_zero ∙ k2_five

-- ---- 5 is added twice

abbrev pub adds : List RawStep
adds = take 3 k2 ++ take 3 k2

adds_ops : (book tiny adds).ops ≡ first ∷ first ∷ []
unfolding decode known unnamed_zero task_there register_there card_there function_there known_function names_task names_card names_register names_chosen names_function operand command_of each member_of several single size_of sole_of just_of total turns updated raised larger_of sum_of
adds_ops = refl

adds_0 : ReportedAt tiny adds 0 2
unfolding decode known unnamed_zero task_there register_there card_there function_there known_function names_task names_card names_register names_chosen names_function operand command_of each member_of several single size_of sole_of just_of total turns updated raised larger_of sum_of
adds_0 = record { before = take 2 adds; it = step 10 (0 ∷ []); after = drop 3 adds; whole = refl; place= = refl; task = 0; taken = refl }

adds_1 : ReportedAt tiny adds 1 5
unfolding decode known unnamed_zero task_there register_there card_there function_there known_function names_task names_card names_register names_chosen names_function operand command_of each member_of several single size_of sole_of just_of total turns updated raised larger_of sum_of
adds_1 = record { before = take 5 adds; it = step 10 (0 ∷ []); after = []; whole = refl; place= = refl; task = 0; taken = refl }

adds_five : made_of_zero tiny adds (0 ∷ []) ≡ 5
unfolding decode known unnamed_zero task_there register_there card_there function_there known_function names_task names_card names_register names_chosen names_function operand command_of each member_of several single size_of sole_of just_of total turns updated raised larger_of sum_of
adds_five = refl

pub adds_forced : (answers : List Answer) (table : ℕ → ℕ → ℕ) → Explained tiny adds answers table → nth answers 5 ≡ some (record { result = 0; value = 5 })
adds_forced answers table (order, X) = second_gives adds first adds_ops refl refl adds_0 adds_1 adds_five answers table order X
