-- The step that a code and its argument are, among a placement's cards, registers and tasks, is the one that the published algorithm reads;
-- and what a decoded step names is in range.
use Prim.Native.Nat.{ℕ, ◌+◌, ◌<◌, ◌≤◌}
use Rattle.std.specs.Prelude.{Result, Ok, Err}
use mathlib.Core.Path.{◌≡◌, refl, sym, ap, ◌∙◌, subst}
use mathlib.Core.Logic.{◌≢◌}
use mathlib.Core.Bool.{Bool, true, false, cond, ◌&&◌}
use mathlib.Core.List.{List, [], ◌∷◌}
use native.Mathlib.Decide.{ℕ_discrete}
use native.Mathlib.Omega.{arith}
use borrow.Author.Tests.{ltb-true, ne_eqb, lt-leb}
use lib.Dec.{eqb, ltb, leb}
use lib.ListN.{get_or}
use Rattle.lists.specs.Tests.{and_false, past}
use Rattle.names.specs.Placement.{Placement, tasks, registers}
use Rattle.names.specs.Update.{known_function}
use Rattle.names.specs.declared.refusals.Refusal.{Refusal}
use Rattle.names.specs.declared.refusals.Refusal.TheVariants.{NoStep, NotZero, NoTask, NoRegister, NoCard, NoFunction}
use Rattle.names.specs.Refusals.{refusal_number}
use Rattle.names.proofs.RefusalsMeaning.{refusals_meaning}
use Rattle.claims.specs.Command.{request_read, send_read}
use Rattle.claims.specs.Steps.{good, need, zeros, names_task, names_card, names_register, names_chosen, names_function, operand, unnamed_zero, known, command_of, task_there, register_there, card_there, function_there, decode}
use Rattle.commands.specs.declared.Command.{Command}
use Rattle.commands.specs.declared.Command.TheVariants.{RequestRead, RequestUpdate, Perform, SendRead, SendUpdate, Dispatch, TakeBroadcast, TakeSingle, Deliver, Report}
pub use Rattle.commands.specs.Shown.{command_shown, decoded_shown, InRange, DecodedInRange}
use Rattle.commands.specs.Decode.{task_in, card_in, register_in, chosen_in, function_in, operand_in, rest_zero, decided, alone_judged, task_judged, card_judged, pair_judged, read_judged, chosen_judged, update_judged, decode_of}

-- ---- tests in another order

rest : (p q r s t u : Bool) → (p && (r && (s && (t && (u && true)))) && q) ≡ (p && q && r && s && t && u)
rest false q r s t u = refl
rest true false r s t u = and_false (r && (s && (t && (u && true))))
rest true true false s t u = refl
rest true true true false t u = refl
rest true true true true false u = refl
rest true true true true true false = refl
rest true true true true true true = refl

rest_is : (a : List ℕ) → (zeros a (2 ∷ 4 ∷ 5 ∷ 6 ∷ 7 ∷ []) && eqb (get_or a 3 0) 0) ≡ rest_zero a
unfolding rest_zero
rest_is a = rest (eqb (get_or a 2 0) 0) (eqb (get_or a 3 0) 0) (eqb (get_or a 4 0) 0) (eqb (get_or a 5 0) 0) (eqb (get_or a 6 0) 0) (eqb (get_or a 7 0) 0)

alone_is : (a : List ℕ) → (eqb (get_or a 1 0) 0 && zeros a (2 ∷ 4 ∷ 5 ∷ 6 ∷ 7 ∷ []) && eqb (get_or a 3 0) 0) ≡ (eqb (get_or a 1 0) 0 && rest_zero a)
alone_is a = go (eqb (get_or a 1 0) 0)
  where
    go : (b : Bool) → (b && zeros a (2 ∷ 4 ∷ 5 ∷ 6 ∷ 7 ∷ []) && eqb (get_or a 3 0) 0) ≡ (b && rest_zero a)
    go true = rest_is a
    go false = refl

-- ---- the tests of each kind of step

two : (absent : Refusal) (p b c : Bool) (C : Command) → decoded_shown (decided (cond p (cond b (cond c (Ok tt) (Err absent)) (Err NotZero)) (Err NotZero)) C)
    ≡ need (p && b) 11 (need c (refusal_number absent) (decoded_shown (Ok C)))
unfolding decided
two absent true true true C = refl
two absent true true false C = refl
two absent true false c C = refl
two absent false b c C = refl

three : (absent : Refusal) (b c d : Bool) (C : Command) → decoded_shown (decided (cond b (cond c (cond d (Ok tt) (Err absent)) (Err NoTask)) (Err NotZero)) C)
    ≡ need b 11 (need c 12 (need d (refusal_number absent) (decoded_shown (Ok C))))
unfolding decided
three absent true true true C = refl
three absent true true false C = refl
three absent true false d C = refl
three absent false c d C = refl

four : (b c d e : Bool) (C : Command) → decoded_shown (decided (cond b (cond c (cond d (cond e (Ok tt) (Err NoFunction)) (Err NoRegister)) (Err NoTask)) (Err NotZero)) C)
    ≡ need b 11 (need c 12 (need d 13 (need e 15 (decoded_shown (Ok C)))))
unfolding decided
four true true true true C = refl
four true true true false C = refl
four true true false e C = refl
four true false d e C = refl
four false c d e C = refl

and_true : (b : Bool) → (b && true) ≡ b
and_true true = refl
and_true false = refl

module _ (P : Placement) (a : List ℕ) where
  abbrev at : ℕ → Type 0
  at n = decoded_shown (decode_of n a P.cards (registers P) (tasks P)) ≡ decode P (record { code = n; argument = a })

  task_alone : (C : Command) → decoded_shown (decided (task_judged a (tasks P)) C)
      ≡ need (eqb (get_or a 1 0) 0 && zeros a (2 ∷ 4 ∷ 5 ∷ 6 ∷ 7 ∷ []) && eqb (get_or a 3 0) 0) 11 (need (ltb (get_or a 0 0) (tasks P)) 12 (decoded_shown (Ok C)))
  unfolding alone_judged
  task_alone C = rw (alone_is a) (two NoTask (eqb (get_or a 1 0) 0) (rest_zero a) (ltb (get_or a 0 0) (tasks P)) C)

  card_alone : (C : Command) → decoded_shown (decided (card_judged a P.cards) C)
      ≡ need (eqb (get_or a 1 0) 0 && zeros a (2 ∷ 4 ∷ 5 ∷ 6 ∷ 7 ∷ []) && eqb (get_or a 3 0) 0) 11 (need (ltb (get_or a 0 0) P.cards && true) 14 (decoded_shown (Ok C)))
  unfolding alone_judged
  card_alone C = rw (alone_is a, and_true (ltb (get_or a 0 0) P.cards)) (two NoCard (eqb (get_or a 1 0) 0) (rest_zero a) (ltb (get_or a 0 0) P.cards) C)

  at_1 : at 1
  unfolding decode_of decode known unnamed_zero task_there register_there card_there function_there names_task names_card names_register names_chosen names_function command_of pair_judged
  at_1 = three NoRegister (rest_zero a) (ltb (get_or a 0 0) (tasks P)) (ltb (get_or a 1 0) (registers P)) (RequestRead (task_in a) (register_in a))
      ∙ ap (λ b. need b 11 (need (ltb (get_or a 0 0) (tasks P)) 12 (need (ltb (get_or a 1 0) (registers P)) 13 (good (request_read (get_or a 0 0) (get_or a 1 0)))))) (sym (rest_is a))

  at_2 : at 2
  unfolding decode_of decode known unnamed_zero task_there register_there card_there function_there names_task names_card names_register names_chosen names_function command_of update_judged operand_in operand
  at_2 = four (eqb (get_or a 3 0) 0) (ltb (get_or a 0 0) (tasks P)) (ltb (get_or a 1 0) (registers P)) (known_function (get_or a 2 0))
      (RequestUpdate (task_in a) (register_in a) (function_in a) (operand_in a))

  at_3 : at 3
  unfolding decode_of decode known unnamed_zero task_there register_there card_there function_there names_task names_card names_register names_chosen names_function command_of
  at_3 = task_alone (Perform (task_in a))

  at_4 : at 4
  unfolding decode_of decode known unnamed_zero task_there register_there card_there function_there names_task names_card names_register names_chosen names_function command_of pair_judged
  at_4 = three NoCard (rest_zero a) (ltb (get_or a 0 0) (tasks P)) (ltb (get_or a 1 0) P.cards) (SendRead (task_in a) (chosen_in a))
      ∙ ap (λ b. need b 11 (need (ltb (get_or a 0 0) (tasks P)) 12 (need (ltb (get_or a 1 0) P.cards) 14 (good (send_read (get_or a 0 0) (get_or a 1 0)))))) (sym (rest_is a))

  at_5 : at 5
  unfolding decode_of decode known unnamed_zero task_there register_there card_there function_there names_task names_card names_register names_chosen names_function command_of
  at_5 = task_alone (SendUpdate (task_in a))

  at_6 : at 6
  unfolding decode_of decode known unnamed_zero task_there register_there card_there function_there names_task names_card names_register names_chosen names_function command_of
  at_6 = card_alone (Dispatch (card_in a))

  at_7 : at 7
  unfolding decode_of decode known unnamed_zero task_there register_there card_there function_there names_task names_card names_register names_chosen names_function command_of
  at_7 = card_alone (TakeBroadcast (card_in a))

  at_8 : at 8
  unfolding decode_of decode known unnamed_zero task_there register_there card_there function_there names_task names_card names_register names_chosen names_function command_of
  at_8 = task_alone (TakeSingle (task_in a))

  at_9 : at 9
  unfolding decode_of decode known unnamed_zero task_there register_there card_there function_there names_task names_card names_register names_chosen names_function command_of
  at_9 = card_alone (Deliver (card_in a))

  at_10 : at 10
  unfolding decode_of decode known unnamed_zero task_there register_there card_there function_there names_task names_card names_register names_chosen names_function command_of
  at_10 = task_alone (Report (task_in a))

  -- a code from 1 to 10, or another
  at_0 : at 0
  unfolding decode_of decode known
  at_0 = refl

  beyond : (n : ℕ) → 11 ≤ n → at n
  unfolding decode_of decode known
  beyond n h =
      rw (
        ne_eqb n 1 (omega arith),
        ne_eqb n 2 (omega arith),
        ne_eqb n 3 (omega arith),
        ne_eqb n 4 (omega arith),
        ne_eqb n 5 (omega arith),
        ne_eqb n 6 (omega arith),
        ne_eqb n 7 (omega arith),
        ne_eqb n 8 (omega arith),
        ne_eqb n 9 (omega arith),
        ne_eqb n 10 (omega arith),
        lt-leb n 10 (omega arith),
        and_false (leb 1 n),
      )

  pub decode_is : (n : ℕ) → at n
  decode_is n =
      pick 0 n at_0 (omega arith) (λ h. pick 1 n at_1 h (λ h. pick 2 n at_2 h (λ h. pick 3 n at_3 h (λ h. pick 4 n at_4 h (λ h. pick 5 n at_5 h
      (λ h. pick 6 n at_6 h (λ h. pick 7 n at_7 h (λ h. pick 8 n at_8 h (λ h. pick 9 n at_9 h (λ h. pick 10 n at_10 h (λ h. beyond n h)))))))))))
    where
      pick : (k n : ℕ) → at k → k ≤ n → (k + 1 ≤ n → at n) → at n
      pick k n y h f = go (ℕ_discrete n k)
        where
          go : Dec (n ≡ k) → at n
          go (yes e) = subst at (sym e) y
          go (no e) = f (past k n h e)

-- ---- what a decoded step names is in range

refused : (r : Refusal) → refusal_number r ≢ 0
refused r = (refusals_meaning.not_taken r).0

module _ (cards registers tasks : ℕ) where
  either : (b : Bool) (d e : Result Command Refusal) → DecodedInRange cards registers tasks d → DecodedInRange cards registers tasks e → DecodedInRange cards registers tasks (cond b d e)
  either true d e x y = x
  either false d e x y = y

  range_two : (absent : Refusal) (p b c : Bool) (C : Command) → (c ≡ true → InRange cards registers tasks C)
      → DecodedInRange cards registers tasks (decided (cond p (cond b (cond c (Ok tt) (Err absent)) (Err NotZero)) (Err NotZero)) C)
  unfolding decided
  range_two absent true true true C f = f refl
  range_two absent true true false C f = refused absent
  range_two absent true false c C f = refused NotZero
  range_two absent false b c C f = refused NotZero

  range_three : (absent : Refusal) (b c d : Bool) (C : Command) → (c ≡ true → d ≡ true → InRange cards registers tasks C)
      → DecodedInRange cards registers tasks (decided (cond b (cond c (cond d (Ok tt) (Err absent)) (Err NoTask)) (Err NotZero)) C)
  unfolding decided
  range_three absent true true true C f = f refl refl
  range_three absent true true false C f = refused absent
  range_three absent true false d C f = refused NoTask
  range_three absent false c d C f = refused NotZero

  range_four : (b c d e : Bool) (C : Command) → (c ≡ true → d ≡ true → e ≡ true → InRange cards registers tasks C)
      → DecodedInRange cards registers tasks (decided (cond b (cond c (cond d (cond e (Ok tt) (Err NoFunction)) (Err NoRegister)) (Err NoTask)) (Err NotZero)) C)
  unfolding decided
  range_four true true true true C f = f refl refl refl
  range_four true true true false C f = refused NoFunction
  range_four true true false e C f = refused NoRegister
  range_four true false d e C f = refused NoTask
  range_four false c d e C f = refused NotZero

  task_range : (a : List ℕ) (C : Command) → (get_or a 0 0 < tasks → InRange cards registers tasks C) → DecodedInRange cards registers tasks (decided (task_judged a tasks) C)
  unfolding alone_judged
  task_range a C f = range_two NoTask (eqb (get_or a 1 0) 0) (rest_zero a) (ltb (get_or a 0 0) tasks) C (λ e. f (ltb-true _ _ e))

  card_range : (a : List ℕ) (C : Command) → (get_or a 0 0 < cards → InRange cards registers tasks C) → DecodedInRange cards registers tasks (decided (card_judged a cards) C)
  unfolding alone_judged
  card_range a C f = range_two NoCard (eqb (get_or a 1 0) 0) (rest_zero a) (ltb (get_or a 0 0) cards) C (λ e. f (ltb-true _ _ e))

  read_range : (a : List ℕ) → DecodedInRange cards registers tasks (decided (read_judged a registers tasks) (RequestRead (task_in a) (register_in a)))
  unfolding pair_judged
  read_range a = range_three NoRegister (rest_zero a) (ltb (get_or a 0 0) tasks) (ltb (get_or a 1 0) registers) (RequestRead (task_in a) (register_in a))
      (λ e g. (ltb-true _ _ e, ltb-true _ _ g))

  chosen_range : (a : List ℕ) → DecodedInRange cards registers tasks (decided (chosen_judged a cards tasks) (SendRead (task_in a) (chosen_in a)))
  unfolding pair_judged
  chosen_range a = range_three NoCard (rest_zero a) (ltb (get_or a 0 0) tasks) (ltb (get_or a 1 0) cards) (SendRead (task_in a) (chosen_in a))
      (λ e g. (ltb-true _ _ e, ltb-true _ _ g))

  update_range : (a : List ℕ) → DecodedInRange cards registers tasks (decided (update_judged a registers tasks) (RequestUpdate (task_in a) (register_in a) (function_in a) (operand_in a)))
  unfolding update_judged
  update_range a = range_four (eqb (get_or a 3 0) 0) (ltb (get_or a 0 0) tasks) (ltb (get_or a 1 0) registers) (known_function (get_or a 2 0))
      (RequestUpdate (task_in a) (register_in a) (function_in a) (operand_in a)) (λ c d e. (ltb-true _ _ c, ltb-true _ _ d, e))

  pub decode_range : (code : ℕ) (a : List ℕ) → DecodedInRange cards registers tasks (decode_of code a cards registers tasks)
  unfolding decode_of
  decode_range code a =
      either (eqb code 1) _ _ (read_range a)
      (either (eqb code 2) _ _ (update_range a)
      (either (eqb code 3) _ _ (task_range a (Perform (task_in a)) (λ h. h))
      (either (eqb code 4) _ _ (chosen_range a)
      (either (eqb code 5) _ _ (task_range a (SendUpdate (task_in a)) (λ h. h))
      (either (eqb code 6) _ _ (card_range a (Dispatch (card_in a)) (λ h. h))
      (either (eqb code 7) _ _ (card_range a (TakeBroadcast (card_in a)) (λ h. h))
      (either (eqb code 8) _ _ (task_range a (TakeSingle (task_in a)) (λ h. h))
      (either (eqb code 9) _ _ (card_range a (Deliver (card_in a)) (λ h. h))
      (either (eqb code 10) _ _ (task_range a (Report (task_in a)) (λ h. h))
      (refused NoStep))))))))))
