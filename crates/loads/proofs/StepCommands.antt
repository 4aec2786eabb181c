-- A drawn step decodes to the command that its draws make, and takes as many draws.
use Prim.Native.Nat.{ℕ, zero, suc, ◌+◌, ◌%◌, ◌≤◌, ◌<◌}
use mathlib.Core.Path.{◌≡◌, refl}
use mathlib.Core.Bool.{true}
use mathlib.Core.List.{[], ◌∷◌}
use native.Mathlib.Omega.{arith}
use native.Mathlib.Nat.{mod-lt}
use borrow.Author.Tests.{lt-ltb, le-leb}
use lib.Dec.{ltb}
use Rattle.lists.specs.Loops.{turns}
use Rattle.lists.specs.Tests.{and_intro}
use Rattle.names.specs.Placement.{Placement, tasks, registers}
use Rattle.names.specs.Update.{known_function}
use Rattle.claims.specs.Command.{request_read, request_update}
use Rattle.claims.specs.Steps.{RawStep, good, names_task, names_card, names_register, names_chosen, names_function, operand, unnamed_zero, known, command_of, task_there, register_there, card_there, function_there, decode}
use Rattle.runfile.specs.AnswerFile.{four_bytes}
use Rattle.loads.specs.Load.{next, draw, fields, place, bytes, after_fields, after_step, code_from, drawn, filled, step_from}
use Rattle.loads.specs.LoadMeaning.{command_drawn, draws_taken}
use Rattle.loads.proofs.ClosedForm.{gone, draw_small}

-- draw j from a state on
abbrev pub from : ℕ → ℕ → ℕ
from s j = draw (gone s j)

function_there_lem : (d : ℕ) → known_function (1 + d % 5) ≡ true
unfolding known_function
function_there_lem d = and_intro (le-leb 1 (1 + d % 5) (omega arith)) (le-leb (1 + d % 5) 5 (omega arith))

operand_is : (a b c w : ℕ) → w < 65536 → operand (a ∷ b ∷ c ∷ 0 ∷ four_bytes w) ≡ w
unfolding operand
operand_is a b c w h = omega arith

module _ (P : Placement) where
  read_decodes : (t x : ℕ) → ltb t (tasks P) ≡ true → ltb x (registers P) ≡ true → decode P (record { code = 1; argument = t ∷ x ∷ 0 ∷ 0 ∷ 0 ∷ 0 ∷ 0 ∷ 0 ∷ [] }) ≡ good (request_read t x)
  unfolding decode known unnamed_zero names_task names_card names_register names_chosen names_function task_there register_there card_there function_there command_of
  read_decodes t x h k = rw (h, k)

  update_decodes : (t x f w : ℕ) → ltb t (tasks P) ≡ true → ltb x (registers P) ≡ true → known_function f ≡ true → w < 65536 → decode P (record { code = 2; argument = t ∷ x ∷ f ∷ 0 ∷ four_bytes w }) ≡ good (request_update t x f w)
  unfolding decode known unnamed_zero names_task names_card names_register names_chosen names_function task_there register_there card_there function_there command_of
  update_decodes t x f w h k g l = rw (h, k, g, operand_is t x f w l)

module _ (P : Placement) (s : ℕ) (some_cards : 1 ≤ P.cards) (some_registers : 1 ≤ registers P) (some_tasks : 1 ≤ tasks P) where
  abbrev step : RawStep
  step = step_from P.cards (registers P) (tasks P) s

  below : (d m : ℕ) → 1 ≤ m → ltb (d % m) m ≡ true
  below d m h = lt-ltb (d % m) m (mod-lt d {m = m} (omega arith))

  abbrev task_there_lem : ltb (draw (next s) % tasks P) (tasks P) ≡ true
  task_there_lem = below (draw (next s)) (tasks P) some_tasks

  abbrev card_there_lem : ltb (draw (next s) % P.cards) P.cards ≡ true
  card_there_lem = below (draw (next s)) P.cards some_cards

  by_code : (v : ℕ) → draw s % 10 ≡ v → v < 10 → decode P step ≡ good (command_drawn P (from s))
  unfolding code_from fields filled place bytes drawn turns decode known unnamed_zero names_task names_card names_register names_chosen names_function task_there register_there card_there function_there command_of
  by_code zero e h = rw e (read_decodes P (draw (next s) % tasks P) (draw (next (next s)) % registers P) task_there_lem (below (draw (next (next s))) (registers P) some_registers))
  by_code (suc zero) e h =
      rw e
      (update_decodes P (draw (next s) % tasks P) (draw (next (next s)) % registers P) (1 + draw (next (next (next s))) % 5) (draw (next (next (next (next s)))))
      task_there_lem (below (draw (next (next s))) (registers P) some_registers) (function_there_lem (draw (next (next (next s))))) (draw_small (next (next (next (next s))))))
  by_code (suc (suc zero)) e h = rw (e, task_there_lem)
  by_code (suc (suc (suc zero))) e h = rw (e, task_there_lem, below (draw (next (next s))) P.cards some_cards)
  by_code (suc (suc (suc (suc zero)))) e h = rw (e, task_there_lem)
  by_code (suc (suc (suc (suc (suc zero))))) e h = rw (e, card_there_lem)
  by_code (suc (suc (suc (suc (suc (suc zero)))))) e h = rw (e, card_there_lem)
  by_code (suc (suc (suc (suc (suc (suc (suc zero))))))) e h = rw (e, task_there_lem)
  by_code (suc (suc (suc (suc (suc (suc (suc (suc zero)))))))) e h = rw (e, card_there_lem)
  by_code (suc (suc (suc (suc (suc (suc (suc (suc (suc zero))))))))) e h = rw (e, task_there_lem)
  by_code (suc (suc (suc (suc (suc (suc (suc (suc (suc (suc v)))))))))) e h = absurd (omega arith)

  by_draws : (v : ℕ) → draw s % 10 ≡ v → v < 10 → after_step s ≡ gone s (draws_taken P (from s))
  unfolding code_from fields after_fields after_step turns
  by_draws zero e h = rw e
  by_draws (suc zero) e h = rw e
  by_draws (suc (suc zero)) e h = rw e
  by_draws (suc (suc (suc zero))) e h = rw e
  by_draws (suc (suc (suc (suc zero)))) e h = rw e
  by_draws (suc (suc (suc (suc (suc zero))))) e h = rw e
  by_draws (suc (suc (suc (suc (suc (suc zero)))))) e h = rw e
  by_draws (suc (suc (suc (suc (suc (suc (suc zero))))))) e h = rw e
  by_draws (suc (suc (suc (suc (suc (suc (suc (suc zero)))))))) e h = rw e
  by_draws (suc (suc (suc (suc (suc (suc (suc (suc (suc zero))))))))) e h = rw e
  by_draws (suc (suc (suc (suc (suc (suc (suc (suc (suc (suc v)))))))))) e h = absurd (omega arith)

  pub step_draws : after_step s ≡ gone s (draws_taken P (from s))
  step_draws = by_draws (draw s % 10) refl (omega arith)

  pub step_command : decode P step ≡ good (command_drawn P (from s))
  step_command = by_code (draw s % 10) refl (omega arith)
