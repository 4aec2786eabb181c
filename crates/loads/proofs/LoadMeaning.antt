-- A load means what specs/LoadMeaning says.
use Prim.Native.Nat.{ℕ, zero, suc, ◌+◌, ◌≤◌}
use mathlib.Core.Path.{◌≡◌, refl, sym, ap, ap₂, ◌∙◌, subst, fun_ext}
use mathlib.Core.List.{List, ◌∷◌, map}
use native.Mathlib.Omega.{arith}
use Rattle.lists.specs.Histories.{In}
use Rattle.lists.specs.Loops.{turns_zero, turns_suc}
use Rattle.names.specs.Placement.{Placement, tasks, registers, placement_refusal}
use Rattle.names.specs.declared.Answer.{Answer}
use Rattle.names.proofs.PlacementLaws.{Sized, Placed, accepted_is}
use Rattle.claims.specs.Steps.{RawStep, good, decode}
use Rattle.claims.specs.Found.{Found, begin}
use Rattle.claims.specs.FoundRun.{answers_from}
use Rattle.store.specs.SideBySide.{Stands, result_of}
use Rattle.store.proofs.SideBySide.{demand_2}
use Rattle.runfile.specs.RunFile.{RunFile, run_file_in, file_refusal, file_bytes, size_bytes, placement_bytes}
use Rattle.runfile.specs.Run.{answers_in}
use Rattle.runfile.specs.ComposeMeaning.{SizedTables, ReadBack}
use Rattle.runfile.proofs.HeadLaws.{in_range_lem}
use Rattle.runfile.proofs.ComposeNumbers.{sized_tables}
use Rattle.runfile.proofs.ReadBack.{read_back}
use Rattle.loads.specs.Load.{next, draw, fields, place, bytes, code_from, after_fields, after_step, drawn, filled, steps_from, load_of, load_file}
use Rattle.loads.specs.LoadMeaning.{draw_at, command_drawn, draws_taken, commands_drawn, load_tables, LoadMeaning, LoadComputed}
use Rattle.loads.proofs.LoadTables.{same_file, run_back, sized_alike, same_said, same_output}
use Rattle.loads.proofs.ClosedForm.{gone, draws_closed}
use Rattle.loads.proofs.StepCommands.{from, step_command, step_draws}
use Rattle.loads.proofs.WellFormed.{Ill, Commands, not_ill, commands_in, run_not_ill}

-- m turns, then j
gone_more : (seed m j : ℕ) → gone (gone seed m) j ≡ gone seed (m + j)
gone_more seed m zero = let e : m ≡ m + 0 = omega arith in turns_zero (λ _ s. next s) (gone seed m) ∙ ap (gone seed) e
gone_more seed m (suc j) =
    let e : suc (m + j) ≡ m + suc j = omega arith in
    turns_suc (λ _ s. next s) j (gone seed m) ∙ ap next (gone_more seed m j) ∙ sym (turns_suc (λ _ s. next s) (m + j) seed) ∙ ap (gone seed) e

-- the draws from the state after m turns
from_is : (seed m : ℕ) → from (gone seed m) ≡ (λ j. draw_at seed (m + j))
from_is seed m = fun_ext (λ j. ap draw (gone_more seed m j) ∙ draws_closed seed (m + j))

module _ (seed : ℕ) (P : Placement) (c : 1 ≤ P.cards) (r : 1 ≤ registers P) (k : 1 ≤ tasks P) where
  commands_from : (n m : ℕ) → map (decode P) (steps_from P.cards (registers P) (tasks P) n (gone seed m)) ≡ map good (commands_drawn P (draw_at seed) n m)
  unfolding steps_from commands_drawn
  commands_from zero m = refl
  commands_from (suc n) m =
      let s : ℕ = gone seed m in
      let d : ℕ = draws_taken P (from s) in
      let e : after_step s ≡ gone seed (m + d) = step_draws P s c r k ∙ gone_more seed m d in
      ap₂ ◌∷◌ (step_command P s c r k ∙ ap (λ f. good (command_drawn P f)) (from_is seed m))
      (ap (λ s. map (decode P) (steps_from P.cards (registers P) (tasks P) n s)) e
      ∙ commands_from n (m + d)
      ∙ ap (λ f. map good (commands_drawn P (draw_at seed) n (m + draws_taken P f))) (from_is seed m))

module _ (seed : ℕ) (P : Placement) (n : ℕ) where
  module _ (ok : placement_refusal P ≡ 0) where
    abbrev sound : Sized P × Placed P
    sound = accepted_is P ok

    commands : map (decode P) (load_of seed P n).steps ≡ map good (commands_drawn P (draw_at seed) n 0)
    commands =
        ap (λ s. map (decode P) (steps_from P.cards (registers P) (tasks P) n s)) (sym (turns_zero (λ _ s. next s) seed))
        ∙ commands_from seed P sound.0.0.0 sound.0.0.2 sound.0.0.4 n 0

    all_commands : Commands P (load_of seed P n).steps
    all_commands = commands_in P (load_of seed P n).steps (commands_drawn P (draw_at seed) n 0) commands

    well_formed : (rs cs : List ℕ) (s : Found) → Stands rs cs P s → (a : RawStep) → In a (load_of seed P n).steps → ¬ Ill (result_of rs cs a)
    well_formed rs cs s h a i ill =
        let g = all_commands a i in
        not_ill P s a g.0 g.1 (subst Ill (ap (λ x. x.result) (demand_2.step rs cs P s h a).answer=) ill)

    module _ (few : n ≤ 4096) where
      sized_load : SizedTables (load_tables seed P n)
      sized_load = (sized_tables (load_tables seed P n)).0 (sized_alike seed P n ∙ (in_range_lem P n).1 (sound.0, few))

      back : ReadBack (load_tables seed P n)
      back = read_back (load_tables seed P n) sized_load sound.1

      pub load_accepted : file_refusal (load_file seed P n) ≡ 0
      load_accepted = ap file_refusal (same_file seed P n) ∙ back.accepted

      pub same_run : run_file_in (load_file seed P n) ≡ load_of seed P n
      same_run = ap run_file_in (same_file seed P n) ∙ back.same_run ∙ run_back seed P n

      run_well_formed : (a : Answer) → In a (answers_in (load_file seed P n)) → ¬ Ill a.result
      unfolding answers_in
      run_well_formed a i =
          run_not_ill P begin (load_of seed P n).steps all_commands a
          (subst (λ (f : RunFile). In a (answers_from f.placement begin f.steps)) same_run i)

  pub load_meaning : LoadMeaning seed P n
  load_meaning = record {
    accepted = load_accepted;
    same_run = same_run;
    commands = commands;
    well_formed = well_formed;
    run_well_formed = run_well_formed;
    same_file = same_file seed P n;
    same_said = same_said seed P n;
    same_output = same_output seed P n;
  }

pub load_computed : LoadComputed
unfolding next draw fields place bytes code_from after_fields after_step drawn filled steps_from load_file file_bytes size_bytes placement_bytes
load_computed = record { draws = refl; three_steps = refl }
