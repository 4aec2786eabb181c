-- The runs that meet the limits, computed.
use mathlib.Core.Path.{◌≡◌, refl, ap, ◌∙◌}
use mathlib.Core.List.{List, map}
use lib.Dec.{eqb, leb}
use lib.ListN.{length}
use Rattle.lists.specs.Every.{each}
use Rattle.lists.specs.Loops.{total, turns}
use Rattle.names.specs.CardSet.{just_of, member_of, several, single, size_of, sole_of}
use Rattle.names.specs.Placement.{home_placed, homes_placed, placed, placement_refusal, register_placed, registers_placed, sized, sizes_in_range}
use Rattle.names.specs.Results.{result_from}
use Rattle.names.specs.Update.{known_function, larger_of, raised, sum_of, updated}
use Rattle.claims.specs.Steps.{RawStep, card_there, command_of, decode, function_there, known, names_card, names_chosen, names_function, names_register, names_task, operand, register_there, task_there, unnamed_zero}
use Rattle.claims.specs.Found.{begin}
use Rattle.claims.specs.FoundRun.{final_from, answers_from}
use Rattle.store.specs.Run.{Store, started}
use Rattle.store.specs.LimitRuns.{crowd, outbox_run, held_run, inbox_run, k11, k12, results_of, then_refused, LimitsMet}
use Rattle.store.proofs.StartLaw.{start_stands}
use Rattle.store.proofs.Demand3.{after_shows, answers_same}

pub crowd_accepted : placement_refusal crowd ≡ 0
unfolding placement_refusal sized sizes_in_range placed homes_placed home_placed registers_placed register_placed each member_of eqb leb
crowd_accepted = refl

outbox_met : length ((final_from crowd begin outbox_run).out 0) ≡ 16
unfolding decode known unnamed_zero task_there register_there card_there function_there known_function names_task names_card names_register names_chosen names_function operand command_of each member_of several single size_of sole_of just_of total turns updated raised larger_of sum_of eqb leb
outbox_met = refl

held_met : length ((final_from crowd begin held_run).channel.held 1) ≡ 16
unfolding decode known unnamed_zero task_there register_there card_there function_there known_function names_task names_card names_register names_chosen names_function operand command_of each member_of several single size_of sole_of just_of total turns updated raised larger_of sum_of eqb leb
held_met = refl

inbox_met : length ((final_from crowd begin inbox_run).channel.inbox 1) ≡ 48
unfolding decode known unnamed_zero task_there register_there card_there function_there known_function names_task names_card names_register names_chosen names_function operand command_of each member_of several single size_of sole_of just_of total turns updated raised larger_of sum_of eqb leb
inbox_met = refl

k11_results : map (λ a. a.result) (answers_from crowd begin k11) ≡ then_refused 146 34
unfolding result_from decode known unnamed_zero task_there register_there card_there function_there known_function names_task names_card names_register names_chosen names_function operand command_of each member_of several single size_of sole_of just_of total turns updated raised larger_of sum_of eqb leb
k11_results = refl

k12_results : map (λ a. a.result) (answers_from crowd begin k12) ≡ then_refused 230 35
unfolding result_from decode known unnamed_zero task_there register_there card_there function_there known_function names_task names_card names_register names_chosen names_function operand command_of each member_of several single size_of sole_of just_of total turns updated raised larger_of sum_of eqb leb
k12_results = refl

-- the store answers as the algorithm that it runs does
stored : (m : Store) (l : List RawStep) → results_of m l ≡ map (λ a. a.result) (answers_from crowd begin l)
stored m l = ap (map (λ a. a.result)) (answers_same crowd (started crowd m) begin l (start_stands crowd crowd_accepted m))

pub limits_met : LimitsMet
limits_met = record {
  shows = λ m l. after_shows crowd (started crowd m) begin l (start_stands crowd crowd_accepted m);
  outbox = outbox_met;
  held = held_met;
  inbox = inbox_met;
  behind = λ m. stored m k11 ∙ k11_results;
  crowded = λ m. stored m k12 ∙ k12_results;
}
