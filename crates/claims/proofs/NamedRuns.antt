-- What K9 and K10 leave in the queues and the table, and the numbers of steps refused for themselves or because there is nothing there,
-- computed. The answers of K1 to K10 stand in crates/named.
use mathlib.Core.List.{[], map, ◌∷◌}
use mathlib.Core.Path.{refl, ◌≡◌}
use Rattle.lists.specs.Every.{each}
use Rattle.lists.specs.Loops.{total, turns}
use Rattle.names.specs.CardSet.{just_of, member_of, several, single, size_of, sole_of}
use Rattle.names.specs.Placement.{home_placed, homes_placed, placed, placement_refusal, register_placed, registers_placed, sized, sizes_in_range}
use Rattle.names.specs.Results.{result_from}
use Rattle.names.specs.Update.{known_function, larger_of, raised, sum_of, updated}
use Rattle.claims.specs.NamedRuns.{k10_held, k9, k9_held, results, step, three, tiny}
use Rattle.claims.specs.PublishedRun.{published_run}
use Rattle.claims.specs.SerialOrder.{applied_on}
use Rattle.claims.specs.Steps.{card_there, command_of, decode, function_there, known, names_card, names_chosen, names_function, names_register, names_task, operand, register_there, task_there, unnamed_zero}

-- the placements are accepted
pub tiny_accepted : placement_refusal tiny ≡ 0
unfolding placement_refusal sized sizes_in_range placed homes_placed home_placed registers_placed register_placed each member_of
tiny_accepted = refl

pub three_accepted : placement_refusal three ≡ 0
unfolding placement_refusal sized sizes_in_range placed homes_placed home_placed registers_placed register_placed each member_of
three_accepted = refl

-- the message for card 1 is held there, tagged 1, and nothing is in its inbox
k9_tag : map (λ x. x.mark) ((published_run three k9_held).0.channel.held 1) ≡ 1 ∷ []
unfolding decode known unnamed_zero task_there register_there card_there function_there known_function names_task names_card names_register names_chosen names_function operand command_of each member_of several single size_of sole_of just_of total turns updated raised larger_of sum_of
k9_tag = refl

k9_nothing : (published_run three k9_held).0.channel.inbox 1 ≡ []
unfolding decode known unnamed_zero task_there register_there card_there function_there known_function names_task names_card names_register names_chosen names_function operand command_of each member_of several single size_of sole_of just_of total turns updated raised larger_of sum_of
k9_nothing = refl

-- card 1 applies operation 0, then 2: 7 in register 0, then 9 in register 1
k9_order : applied_on three k9 1 ≡ 0 ∷ 2 ∷ []
unfolding decode known unnamed_zero task_there register_there card_there function_there known_function names_task names_card names_register names_chosen names_function operand command_of each member_of several single size_of sole_of just_of total turns updated raised larger_of sum_of
k9_order = refl

k9_seven : (published_run three k9).0.table 1 0 ≡ 7
unfolding decode known unnamed_zero task_there register_there card_there function_there known_function names_task names_card names_register names_chosen names_function operand command_of each member_of several single size_of sole_of just_of total turns updated raised larger_of sum_of
k9_seven = refl

k9_nine : (published_run three k9).0.table 1 1 ≡ 9
unfolding decode known unnamed_zero task_there register_there card_there function_there known_function names_task names_card names_register names_chosen names_function operand command_of each member_of several single size_of sole_of just_of total turns updated raised larger_of sum_of
k9_nine = refl

-- the reply is held at card 0, tagged 1
k10_tag : map (λ x. x.mark) ((published_run three k10_held).0.channel.held 0) ≡ 1 ∷ []
unfolding decode known unnamed_zero task_there register_there card_there function_there known_function names_task names_card names_register names_chosen names_function operand command_of each member_of several single size_of sole_of just_of total turns updated raised larger_of sum_of
k10_tag = refl

-- so step 8 answers 100, in K9 the last one and in K10 the second of two
k9_says : results three k9_held ≡ 0 ∷ 0 ∷ 0 ∷ 0 ∷ 0 ∷ 0 ∷ 0 ∷ 0 ∷ 0 ∷ 0 ∷ 0 ∷ 100 ∷ []
unfolding result_from decode known unnamed_zero task_there register_there card_there function_there known_function names_task names_card names_register names_chosen names_function operand command_of each member_of several single size_of sole_of just_of total turns updated raised larger_of sum_of
k9_says = refl

k10_says : results three k10_held ≡ 0 ∷ 0 ∷ 0 ∷ 0 ∷ 0 ∷ 0 ∷ 0 ∷ 0 ∷ 0 ∷ 0 ∷ 0 ∷ 100 ∷ []
unfolding result_from decode known unnamed_zero task_there register_there card_there function_there known_function names_task names_card names_register names_chosen names_function operand command_of each member_of several single size_of sole_of just_of total turns updated raised larger_of sum_of
k10_says = refl

-- unknown codes, an unnamed byte, byte 3, absent task and card, unknown functions, an absent task before an absent card, an absent chosen
-- card; the last function that there is
misformed_results : results tiny (step 0 [] ∷ step 11 [] ∷ step 3 (0 ∷ 1 ∷ []) ∷ step 2 (0 ∷ 0 ∷ 1 ∷ 1 ∷ []) ∷ step 3 (1 ∷ []) ∷ step 6 (1 ∷ []) ∷ step 2 (0 ∷ 0 ∷ 6 ∷ []) ∷ step 2 (0 ∷ 0 ∷ 0 ∷ [])
    ∷ step 4 (1 ∷ 1 ∷ []) ∷ step 4 (0 ∷ 1 ∷ []) ∷ step 2 (0 ∷ 0 ∷ 5 ∷ []) ∷ []) ≡ 10 ∷ 10 ∷ 11 ∷ 11 ∷ 12 ∷ 14 ∷ 15 ∷ 15 ∷ 12 ∷ 14 ∷ 0 ∷ []
unfolding result_from decode known unnamed_zero task_there register_there card_there function_there known_function names_task names_card names_register names_chosen names_function operand command_of each member_of several single size_of sole_of just_of total turns updated raised larger_of sum_of
misformed_results = refl

-- nothing there
empty_results : results tiny (step 6 (0 ∷ []) ∷ step 7 (0 ∷ []) ∷ step 8 (0 ∷ []) ∷ step 9 (0 ∷ []) ∷ step 10 (0 ∷ []) ∷ step 3 (0 ∷ []) ∷ []) ≡ 30 ∷ 31 ∷ 32 ∷ 33 ∷ 21 ∷ 21 ∷ []
unfolding result_from decode known unnamed_zero task_there register_there card_there function_there known_function names_task names_card names_register names_chosen names_function operand command_of each member_of several single size_of sole_of just_of total turns updated raised larger_of sum_of
empty_results = refl
