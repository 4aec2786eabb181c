-- Computed.
use mathlib.Core.Path.{refl}
use Rattle.lists.specs.Every.{each}
use Rattle.lists.specs.Listings.{listing}
use Rattle.lists.specs.Loops.{total, turns}
use Rattle.names.specs.CardSet.{just_of, member_of, several, single, size_of, sole_of}
use Rattle.names.specs.Placement.{home_placed, homes_placed, placed, register_placed, registers_placed, sizes_in_range}
use Rattle.names.specs.Update.{known_function, larger_of, raised, sum_of, updated}
use Rattle.claims.specs.Steps.{card_there, command_of, decode, function_there, known, names_card, names_chosen, names_function, names_register, names_task, operand, register_there, task_there, unnamed_zero}
use Rattle.runfile.specs.RunFile.{steps_in, copies_at, primaries_at, codes_at, arguments_at, file_length, placement_in, code_in, argument_in, sizes_sound, file_refusal}
use Rattle.named.specs.Held.{HeldMessages}

pub held_messages : HeldMessages
unfolding file_refusal sizes_sound file_length placement_in code_in argument_in arguments_at codes_at primaries_at copies_at steps_in listing each total turns sizes_in_range placed homes_placed home_placed registers_placed register_placed member_of several single size_of sole_of just_of updated raised larger_of sum_of decode known unnamed_zero task_there register_there card_there function_there known_function names_task names_card names_register names_chosen names_function operand command_of
held_messages = record { k9_held = refl; k10_held = refl; both_held = refl }
