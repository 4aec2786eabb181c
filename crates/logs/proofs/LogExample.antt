-- The log of specs/LogExample, computed.
use mathlib.Core.Path.{refl}
use Rattle.lists.specs.Every.{each}
use Rattle.lists.specs.Loops.{total, turns}
use Rattle.names.specs.CardSet.{just_of, member_of, several, single, size_of, sole_of}
use Rattle.names.specs.Results.{result_from}
use Rattle.names.specs.Update.{known_function, larger_of, raised, sum_of, updated}
use Rattle.claims.specs.Steps.{card_there, command_of, decode, function_there, known, names_card, names_chosen, names_function, names_register, names_task, operand, register_there, task_there, unnamed_zero}
use Rattle.logs.specs.LogExample.{LogComputed}

pub log_computed : LogComputed
unfolding decode known unnamed_zero task_there register_there card_there function_there known_function names_task names_card names_register names_chosen names_function operand command_of each member_of several single size_of sole_of just_of total turns updated raised larger_of sum_of result_from
log_computed = record { first_cards = refl; first_operands = refl; cards = refl; operands = refl; other_cards = refl; other_operands = refl }
