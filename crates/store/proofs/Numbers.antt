-- The numbers of refusals.
use mathlib.Core.Path.{◌≡◌}
use mathlib.Core.Bool.{false}
use Rattle.names.specs.declared.refusals.Refusal.TheVariants.{NothingToSend}
use Rattle.names.specs.Results.{is_taken}
use Rattle.names.proofs.RefusalsMeaning.{taken, refused}

-- no step is taken with the refusal of an empty outbox
pub nothing_sent : is_taken 30 ≡ false
nothing_sent = refused NothingToSend

pub ruleset takings = (taken, refused, nothing_sent)
