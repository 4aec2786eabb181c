-- What the channel's calls answer (RULES 5.8, 8.2): done, done with the message held, or refused.
use Rattle.std.specs.Prelude.{Bool, true, false, cond, Result, Ok, Err}
use Rattle.names.specs.declared.refusals.Refusal.{Refusal}
use Rattle.names.specs.declared.refusals.Refusal.TheVariants.{IllSized}
use Rattle.names.specs.declared.refusals.Taken.{Taken}

unfoldable pub is_done : Result Taken Refusal → Bool
is_done (Ok t) = true
is_done (Err r) = false

-- 6 where a queue is full, else this
abbrev pub unless_full : Bool → Result Taken Refusal → Result Taken Refusal
unless_full full answer = cond full (Err IllSized) answer
