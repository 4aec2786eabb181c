use Rattle.std.proofs.Common.{◌≤◌, ◌+◌, ◌*◌}
use Rattle.runs.proofs.calls.taken.Given as goal

-- no more than eight steps a round
abbrev pub invariant-loop-round : goal.invariant-loop-round
invariant-loop-round l = l.taken ≤ 8 * l._round

abbrev pub invariant-loop-step : goal.invariant-loop-step
invariant-loop-step l = l.taken ≤ 8 * l._round + l.step-index
