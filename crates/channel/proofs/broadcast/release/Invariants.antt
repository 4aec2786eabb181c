use Rattle.std.proofs.Common.{◌≡◌, ◌≤◌}
use Rattle.channel.specs.TakeBroadcast.{sweeps}
use Rattle.channel.proofs.broadcast.release.Given as goal

abbrev pub invariant-loop-k : goal.invariant-loop-k
invariant-loop-k l = (l.kept ≤ l.k) × (l.memory ≡ (sweeps l.part.card.0 l.n.0 l.k l.initial.memory).words) × (l.kept ≡ (sweeps l.part.card.0 l.n.0 l.k l.initial.memory).kept)
