use Rattle.std.proofs.Common.{◌≡◌, true}
use Rattle.lists.specs.Every.{each}
use Rattle.channel.specs.Dispatch.{near_at}
use Rattle.channel.proofs.send.near.Given as goal

abbrev pub invariant-loop-i : goal.invariant-loop-i
invariant-loop-i l = each l.i (near_at l.memory) ≡ true
