use mathlib.Core.Path.{◌≡◌}
use Prim.Native.Nat.{◌+◌, ◌*◌}
use lib.ListN.{length, get_or, take}
use Rattle.lists.specs.Listings.{listing}
use Rattle.runfile.proofs.argument.Given as goal

abbrev pub invariant-loop-j : goal.invariant-loop-j
invariant-loop-j l = (length l.place-items ≡ 8) × (take l.j l.place-items ≡ listing (λ i. get_or l.arguments (8 * l.k + i) 0) l.j)
