use Prim.Native.Nat.{◌+◌}
use mathlib.Core.Path.{◌≡◌}
use mathlib.Core.Bool.{cond, ◌&&◌}
use lib.Dec.{ltb}
use lib.ListN.{get_or, replicate}
use Rattle.lists.specs.Filling.{filled}
use Rattle.names.specs.CardSet.{member_of}
use Rattle.tables.proofs.panel.copies.Given as goal

abbrev pub invariant-loop-i : goal.invariant-loop-i
invariant-loop-i l =
    l.out ≡ filled (λ k. cond (l.there && ltb k l.cards && member_of l.holding k) (get_or l.registers (l.first + k) 0) 0) l.i (replicate 8 0)
