use Prim.Native.Nat.{◌+◌}
use mathlib.Core.Path.{sym, ◌∙◌}
use borrow.Author.Tests.{lt-ltb, le-ltb}
use native.Mathlib.Omega.{arith}
use Rattle.channel.specs.TakeBroadcast.{room_answer}
use Rattle.channel.proofs.broadcast.room.Goals as goal
use Rattle.channel.proofs.broadcast.room.Goals.{else-there-via-then-there+else-crowded, else-there-via-else-there}

pub returns-then-crowded : goal.returns-then-crowded
unfolding room_answer
returns-then-crowded c = simp (c.if-there.true, sym c.crowded.ensures ∙ c.if-crowded.true)

pub returns-then-count-gt48 : goal.returns-then-count-gt48
unfolding room_answer
returns-then-count-gt48 c = elim c.else-there.branch [
  | else-there-via-then-there+else-crowded w ↦ let o = rw w.if-there.true at c.from.ensures in
      simp (w.if-there.true, sym w.crowded.ensures ∙ w.if-crowded.false, ← c.own.ensures, ← c.releasable.ensures.0, lt-ltb 48 (c.own.result + c.releasable.result + 1) (omega arith))
  | else-there-via-else-there w ↦ let o = rw w.if-there.false at c.from.ensures in
      simp (w.if-there.false, ← c.own.ensures, ← c.releasable.ensures.0, lt-ltb 48 (c.own.result + c.releasable.result) (omega arith))
]

pub returns-else-count-gt48 : goal.returns-else-count-gt48
unfolding room_answer
returns-else-count-gt48 c = elim c.else-there.branch [
  | else-there-via-then-there+else-crowded w ↦ let o = rw w.if-there.true at c.from.ensures in
      simp (w.if-there.true, sym w.crowded.ensures ∙ w.if-crowded.false, ← c.own.ensures, ← c.releasable.ensures.0, le-ltb 48 (c.own.result + c.releasable.result + 1) (omega arith))
  | else-there-via-else-there w ↦ let o = rw w.if-there.false at c.from.ensures in
      simp (w.if-there.false, ← c.own.ensures, ← c.releasable.ensures.0, le-ltb 48 (c.own.result + c.releasable.result) (omega arith))
]
