use Prim.Native.Nat.{ℕ, ◌≤◌, ◌<◌, min}
use mathlib.Core.Bool.{Bool, true, false, cond}
use mathlib.Core.List.{List}
use native.Mathlib.Omega.{arith}
use borrow.Author.Tests.{lt-leb}
use Rattle.lists.specs.Loops.{total_most}
use Rattle.channel.specs.Layout.{count_of, place_of}
use Rattle.names.specs.CardSet.{several}
use Rattle.names.specs.Letters.{letter_at}
use Rattle.channel.specs.TakeBroadcast.{broadcast_at, broadcasts_of}
use Rattle.channel.proofs.broadcast.crowded.Goals as goal

bit : (b : Bool) → cond b 1 0 ≤ 1
bit true = omega arith
bit false = omega arith

-- an inbox of less than 32 messages
short : (ws : List ℕ) (i : ℕ) → count_of ws i < 32 → broadcasts_of ws i < 32
unfolding broadcasts_of broadcast_at
short ws i h = let m = total_most (broadcast_at ws i) (min (count_of ws i) 48) (λ k g. bit (several (letter_at ws (place_of ws i k)).to)) in omega arith

pub returns-else-own-ge32 : goal.returns-else-own-ge32
returns-else-own-ge32 c = rw (lt-leb 32 c.own.result c.if-own-ge32.false, lt-leb 32 _ (short c.args.memory.now c.args.part.card.0 (rw c.own.ensures at c.if-own-ge32.false)))
