use Rattle.channel.proofs.broadcast.join.Goals as goal
-- The answers name no place of `set_taken`, so that an edit which moves it is refused by what it breaks.
use Prim.Native.Nat.{ℕ}
use mathlib.Core.Bool.{Bool, true}
use mathlib.Core.List.{List}
use mathlib.Core.Path.{◌≡◌}
use lib.ListN.{set}
use borrow.Author.Rules.{rules}
use Rattle.names.specs.declared.Packet.{Packet}
use Rattle.channel.specs.Layout.{taken_word}
use Rattle.channel.specs.TakeBroadcast.{arrived, joined}

-- a destination's words
there_joined : (ws us vs : List ℕ) (i n : ℕ) (p : Packet) (there : Bool) → vs ≡ arrived us i n p → us ≡ set ws (taken_word i) n → there ≡ true → vs ≡ joined ws i n p there
unfolding joined
there_joined ws us vs i n p there a s t = simp (a, s, t)

pub returns-then-there : goal.returns-then-there
returns-then-there c = search (rules, there_joined)

pub returns-else-there : goal.returns-else-there
unfolding joined
returns-else-there c = simp c.if-there.false (cc)
