use Prim.Native.Nat.{ℕ, ◌+◌}
use mathlib.Core.List.{List}
use mathlib.Core.Path.{◌≡◌, refl}
use native.Mathlib.Omega.{arith}
use Rattle.lists.specs.Loops.{turns, turns_more}
use Rattle.channel.specs.TakeBroadcast.{released_words, sweeps, swept}
use Rattle.channel.proofs.broadcast.release.Goals as goal

sweeps_zero : (i n : ℕ) (ws : List ℕ) → sweeps i n 0 ws ≡ record { words = ws; kept = 0 }
unfolding sweeps turns
sweeps_zero i n ws = refl

sweeps_more : (i n k : ℕ) (ws : List ℕ) → sweeps i n (k + 1) ws ≡ swept i n k (sweeps i n k ws)
unfolding sweeps
sweeps_more i n k ws = turns_more (swept i n) k _

pub loop-k-init : goal.loop-k-init
loop-k-init c = (omega arith, rw sweeps_zero, rw sweeps_zero)

pub loop-k-preserved : goal.loop-k-preserved
unfolding swept
loop-k-preserved c = let v = c.loop-k.invariant in
    (omega arith, rw (sweeps_more, ← v.1, ← v.2) c.sweep-kept.ensures.memory, rw (sweeps_more, ← v.1, ← v.2) c.sweep-kept.ensures.kept.0)

pub returns : goal.returns
unfolding released_words
returns c = let v = c.loop-k.invariant in
    let e : c.loop-k.k ≡ c.min-k-end.result = omega arith in
    rw (← c.own.ensures, ← c.min-k-end.ensures, ← e, ← v.1, ← v.2) c.set_own.ensures
