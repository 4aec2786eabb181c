use mathlib.Core.Path.{◌≡◌}
use Prim.Native.Nat.{ℕ, ◌≤◌}
use mathlib.Core.List.{List}
use lib.ListN.{length}
use Rattle.runfile.specs.RunFile.{placement_in, step_in}
use Rattle.runfile.specs.Stepwise.{stored, store_at}
use Rattle.logs.specs.Entries.{log_at, cards_put, operands_put}
use Rattle.logs.proofs.go.Given as goal

abbrev pub invariant-loop-k : goal.invariant-loop-k
invariant-loop-k l =
    let s : List ℕ = l.log.file.now in
    let so_far : List (ℕ × ℕ) = log_at (placement_in s) l.log.register.0 (step_in s) (stored l.initial.registers l.initial.channel) l.k in
    (l.registers ≡ (store_at (step_in s) (stored l.initial.registers l.initial.channel) l.k).registers)
    × (l.channel ≡ (store_at (step_in s) (stored l.initial.registers l.initial.channel) l.k).channel)
    × (l.cards ≡ cards_put l.initial.cards 0 so_far)
    × (l.operands ≡ operands_put l.initial.operands 0 so_far)
    × (l.n ≡ length so_far)
    × (l.n ≤ l.k)
