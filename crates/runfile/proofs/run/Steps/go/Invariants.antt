use mathlib.Core.Path.{◌≡◌}
use mathlib.Core.Bool.{cond}
use Prim.Native.Nat.{◌≤◌}
use lib.ListN.{length}
use Rattle.lists.specs.Loops.{total}
use Rattle.runfile.specs.RunFile.{step_in}
use Rattle.runfile.specs.AnswerFile.{put_answers}
use Rattle.names.specs.Results.{is_taken}
use Rattle.runfile.specs.Stepwise.{stored, store_at, answer_at}
use Rattle.runfile.proofs.run.Steps.go.Given as goal

abbrev pub invariant-loop-k : goal.invariant-loop-k
invariant-loop-k l =
    (length l.out ≡ length l.initial.out)
    × (l.registers ≡ (store_at (step_in l.self.file.now) (stored l.initial.registers l.initial.channel) l.k).registers)
    × (l.channel ≡ (store_at (step_in l.self.file.now) (stored l.initial.registers l.initial.channel) l.k).channel)
    × (l.out ≡ put_answers l.self.n (answer_at (step_in l.self.file.now) (stored l.initial.registers l.initial.channel)) l.k l.initial.out)
    × (l.taken ≡ total (λ j. cond (is_taken (answer_at (step_in l.self.file.now) (stored l.initial.registers l.initial.channel) j).result) 1 0) l.k)
    × (l.taken ≤ l.k)
