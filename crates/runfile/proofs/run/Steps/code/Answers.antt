use mathlib.Core.Path.{sym, ap, ◌∙◌}
use Prim.Native.Nat.{◌+◌}
use native.Mathlib.Omega.{arith}
use lib.ListN.{get_or}
use Rattle.lists.specs.Parts.{part_at}
use Rattle.runfile.specs.RunFile.{steps_in, codes_at, code_in}
use Rattle.runfile.proofs.run.Steps.code.Goals as goal

pub overflow_add-result : goal.overflow_add-result
overflow_add-result c = omega (arith, c.requires, c.args.self.now.held)

pub bounds-self-self : goal.bounds-self-self
bounds-self-self c = omega (arith, c.requires, c.args.self.now.held)

pub returns : goal.returns
unfolding code_in
returns c = let s = c.args.self.now in let f = s.file.now in let k = c.args.k in ap (λ a. get_or f (a + k) 0) s.laid.0 ∙ sym (part_at f (codes_at f) (steps_in f) k 0 (omega (arith, c.requires, s.laid)))
