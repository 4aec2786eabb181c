use native.Mathlib.Omega.{arith}
use Rattle.runfile.specs.RunFile.{steps_in, arguments_at, argument_in}
use Rattle.runfile.proofs.Eight.{argument_copied}
use Rattle.runfile.proofs.run.Steps.argument.Goals as goal

pub returns : goal.returns
unfolding argument_in
returns c = let s = c.args.self.now in let f = s.file.now in rw (c.copy_from_slice.ensures.after, s.laid.1) (argument_copied f (arguments_at f) c.args.k (steps_in f) (omega (arith, c.requires, s.laid)) (omega (arith, s.laid, s.held)))
