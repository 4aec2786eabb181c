use mathlib.Core.Path.{ap}
use native.Mathlib.Omega.{arith}
use Rattle.runfile.specs.Head.{whole_length}
use Rattle.runfile.proofs.HeadLaws.{few}
use Rattle.runfile.proofs.file_head.whole_length.Goals as goal

pub overflow_add-result-2 : goal.overflow_add-result-2
overflow_add-result-2 c = let h = few c.args.steps c.placement.view_is c.requires in omega arith

pub overflow_add-result-3 : goal.overflow_add-result-3
overflow_add-result-3 c = let h = few c.args.steps c.placement.view_is c.requires in omega arith

pub returns : goal.returns
unfolding whole_length
returns c = ap (λ p. whole_length p c.args.steps) c.placement.view_is
