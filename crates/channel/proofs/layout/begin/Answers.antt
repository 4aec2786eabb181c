use mathlib.Core.Path.{sym, ◌∙◌}
use Rattle.channel.specs.Begin.{begun, begin_answer, begin_memory}
use Rattle.channel.proofs.layout.begin.Goals as goal

pub returns-then-not-sizes_fit : goal.returns-then-not-sizes_fit
unfolding begin_answer begin_memory
returns-then-not-sizes_fit c = let z = sym c.sizes_fit.ensures ∙ c.if-not-sizes_fit.true in record {
  memory = simp z;
  answer = simp z;
}

pub returns : goal.returns
unfolding begin_answer begin_memory begun
returns c = let z = sym c.sizes_fit.ensures ∙ c.if-not-sizes_fit.false in record {
  memory = simp z;
  answer = simp z;
}
