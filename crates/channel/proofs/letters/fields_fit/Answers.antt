use Rattle.channel.specs.Letters.{fields_fit}
use Rattle.channel.proofs.letters.fields_fit.Goals as goal

pub returns : goal.returns
unfolding fields_fit
returns c = simp (c.to_in-to.ensures, c.task_in.ensures, c.register_in.ensures, c.kind_in.ensures, c.function_in.ensures, c.function_fits.ensures)
