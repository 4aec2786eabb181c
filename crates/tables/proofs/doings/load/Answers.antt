use Rattle.tables.specs.Doings.{doing_in, doing_kind_in, asked_in, doing_function_in}
use Rattle.tables.proofs.doings.load.Goals as goal

pub returns : goal.returns
unfolding doing_in doing_kind_in asked_in doing_function_in
returns c = rw (← c.task_place.ensures.0) c.doing_of.ensures
