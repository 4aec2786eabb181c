use mathlib.Core.Path.{sym}
use Rattle.lists.specs.Parts.{sets_append}
use Rattle.runfile.proofs.composer.put_steps.Goals as goal

pub returns : goal.returns
returns c =
    let a = c.args in
    let one = c.put_table-next in
    rw (c.put_table.ensures.output, one.ensures.output, one.ensures.place) (sym (sets_append a.out.now a.at a.codes.now a.arguments.now))
