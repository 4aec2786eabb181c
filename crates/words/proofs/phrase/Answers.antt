use mathlib.Core.Path.{sym}
use Rattle.words.proofs.PhraseLaws.{unrefused}
use Rattle.words.proofs.phrase.Goals as goal

pub returns-in-Err : goal.returns-in-Err
returns-in-Err c = sym (unrefused c.args.refusal c.in-Err.ensures.1)
