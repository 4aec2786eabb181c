-- A tally after a run (RULES 9.5). A refused file or output has no steps (9.4): `answered_of` then counts none.
use Rattle.std.specs.Prelude.{ℕ, List}
use Rattle.tally.specs.declared.Tally.{Tally}
use Rattle.tally.specs.Tally.{counted}
use Rattle.runfile.specs.Run.{answered_of}

unfoldable pub ran_tally : List ℕ → List ℕ → Tally → Tally
ran_tally file out t = counted t (answered_of file out).taken (answered_of file out).refused
