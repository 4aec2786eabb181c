use mathlib.Core.Path.{◌≡◌}
use lib.ListN.{length, take}
use lib.Seq.{sets}
use Rattle.runfile.specs.AnswerFile.{value_bytes}
use Rattle.runfile.proofs.answer_file.fill_values.Given as goal

abbrev pub invariant-loop-k : goal.invariant-loop-k
invariant-loop-k l = (length l.part ≡ length l.initial.part) × (l.part ≡ sets l.initial.part 0 (value_bytes (take l.k l.values)))
