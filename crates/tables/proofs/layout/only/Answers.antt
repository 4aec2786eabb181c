use Prim.Native.Nat.{◌%◌}
use native.Mathlib.Omega.{arith}
use Rattle.names.specs.CardSet.{just_of}
use Rattle.names.proofs.CardSets.{one_shifted}
use Rattle.tables.proofs.layout.only.Goals as goal

pub returns : goal.returns
unfolding just_of
returns c = one_shifted (c.args.card.0 % 8) (omega arith)
