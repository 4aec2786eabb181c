use Prim.Native.Nat.{◌+◌, ◌-◌}
use native.Mathlib.Omega.{arith}
use Rattle.runfile.proofs.TableBytes.{copied}
use Rattle.loads.specs.Filling.{argument_of}
use Rattle.loads.proofs.fields.Fields.put.Goals as goal

pub returns : goal.returns
unfolding argument_of
returns c =
    let a = c.args in
    rw (c.copy_from_slice.ensures.after, c.to_le_bytes.ensures) (copied a.out.now (argument_of a.self.first a.self.second a.self.function a.self.operand) a.at (a.at + 8 - a.at) (omega arith) (omega arith))
