use native.Mathlib.Omega.{arith}
use Rattle.runfile.proofs.TableBytes.{three_in_turn}
use Rattle.runfile.proofs.table.put_tables.Goals as goal

pub returns : goal.returns
returns c =
    let a = c.args in
    let one = c.put_table-a in
    let two = c.put_table-b in
    let three = c.put_table in
    record {
      place = omega (arith, one.ensures.place, two.ensures.place, three.ensures.place);
      output = rw (three.ensures.output, two.ensures.output, one.ensures.output) (three_in_turn a.out.now a.first.now a.second.now a.third.now _ _ _ one.ensures.place two.ensures.place);
    }
