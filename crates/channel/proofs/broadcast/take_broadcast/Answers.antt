use mathlib.Core.Path.{◌≡◌, sym, ◌∙◌}
use mathlib.Core.Bool.{true, false}
use borrow.Author.Rules.{rules}
use borrow.Author.Tests.{lt-ltb, le-ltb}
use Rattle.std.specs.Prelude.{Err}
use Rattle.channel.specs.Answers.{is_done}
use Rattle.channel.specs.TakeBroadcast.{take_answer, take_memory}
use Rattle.channel.proofs.Orders.{is_le_ltb}
use Rattle.channel.proofs.broadcast.take_broadcast.Goals as goal

pub returns-in_err-part : goal.returns-in_err-part
unfolding take_answer take_memory is_done
returns-in_err-part c = let p = rw c.in_err-part.was at c.part_of.ensures in let z = le-ltb _ _ p.1 in
    let e : c.from_residual.result ≡ Err c.in_err-part.field-0.0 = search rules in
    record {
      memory = simp z;
      answer = simp (e, p.0, z);
    }

pub returns-then-le : goal.returns-then-le
unfolding take_answer take_memory is_done
returns-then-le c = let p = rw c.in_ok-part.was at c.part_of.ensures in let z = lt-ltb _ _ p.1 in
    let y = rw (c.taken_of-taken.ensures, c.made-last.ensures, p.0) at (is_le_ltb c.made-last.result.0 c.taken_of-taken.result.0 true (sym c.le.ensures ∙ c.if-le.true)) in
    record {
      memory = simp (z, y);
      answer = simp (z, y);
    }

pub returns : goal.returns
unfolding take_answer take_memory
returns c = let p = rw c.in_ok-part.was at c.part_of.ensures in let z = lt-ltb _ _ p.1 in
    let y = rw (c.taken_of-taken.ensures, c.made-last.ensures, p.0) at (is_le_ltb c.made-last.result.0 c.taken_of-taken.result.0 false (sym c.le.ensures ∙ c.if-le.false)) in
    let n = rw (c.taken_of-taken.ensures, p.0) at c.after.ensures in
    record {
      memory = simp (z, y, ← n) (rw p.0 at c.take_next.ensures.memory);
      answer = simp (z, y, ← n) (rw p.0 at c.take_next.ensures.answer);
    }
