use mathlib.Core.Path.{◌≡◌}
use borrow.Author.Rules.{rules}
use borrow.Author.Tests.{lt-ltb, le-ltb}
use Rattle.std.specs.Prelude.{Err}
use Rattle.channel.specs.Inbox.{receive_answer, receive_memory}
use Rattle.channel.proofs.inbox.receive.Goals as goal

pub returns-in_err-part : goal.returns-in_err-part
unfolding receive_answer receive_memory
returns-in_err-part c = let p = rw c.in_err-part.was at c.part_of.ensures in let z = le-ltb _ _ p.1 in
    let e : c.from_residual.result ≡ Err c.in_err-part.field-0.0 = search rules in
    record {
      memory = simp z;
      answer = simp (e, p.0, z);
    }

pub returns : goal.returns
unfolding receive_answer receive_memory
returns c = let p = rw c.in_ok-part.was at c.part_of.ensures in let z = lt-ltb _ _ p.1 in record {
  memory = simp (z, ← p.0) c.drop_first.ensures;
  answer = simp (z, ← p.0) c.first-got.ensures;
}
