use borrow.Author.Rules.{rules}
use mathlib.Core.Path.{◌≡◌}
use borrow.Author.Tests.{lt-ltb, le-ltb}
use Rattle.std.specs.Prelude.{Err}
use Rattle.channel.specs.Inbox.{receive_answer}
use Rattle.channel.proofs.inbox.head.Goals as goal

pub returns-in_err-part_of : goal.returns-in_err-part_of
unfolding receive_answer
returns-in_err-part_of c = let p = rw c.in_err-part_of.was at c.part_of.ensures in
    let e : c.from_residual.result ≡ Err c.in_err-part_of.field-0.0 = search rules in
    simp (e, p.0, le-ltb _ _ p.1)

pub returns : goal.returns
unfolding receive_answer
returns c = let p = rw c.in_ok-part_of.was at c.part_of.ensures in simp (lt-ltb _ _ p.1, ← p.0) c.first.ensures
