use mathlib.Core.Path.{◌≡◌, sym, ◌∙◌}
use borrow.Author.Rules.{rules}
use borrow.Author.Tests.{lt-ltb, le-ltb}
use Rattle.names.specs.Letters.{letter_of}
use Rattle.std.specs.Prelude.{Err}
use Rattle.channel.specs.Dispatch.{dispatch_answer, dispatch_memory}
use Rattle.channel.proofs.send.dispatch.Goals as goal

pub returns-in_err-part : goal.returns-in_err-part
unfolding dispatch_answer dispatch_memory
returns-in_err-part c = let p = rw c.in_err-part.was at c.part_of.ensures in let z = le-ltb _ _ p.1 in
    let e : c.from_residual.result ≡ Err c.in_err-part.field-0.0 = search rules in
    record {
      memory = simp z;
      answer = simp (e, p.0, z);
    }

pub returns-then-several : goal.returns-then-several
unfolding dispatch_answer dispatch_memory letter_of
returns-then-several c = let p = rw c.in_ok-part.was at c.part_of.ensures in let z = lt-ltb _ _ p.1 in let y = rw c.to_in.ensures at (sym c.several.ensures ∙ c.if-several.true) in record {
  memory = simp (z, y) c.cast.ensures.memory;
  answer = simp (z, y) c.cast.ensures.answer;
}

pub returns : goal.returns
unfolding dispatch_answer dispatch_memory letter_of
returns c = let p = rw c.in_ok-part.was at c.part_of.ensures in let z = lt-ltb _ _ p.1 in let y = rw c.to_in.ensures at (sym c.several.ensures ∙ c.if-several.false) in record {
  memory = simp (z, y) (rw p.0 at c.fly.ensures.memory);
  answer = simp (z, y) c.fly.ensures.answer;
}
