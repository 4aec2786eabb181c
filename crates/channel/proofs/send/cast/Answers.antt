use mathlib.Core.Path.{sym, ◌∙◌}
use borrow.Author.Tests.{lt-ltb, le-ltb}
use Rattle.channel.specs.Answers.{is_done}
use Rattle.channel.specs.Dispatch.{cast_answer, cast_memory}
use Rattle.channel.proofs.send.cast.Goals as goal

pub returns-then-not-near : goal.returns-then-not-near
unfolding cast_answer cast_memory is_done
returns-then-not-near c = let z = sym c.near.ensures ∙ c.if-not-near.true in record {
  memory = simp z;
  answer = simp z;
}

pub returns-then-not-fits : goal.returns-then-not-fits
unfolding cast_answer cast_memory is_done
returns-then-not-fits c = let z = sym c.near.ensures ∙ c.if-not-near.false in let y = sym c.fits.ensures ∙ c.if-not-fits.true in record {
  memory = simp (z, y);
  answer = simp (z, y);
}

pub returns-then-last-ge65535 : goal.returns-then-last-ge65535
unfolding cast_answer cast_memory is_done
returns-then-last-ge65535 c = let z = sym c.near.ensures ∙ c.if-not-near.false in let y = sym c.fits.ensures ∙ c.if-not-fits.false in
    let x = rw c.made-last.ensures at (le-ltb _ _ c.if-last-ge65535.true) in record {
      memory = simp (z, y, x);
      answer = simp (z, y, x);
    }

pub returns : goal.returns
unfolding cast_answer cast_memory is_done
returns c = let z = sym c.near.ensures ∙ c.if-not-near.false in let y = sym c.fits.ensures ∙ c.if-not-fits.false in
    let x = rw c.made-last.ensures at (lt-ltb _ _ c.if-last-ge65535.false) in record {
      memory = simp (z, y, x, c.store.ensures, c.repacked.ensures, c.broadcast_block.ensures, c.made-last.ensures);
      answer = simp (z, y, x);
    }
