use native.Mathlib.Omega.{arith}
use mathlib.Core.Path.{sym, ◌∙◌}
use Rattle.names.specs.Letters.{task_in, letter_of}
use Rattle.channel.specs.Answers.{is_done}
use Rattle.channel.specs.Dispatch.{fly_answer, fly_memory}
use Rattle.channel.proofs.send.fly.Goals as goal

pub returns-then-not-fits : goal.returns-then-not-fits
unfolding fly_answer fly_memory is_done
returns-then-not-fits c = let z = sym c.fits.ensures ∙ c.if-not-fits.true in record {
  memory = simp z;
  answer = simp z;
}

pub invariant_of-slot : goal.invariant_of-slot
unfolding task_in
invariant_of-slot c = record { below = rw c.task_in.ensures (omega arith) }

pub returns-then-not-no_flight : goal.returns-then-not-no_flight
unfolding fly_answer fly_memory is_done letter_of
returns-then-not-no_flight c = let z = sym c.fits.ensures ∙ c.if-not-fits.false in
    let y = simp c.task_in.ensures at (sym c.no_flight.ensures ∙ c.if-not-no_flight.true) in
    record {
      memory = simp (z, y);
      answer = simp (z, y);
    }

pub returns : goal.returns
unfolding fly_answer fly_memory is_done letter_of
returns c = let z = sym c.fits.ensures ∙ c.if-not-fits.false in
    let t = c.task_in.ensures in
    let y = simp t at (sym c.no_flight.ensures ∙ c.if-not-no_flight.false) in
    record {
      memory = simp (z, y, c.mark.ensures, c.repacked.ensures, c.flight_block.ensures, t, c.taken_of-tag.ensures);
      answer = simp (z, y);
    }
