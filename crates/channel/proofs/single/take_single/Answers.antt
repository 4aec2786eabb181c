use mathlib.Core.Path.{sym, ◌∙◌}
use borrow.Author.Tests.{le-ltb, lt-ltb}
use Rattle.channel.specs.Answers.{is_done}
use Rattle.channel.specs.TakeSingle.{single_answer, single_memory}
use Rattle.channel.proofs.single.take_single.Goals as goal

pub returns-then-tasks-task : goal.returns-then-tasks-task
unfolding single_answer single_memory is_done
returns-then-tasks-task c = let z = rw c.tasks.ensures.0 at (le-ltb _ _ c.if-tasks-task.true) in record {
  memory = simp z;
  answer = simp z;
}

pub returns-then-no_flight : goal.returns-then-no_flight
unfolding single_answer single_memory is_done
returns-then-no_flight c = let z = rw c.tasks.ensures.0 at (lt-ltb _ _ c.if-tasks-task.false) in
    let y = sym c.no_flight.ensures ∙ c.if-no_flight.true in
    record {
      memory = simp (z, y);
      answer = simp (z, y);
    }

pub returns : goal.returns
unfolding single_answer single_memory
returns c = let z = rw c.tasks.ensures.0 at (lt-ltb _ _ c.if-tasks-task.false) in
    let y = sym c.no_flight.ensures ∙ c.if-no_flight.false in
    record {
      memory = simp (z, y) c.reach.ensures.memory;
      answer = simp (z, y) c.reach.ensures.answer;
    }
