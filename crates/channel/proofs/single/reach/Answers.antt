use mathlib.Core.Path.{sym, ◌∙◌}
use Rattle.channel.specs.Answers.{is_done}
use Rattle.channel.proofs.single.reach.Goals as goal

pub returns-then-not-single : goal.returns-then-not-single
unfolding is_done
returns-then-not-single c = let x = simp (c.to_at-to.ensures, c.flight_block-tagged.ensures) at (sym c.single.ensures ∙ c.if-not-single.true) in record {
  memory = simp x;
  answer = simp x;
}

pub returns-in_err-taken-clause-memory : goal.returns-in_err-taken-clause-memory
unfolding is_done
returns-in_err-taken-clause-memory c = let b = c.flight_block-tagged.ensures in let o = rw b at c.to_at-to.ensures in
    let x = simp o at (sym c.single.ensures ∙ c.if-not-single.false) in
    let g = rw b at c.tag_at-tag.ensures in
    let i = simp o at c.destination-part.ensures in
    let j = simp (i, g) at c.joins_at-joins.ensures in
    let a = simp (i, j) at c.may_land.ensures in
    simp (x, rw a at c.in_err-taken.was)

pub returns-clause-memory : goal.returns-clause-memory
unfolding is_done
returns-clause-memory c = let b = c.flight_block-tagged.ensures in let l = rw b at c.load-packet.ensures in let o = rw b at c.to_at-to.ensures in
    let x = simp o at (sym c.single.ensures ∙ c.if-not-single.false) in
    let g = rw b at c.tag_at-tag.ensures in
    let i = simp o at c.destination-part.ensures in
    let j = simp (i, g) at c.joins_at-joins.ensures in
    let a = simp (i, j) at c.may_land.ensures in
    simp (x, rw a at c.in_ok-taken.was) (simp (l, i, j, g) at c.land.ensures)
