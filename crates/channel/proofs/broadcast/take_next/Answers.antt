use Rattle.channel.specs.Answers.{is_done}
use Rattle.channel.proofs.broadcast.take_next.Goals as goal

pub returns-in_err-taken-clause-memory : goal.returns-in_err-taken-clause-memory
unfolding is_done
returns-in_err-taken-clause-memory c = let b = c.broadcast_block-block.ensures in
    let t = simp (rw b at c.to_at.ensures) at c.member-there.ensures in
    let a = simp t at c.room.ensures in simp (rw a at c.in_err-taken.was)

pub returns-clause-memory : goal.returns-clause-memory
unfolding is_done
returns-clause-memory c = let b = c.broadcast_block-block.ensures in let l = rw b at c.load-packet.ensures in
    let t = simp (rw b at c.to_at.ensures) at c.member-there.ensures in
    let a = simp t at c.room.ensures in
    simp (rw a at c.in_ok-taken.was) (simp (l, t) at c.join.ensures)
