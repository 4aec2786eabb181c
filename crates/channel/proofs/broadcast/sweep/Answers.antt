use native.Mathlib.Omega.{arith}
use mathlib.Core.Path.{sym, ◌∙◌}
use Rattle.channel.specs.TakeBroadcast.{swept_kept, swept_words}
use Rattle.channel.proofs.broadcast.sweep.Goals as goal

pub returns-then-eq : goal.returns-then-eq
unfolding swept_kept swept_words
returns-then-eq c = let h = c.held_block-tagged.ensures in
    let z = rw (c.tag_at-tag.ensures, h) at (sym c.eq.ensures ∙ c.if-eq.true) in
    let l = rw h at c.load-packet.ensures in
    record {
      memory = simp z (simp l at c.push.ensures);
      kept = (simp z, omega arith);
    }

pub returns-else-eq : goal.returns-else-eq
unfolding swept_kept swept_words
returns-else-eq c = let h = c.held_block-tagged.ensures in
    let m = rw h at c.tag_at-tag.ensures in
    let z = rw m at (sym c.eq.ensures ∙ c.if-eq.false) in
    let l = rw h at c.load-packet.ensures in
    record {
      memory = simp z (simp (c.held_block.ensures, l, m) at c.mark.ensures);
      kept = (simp z, omega arith);
    }
