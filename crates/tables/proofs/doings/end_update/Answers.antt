use Prim.Native.Nat.{ℕ}
use mathlib.Core.Path.{◌≡◌}
use mathlib.Core.Bool.{Bool, true, false, cond, not}
use mathlib.Core.List.{List}
use lib.Bits.{bit_or, or_zero_l, or_zero_r}
use lib.ListN.{get_or, set}
use lib.Seq.{set-get_or}
use Rattle.tables.specs.Layout.{task_word, value_word, home_of}
use Rattle.tables.specs.Doings.{doing_value, task_word_of, doing_stored}
use Rattle.tables.specs.declared.Doing.TheVariants.{DoneUpdate}
use Rattle.tables.proofs.doings.end_update.Goals as goal

-- both words, as they are written
ended : (ws : List ℕ) (t : ℕ) (done : Bool) (v : ℕ)
    → set (set ws (task_word t) (bit_or (cond done (task_word_of (home_of ws t) (DoneUpdate v)) 0) (cond (not done) (get_or ws (task_word t) 0) 0))) (value_word t)
    (bit_or (cond done v 0) (cond (not done) (get_or ws (value_word t) 0) 0))
    ≡ cond done (doing_stored ws t (DoneUpdate v)) ws
unfolding doing_stored doing_value
ended ws t true v = rw (or_zero_r (task_word_of (home_of ws t) (DoneUpdate v)), or_zero_r v)
ended ws t false v = rw (or_zero_l (get_or ws (task_word t) 0), or_zero_l (get_or ws (value_word t) 0), set-get_or ws (task_word t) 0) (set-get_or ws (value_word t) 0)

pub returns : goal.returns
returns c =
    let a = c.args in
    rw (
      ← (ended a.registers.now a.task.0 a.done a.found),
      ← c.task_place.ensures.0,
    )
    (simp (
      c.picked.ensures,
      c.picked-2.ensures,
      c.picked-3.ensures,
      c.picked-4.ensures,
      c.word-ended.ensures,
      c.home_in.ensures.0,
    ))
