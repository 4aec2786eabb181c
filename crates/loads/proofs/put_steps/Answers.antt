use Prim.Native.Nat.{◌+◌, ◌*◌}
use mathlib.Core.Path.{◌≡◌, refl, sym, ap, ap₂, ◌∙◌}
use native.Mathlib.Omega.{arith}
use lib.ListN.{set}
use lib.Seq.{sets}
use Rattle.lists.specs.Loops.{turns, turns_zero, turns_more}
use Rattle.loads.specs.Load.{after_step, step_from}
use Rattle.loads.proofs.LoadSteps.{step_put, steps_put}
use Rattle.loads.proofs.put_steps.Goals as goal

pub loop-k-init : goal.loop-k-init
loop-k-init c = (refl, sym (turns_zero (λ _ s. after_step s) _), sym (turns_zero _ _))

pub put_step-state-requires : goal.put_step-state-requires
put_step-state-requires c =
    let l = c.loop-k in
    (omega (arith, c.requires.1, l.invariant.0), omega (arith, c.requires.1, l.invariant.0))

pub loop-k-preserved : goal.loop-k-preserved
loop-k-preserved c =
    let a = c.args in
    let l = c.loop-k in
    let p = c.put_step-state in
    let f = step_put a.ranges.cards a.ranges.registers a.ranges.tasks a.codes a.steps a.seed in (
      p.auto.out ∙ l.invariant.0,
      p.ensures.state ∙ ap after_step l.invariant.1 ∙ sym (turns_more (λ _ s. after_step s) l.k a.seed),
      p.ensures.output ∙ ap₂ (λ o s. sets (set o (a.codes + l.k) (step_from a.ranges.cards a.ranges.registers a.ranges.tasks s).code) (a.codes + a.steps + 8 * l.k) (step_from a.ranges.cards a.ranges.registers a.ranges.tasks s).argument) l.invariant.2 l.invariant.1
          ∙ sym (turns_more f l.k a.out.now),
    )

pub shape_of-out : goal.shape_of-out
shape_of-out c = c.loop-k.invariant.0

pub returns : goal.returns
returns c =
    let a = c.args in
    let l = c.loop-k in
    let e : l.k ≡ a.steps = omega arith in
    l.invariant.2
    ∙ ap (λ m. turns (step_put a.ranges.cards a.ranges.registers a.ranges.tasks a.codes a.steps a.seed) m a.out.now) e
    ∙ steps_put a.ranges.cards a.ranges.registers a.ranges.tasks a.codes a.steps a.seed a.out.now
