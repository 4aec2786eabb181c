use mathlib.Core.Path.{◌≡◌, refl, sym, ap, ◌∙◌}
use native.Mathlib.Omega.{arith}
use lib.ListN.{length}
use Rattle.names.specs.Placement.{Placement, placement}
use Rattle.names.proofs.PlacementLaws.{in_range_lem}
use Rattle.runfile.specs.Head.{head_of}
use Rattle.names.proofs.RefusalsMeaning.{refusals_meaning}
use Rattle.loads.proofs.LoadTables.{head_room, head_refused, steps_behind}
use Rattle.loads.proofs.load.Goals as goal

pub returns-in_err-length-clause-output : goal.returns-in_err-length-clause-output
returns-in_err-length-clause-output c =
    let a = c.args in
    let h = c.in_err-length.ensures in
    h.output ∙ head_refused a.seed a.placement.now a.steps a.out.now (λ e. (refusals_meaning.not_taken c.in_err-length.field-0.0).0 (ap (λ r. r.refusal) h.said ∙ e))

pub overflow_add-tasks-2 : goal.overflow_add-tasks-2
overflow_add-tasks-2 c =
    let a = c.args in
    let none = sym (ap (λ r. r.refusal) c.in_ok-length.ensures.said) in
    let room = rw (← c.placement.view_is) at (head_room a.seed a.placement.now a.steps a.out.now none) in
    let r = room.0 in
    omega (arith, r.0.3, r.0.5, r.1)

pub overflow_add-tasks-3 : goal.overflow_add-tasks-3
overflow_add-tasks-3 c =
    let a = c.args in
    let none = sym (ap (λ r. r.refusal) c.in_ok-length.ensures.said) in
    let room = rw (← c.placement.view_is) at (head_room a.seed a.placement.now a.steps a.out.now none) in
    let r = room.0 in
    omega (arith, r.0.3, r.0.5, r.1)

pub overflow_cast-ranges : goal.overflow_cast-ranges
overflow_cast-ranges c =
    let a = c.args in
    let none = sym (ap (λ r. r.refusal) c.in_ok-length.ensures.said) in
    let room = rw (← c.placement.view_is) at (head_room a.seed a.placement.now a.steps a.out.now none) in
    let r = room.0 in
    omega (arith, r.0.3, r.0.5, r.1)

pub overflow_cast-ranges-2 : goal.overflow_cast-ranges-2
overflow_cast-ranges-2 c =
    let a = c.args in
    let none = sym (ap (λ r. r.refusal) c.in_ok-length.ensures.said) in
    let room = rw (← c.placement.view_is) at (head_room a.seed a.placement.now a.steps a.out.now none) in
    let r = room.0 in
    omega (arith, r.0.3, r.0.5, r.1)

pub put_steps-requires : goal.put_steps-requires
put_steps-requires c =
    let a = c.args in
    let none = sym (ap (λ r. r.refusal) c.in_ok-length.ensures.said) in
    let room = rw (← c.placement.view_is) at (head_room a.seed a.placement.now a.steps a.out.now none) in
    (room.1, omega (arith, room.2, c.head.auto.out))

pub invariant_of-ranges : goal.invariant_of-ranges
invariant_of-ranges c =
    let a = c.args in
    let none = sym (ap (λ r. r.refusal) c.in_ok-length.ensures.said) in
    let room = rw (← c.placement.view_is) at (head_room a.seed a.placement.now a.steps a.out.now none) in
    let i = c.placement.inside in
    record { sound = (in_range_lem i.cards (length i.copies.now) (length i.homes.now)).1 room.0.0 }

pub returns-clause-output : goal.returns-clause-output
returns-clause-output c =
    let a = c.args in
    let i = c.placement.inside in
    let P : Placement = placement i.cards i.homes.now i.copies.now i.primaries.now in
    let h = c.in_ok-length.ensures in
    let none : (head_of a.placement.now a.steps a.out.now).refusal ≡ 0 = sym (ap (λ r. r.refusal) h.said) in
    rw (c.put_steps.ensures, h.output, ← c.placement.view_is) (steps_behind a.seed P a.steps a.out.now (rw (← c.placement.view_is) at none) _ refl)
