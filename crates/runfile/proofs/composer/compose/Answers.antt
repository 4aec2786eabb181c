use Prim.Native.Nat.{◌+◌}
use mathlib.Core.Path.{◌≡◌, refl, sym, ap, ◌∙◌}
use mathlib.Core.Bool.{true}
use native.Mathlib.Omega.{arith}
use Rattle.std.proofs.Common.{rules, Err}
use Rattle.runfile.specs.Head.{told}
use lib.ListN.{length}
use Rattle.names.specs.Placement.{Placement, tasks, registers}
use Rattle.runfile.specs.Compose.{Tables, composed_of, with_steps, tables_sized}
use Rattle.names.proofs.RefusalsMeaning.{refusals_meaning}
use Rattle.runfile.proofs.ComposeNumbers.{sized_tables, said_refused, said_written, room_behind}
use Rattle.runfile.proofs.composer.compose.Goals as goal

pub overflow_cast-codes : goal.overflow_cast-codes
overflow_cast-codes c =
    let a = c.args in
    let t : Tables = with_steps a.placement.now a.codes.now a.arguments.now in
    let s : tables_sized t ≡ true = sym c.tables_sized.ensures ∙ c.if-not-tables_sized.false in
    omega (arith, ((sized_tables t).0 s).3)

pub returns-in_err-length-clause-said : goal.returns-in_err-length-clause-said
returns-in_err-length-clause-said c =
    let a = c.args in
    let t : Tables = with_steps a.placement.now a.codes.now a.arguments.now in
    let s : tables_sized t ≡ true = sym c.tables_sized.ensures ∙ c.if-not-tables_sized.false in
    let e = c.in_err-length.ensures.said in
    let said = (said_refused t a.out.now s (λ z. (refusals_meaning.not_taken c.in_err-length.field-0.0).0 (ap (λ r. r.refusal) e ∙ z))).0 in
    let w : told (Err c.in_err-length.field-0.0) ≡ composed_of t a.out.now = e ∙ said in
    search rules

pub returns-in_err-length-clause-output : goal.returns-in_err-length-clause-output
returns-in_err-length-clause-output c =
    let a = c.args in
    let t : Tables = with_steps a.placement.now a.codes.now a.arguments.now in
    let s : tables_sized t ≡ true = sym c.tables_sized.ensures ∙ c.if-not-tables_sized.false in
    c.in_err-length.ensures.output ∙ (said_refused t a.out.now s (λ z. (refusals_meaning.not_taken c.in_err-length.field-0.0).0 (ap (λ r. r.refusal) c.in_err-length.ensures.said ∙ z))).1

pub overflow_add-placement-inside-2 : goal.overflow_add-placement-inside-2
overflow_add-placement-inside-2 c =
    let a = c.args in
    let t : Tables = with_steps a.placement.now a.codes.now a.arguments.now in
    let s : tables_sized t ≡ true = sym c.tables_sized.ensures ∙ c.if-not-tables_sized.false in
    let h = rw (← c.placement.view_is) at ((sized_tables t).0 s) in
    omega (arith, h.1.1, h.2.1, h.4)

pub overflow_add-placement-inside-3 : goal.overflow_add-placement-inside-3
overflow_add-placement-inside-3 c =
    let a = c.args in
    let t : Tables = with_steps a.placement.now a.codes.now a.arguments.now in
    let s : tables_sized t ≡ true = sym c.tables_sized.ensures ∙ c.if-not-tables_sized.false in
    let h = rw (← c.placement.view_is) at ((sized_tables t).0 s) in
    omega (arith, h.1.1, h.2.1, h.4)

pub put_steps-requires : goal.put_steps-requires
put_steps-requires c =
    let a = c.args in
    let t : Tables = with_steps a.placement.now a.codes.now a.arguments.now in
    let s : tables_sized t ≡ true = sym c.tables_sized.ensures ∙ c.if-not-tables_sized.false in
    let none = sym (ap (λ r. r.refusal) c.in_ok-length.ensures.said) in
    let room = rw (← c.placement.view_is) at (room_behind t a.out.now s none) in
    omega (arith, room, c.head.auto.out)

pub returns-clause-said : goal.returns-clause-said
returns-clause-said c =
    let a = c.args in
    let t : Tables = with_steps a.placement.now a.codes.now a.arguments.now in
    let s : tables_sized t ≡ true = sym c.tables_sized.ensures ∙ c.if-not-tables_sized.false in
    let h = c.in_ok-length.ensures in
    h.said ∙ (said_written t a.out.now s (sym (ap (λ r. r.refusal) h.said)) _ refl).0

pub returns-clause-output : goal.returns-clause-output
returns-clause-output c =
    let a = c.args in
    let t : Tables = with_steps a.placement.now a.codes.now a.arguments.now in
    let s : tables_sized t ≡ true = sym c.tables_sized.ensures ∙ c.if-not-tables_sized.false in
    let h = c.in_ok-length.ensures in
    let at = ap (λ (p : Placement). 5 + tasks p + registers p + length p.primaries) c.placement.view_is in
    rw (c.put_steps.ensures, h.output) (said_written t a.out.now s (sym (ap (λ r. r.refusal) h.said)) _ at).1
