use mathlib.Core.Path.{◌≡◌, sym, ap, ap₂, ◌∙◌}
use native.Mathlib.Omega.{arith}
use lib.ListN.{length}
use Rattle.store.specs.SideBySide.{advanced}
use Rattle.store.specs.Run.{Store}
use Rattle.runfile.specs.declared.Sizes.{Sizes}
use Rattle.runfile.specs.RunFile.{steps_in, placement_in, code_in, argument_in, step_in}
use Rattle.runfile.specs.Stepwise.{stored}
use Rattle.runfile.proofs.StepwiseLaws.{store_zero, store_more}
use Rattle.logs.specs.Entries.{cards_put, operands_put}
use Rattle.logs.proofs.LogTables.{entries_most, cards_none, operands_none, log_zero, entry_is, cards_more, operands_more, length_more}
use Rattle.logs.proofs.go.Goals as goal

pub loop-k-init : goal.loop-k-init
loop-k-init c = let s = c.args.log.now.file.now in let x = c.args.log.now.register.0 in let m = stored c.args.registers.now c.args.channel.now in let z = store_zero (step_in s) m in let l = sym (log_zero (placement_in s) x (step_in s) m) in (
  ap (λ (q : Store). q.registers) (sym z),
  ap (λ (q : Store). q.channel) (sym z),
  sym (cards_none c.args.cards.now) ∙ ap (cards_put c.args.cards.now 0) l,
  sym (operands_none c.args.operands.now) ∙ ap (operands_put c.args.operands.now 0) l,
  ap length l,
  omega arith,
)

pub put-n-requires : goal.put-n-requires
put-n-requires c = let n = ap (λ (z : Sizes). z.steps) c.sizes_of-steps.ensures in
    omega (arith, n, c.requires, c.loop-k.invariant.5)

pub loop-k-preserved : goal.loop-k-preserved
loop-k-preserved c = let s = c.args.log.now.file.now in let x = c.args.log.now.register.0 in let m = stored c.args.registers.now c.args.channel.now in let l = c.loop-k in let k = c.loop-k.k in
    let more = store_more (step_in s) m k in
    let turn = c.turn-added in
    let e = turn.ensures.entry ∙ entry_is (placement_in s) x (step_in s) m k l.registers l.channel l.invariant.0 l.invariant.1 in (
      turn.ensures.registers ∙ ap₂ (λ a b. (advanced a b (code_in s k) (argument_in s k)).registers) l.invariant.0 l.invariant.1 ∙ ap (λ (q : Store). q.registers) (sym more),
      turn.ensures.channel ∙ ap₂ (λ a b. (advanced a b (code_in s k) (argument_in s k)).channel) l.invariant.0 l.invariant.1 ∙ ap (λ (q : Store). q.channel) (sym more),
      c.put-n.ensures.cards ∙ cards_more (placement_in s) x (step_in s) m k l.n turn.result l.invariant.4 e c.args.cards.now l.cards l.invariant.2,
      c.put-n.ensures.operands ∙ operands_more (placement_in s) x (step_in s) m k l.n turn.result l.invariant.4 e c.args.operands.now l.operands l.invariant.3,
      c.put-n.ensures.place ∙ length_more (placement_in s) x (step_in s) m k l.n turn.result l.invariant.4 e,
      omega (arith, c.put-n.ensures.place, entries_most turn.result, l.invariant.5),
    )

pub returns : goal.returns
returns c = let s = c.args.log.now.file.now in let l = c.loop-k in
    let n = ap (λ (z : Sizes). z.steps) c.sizes_of-steps.ensures in
    let k : l.k ≡ steps_in s = omega (arith, n) in
    record {
      cards = rw k at l.invariant.2;
      operands = rw k at l.invariant.3;
      count = rw k at l.invariant.4;
    }
