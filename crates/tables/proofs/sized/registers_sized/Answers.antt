use Rattle.std.proofs.Common.{rules, ap, ◌∙◌}
use Rattle.lists.specs.Folds.{fold_each}
use Rattle.channel.specs.declared.Limits.{Limits}
use Rattle.channel.proofs.Offered.{limits_are}
use Rattle.tables.specs.Sized.{task_fits, register_fits, outbox_fits, registers_sized}
use Rattle.tables.proofs.sized.registers_sized.Goals as goal

pub returns : goal.returns
unfolding registers_sized
returns c = let rs = c.args.registers.now in let cs = c.args.channel.now in let e = c.limits_of-limits.ensures ∙ limits_are _ in
    rw (
      ← ap (λ (z : Limits). z.tasks) e,
      ← ap (λ (z : Limits). z.registers) e,
      ← ap (λ (z : Limits). z.cards) e,
      ← fold_each (task_fits rs cs) c.fold.ensures.ran (λ k a b f h post. search rules),
      ← fold_each (register_fits rs cs) c.fold-2.ensures.ran (λ k a b f h post. search rules),
      ← fold_each (outbox_fits rs cs) c.fold-3.ensures.ran (λ k a b f h post. search rules),
    )
