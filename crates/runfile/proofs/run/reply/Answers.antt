use mathlib.Core.Path.{sym, ap, ap₂, ◌∙◌}
use mathlib.Core.List.{List}
use Prim.Native.Nat.{ℕ, ◌+◌, ◌*◌}
use lib.ListN.{set}
use Rattle.runfile.specs.Run.{Answered}
use Rattle.names.proofs.RefusalsMeaning.{refusals_meaning}
use Rattle.runfile.proofs.ReplyLaws.{refused_count, refused_output, accepted_count, accepted_output}
use borrow.Author.Rules.{rules}
use Rattle.runfile.proofs.run.reply.Goals as goal

pub returns-in-Ok-clause-count : goal.returns-in-Ok-clause-count
returns-in-Ok-clause-count c =
    let yes = sym (ap (λ (r : Answered). r.refusal) c.in-Ok.ensures.counts) in
    ap (λ n. 2 + 5 * n) c.steps.ensures.0 ∙ accepted_count c.args.file.now c.args.out.now (search rules) yes

pub returns-in-Ok-clause-output : goal.returns-in-Ok-clause-output
returns-in-Ok-clause-output c =
    let yes = sym (ap (λ (r : Answered). r.refusal) c.in-Ok.ensures.counts) in
    c.answer.ensures.output ∙ accepted_output c.args.file.now c.args.out.now (search rules) yes

pub returns-in-Err-clause-count : goal.returns-in-Err-clause-count
returns-in-Err-clause-count c =
    let e = ap (λ (r : Answered). r.refusal) c.in-Err.ensures.counts in
    refused_count c.args.file.now c.args.out.now (search rules) (λ z. (refusals_meaning.not_taken c.in-Err.refusal).0 (e ∙ z))

pub returns-in-Err-clause-output : goal.returns-in-Err-clause-output
returns-in-Err-clause-output c =
    let e = ap (λ (r : Answered). r.refusal) c.in-Err.ensures.counts in
    ap₂ (λ (x : List ℕ) (v : ℕ). set x 0 v) c.answer.ensures.output (c.from.ensures ∙ e) ∙ refused_output c.args.file.now c.args.out.now (search rules) (λ z. (refusals_meaning.not_taken c.in-Err.refusal).0 (e ∙ z))
