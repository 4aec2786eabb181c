use mathlib.Core.Path.{◌≡◌, ap₂, ◌∙◌}
use mathlib.Core.List.{List}
use Prim.Native.Nat.{ℕ}
use native.Mathlib.Omega.{arith}
use lib.ListN.{replicate}
use Rattle.channel.specs.Layout.{channel_words}
use Rattle.store.specs.Run.{Store, started}
use Rattle.runfile.specs.RunFile.{step_in, placement_in, copies_at, primaries_at, codes_at, arguments_at, file_length}
use Rattle.runfile.specs.AnswerFile.{headed, put_answers}
use Rattle.runfile.specs.Stepwise.{stored, answer_at, counted}
use Rattle.runfile.proofs.RunFileLaws.{accepted_length, accepted_most}
use Rattle.runfile.proofs.RunLaws.{run_counts, run_output}
use Rattle.runfile.proofs.run.whole.Goals as goal

pub invariant_of-steps : goal.invariant_of-steps
unfolding arguments_at codes_at primaries_at copies_at file_length
invariant_of-steps c = record {
  laid = (c.codes_at.ensures.0, c.arguments_at.ensures.0, c.steps.ensures.0);
  held = let e = accepted_length _ c.requires.0 in (omega (arith, e, c.codes_at.ensures.0, c.steps.ensures.0), omega (arith, e, c.arguments_at.ensures.0, c.steps.ensures.0));
  few = rw c.steps.ensures.0 (accepted_most _ c.requires.0);
}

pub go-requires : goal.go-requires
go-requires c = rw c.steps.ensures.0 c.requires.1

pub shape_of-out : goal.shape_of-out
shape_of-out c = c.go.auto.out

pub returns : goal.returns
returns c = let s = c.args.file.now in let o = c.args.out.now in
    let m : Store = stored (replicate 593 0) (replicate channel_words 0) in
    let same : stored c.start.new.registers c.start.new.channel ≡ started (placement_in s) m = ap₂ (λ (a : List ℕ) (b : List ℕ). stored a b) (rw (← c.placement_in.ensures) c.start.ensures.registers) (rw (← c.placement_in.ensures) c.start.ensures.channel) in record {
      counts = c.go.ensures.counts ∙ ap₂ (λ (q : Store) (n : ℕ). counted (answer_at (step_in s) q) n) same c.steps.ensures.0 ∙ run_counts s c.requires.0 m o c.requires.1;
      output = c.go.ensures.output ∙ ap₂ (λ (q : Store) (n : ℕ). put_answers n (answer_at (step_in s) q) n (headed n o)) same c.steps.ensures.0 ∙ run_output s c.requires.0 m o c.requires.1;
    }
