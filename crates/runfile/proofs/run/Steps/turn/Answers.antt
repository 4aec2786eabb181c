use mathlib.Core.Path.{◌≡◌, ap, ap₂, ◌∙◌}
use mathlib.Core.List.{List}
use Prim.Native.Nat.{ℕ}
use Rattle.store.specs.Step.{Outcome}
use Rattle.store.specs.SideBySide.{advanced}
use Rattle.runfile.specs.RunFile.{code_in, argument_in}
use Rattle.runfile.specs.AnswerFile.{put_answer}
use Rattle.runfile.proofs.run.Steps.turn.Goals as goal

pub put_answer-requires : goal.put_answer-requires
put_answer-requires c = (c.args.self.now.few, c.requires.0, c.requires.1)

pub shape_of-out : goal.shape_of-out
shape_of-out c = c.put_answer.auto.out

pub returns : goal.returns
returns c = let s = c.args.self.now in let f = s.file.now in let k = c.args.k in let rs = c.args.registers.now in let cs = c.args.channel.now in
    let same : advanced rs cs c.code-code.result c.argument-argument.result ≡ advanced rs cs (code_in f k) (argument_in f k) = ap₂ (λ (a : ℕ) (b : List ℕ). advanced rs cs a b) c.code-code.ensures c.argument-argument.ensures in
    record {
      registers = c.advance-said.ensures.registers ∙ ap (λ (o : Outcome). o.registers) same;
      channel = c.advance-said.ensures.channel ∙ ap (λ (o : Outcome). o.channel) same;
      output = c.put_answer.ensures ∙ ap (λ a. put_answer s.n k a c.args.out.now) (c.advance-said.ensures.answer ∙ ap (λ (o : Outcome). o.answer) same);
      result = ap (λ a. a.result) (c.advance-said.ensures.answer ∙ ap (λ (o : Outcome). o.answer) same);
    }
