use mathlib.Core.Path.{◌≡◌, refl, sym, ap, ap₂, ◌∙◌}
use mathlib.Core.Bool.{Bool, true, false, cond}
use mathlib.Core.List.{List}
use Prim.Native.Nat.{◌+◌, ◌≤◌, ℕ}
use native.Mathlib.Omega.{arith}
use Rattle.lists.specs.Loops.{turns_zero, turns_more, total_zero, total_more}
use Rattle.names.specs.declared.Answer.{Answer}
use Rattle.store.specs.SideBySide.{advanced}
use Rattle.store.specs.Run.{Store}
use Rattle.runfile.specs.RunFile.{step_in, code_in, argument_in}
use Rattle.runfile.specs.AnswerFile.{headed, put_answer, put_answers}
use Rattle.names.specs.Results.{is_taken}
use Rattle.runfile.specs.Stepwise.{stored, answer_at}
use Rattle.runfile.proofs.StepwiseLaws.{store_zero, store_more, answer_is, both_counted}
use mir.Val.{bool_byte}
use Rattle.runfile.proofs.run.Steps.go.Goals as goal

one_if : (b : Bool) → (bool_byte b ≡ cond b 1 0) × (bool_byte b ≤ 1)
one_if true = (refl, omega arith)
one_if false = (refl, omega arith)

pub loop-k-init : goal.loop-k-init
unfolding put_answers
loop-k-init c = let m = stored c.args.registers.now c.args.channel.now in let z = store_zero (step_in c.args.self.now.file.now) m in
    (refl, ap (λ (q : Store). q.registers) (sym z), ap (λ (q : Store). q.channel) (sym z), sym (turns_zero _ _), sym (total_zero _), omega arith)

pub turn-result-requires : goal.turn-result-requires
turn-result-requires c = (omega arith, omega (arith, c.requires, c.loop-k.invariant.0, c.put_count.auto.out))

pub overflow_add-taken : goal.overflow_add-taken
overflow_add-taken c = omega (arith, c.args.self.now.few, c.loop-k.invariant.5, c.from-taken.ensures, (one_if c.is_taken.result).1)

pub loop-k-preserved : goal.loop-k-preserved
unfolding put_answers
loop-k-preserved c = let s = c.args.self.now.file.now in let m = stored c.args.registers.now c.args.channel.now in let l = c.loop-k in let k = c.loop-k.k in
    let more = store_more (step_in s) m k in
    let a = answer_is (step_in s) m k l.registers l.channel l.invariant.1 l.invariant.2 in
    let result = c.turn-result.ensures.result ∙ ap (λ (x : Answer). x.result) a in
    let one = one_if c.is_taken.result in (
      c.turn-result.auto.out ∙ l.invariant.0,
      c.turn-result.ensures.registers ∙ ap₂ (λ x y. (advanced x y (code_in s k) (argument_in s k)).registers) l.invariant.1 l.invariant.2 ∙ ap (λ (q : Store). q.registers) (sym more),
      c.turn-result.ensures.channel ∙ ap₂ (λ x y. (advanced x y (code_in s k) (argument_in s k)).channel) l.invariant.1 l.invariant.2 ∙ ap (λ (q : Store). q.channel) (sym more),
      c.turn-result.ensures.output ∙ ap₂ (λ (x : Answer) (y : List ℕ). put_answer c.args.self.now.n k x y) a l.invariant.3 ∙ sym (turns_more _ k _),
      ap₂ ◌+◌ l.invariant.4 (c.from-taken.ensures ∙ one.0 ∙ ap (λ (b : Bool). cond b 1 0) (c.is_taken.ensures ∙ ap is_taken result)) ∙ sym (total_more _ k),
      omega (arith, l.invariant.5, c.from-taken.ensures, one.1),
    )

pub returns : goal.returns
returns c = let s = c.args.self.now.file.now in let n = c.args.self.now.n in let m = stored c.args.registers.now c.args.channel.now in let l = c.loop-k in
    let k : c.loop-k.k ≡ n = omega arith in
    let taken = rw k at l.invariant.4 in
    let both = both_counted (answer_at (step_in s) m) n in record {
      counts = ap₂ (λ (a : ℕ) (b : ℕ). record { refusal = 0; taken = a; refused = b }) taken (omega (arith, taken, both));
      output = l.invariant.3 ∙ ap (λ o. put_answers n (answer_at (step_in s) m) c.loop-k.k o) c.put_count.ensures ∙ ap (λ (b : ℕ). put_answers n (answer_at (step_in s) m) b (headed n c.args.out.now)) k;
    }
