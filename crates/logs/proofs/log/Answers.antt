use mathlib.Core.Path.{◌≡◌, sym, ap, ap₂, ◌∙◌}
use mathlib.Core.List.{List}
use Prim.Native.Nat.{ℕ, ◌%◌}
use native.Mathlib.Omega.{arith}
use lib.ListN.{length, length-map, replicate}
use lib.Seq.{sets}
use borrow.Author.Tests.{eq-eqb}
use Rattle.channel.specs.Layout.{channel_words}
use Rattle.store.specs.Run.{Store, started}
use Rattle.runfile.specs.RunFile.{steps_in, placement_in, step_in, file_refusal}
use Rattle.runfile.specs.Run.{file_registers, file_channel}
use Rattle.runfile.specs.Stepwise.{stored}
use Rattle.runfile.proofs.RunFileLaws.{accepted_most}
use Rattle.logs.specs.Entries.{log_at, cards_put, operands_put}
use Rattle.logs.specs.FileLog.{logged_of, cards_logged, operands_logged}
use Rattle.logs.proofs.LogTables.{log_most}
use Rattle.logs.proofs.FileLogLaw.{file_log}
use Rattle.logs.proofs.log.Goals as goal

-- the memories that a start from an accepted file leaves
file_started : (file : List ℕ) → file_refusal file ≡ 0 → (m : Store)
    → stored (file_registers file m.registers) (file_channel file m.channel) ≡ started (placement_in file) m
unfolding file_registers file_channel
file_started file ok m = rw (eq-eqb _ _ ok)

pub go-requires : goal.go-requires
go-requires c = accepted_most _ (sym c.in_ok-start.ensures.number)

pub returns : goal.returns
unfolding cards_put operands_put cards_logged operands_logged logged_of
returns c = let s = c.args.file.now in let x = c.args.register.0 in
    let ok : file_refusal s ≡ 0 = sym c.in_ok-start.ensures.number in
    let z = eq-eqb (file_refusal s) 0 ok in
    let m : Store = stored (replicate 593 0) (replicate channel_words 0) in
    let same : stored c.start.new.registers c.start.new.channel ≡ started (placement_in s) m = ap₂ (λ (a : List ℕ) (b : List ℕ). stored a b) c.start.ensures.registers c.start.ensures.channel ∙ file_started s ok m in
    let law = file_log s ok x m in record {
      cards = rw z (c.go.ensures.cards ∙ ap (λ q. cards_put c.args.cards.now 0 (log_at (placement_in s) x (step_in s) q (steps_in s))) same ∙ ap (sets c.args.cards.now 0) law.0);
      operands = rw z (c.go.ensures.operands ∙ ap (λ q. operands_put c.args.operands.now 0 (log_at (placement_in s) x (step_in s) q (steps_in s))) same ∙ ap (sets c.args.operands.now 0) law.1);
      said = rw z (ap (λ (k : ℕ). record { refusal = 0; length = k }) (c.go.ensures.count ∙ ap (λ q. length (log_at (placement_in s) x (step_in s) q (steps_in s))) same ∙ sym (length-map (log_at (placement_in s) x (step_in s) (started (placement_in s) m) (steps_in s)) (λ e. e.0 % 256)) ∙ ap length law.0));
      room = omega (arith, accepted_most s ok, c.go.ensures.count, log_most (placement_in s) x (step_in s) (stored c.start.new.registers c.start.new.channel) (steps_in s));
    }
