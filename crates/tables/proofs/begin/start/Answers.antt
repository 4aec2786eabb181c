use Rattle.std.proofs.Common.{ℕ, ◌≡◌, ◌≤◌, Bool, true, false, cond, ◌&&◌, nat_le, refl, sym, arith, rules}
use borrow.Author.Tests.{leb-true, eq-eqb, ne_eqb}
use Rattle.lists.specs.Tests.{and_fst, and_snd}
use Rattle.claims.proofs.CardSets.{tasks_low}
use Rattle.names.specs.Placement.{Placement, tasks, registers, sized, sizes_in_range, placed, placement_refusal}
use Rattle.tables.specs.Start.{start_words, start_channel, start_registers}
use Rattle.names.proofs.RefusalsMeaning.{refusals_meaning}
use Rattle.tables.proofs.begin.start.Goals as goal

-- what refusal 3 leaves
sizes : (a b : Bool) → ◌≡◌ {A = ℕ} (cond a (cond b 0 4) 3) 0 → a ≡ true
sizes true b e = refl
sizes false b e = absurd (omega arith)

fourth : (a b c d e f g : Bool) → (a && b && c && d && e && f && g) ≡ true → d ≡ true
fourth a b c d e f g q = and_snd (a && b && c) d (and_fst (a && b && c && d) e (and_fst (a && b && c && d && e) f (and_fst (a && b && c && d && e && f) g q)))

-- an accepted placement has at most 32 registers
registers_low : (p : Placement) → placement_refusal p ≡ 0 → registers p ≤ 32
unfolding placement_refusal sized sizes_in_range
registers_low p ok =
    leb-true _ _
    (fourth (nat_le 1 p.cards) (nat_le p.cards 8) (nat_le 1 (registers p)) (nat_le (registers p) 32) (nat_le 1 (tasks p)) (nat_le (tasks p) 16) _ (sizes (sized p) (placed p) ok))

pub returns-in_err-judge-clause-registers : goal.returns-in_err-judge-clause-registers
unfolding start_registers
returns-in_err-judge-clause-registers c = simp (ne_eqb _ _ (rw c.in_err-judge.ensures at (refusals_meaning.not_taken c.in_err-judge.field-0.0).0))

pub returns-in_err-judge-clause-channel : goal.returns-in_err-judge-clause-channel
unfolding start_channel
returns-in_err-judge-clause-channel c = simp (ne_eqb _ _ (rw c.in_err-judge.ensures at (refusals_meaning.not_taken c.in_err-judge.field-0.0).0))

pub overflow_cast-tasks : goal.overflow_cast-tasks
overflow_cast-tasks c = let h = tasks_low c.args.placement.now (sym c.in_ok-judge.ensures) in search rules

pub overflow_cast-copied : goal.overflow_cast-copied
overflow_cast-copied c = let h = registers_low c.args.placement.now (sym c.in_ok-judge.ensures) in search rules

pub returns-clause-registers : goal.returns-clause-registers
unfolding start_registers start_words
returns-clause-registers c =
    simp (eq-eqb _ _ (sym c.in_ok-judge.ensures)) (rw (← c.placement.view_is) (simp (c.place_registers.ensures, c.place_tasks.ensures)))

pub returns-clause-channel : goal.returns-clause-channel
unfolding start_channel
returns-clause-channel c =
    simp (eq-eqb _ _ (sym c.in_ok-judge.ensures)) (rw (← c.placement.view_is) c.begin.ensures.memory)
