-- SerialOrder's field `applied` says no more than `copies`: an update is applied only on cards that hold a copy of its register, which shows it.
-- So no history tells the two apart, and `applied` is there to say what RULES 12.8 a says, every update applied on some card.
use Prim.Native.Nat.{ℕ}
use mathlib.Core.Bool.{true}
use mathlib.Core.List.{List, map}
use mathlib.Core.Path.{refl, subst, sym, ◌∙◌, ◌≡◌}
use Rattle.lists.specs.Filters.{filter_in, in_filter}
use Rattle.lists.specs.Histories.{In, any_at, any_left}
use Rattle.lists.specs.Tests.{and_intro, eqb_refl}
use Rattle.names.specs.Placement.{Placement, copy, placement_refusal}
use Rattle.registers.proofs.Applied.{applied_in}
use Rattle.registers.proofs.Serial.{at_holder, lies}
use Rattle.registers.specs.Layer.{Event, World, unvalued}
use Rattle.claims.proofs.Executions.{Holds, trace}
use Rattle.claims.proofs.InSets.{copy_in_set}
use Rattle.claims.proofs.Joint.{upper}
use Rattle.claims.proofs.LedgerRun.{Sim, ord, rk, valid}
use Rattle.claims.proofs.LedgerRuns.{final}
use Rattle.claims.proofs.Taken.{executes}
use Rattle.claims.specs.Fields.{Says, applied, copies}
use Rattle.claims.specs.Ledger.{world_of}
use Rattle.claims.specs.Paper.{Ledger, paper}
use Rattle.claims.specs.PublishedRun.{Answer}
use Rattle.claims.specs.SerialOrder.{applied_on, book, op, updates}
use Rattle.claims.specs.Steps.{RawStep}

module _ (P : Placement) (ok : placement_refusal P ≡ 0) (steps : List RawStep) where
  abbrev b : Ledger
  b = book P steps

  abbrev W : World unvalued
  W = world_of P b.ops b.chosen

  abbrev events : List (Event unvalued)
  events = map upper (trace P (paper P steps))

  S : Sim P ok b.ops b.chosen b (trace P (paper P steps))
  S = final P ok (paper P steps) (executes unvalued P ok steps)

  H : Holds b b.ops b.chosen
  H = record { ops= = λ k l. refl; chosen= = λ k i e. e }

  -- what a card has applied is an update of a register of which it holds a copy
  pub applied_held : (k i : ℕ) → In k (applied_on P steps i) → (updates P steps (op P steps k).reg k ≡ true) × (copy P (op P steps k).reg i ≡ true)
  applied_held k i h =
      let r = applied_in W events k i (subst (λ u. In k (u.applied i)) S.state= h) in
      let v = valid P ok b.ops b.chosen b (trace P (paper P steps)) H S in
      let o = ord P ok b.ops b.chosen b (trace P (paper P steps)) H S in
      let rank = rk P ok b.ops b.chosen b (trace P (paper P steps)) H S in (
        and_intro r.0 (eqb_refl (op P steps k).reg),
        copy_in_set P ok (op P steps k).reg i ∙ sym (lies W rank events v o r.1 i) ∙ at_holder W rank events v o (any_at r.1).1,
      )

  pub applied_follows : (answers : List Answer) (table : ℕ → ℕ → ℕ) (order : List ℕ) → Says P steps answers table order copies → Says P steps answers table order applied
  applied_follows answers table order shown k i h =
      let a = applied_held k i h in
      let c = shown (op P steps k).reg i a.1 in
      (filter_in (updates P steps (op P steps k).reg) order (subst (In k) (sym c.1) (any_left c.0 (in_filter (updates P steps (op P steps k).reg) h a.0)))).0
