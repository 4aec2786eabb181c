-- Demand 3: the store keeps step with the algorithm that it runs on paper, answer by answer, so what explains that explains the store.
use Prim.Native.Nat.{ℕ, ◌<◌, ◌^◌}
use mathlib.Core.Path.{◌≡◌, refl, subst, sym, ap₂, ◌∙◌}
use mathlib.Core.Bool.{true}
use mathlib.Core.List.{List, [], ◌∷◌}
use native.Mathlib.Decide.{dec_lt}
use native.Mathlib.Omega.{arith}
use borrow.Author.Tests.{ltb-true}
use lib.Dec.{ltb}
use lib.ListN.{get_or-eq_default}
use Rattle.lists.specs.Tests.{and_fst, and_snd}
use Rattle.names.specs.CardSet.{member_of}
use Rattle.names.specs.Placement.{Placement, registers, holders, copy}
use Rattle.channel.proofs.Offered.{member_present}
use Rattle.claims.specs.Steps.{RawStep, decode}
use Rattle.claims.specs.Reports.{LedgerNumbers}
use Rattle.claims.specs.Found.{Found, begin}
use Rattle.claims.specs.FoundRun.{Answer, after_decoded, answers_from, final_from}
use Rattle.claims.proofs.Demand3.{demand_3}
use Rattle.claims.proofs.LedgerNumbers.{ledger_numbers}
use Rattle.store.specs.Demand2.{Stands}
use Rattle.store.specs.Run.{Store, started, next, store_after, answers_of, table_of}
use Rattle.store.specs.Demand3.{Demand3, LedgerResults}
use Rattle.store.proofs.StepLaw.{step_follows}
use Rattle.store.proofs.StartLaw.{start_stands}

module _ (P : Placement) where
  -- the store shows this state
  abbrev pub At : Store → Found → Type 0
  At m s = Stands m.registers m.channel P s

  pub after_shows : (m : Store) (s : Found) (l : List RawStep) → At m s → At (store_after m l) (final_from P s l)
  after_shows m s [] z = z
  after_shows m s (a ∷ l) z = after_shows (next m a) (after_decoded P s (decode P a)) l (step_follows m.registers m.channel P s z a).stands

  pub answers_same : (m : Store) (s : Found) (l : List RawStep) → At m s → answers_of m l ≡ answers_from P s l
  answers_same m s [] z = refl
  answers_same m s (a ∷ l) z =
      let k = step_follows m.registers m.channel P s z a in
      ap₂ (λ (x : Answer) (y : List Answer). x ∷ y) k.answer= (answers_same (next m a) (after_decoded P s (decode P a)) l k.stands)

  -- a card that holds a copy is present, and so is the register
  register_there_lem : (x i : ℕ) → copy P x i ≡ true → x < registers P
  register_there_lem x i c = go (dec_lt x (registers P))
    where
      go : Dec (x < registers P) → x < registers P
      go (yes h) = h
      go (no n) =
          let e : holders P x ≡ 0 = get_or-eq_default P.copies 0 {n = x} (omega arith) in
          let q : member_of 0 i ≡ true = rw e at (and_snd (ltb i P.cards) (member_of (holders P x) i) c) in
          let z : 0 < 2 ^ 0 = omega arith in
          absurd (omega (arith, member_present 0 0 i z q))

  values : (m : Store) (s : Found) → At m s → (x i : ℕ) → copy P x i ≡ true → table_of m i x ≡ s.table i x
  values m s z x i c =
      let v = z.shows in
      let card : i < P.cards = ltb-true _ _ (and_fst (ltb i P.cards) (member_of (holders P x) i) c) in
      sym (v.registers_show.table= i x (rw (← v.cards=) card) (rw (← v.registers=) (register_there_lem x i c)))

-- one claim about the whole list (RULES 12.9)
pub store_demand_3 : Demand3
store_demand_3 P ok m steps =
    let r = demand_3 P ok steps in
    let z = start_stands P ok m in
    let g = after_shows P (started P m) begin steps z in (
      r.0,
      record {
        only = r.1.only;
        reported = r.1.reported;
        applied = r.1.applied;
        once = r.1.once;
        tasks = r.1.tasks;
        gives = rw (answers_same P (started P m) begin steps z) r.1.gives;
        copies = r.1.copies;
        copy_values = λ x i c. values P (store_after (started P m) steps) (final_from P begin steps) g x i c ∙ r.1.copy_values x i c;
      },
    )

-- the store's result at each step is the ledger's (RULES 12.3)
pub store_ledger_results : LedgerResults
store_ledger_results P ok m steps = subst (LedgerNumbers P steps) (sym (answers_same P (started P m) begin steps (start_stands P ok m))) (ledger_numbers P ok steps)
