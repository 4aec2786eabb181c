-- The demands of the store with the copies side by side: those of the store card after card, carried over by Match and not proved again.
use Prim.Native.Nat.{ℕ}
use mathlib.Core.Path.{◌≡◌, sym, ap, ap₂, subst, ◌∙◌}
use mathlib.Core.Bool.{true, false}
use mathlib.Core.List.{List}
use Rattle.lists.specs.Tests.{and_fst}
use Rattle.lists.specs.Histories.{In}
use Rattle.names.specs.declared.Answer.{Answer}
use Rattle.names.specs.Placement.{Placement, placement_refusal}
use Rattle.channel.specs.Sized.{well_sized}
use Rattle.claims.specs.Steps.{RawStep, decode}
use Rattle.claims.specs.Reports.{LedgerNumbers}
use Rattle.claims.specs.SerialOrder.{SerialOrder}
use Rattle.claims.specs.Found.{Found, begin}
use Rattle.claims.specs.FoundRun.{answers_from, final_from}
use Rattle.tables.specs.Layout.{Place, side_by_side, card_after_card}
use Rattle.tables.specs.Sized.{registers_sized, store_sized}
use Rattle.tables.specs.Match.{RegistersMatch}
use Rattle.tables.proofs.Layouts.{side_by_side_lem, card_after_card_lem}
use Rattle.tables.proofs.Match.{turned, relaid, relaid_alike}
use Rattle.tables.proofs.MatchReads.{sized=, shows_match}
use Rattle.store.specs.Demand2 as Card
use Rattle.store.specs.Demand2.{StandsAt}
use Rattle.store.specs.Run as Paper
use Rattle.store.specs.Run.{Store, started}
use Rattle.store.specs.Match.{Match, Matching}
use Rattle.store.specs.Step.{outcome}
use Rattle.store.specs.SideBySide.{advanced, stepped, next, store_after, answers_of, table_of, Stands, StepPublished, StepFollows, Demand2, PublishedAnswers, Demand3, LedgerResults, Starts, NeverSix, NeverTwentyThree, CheckedOnce}
use Rattle.store.proofs.StartLaw as StartLaw
use Rattle.store.proofs.StepLaw as StepLaw
use Rattle.store.proofs.Demand2 as Two
use Rattle.store.proofs.Demand3 as Three
use Rattle.store.proofs.NeverSix as Six
use Rattle.store.proofs.NeverTwentyThree as TwentyThree
use Rattle.store.proofs.CheckedOnce as Once
use Rattle.store.proofs.MatchStore.{matching}

pub carry : Matching card_after_card side_by_side
carry = matching card_after_card side_by_side card_after_card_lem side_by_side_lem

-- ---- what memories that match show

stands_match : (p q : Place) (rs us cs : List ℕ) (P : Placement) (s : Found) → RegistersMatch p q rs us → StandsAt p rs cs P s → StandsAt q us cs P s
stands_match p q rs us cs P s z v = record {
  long = z.long';
  channel_long = v.channel_long;
  sized = sym (sized= p q rs us z.alike cs) ∙ v.sized;
  shows = shows_match p q rs us z.alike cs P s v.shows;
}

stands_on : (m n : Store) (P : Placement) (s : Found) → Match m n → Card.Stands m.registers m.channel P s → Stands n.registers n.channel P s
stands_on m n P s z v = rw (← z.channel=) (stands_match card_after_card side_by_side m.registers n.registers m.channel P s z.registers v)

-- the channel's part of being well sized
pub channel_fit : (us cs : List ℕ) (P : Placement) (s : Found) → Stands us cs P s → well_sized cs ≡ true
unfolding store_sized
channel_fit us cs P s v = and_fst (well_sized cs) (registers_sized us cs) v.sized

-- a store that stands has its like on paper, which stands too
module _ (n : Store) (P : Placement) (s : Found) (v : Stands n.registers n.channel P s) where
  pub like : Store
  like = (carry.like n v.long).0

  pub alike : Match like n
  unfolding like
  alike = (carry.like n v.long).1

  pub like_stands : Card.Stands like.registers like.channel P s
  like_stands = rw alike.channel= (stands_match side_by_side card_after_card n.registers like.registers n.channel P s (turned alike.registers) v)

  -- ---- a step

  step_on : (a : RawStep) → StepFollows n.registers n.channel P s (stepped n.registers n.channel a.code a.argument) (decode P a)
  step_on a =
      let k = StepLaw.step_follows like.registers like.channel P s like_stands a in
      let w = carry.step like n alike a in
      record {
        answer= = sym w.answer= ∙ k.answer=;
        stands = stands_on (Paper.next like a) (next n a) P _ w.next k.stands;
        refused = λ h.
            let r = k.refused (rw w.answer= h) in
            let o : Match like (next n a) = subst (λ m. Match m (next n a)) (ap₂ (λ x y. record { registers = x; channel = y }) r.0 r.1) w.next in
            let e = carry.one like (next n a) n o alike in
            (ap (λ (x : Store). x.registers) e, ap (λ (x : Store). x.channel) e);
      }

  published_on : (a : RawStep) → StepPublished P s (stepped n.registers n.channel a.code a.argument) (decode P a)
  published_on a =
      let k = (Two.demand_2).published like.registers like.channel P s like_stands a in
      let w = carry.step like n alike a in
      record {
        answer= = rw (← w.answer=) k.answer=;
        next = k.next;
        stands = stands_on (Paper.next like a) (next n a) P k.next w.next k.stands;
        next= = k.next=;
      }

pub step_follows : (us cs : List ℕ) (P : Placement) (s : Found) → Stands us cs P s → (a : RawStep) → StepFollows us cs P s (stepped us cs a.code a.argument) (decode P a)
step_follows us cs P s v a = step_on (record { registers = us; channel = cs }) P s v a

pub advance_is : (us cs : List ℕ) → store_sized us cs ≡ true → (a : RawStep) → stepped us cs a.code a.argument ≡ advanced us cs a.code a.argument
advance_is us cs e a = rw e

pub advance_follows : (us cs : List ℕ) (P : Placement) (s : Found) → Stands us cs P s → (a : RawStep) → StepFollows us cs P s (advanced us cs a.code a.argument) (decode P a)
advance_follows us cs P s v a = rw (← advance_is us cs v.sized a) (step_follows us cs P s v a)

pub ill_sized : (us cs : List ℕ) → store_sized us cs ≡ false → (a : RawStep) → stepped us cs a.code a.argument ≡ outcome 6 us cs
ill_sized us cs e a = rw e

-- ---- demand 2

pub demand_2 : Demand2
demand_2 = record {
  some = λ us cs.
      let rs = relaid card_after_card side_by_side card_after_card_lem side_by_side_lem us in
      let r = (Two.demand_2).some rs cs in
      (r.0, r.1, shows_match card_after_card side_by_side rs us (relaid_alike card_after_card side_by_side card_after_card_lem side_by_side_lem us) cs r.0 r.1 r.2);
  published = λ us cs P s v a. published_on (record { registers = us; channel = cs }) P s v a;
  step = step_follows;
  ill_sized = ill_sized;
}

-- ---- starts and runs

module _ (P : Placement) (ok : placement_refusal P ≡ 0) (m : Store) where
  abbrev start : Match (started P m) (started P m)
  start = carry.start P ok m m

  pub start_stands : Stands (started P m).registers (started P m).channel P begin
  start_stands = stands_on (started P m) (started P m) P begin start (StartLaw.start_stands P ok m)

  pub answers_on : (steps : List RawStep) → Paper.answers_of (started P m) steps ≡ answers_of (started P m) steps
  answers_on steps = carry.answers (started P m) (started P m) start steps

  after_on : (steps : List RawStep) → Match (Paper.store_after (started P m) steps) (store_after (started P m) steps)
  after_on steps = carry.after (started P m) (started P m) start steps

pub starts : Starts
starts = record { accepted = start_stands; refused = StartLaw.start_refused }

pub published_answers : PublishedAnswers
published_answers P ok m steps = rw (← answers_on P ok m steps) (Two.published_answers P ok m steps)

pub after_shows : (P : Placement) (n : Store) (s : Found) (l : List RawStep) → Stands n.registers n.channel P s
    → Stands (store_after n l).registers (store_after n l).channel P (final_from P s l)
after_shows P n s l v =
    stands_on (Paper.store_after (like n P s v) l) (store_after n l) P (final_from P s l) (carry.after (like n P s v) n (alike n P s v) l)
    (Three.after_shows P (like n P s v) s l (like_stands n P s v))

pub answers_same : (P : Placement) (n : Store) (s : Found) (l : List RawStep) → Stands n.registers n.channel P s → answers_of n l ≡ answers_from P s l
answers_same P n s l v = sym (carry.answers (like n P s v) n (alike n P s v) l) ∙ Three.answers_same P (like n P s v) s l (like_stands n P s v)

-- ---- demand 3

pub store_demand_3 : Demand3
store_demand_3 P ok m steps =
    let r = Three.store_demand_3 P ok m steps in (
      r.0,
      subst (λ l. SerialOrder P steps l (table_of (store_after (started P m) steps)) r.0) (answers_on P ok m steps)
          (subst (λ t. SerialOrder P steps (Paper.answers_of (started P m) steps) t r.0) (carry.table _ _ (after_on P ok m steps)) r.1),
    )

pub store_ledger_results : LedgerResults
store_ledger_results P ok m steps = subst (LedgerNumbers P steps) (answers_on P ok m steps) (Three.store_ledger_results P ok m steps)

-- ---- never 6, never 23, no check inside a run

pub never_six : NeverSix
never_six = record {
  state = λ P ok m steps.
      let z = after_on P ok m steps in
      rw (← z.channel=) (sym (sized= card_after_card side_by_side _ _ z.registers.alike _) ∙ (Six.never_six).state P ok m steps);
  outcome = λ P ok m steps a e.
      (Six.never_six).outcome P ok m steps a (ap (λ (x : Answer). x.result) (carry.step _ _ (after_on P ok m steps) a).answer= ∙ e);
}

pub never_twenty_three : NeverTwentyThree
never_twenty_three P ok m steps few r h = TwentyThree.never_twenty_three P ok m steps few r (subst (In r) (sym (answers_on P ok m steps)) h)

pub checked_once : CheckedOnce
checked_once = record {
  store = λ P ok m steps.
      carry.one _ _ _ (rw (← (Once.checked_once).store P ok m steps) (carry.unchecked_after _ _ (start P ok m) steps)) (after_on P ok m steps);
  answers = λ P ok m steps.
      sym (carry.unchecked_answers _ _ (start P ok m) steps) ∙ (Once.checked_once).answers P ok m steps ∙ answers_on P ok m steps;
}
