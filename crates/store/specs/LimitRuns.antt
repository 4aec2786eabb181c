-- Limits met exactly (RULES 7.1 to 7.3; 7.5 and 7.6 by K11 and K12 of RULES 13): a run from a start reaches each, or its last step is the first
-- refused. That none is passed says NeverSix; K13 is LimitSteps.request.
use Rattle.std.specs.Prelude.{ℕ, zero, suc, ◌%◌, ◌≡◌, List, [], ◌∷◌, ◌++◌, map, length, replicate}
use Rattle.names.specs.Placement.{Placement}
use Rattle.claims.specs.Steps.{RawStep}
use Rattle.claims.specs.NamedRuns.{step, set}
use Rattle.claims.specs.Found.{begin}
use Rattle.claims.specs.FoundRun.{final_from}
use Rattle.tables.specs.Layout.{Place, card_after_card}
use Rattle.store.specs.Demand2.{StandsAt}
use Rattle.store.specs.Run.{Store, started, store_after_at, answers_of_at}

-- two cards; 16 tasks on card 0; register 0 on both cards, register 1 on card 1
abbrev pub crowd : Placement
crowd = record {
  cards = 2;
  homes = 0 ∷ 0 ∷ 0 ∷ 0 ∷ 0 ∷ 0 ∷ 0 ∷ 0 ∷ 0 ∷ 0 ∷ 0 ∷ 0 ∷ 0 ∷ 0 ∷ 0 ∷ 0 ∷ [];
  copies = 3 ∷ 2 ∷ [];
  primaries = 0 ∷ 1 ∷ [];
}

-- steps for each of 0 .. n - 1
abbrev pub each_of : ℕ → (ℕ → List RawStep) → List RawStep
each_of zero f = []
each_of (suc n) f = each_of n f ++ f n

-- task t asks for register 1 and sends the read to card 1
abbrev pub reads : ℕ → List RawStep
reads t = step 1 (t ∷ 1 ∷ []) ∷ step 4 (t ∷ 1 ∷ []) ∷ []

-- card 0 dispatches it, and it reaches card 1
abbrev pub arrives : ℕ → List RawStep
arrives t = step 6 (0 ∷ []) ∷ step 8 (t ∷ []) ∷ []

-- task t (the remainder) sets register 0, which card 0 broadcasts
abbrev pub shares : ℕ → List RawStep
shares t = set (t % 16) 0 1 ∷ step 5 (t % 16 ∷ []) ∷ step 6 (0 ∷ []) ∷ []

-- card 0 takes and delivers it, and the task reports
abbrev pub settles : ℕ → List RawStep
settles t = step 7 (0 ∷ []) ∷ step 9 (0 ∷ []) ∷ step 10 (t % 16 ∷ []) ∷ []

-- n broadcasts, each settled on card 0
abbrev pub broadcasts : ℕ → List RawStep
broadcasts n = each_of n (λ t. shares t ++ settles t)

-- the same, and card 1 takes each as it comes
abbrev pub taken_broadcasts : ℕ → List RawStep
taken_broadcasts n = each_of n (λ t. shares t ++ settles t ++ (step 7 (1 ∷ []) ∷ []))

abbrev pub outbox_run : List RawStep
outbox_run = each_of 16 reads

-- the reads are tagged 1, and card 1 has taken nothing
abbrev pub held_run : List RawStep
held_run = broadcasts 1 ++ each_of 16 (λ t. reads t ++ arrives t)

-- 32 broadcasts and 16 single messages
abbrev pub inbox_run : List RawStep
inbox_run = taken_broadcasts 32 ++ each_of 16 (λ t. reads t ++ arrives t)

-- K11: card 1 takes nothing; broadcast 24 passes, 25 gives 34
abbrev pub k11 : List RawStep
k11 = broadcasts 24 ++ shares 24

-- K12: every card takes broadcasts as they come, and card 1 does not deliver; its 32nd take passes, the 33rd gives 35
abbrev pub k12 : List RawStep
k12 = taken_broadcasts 33

-- all taken but the last
abbrev pub then_refused : ℕ → ℕ → List ℕ
then_refused n r = replicate n 0 ++ (r ∷ [])

-- the results of a run of the store, in memories of any content
abbrev pub results_of_at : Place → Store → List RawStep → List ℕ
results_of_at place m l = map (λ a. a.result) (answers_of_at place (started crowd m) l)

pub record LimitsMetAt (place : Place) : Type 0 where
  -- what the store shows after a run is the state of its algorithm
  pub shows : (m : Store) (l : List RawStep)
      → StandsAt place (store_after_at place (started crowd m) l).registers (store_after_at place (started crowd m) l).channel crowd (final_from crowd begin l)
  pub outbox : length ((final_from crowd begin outbox_run).out 0) ≡ 16
  pub held : length ((final_from crowd begin held_run).channel.held 1) ≡ 16
  pub inbox : length ((final_from crowd begin inbox_run).channel.inbox 1) ≡ 48
  pub behind : (m : Store) → results_of_at place m k11 ≡ then_refused 146 34
  pub crowded : (m : Store) → results_of_at place m k12 ≡ then_refused 230 35

-- ---- card after card, on paper

abbrev pub results_of : Store → List RawStep → List ℕ
results_of = results_of_at card_after_card

abbrev pub LimitsMet : Type 0
LimitsMet = LimitsMetAt card_after_card
