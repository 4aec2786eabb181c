-- What a start makes (RULES 10.2, 10.3), and what no run from a start gives (12.10).
use Rattle.std.specs.Prelude.{◌≤◌, ◌≡◌, ◌≢◌, true, List, length}
use Rattle.lists.specs.Histories.{In}
use Rattle.names.specs.declared.Answer.{Answer}
use Rattle.names.specs.Placement.{Placement, placement_refusal}
use Rattle.claims.specs.Steps.{RawStep}
use Rattle.claims.specs.Found.{begin}
use Rattle.tables.specs.Layout.{Place, card_after_card}
use Rattle.tables.specs.Sized.{store_sized}
use Rattle.store.specs.Demand2.{StandsAt}
use Rattle.store.specs.Run.{Store, started, store_after_at, answers_of_at, answer_at, advance_all_at, answers_advancing_at}

pub record StartsAt (place : Place) : Type 0 where
  -- an accepted placement: the memories are well sized and show it, at the beginning
  pub accepted : (P : Placement) → placement_refusal P ≡ 0 → (m : Store) → StandsAt place (started P m).registers (started P m).channel P begin
  -- a refused one: both memories as they were
  pub refused : (P : Placement) → placement_refusal P ≢ 0 → (m : Store) → started P m ≡ m

-- after any list of steps from a start the state is well sized, and no step is refused with 6, for the state or for the outcome (RULES 12.10)
pub record NeverSixAt (place : Place) : Type 0 where
  pub state : (P : Placement) → placement_refusal P ≡ 0 → (m : Store) (steps : List RawStep)
      → store_sized (store_after_at place (started P m) steps).registers (store_after_at place (started P m) steps).channel ≡ true
  pub outcome : (P : Placement) → placement_refusal P ≡ 0 → (m : Store) (steps : List RawStep) (a : RawStep)
      → (answer_at place (store_after_at place (started P m) steps) a).result ≢ 6

-- 23: no list of at most 65,535 steps meets it, and so no accepted file (RULES 12.10)
abbrev pub NeverTwentyThreeAt : Place → Type 0
NeverTwentyThreeAt place = (P : Placement) → placement_refusal P ≡ 0 → (m : Store) (steps : List RawStep) → length steps ≤ 65535
    → (r : Answer) → In r (answers_of_at place (started P m) steps) → r.result ≢ 23

-- A run from a start need not check the state: well-sizedness is kept, so steps that do not check it leave and answer the same.
pub record CheckedOnceAt (place : Place) : Type 0 where
  pub store : (P : Placement) → placement_refusal P ≡ 0 → (m : Store) (steps : List RawStep) → advance_all_at place (started P m) steps ≡ store_after_at place (started P m) steps
  pub answers : (P : Placement) → placement_refusal P ≡ 0 → (m : Store) (steps : List RawStep) → answers_advancing_at place (started P m) steps ≡ answers_of_at place (started P m) steps

-- ---- card after card, on paper; SideBySide has the case of the memory

abbrev pub Starts : Type 0
Starts = StartsAt card_after_card

abbrev pub NeverSix : Type 0
NeverSix = NeverSixAt card_after_card

abbrev pub NeverTwentyThree : Type 0
NeverTwentyThree = NeverTwentyThreeAt card_after_card

abbrev pub CheckedOnce : Type 0
CheckedOnce = CheckedOnceAt card_after_card
