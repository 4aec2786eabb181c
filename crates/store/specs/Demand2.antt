-- Demand 2 (RULES 12.1): from every well-sized pair of memories, not only from reached ones, the store takes the step that the published algorithm
-- takes, the values that updates found left out (claims/specs/ForgetFound); and refuses where RULES 8 says, with the number that it says, leaving
-- both memories as they were. With these values its step is that of claims/specs/Found.
use Rattle.std.specs.Prelude.{ℕ, ◌≡◌, false, true, List, length}
use Rattle.names.specs.Placement.{Placement, placement_refusal}
use Rattle.names.specs.Results.{is_taken}
use Rattle.channel.specs.Layout.{channel_words}
use Rattle.claims.specs.Steps.{RawStep, Decoded, decode}
use Rattle.claims.specs.Published.{begin}
use Rattle.claims.specs.PublishedRun.{answer_decoded, after_decoded, answers_from}
use Rattle.claims.specs.Found.{Found}
use Rattle.claims.specs.Found as F
use Rattle.claims.specs.FoundRun as R
use Rattle.claims.specs.ForgetFound.{forget, forget_answer, forget_answers}
use Rattle.tables.specs.Layout.{Place, card_after_card}
use Rattle.tables.specs.Sized.{store_sized}
use Rattle.store.specs.Step.{Outcome, outcome, stepped_at}
use Rattle.store.specs.Run.{Store, started, answers_of_at}
use Rattle.tables.specs.Shows.{StoreShowsAt}

-- well-sized memories that show the placement and the state
pub record StandsAt (place : Place) (rs cs : List ℕ) (P : Placement) (s : Found) : Type 0 where
  pub long : length rs ≡ 593
  pub channel_long : length cs ≡ channel_words
  pub sized : store_sized rs cs ≡ true
  pub shows : StoreShowsAt place rs cs P s

-- what a step leaves of memories that show P and s, where it is d: the published move
pub record StepPublishedAt (place : Place) (P : Placement) (s : Found) (o : Outcome) (d : Decoded) : Type 0 where
  -- the refusal of the published state, or 0 and the value read, or 100 where the published move holds a message; of a value found 0
  pub answer= : forget_answer s d o.answer ≡ answer_decoded P (forget s) d
  -- the memories show the published state after the step, but for the values found, and are well sized
  pub next : Found
  pub stands : StandsAt place o.registers o.channel P next
  pub next= : forget next ≡ after_decoded P (forget s) d

-- and with the values found
pub record StepFollowsAt (place : Place) (rs cs : List ℕ) (P : Placement) (s : Found) (o : Outcome) (d : Decoded) : Type 0 where
  pub answer= : o.answer ≡ R.answer_decoded P s d
  pub stands : StandsAt place o.registers o.channel P (R.after_decoded P s d)
  -- a refused step leaves the store as it was (RULES 8.1)
  pub refused : is_taken o.answer.result ≡ false → (o.registers ≡ rs) × (o.channel ≡ cs)

pub record Demand2At (place : Place) : Type 0 where
  pub some : (rs cs : List ℕ) → (P : Placement) × (s : Found) × StoreShowsAt place rs cs P s
  pub published : (rs cs : List ℕ) (P : Placement) (s : Found) → StandsAt place rs cs P s → (a : RawStep)
      → StepPublishedAt place P s (stepped_at place rs cs a.code a.argument) (decode P a)
  pub step : (rs cs : List ℕ) (P : Placement) (s : Found) → StandsAt place rs cs P s → (a : RawStep)
      → StepFollowsAt place rs cs P s (stepped_at place rs cs a.code a.argument) (decode P a)
  pub ill_sized : (rs cs : List ℕ) → store_sized rs cs ≡ false → (a : RawStep) → stepped_at place rs cs a.code a.argument ≡ outcome 6 rs cs

-- So for a list of steps from a start: with the values that updates found made 0, its answers are those of the published algorithm.
abbrev pub PublishedAnswersAt : Place → Type 0
PublishedAnswersAt place = (P : Placement) → placement_refusal P ≡ 0 → (m : Store) (steps : List RawStep)
    → forget_answers P F.begin steps (answers_of_at place (started P m) steps) ≡ answers_from P begin steps

-- ---- card after card, on paper; SideBySide has the case of the memory

abbrev pub Stands : List ℕ → List ℕ → Placement → Found → Type 0
Stands rs cs P s = StandsAt card_after_card rs cs P s

abbrev pub StepPublished : Placement → Found → Outcome → Decoded → Type 0
StepPublished = StepPublishedAt card_after_card

abbrev pub StepFollows : List ℕ → List ℕ → Placement → Found → Outcome → Decoded → Type 0
StepFollows rs cs P s o d = StepFollowsAt card_after_card rs cs P s o d

abbrev pub Demand2 : Type 0
Demand2 = Demand2At card_after_card

abbrev pub PublishedAnswers : Type 0
PublishedAnswers = PublishedAnswersAt card_after_card
