-- The store with the copies side by side, as they lie in the memory (RULES 11.8): the cases that the contracts of code cite, of what is defined over
-- a place.
use Rattle.std.specs.Prelude.{ℕ, List, Result}
use Rattle.names.specs.declared.Answer.{Answer}
use Rattle.names.specs.declared.Body.{Body}
use Rattle.names.specs.declared.Card.{Card}
use Rattle.names.specs.declared.Message.{Message}
use Rattle.names.specs.Placement.{Placement}
use Rattle.names.specs.declared.refusals.Refusal.{Refusal}
use Rattle.claims.specs.Steps.{RawStep, Decoded}
use Rattle.claims.specs.Found.{Found}
use Rattle.commands.specs.declared.Command.{Command}
use Rattle.tables.specs.declared.Doing.{Doing}
use Rattle.tables.specs.Layout.{side_by_side}
use Rattle.store.specs.Perform.{perform_read_words_at, copy_updated_at, perform_update_words_at, perform_words_of_at, perform_words_at}
use Rattle.store.specs.Deliver.{applied_at, body_words_at, message_words_at, found_words_at, deliver_registers_at}
use Rattle.store.specs.Step.{Outcome, taken_at, advanced_at, stepped_at}
use Rattle.store.specs.Run.{Store, next_at, answer_at, store_after_at, answers_of_at, advance_at, advance_all_at, answers_advancing_at, table_of_at}
use Rattle.store.specs.Demand2.{StandsAt, StepPublishedAt, StepFollowsAt, Demand2At, PublishedAnswersAt}
use Rattle.store.specs.StepResults.{result_of_at, StepResultsAt}
use Rattle.store.specs.Demand3.{Demand3At, LedgerResultsAt}
use Rattle.store.specs.Starts.{StartsAt, NeverSixAt, NeverTwentyThreeAt, CheckedOnceAt}

-- ---- the steps

abbrev pub perform_read_words : List ℕ → ℕ → ℕ → List ℕ
perform_read_words = perform_read_words_at side_by_side

abbrev pub copy_updated : List ℕ → ℕ → ℕ → ℕ → ℕ → List ℕ
copy_updated = copy_updated_at side_by_side

abbrev pub perform_update_words : List ℕ → ℕ → ℕ → ℕ → ℕ → List ℕ
perform_update_words = perform_update_words_at side_by_side

abbrev pub perform_words_of : List ℕ → ℕ → Doing → List ℕ
perform_words_of = perform_words_of_at side_by_side

abbrev pub perform_words : List ℕ → ℕ → List ℕ
perform_words = perform_words_at side_by_side

abbrev pub applied : List ℕ → ℕ → ℕ → ℕ → ℕ → ℕ → List ℕ
applied = applied_at side_by_side

abbrev pub body_words : List ℕ → ℕ → ℕ → ℕ → Body → List ℕ
body_words = body_words_at side_by_side

abbrev pub message_words : List ℕ → ℕ → Message → List ℕ
message_words = message_words_at side_by_side

abbrev pub found_words : List ℕ → ℕ → Result Message Refusal → List ℕ
found_words = found_words_at side_by_side

abbrev pub deliver_registers : List ℕ → List ℕ → Card → List ℕ
deliver_registers rs cs card = deliver_registers_at side_by_side rs cs card

abbrev pub taken : List ℕ → List ℕ → Command → Outcome
taken rs cs c = taken_at side_by_side rs cs c

abbrev pub advanced : List ℕ → List ℕ → ℕ → List ℕ → Outcome
advanced rs cs code argument = advanced_at side_by_side rs cs code argument

abbrev pub stepped : List ℕ → List ℕ → ℕ → List ℕ → Outcome
stepped rs cs code argument = stepped_at side_by_side rs cs code argument

abbrev pub next : Store → RawStep → Store
next = next_at side_by_side

abbrev pub answer : Store → RawStep → Answer
answer = answer_at side_by_side

abbrev pub store_after : Store → List RawStep → Store
store_after = store_after_at side_by_side

abbrev pub answers_of : Store → List RawStep → List Answer
answers_of = answers_of_at side_by_side

abbrev pub advance : Store → RawStep → Store
advance = advance_at side_by_side

abbrev pub advance_all : Store → List RawStep → Store
advance_all = advance_all_at side_by_side

abbrev pub answers_advancing : Store → List RawStep → List Answer
answers_advancing = answers_advancing_at side_by_side

abbrev pub table_of : Store → ℕ → ℕ → ℕ
table_of = table_of_at side_by_side

-- ---- what is demanded of them

abbrev pub Stands : List ℕ → List ℕ → Placement → Found → Type 0
Stands rs cs P s = StandsAt side_by_side rs cs P s

abbrev pub StepPublished : Placement → Found → Outcome → Decoded → Type 0
StepPublished = StepPublishedAt side_by_side

abbrev pub StepFollows : List ℕ → List ℕ → Placement → Found → Outcome → Decoded → Type 0
StepFollows rs cs P s o d = StepFollowsAt side_by_side rs cs P s o d

abbrev pub Demand2 : Type 0
Demand2 = Demand2At side_by_side

abbrev pub PublishedAnswers : Type 0
PublishedAnswers = PublishedAnswersAt side_by_side

abbrev pub result_of : List ℕ → List ℕ → RawStep → ℕ
result_of rs cs a = result_of_at side_by_side rs cs a

abbrev pub StepResults : Type 0
StepResults = StepResultsAt side_by_side

abbrev pub Demand3 : Type 0
Demand3 = Demand3At side_by_side

abbrev pub LedgerResults : Type 0
LedgerResults = LedgerResultsAt side_by_side

abbrev pub Starts : Type 0
Starts = StartsAt side_by_side

abbrev pub NeverSix : Type 0
NeverSix = NeverSixAt side_by_side

abbrev pub NeverTwentyThree : Type 0
NeverTwentyThree = NeverTwentyThreeAt side_by_side

abbrev pub CheckedOnce : Type 0
CheckedOnce = CheckedOnceAt side_by_side
