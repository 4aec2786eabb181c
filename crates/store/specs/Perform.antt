-- Step 3 (RULES 5.3).
use Rattle.std.specs.Prelude.{ℕ, Bool, cond, ◌&&◌, not, List, set}
use Rattle.names.specs.CardSet.{several}
use Rattle.names.specs.Update.{updated}
use Rattle.tables.specs.declared.Doing.{Doing}
use Rattle.tables.specs.declared.Doing.TheVariants.{Quiet, AskingRead, AskingUpdate, Waiting, DoneRead, DoneUpdate}
use Rattle.tables.specs.Layout.{Place, card_after_card, copy_at, home_of, holders_of, holds}
use Rattle.tables.specs.Doings.{doing_at, doing_stored}

-- card i is the only holder of register x
unfoldable pub alone : List ℕ → ℕ → ℕ → Bool
alone ws x i = holds ws x i && not (several (holders_of ws x))

-- 22: copies lie otherwise than the step asks
unfoldable pub perform_read_number : List ℕ → ℕ → ℕ → ℕ
perform_read_number ws t x = cond (holds ws x (home_of ws t)) 0 22

unfoldable pub perform_update_number : List ℕ → ℕ → ℕ → ℕ
perform_update_number ws t x = cond (alone ws x (home_of ws t)) 0 22

-- 21: the task does not ask
unfoldable pub perform_number_of : List ℕ → ℕ → Doing → ℕ
perform_number_of ws t Quiet = 21
perform_number_of ws t (AskingRead x) = perform_read_number ws t x.0
perform_number_of ws t (AskingUpdate x f w) = perform_update_number ws t x.0
perform_number_of ws t Waiting = 21
perform_number_of ws t (DoneRead v) = 21
perform_number_of ws t (DoneUpdate v) = 21

unfoldable pub perform_number : List ℕ → ℕ → ℕ
perform_number ws t = perform_number_of ws t (doing_at ws t)

-- ---- the words after it, where the copies lie at `place`

abbrev pub perform_read_words_at : Place → List ℕ → ℕ → ℕ → List ℕ
perform_read_words_at place ws t x = cond (holds ws x (home_of ws t)) (doing_stored ws t (DoneRead (copy_at place ws (home_of ws t) x))) ws

-- card i's copy of register x after an update
unfoldable pub copy_updated_at : Place → List ℕ → ℕ → ℕ → ℕ → ℕ → List ℕ
copy_updated_at place ws i x f w = set ws (place i x) (updated f w (copy_at place ws i x))

-- the task is done with the value that its home's copy had just before
abbrev pub perform_update_words_at : Place → List ℕ → ℕ → ℕ → ℕ → ℕ → List ℕ
perform_update_words_at place ws t x f w =
    cond (alone ws x (home_of ws t)) (doing_stored (copy_updated_at place ws (home_of ws t) x f w) t (DoneUpdate (copy_at place ws (home_of ws t) x))) ws

abbrev pub perform_words_of_at : Place → List ℕ → ℕ → Doing → List ℕ
perform_words_of_at place ws t Quiet = ws
perform_words_of_at place ws t (AskingRead x) = perform_read_words_at place ws t x.0
perform_words_of_at place ws t (AskingUpdate x f w) = perform_update_words_at place ws t x.0 f w
perform_words_of_at place ws t Waiting = ws
perform_words_of_at place ws t (DoneRead v) = ws
perform_words_of_at place ws t (DoneUpdate v) = ws

abbrev pub perform_words_at : Place → List ℕ → ℕ → List ℕ
perform_words_at place ws t = perform_words_of_at place ws t (doing_at ws t)

-- ---- card after card, on paper; SideBySide has the case of the memory

abbrev pub perform_read_words : List ℕ → ℕ → ℕ → List ℕ
perform_read_words = perform_read_words_at card_after_card

abbrev pub copy_updated : List ℕ → ℕ → ℕ → ℕ → ℕ → List ℕ
copy_updated = copy_updated_at card_after_card

abbrev pub perform_update_words : List ℕ → ℕ → ℕ → ℕ → ℕ → List ℕ
perform_update_words = perform_update_words_at card_after_card

abbrev pub perform_words_of : List ℕ → ℕ → Doing → List ℕ
perform_words_of = perform_words_of_at card_after_card

abbrev pub perform_words : List ℕ → ℕ → List ℕ
perform_words = perform_words_at card_after_card
