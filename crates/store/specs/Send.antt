-- Steps 4 and 5 (RULES 5.4, 5.5): a message joins the outbox of the task's home, and the task waits.
use Rattle.std.specs.Prelude.{ℕ, cond, ◌&&◌, not, List, eqb, leb}
use Rattle.names.specs.declared.Body.{Body}
use Rattle.names.specs.declared.Body.TheVariants.{ReadDo, UpdateDo}
use Rattle.tables.specs.declared.Doing.{Doing}
use Rattle.tables.specs.declared.Doing.TheVariants.{Quiet, AskingRead, AskingUpdate, Waiting, DoneRead, DoneUpdate}
use Rattle.tables.specs.Layout.{home_of, holders_of, holds, only_card}
use Rattle.tables.specs.Doings.{doing_at, doing_stored}
use Rattle.tables.specs.Outbox.{roomy, posted, letter_for}
use Rattle.store.specs.Perform.{alone}

-- a message of task t on register x joins its home's outbox, and the task waits
unfoldable pub sent : List ℕ → ℕ → ℕ → Body → ℕ → List ℕ
sent ws t x b to = doing_stored (posted ws (home_of ws t) (letter_for t x b to)) t Waiting

-- 22: copies lie otherwise than the step asks; 6: the message would be the 17th in the outbox (RULES 7.1)
unfoldable pub send_read_number : List ℕ → ℕ → ℕ → ℕ → ℕ
send_read_number ws t j x = cond (not (holds ws x (home_of ws t)) && holds ws x j) (cond (roomy ws (home_of ws t)) 0 6) 22

unfoldable pub send_read_words : List ℕ → ℕ → ℕ → ℕ → List ℕ
send_read_words ws t j x = cond (eqb (send_read_number ws t j x) 0) (sent ws t x ReadDo (only_card j)) ws

-- 6 too for a message to nobody (RULES 8.8)
unfoldable pub send_update_number : List ℕ → ℕ → ℕ → ℕ
send_update_number ws t x =
    cond (not (alone ws x (home_of ws t))) (cond (leb 1 (holders_of ws x)) (cond (roomy ws (home_of ws t)) 0 6) 6) 22

unfoldable pub send_update_words : List ℕ → ℕ → ℕ → ℕ → ℕ → List ℕ
send_update_words ws t x f w = cond (eqb (send_update_number ws t x) 0) (sent ws t x (UpdateDo f w) (holders_of ws x)) ws

-- 21: the task does not ask to read (step 4), to update (step 5)
unfoldable pub read_number_of : List ℕ → ℕ → ℕ → Doing → ℕ
read_number_of ws t j Quiet = 21
read_number_of ws t j (AskingRead x) = send_read_number ws t j x.0
read_number_of ws t j (AskingUpdate x f w) = 21
read_number_of ws t j Waiting = 21
read_number_of ws t j (DoneRead v) = 21
read_number_of ws t j (DoneUpdate v) = 21

unfoldable pub read_words_of : List ℕ → ℕ → ℕ → Doing → List ℕ
read_words_of ws t j Quiet = ws
read_words_of ws t j (AskingRead x) = send_read_words ws t j x.0
read_words_of ws t j (AskingUpdate x f w) = ws
read_words_of ws t j Waiting = ws
read_words_of ws t j (DoneRead v) = ws
read_words_of ws t j (DoneUpdate v) = ws

unfoldable pub update_number_of : List ℕ → ℕ → Doing → ℕ
update_number_of ws t Quiet = 21
update_number_of ws t (AskingRead x) = 21
update_number_of ws t (AskingUpdate x f w) = send_update_number ws t x.0
update_number_of ws t Waiting = 21
update_number_of ws t (DoneRead v) = 21
update_number_of ws t (DoneUpdate v) = 21

unfoldable pub update_words_of : List ℕ → ℕ → Doing → List ℕ
update_words_of ws t Quiet = ws
update_words_of ws t (AskingRead x) = ws
update_words_of ws t (AskingUpdate x f w) = send_update_words ws t x.0 f w
update_words_of ws t Waiting = ws
update_words_of ws t (DoneRead v) = ws
update_words_of ws t (DoneUpdate v) = ws

unfoldable pub read_sent_number : List ℕ → ℕ → ℕ → ℕ
read_sent_number ws t j = read_number_of ws t j (doing_at ws t)

unfoldable pub read_sent_words : List ℕ → ℕ → ℕ → List ℕ
read_sent_words ws t j = read_words_of ws t j (doing_at ws t)

unfoldable pub update_sent_number : List ℕ → ℕ → ℕ
update_sent_number ws t = update_number_of ws t (doing_at ws t)

unfoldable pub update_sent_words : List ℕ → ℕ → List ℕ
update_sent_words ws t = update_words_of ws t (doing_at ws t)
