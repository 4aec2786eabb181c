-- Step 9 (RULES 5.9), the four messages in the order of 000 Figure 5.
use Rattle.std.specs.Prelude.{ℕ, Bool, cond, ◌&&◌, not, List, eqb, Result, Ok, Err}
use Rattle.names.specs.declared.Card.{Card}
use Rattle.names.specs.declared.Body.{Body}
use Rattle.names.specs.declared.Body.TheVariants.{ReadDo, ReadReply, UpdateDo, UpdateReply}
use Rattle.names.specs.declared.Message.{Message}
use Rattle.names.specs.declared.refusals.Refusal.{Refusal}
use Rattle.names.specs.Refusals.{refusal_number}
use Rattle.channel.specs.Inbox.{receive_answer, receive_memory}
use Rattle.tables.specs.declared.Doing.TheVariants.{DoneRead, DoneUpdate}
use Rattle.tables.specs.Layout.{Place, card_after_card, copy_at, home_of, primary_of, holds, only_card}
use Rattle.tables.specs.Doings.{doing_stored}
use Rattle.tables.specs.Outbox.{roomy, posted, letter_for}
use Rattle.store.specs.Perform.{copy_updated_at}

-- Card i delivers a message of task t on register x. The figure's j, the sender of a do message, to whom a reply goes, is the task's home.

-- "add (.., {j}) to buffer": the reply of card i, to the task's card
unfoldable pub replied : List ℕ → ℕ → ℕ → ℕ → Body → List ℕ
replied ws i t x b = posted ws i (letter_for t x b (only_card (home_of ws t)))

-- "val(x) := f(val(x))" and "if j = i then status(c) := (update-report, ξ, x)": applied; the task is done if its home is card i, with the value
-- that the copy had just before
unfoldable pub applied_at : Place → List ℕ → ℕ → ℕ → ℕ → ℕ → ℕ → List ℕ
applied_at place ws i t x f w =
    cond (eqb i (home_of ws t)) (doing_stored (copy_updated_at place ws i x f w) t (DoneUpdate (copy_at place ws i x))) (copy_updated_at place ws i x f w)

-- card i is the primary
abbrev pub is_primary : ℕ → ℕ → Bool
is_primary i p = eqb i p

-- "if j ∉ sites(x) and i = primary(x)": an update's reply is due here: the task's home holds no copy, and card i is the register's primary
unfoldable pub replies_here : List ℕ → ℕ → ℕ → ℕ → Bool
replies_here ws i t x = is_primary i (primary_of ws x) && not (holds ws x (home_of ws t))

-- 6: the reply would be the 17th in the outbox
unfoldable pub body_number : List ℕ → ℕ → ℕ → ℕ → Body → ℕ
body_number ws i t x ReadDo = cond (roomy ws i) 0 6
body_number ws i t x (ReadReply v) = 0
body_number ws i t x (UpdateDo f w) = cond (replies_here ws i t x) (cond (roomy ws i) 0 6) 0
body_number ws i t x (UpdateReply v) = 0

abbrev pub body_words_at : Place → List ℕ → ℕ → ℕ → ℕ → Body → List ℕ
-- receive((read-do, c, ξ, x), j)_i
body_words_at place ws i t x ReadDo = cond (roomy ws i) (replied ws i t x (ReadReply (copy_at place ws i x))) ws
-- receive((read-reply, c, ξ, x, v), j)_i
body_words_at place ws i t x (ReadReply v) = doing_stored ws t (DoneRead v)
-- receive((update-do, c, ξ, x, f), j)_i; the reply has the value that the copy had just before
body_words_at place ws i t x (UpdateDo f w) =
    cond (replies_here ws i t x)
    (cond (roomy ws i) (replied (applied_at place ws i t x f w) i t x (UpdateReply (copy_at place ws i x))) ws)
    (applied_at place ws i t x f w)
-- receive((update-reply, c, ξ, x), j)_i, with the value found
body_words_at place ws i t x (UpdateReply v) = doing_stored ws t (DoneUpdate v)

-- a message takes effect
abbrev pub message_number : List ℕ → ℕ → Message → ℕ
message_number ws i m = body_number ws i m.task.0 m.register.0 m.body

abbrev pub message_words_at : Place → List ℕ → ℕ → Message → List ℕ
message_words_at place ws i m = body_words_at place ws i m.task.0 m.register.0 m.body

-- 33: the inbox is empty; 14 an absent card
unfoldable pub found_number : List ℕ → ℕ → Result Message Refusal → ℕ
found_number ws i (Ok m) = message_number ws i m
found_number ws i (Err r) = refusal_number r

abbrev pub found_words_at : Place → List ℕ → ℕ → Result Message Refusal → List ℕ
found_words_at place ws i (Ok m) = message_words_at place ws i m
found_words_at place ws i (Err r) = ws

unfoldable pub deliver_number : List ℕ → List ℕ → Card → ℕ
deliver_number rs cs card = found_number rs card.0 (receive_answer cs card)

-- the registers' words, then the channel's
abbrev pub deliver_registers_at : Place → List ℕ → List ℕ → Card → List ℕ
deliver_registers_at place rs cs card = found_words_at place rs card.0 (receive_answer cs card)

unfoldable pub deliver_channel : List ℕ → List ℕ → Card → List ℕ
deliver_channel rs cs card = cond (eqb (deliver_number rs cs card) 0) (receive_memory cs card) cs

-- ---- card after card, on paper; SideBySide has the case of the memory

abbrev pub applied : List ℕ → ℕ → ℕ → ℕ → ℕ → ℕ → List ℕ
applied = applied_at card_after_card

abbrev pub body_words : List ℕ → ℕ → ℕ → ℕ → Body → List ℕ
body_words = body_words_at card_after_card

abbrev pub message_words : List ℕ → ℕ → Message → List ℕ
message_words = message_words_at card_after_card

abbrev pub found_words : List ℕ → ℕ → Result Message Refusal → List ℕ
found_words = found_words_at card_after_card

abbrev pub deliver_registers : List ℕ → List ℕ → Card → List ℕ
deliver_registers rs cs card = deliver_registers_at card_after_card rs cs card
