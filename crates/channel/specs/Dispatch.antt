-- The channel's part of step 6 (RULES 5.6, 6.1 to 6.3).
use Rattle.std.specs.Prelude.{ℕ, ◌+◌, Bool, cond, List, ltb, set, Result, Ok, Err}
use Rattle.lists.specs.Every.{each}
use Rattle.names.specs.declared.Card.{Card}
use Rattle.names.specs.declared.Message.{Message}
use Rattle.names.specs.declared.Letter.{Letter}
use Rattle.automaton.specs.MostBehind.{keeps_up}
use Rattle.names.specs.declared.refusals.Refusal.{Refusal}
use Rattle.names.specs.declared.refusals.Refusal.TheVariants.{FarBehind, IllSized, NoCard}
use Rattle.names.specs.declared.refusals.Taken.{Taken}
use Rattle.names.specs.declared.refusals.Taken.TheVariants.{Done}
use Rattle.channel.specs.Answers.{is_done}
use Rattle.channel.specs.Layout.{made_word, cards_of, made_of, taken_of, broadcast_block, flight_block}
use Rattle.names.specs.CardSet.{several}
use Rattle.names.specs.Letters.{packet_of, stored, marked}
use Rattle.channel.specs.Letters.{fits}
use Rattle.channel.specs.TakeSingle.{no_flight}

-- one broadcast more leaves card i not too far behind (RULES 7.5)
unfoldable pub near_at : List ℕ → ℕ → Bool
near_at ws i = keeps_up (made_of ws + 1) (taken_of ws i)

unfoldable pub near : List ℕ → Bool
near ws = each (cards_of ws) (near_at ws)

-- 34: a card would be too far behind; 6 for the letter, and for broadcast 65,536 (RULES 7.7)
unfoldable pub cast_answer : List ℕ → Letter → Result Taken Refusal
cast_answer ws l = cond (near ws) (cond (fits ws l) (cond (ltb (made_of ws) 65535) (Ok Done) (Err IllSized)) (Err IllSized)) (Err FarBehind)

unfoldable pub cast_memory : List ℕ → Letter → List ℕ
cast_memory ws l =
    cond (is_done (cast_answer ws l)) (set (stored ws (broadcast_block (made_of ws + 1)) (packet_of l)) made_word (made_of ws + 1)) ws

-- 6 for the letter, and for a second message of the task in flight (RULES 7.4)
unfoldable pub fly_answer : List ℕ → Letter → Result Taken Refusal
fly_answer ws l = cond (fits ws l) (cond (no_flight ws l.message.task.0) (Ok Done) (Err IllSized)) (Err IllSized)

unfoldable pub fly_memory : List ℕ → ℕ → Letter → List ℕ
fly_memory ws i l = cond (is_done (fly_answer ws l)) (marked ws (flight_block l.message.task.0) (packet_of l) (taken_of ws i)) ws

abbrev pub letter_to : Message → ℕ → Letter
letter_to m to = record { message = m; to = to }

-- 14 an absent card
unfoldable pub dispatch_answer : List ℕ → Card → Message → ℕ → Result Taken Refusal
dispatch_answer ws card m to =
    cond (ltb card.0 (cards_of ws))
    (cond (several to) (cast_answer ws (letter_to m to)) (fly_answer ws (letter_to m to)))
    (Err NoCard)

unfoldable pub dispatch_memory : List ℕ → Card → Message → ℕ → List ℕ
dispatch_memory ws card m to =
    cond (ltb card.0 (cards_of ws))
    (cond (several to) (cast_memory ws (letter_to m to)) (fly_memory ws card.0 (letter_to m to)))
    ws
