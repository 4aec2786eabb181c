-- A card's inbox, a ring of 48 packets, first in, first out (RULES 5.11, 7.2); and the channel's part of step 9, that the head leaves it (5.9).
use Rattle.std.specs.Prelude.{ℕ, ◌%◌, cond, List, eqb, ltb, Result, Ok, Err}
use Rattle.names.specs.declared.Card.{Card}
use Rattle.names.specs.declared.Message.{Message}
use Rattle.names.specs.declared.Packet.{Packet}
use Rattle.names.specs.declared.refusals.Refusal.{Refusal}
use Rattle.names.specs.declared.refusals.Refusal.TheVariants.{NoCard, NothingToDeliver}
use Rattle.channel.specs.Layout.{head_word, count_word, cards_of, head_of, count_of, inbox_block, place_of}
use Rattle.names.specs.Letters.{letter_at}
use Rattle.names.specs.Rings.{joined, head_gone}

-- one packet more at the end of card i's inbox, where there is room
unfoldable pub pushed : List ℕ → ℕ → Packet → List ℕ
pushed ws i p = joined ws (count_word i) (place_of ws i (count_of ws i)) 48 p

-- the first letter of card i's inbox gone
unfoldable pub popped : List ℕ → ℕ → List ℕ
popped ws i = head_gone ws (head_word i) (count_word i) 48

-- and its message; 33: the inbox is empty
unfoldable pub got_of : List ℕ → ℕ → Result Message Refusal
got_of ws i = cond (eqb (count_of ws i) 0) (Err NothingToDeliver) (Ok (letter_at ws (inbox_block i (head_of ws i % 48))).message)

-- 14 an absent card
unfoldable pub receive_answer : List ℕ → Card → Result Message Refusal
receive_answer ws card = cond (ltb card.0 (cards_of ws)) (got_of ws card.0) (Err NoCard)

unfoldable pub receive_memory : List ℕ → Card → List ℕ
receive_memory ws card = cond (ltb card.0 (cards_of ws)) (popped ws card.0) ws
