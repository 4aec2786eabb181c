-- A card's outbox, a ring of 16 packets, first in, first out (RULES 5.11), for at most 16 messages (7.1).
use Rattle.std.specs.Prelude.{ℕ, ◌+◌, ◌%◌, Bool, List, ltb, get_or}
use Rattle.names.specs.declared.Body.{Body}
use Rattle.names.specs.declared.Letter.{Letter}
use Rattle.names.specs.declared.Packet.{Packet}
use Rattle.names.specs.Letters.{letter_of, packet_of, packet_at}
use Rattle.names.specs.Rings.{joined, head_gone}
use Rattle.tables.specs.Layout.{out_head_word, out_count_word, out_block}

-- where card i's outbox starts in its ring
abbrev pub out_head_of : List ℕ → ℕ → ℕ
out_head_of ws i = get_or ws (out_head_word i) 0

-- messages in card i's outbox
abbrev pub out_count_of : List ℕ → ℕ → ℕ
out_count_of ws i = get_or ws (out_count_word i) 0

-- where place k of card i's outbox lies, oldest first
abbrev pub out_place : List ℕ → ℕ → ℕ → ℕ
out_place ws i k = out_block i (out_head_of ws i % 16 + k)

-- one message more fits
unfoldable pub roomy : List ℕ → ℕ → Bool
roomy ws i = ltb (out_count_of ws i) 16

-- one letter more at the end of card i's outbox, where there is room
unfoldable pub posted : List ℕ → ℕ → Letter → List ℕ
posted ws i l = joined ws (out_count_word i) (out_place ws i (out_count_of ws i)) 16 (packet_of l)

-- the first packet of card i's outbox, and its letter
unfoldable pub first_packet : List ℕ → ℕ → Packet
first_packet ws i = packet_at ws (out_block i (out_head_of ws i))

abbrev pub first_out : List ℕ → ℕ → Letter
first_out ws i = letter_of (first_packet ws i)

-- the first letter of card i's outbox gone
unfoldable pub unposted : List ℕ → ℕ → List ℕ
unposted ws i = head_gone ws (out_head_word i) (out_count_word i) 16

-- a message of task t on register x to a set of cards
abbrev pub letter_for : ℕ → ℕ → Body → ℕ → Letter
letter_for t x b to = record {
  message = record { task = record { 0 = t }; register = record { 0 = x }; body = b };
  to = to;
}
