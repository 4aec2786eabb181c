-- A well-sized memory: what a step must find, else it is refused with 6 (RULES 8.6, parts a to k). The parts of absent cards and tasks are
-- not looked at. What is no fault says 8.7.
use Rattle.std.specs.Prelude.{ℕ, ◌+◌, min, Bool, cond, ◌&&◌, ◌||◌, List, ltb, leb, get_or}
use Rattle.lists.specs.Every.{each}
use Rattle.names.specs.CardSet.{several, single}
use Rattle.automaton.specs.MostBehind.{most_behind, keeps_up}
use Rattle.channel.specs.Layout.{cards_word, tasks_word, registers_word, cards_of, tasks_of, made_of, taken_of, head_of, count_of, held_count_of, place_of, held_block, flight_block, broadcast_block}
use Rattle.names.specs.declared.Packet.{Packet}
use Rattle.names.specs.Letters.{kind_in, letter_of, packet_at, letter_at, tag_at}
use Rattle.channel.specs.Letters.{fits}
use Rattle.channel.specs.Begin.{sizes_fit}
use Rattle.channel.specs.TakeSingle.{no_flight}

-- a packet has a message (i), and no field of it is past its limit (f, i), which the sizes of the channel's memory cs give
unfoldable pub packet_fits : List ℕ → Packet → Bool
packet_fits cs p = leb 1 (kind_in p.word) && leb (kind_in p.word) 4 && fits cs (letter_of p)

-- the packet at word b of memory ws: the rule for every message, in whichever memory it lies
abbrev pub block_fits : List ℕ → List ℕ → ℕ → Bool
block_fits cs ws b = packet_fits cs (packet_at ws b)

-- and its tag (g), where it has one
unfoldable pub tagged_fits : List ℕ → ℕ → Bool
tagged_fits ws b = block_fits ws ws b && leb (tag_at ws b) 65535

-- place k of card i's inbox
unfoldable pub inbox_fits : List ℕ → ℕ → ℕ → Bool
inbox_fits ws i k = block_fits ws ws (place_of ws i k)

-- place k of what is held for card i
unfoldable pub held_fits : List ℕ → ℕ → ℕ → Bool
held_fits ws i k = tagged_fits ws (held_block i k)

-- the flight slot of task t: empty, or a message with exactly one destination (k), which step 8 takes it to
unfoldable pub flight_fits : List ℕ → ℕ → Bool
flight_fits ws t = no_flight ws t || (tagged_fits ws (flight_block t) && single (letter_at ws (flight_block t)).to)

-- broadcast n, with more than one destination (k), which makes it a broadcast (RULES 6.1)
unfoldable pub broadcast_fits : List ℕ → ℕ → Bool
broadcast_fits ws n = block_fits ws ws (broadcast_block n) && several (letter_at ws (broadcast_block n)).to

-- the counts of card i: taken neither above the number made nor more than `most_behind` below it (h); where its inbox starts (j); queue lengths (c)
unfoldable pub counts_fit : List ℕ → ℕ → Bool
counts_fit ws i =
    leb (taken_of ws i) (made_of ws) && keeps_up (made_of ws) (taken_of ws i)
    && ltb (head_of ws i) 48 && leb (count_of ws i) 48 && leb (held_count_of ws i) 16

-- card i's part
unfoldable pub card_fits : List ℕ → ℕ → Bool
card_fits ws i = counts_fit ws i && each (min (count_of ws i) 48) (inbox_fits ws i) && each (min (held_count_of ws i) 16) (held_fits ws i)

-- the first place in use among the last broadcasts: 1 until all are, for place 0 is used last
abbrev pub first_recent : List ℕ → ℕ
first_recent ws = cond (ltb (made_of ws) most_behind) 1 0

-- the k-th place in use, as they lie; older broadcasts are overwritten, and every card has taken them
unfoldable pub recent_fits : List ℕ → ℕ → Bool
recent_fits ws k = broadcast_fits ws (first_recent ws + k)

-- the sizes (a), and the broadcasts made (b)
unfoldable pub head_fits : List ℕ → Bool
head_fits ws = sizes_fit (get_or ws cards_word 0) (get_or ws tasks_word 0) (get_or ws registers_word 0) && leb (made_of ws) 65535

unfoldable pub well_sized : List ℕ → Bool
well_sized ws =
    head_fits ws && each (cards_of ws) (card_fits ws) && each (tasks_of ws) (flight_fits ws) && each (min (made_of ws) most_behind) (recent_fits ws)
