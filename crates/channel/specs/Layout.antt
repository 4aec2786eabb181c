-- Where things lie in the channel's memory, 1,284 words that the caller lends (RULES 11.1, 11.12). Word 0 is the number of cards, word 1 of
-- tasks, word 2 of registers, word 3 of broadcasts made. Then card after card, 148 words each: taken, head, inbox count, held count, 48 packets
-- of inbox (a ring), 16 held messages. Then each task's message in flight, then the last broadcasts. A packet has two words
-- (names/specs/Letters); a message held or in flight has its tag in a third.
use Rattle.std.specs.Prelude.{ℕ, ◌+◌, ◌*◌, ◌%◌, min, cond, List, ltb, get_or}
use Rattle.automaton.specs.MostBehind.{most_behind}
use Rattle.channel.specs.declared.layout.Word.{Word}
use Rattle.channel.specs.declared.layout.Word.TheVariants.{Taken, Head, Count, Held}

-- ---- addresses of words

abbrev pub cards_word : ℕ
cards_word = 0

abbrev pub tasks_word : ℕ
tasks_word = 1

abbrev pub registers_word : ℕ
registers_word = 2

abbrev pub made_word : ℕ
made_word = 3

abbrev pub taken_word : ℕ → ℕ
taken_word i = 4 + i * 148

abbrev pub head_word : ℕ → ℕ
head_word i = 4 + i * 148 + 1

abbrev pub count_word : ℕ → ℕ
count_word i = 4 + i * 148 + 2

abbrev pub held_word : ℕ → ℕ
held_word i = 4 + i * 148 + 3

-- the same by the word's name
abbrev pub own_word : Word → ℕ → ℕ
own_word Taken i = taken_word i
own_word Head i = head_word i
own_word Count i = count_word i
own_word Held i = held_word i

-- ---- where packets start

-- place k of card i's ring
abbrev pub inbox_block : ℕ → ℕ → ℕ
inbox_block i k = 8 + i * 148 + k * 2

-- place k of what is held for card i
abbrev pub held_block : ℕ → ℕ → ℕ
held_block i k = 104 + i * 148 + k * 3

abbrev pub flight_block : ℕ → ℕ
flight_block t = 1188 + t * 3

-- broadcast n, in a ring of as many as a card may be behind
abbrev pub broadcast_block : ℕ → ℕ
broadcast_block n = 1236 + n % most_behind * 2

-- the ring of broadcasts ends the memory
abbrev pub channel_words : ℕ
channel_words = 1236 + most_behind * 2

-- ---- the words read. A size above its limit (RULES 1.3), which no well-sized memory has, counts as the limit (11.9)

unfoldable pub cards_of : List ℕ → ℕ
cards_of ws = min (get_or ws cards_word 0) 8

unfoldable pub tasks_of : List ℕ → ℕ
tasks_of ws = min (get_or ws tasks_word 0) 16

unfoldable pub registers_of : List ℕ → ℕ
registers_of ws = min (get_or ws registers_word 0) 32

-- broadcasts made
abbrev pub made_of : List ℕ → ℕ
made_of ws = get_or ws made_word 0

-- broadcasts that card i has taken
abbrev pub taken_of : List ℕ → ℕ → ℕ
taken_of ws i = get_or ws (taken_word i) 0

-- where card i's inbox starts in its ring
abbrev pub head_of : List ℕ → ℕ → ℕ
head_of ws i = get_or ws (head_word i) 0

-- messages in card i's inbox
abbrev pub count_of : List ℕ → ℕ → ℕ
count_of ws i = get_or ws (count_word i) 0

-- messages held for card i
abbrev pub held_count_of : List ℕ → ℕ → ℕ
held_count_of ws i = get_or ws (held_word i) 0

-- where place k of card i's inbox lies, oldest first
abbrev pub place_of : List ℕ → ℕ → ℕ → ℕ
place_of ws i k = inbox_block i ((head_of ws i % 48 + k) % 48)

-- what `taken` answers: an absent card has taken none (RULES 11.6)
unfoldable pub taken_by : List ℕ → ℕ → ℕ
taken_by ws i = cond (ltb i (cards_of ws)) (taken_of ws i) 0
