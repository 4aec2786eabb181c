-- Where things lie in the registers' memory, 593 words that the caller lends (RULES 11.1, 11.12). Word 0 is the number of requests taken. Then
-- two words for each task: what it is doing (kind, register, function) below its home, and the value. Then a word for each register: its primary
-- below its holders. Then the copies, register after register. Then each card's outbox: where it starts, how many messages, 16 packets (a ring).
-- The numbers of cards, tasks and registers are the channel's. A card, task or register past its largest number, which no well-sized memory has,
-- counts as the remainder.
--
-- Whatever depends on where the copies lie is defined once, over their place, which it takes first, under a name that ends in `At`. The name
-- without the ending is its case card after card, in which the demands are proved; the same name in SideBySide is the case of the memory, which
-- contracts cite.
use Rattle.std.specs.Prelude.{ℕ, ◌+◌, ◌*◌, ◌/◌, ◌%◌, Bool, List, get_or}
use Rattle.names.specs.CardSet.{member_of, just_of}

-- ---- addresses of words

abbrev pub requests_word : ℕ
requests_word = 0

abbrev pub task_word : ℕ → ℕ
task_word t = 1 + t % 16 * 2

abbrev pub value_word : ℕ → ℕ
value_word t = 1 + t % 16 * 2 + 1

abbrev pub register_word : ℕ → ℕ
register_word x = 33 + x % 32

-- where the copies lie: card i's copy of register x is word `place i x`
abbrev pub Place : Type 0
Place = ℕ → ℕ → ℕ

-- register after register, the copies of one register side by side: as they lie in the memory (RULES 11.8)
abbrev pub side_by_side : Place
side_by_side i x = 65 + x % 32 * 8 + i % 8

-- card after card: as they lay before, now on paper
abbrev pub card_after_card : Place
card_after_card i x = 65 + i % 8 * 32 + x % 32

abbrev pub copy_word : Place
copy_word = card_after_card

abbrev pub out_head_word : ℕ → ℕ
out_head_word i = 321 + i % 8 * 34

abbrev pub out_count_word : ℕ → ℕ
out_count_word i = 321 + i % 8 * 34 + 1

-- where the packet at place k of card i's ring starts
abbrev pub out_block : ℕ → ℕ → ℕ
out_block i k = 323 + i % 8 * 34 + k % 16 * 2

-- ---- the home in a task's first word (its other fields: Doings), and the fields of a register's word; home and holders are all that is left
-- of a word, so no part of it is out of sight

unfoldable pub home_in : ℕ → ℕ
home_in w = w / 2048

unfoldable pub primary_in : ℕ → ℕ
primary_in w = w % 8

unfoldable pub holders_in : ℕ → ℕ
holders_in w = w / 8

-- ---- the words read

-- requests taken
abbrev pub requests_of : List ℕ → ℕ
requests_of ws = get_or ws requests_word 0

-- the home card of task t
abbrev pub home_of : List ℕ → ℕ → ℕ
home_of ws t = home_in (get_or ws (task_word t) 0)

-- the set of cards that hold a copy of register x
abbrev pub holders_of : List ℕ → ℕ → ℕ
holders_of ws x = holders_in (get_or ws (register_word x) 0)

abbrev pub primary_of : List ℕ → ℕ → ℕ
primary_of ws x = primary_in (get_or ws (register_word x) 0)

-- card i holds a copy of register x
unfoldable pub holds : List ℕ → ℕ → ℕ → Bool
holds ws x i = member_of (holders_of ws x) i

-- the value of card i's copy of register x, where the copies lie so; and card after card
abbrev pub copy_at : Place → List ℕ → ℕ → ℕ → ℕ
copy_at place ws i x = get_or ws (place i x) 0

abbrev pub copy_of : List ℕ → ℕ → ℕ → ℕ
copy_of = copy_at card_after_card

-- the set of card i alone
abbrev pub only_card : ℕ → ℕ
only_card i = just_of (i % 8)
