-- A set of cards (RULES 1.5).
use Rattle.std.specs.Prelude.{ℕ, ◌*◌, ◌/◌, ◌%◌, ◌^◌, Bool, not, ◌==◌}
use Rattle.lists.specs.Loops.{total}

-- bit i of a number: 0 or 1
abbrev pub bit_of : ℕ → ℕ → ℕ
bit_of set i = set / (2 ^ i) % 2

-- card i is in the set
unfoldable pub member_of : ℕ → ℕ → Bool
member_of set i = (bit_of set i) == 1

-- how many of the cards 0 to 7 are in it
unfoldable pub size_of : ℕ → ℕ
size_of set = total (bit_of set) 8

-- exactly one card, as the destinations of a single message are (RULES 6.1)
unfoldable pub single : ℕ → Bool
single set = (size_of set) == 1

-- more cards than one, of a set that is not empty, as the destinations of a broadcast are (RULES 6.1)
unfoldable pub several : ℕ → Bool
several set = not (single set)

-- the only card, of a set that has one: the sum of its cards' numbers
unfoldable pub sole_of : ℕ → ℕ
sole_of set = total (λ i. i * bit_of set i) 8

-- the set of card i alone
unfoldable pub just_of : ℕ → ℕ
just_of i = 2 ^ i
