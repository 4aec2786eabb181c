-- A placement: which cards there are, where each task lives and where each register's copies lie (RULES 1.7, 10.1), and when it is refused
-- (8.4, 10.2). A run file's placement is judged by this too.
use Rattle.std.specs.Prelude.{ℕ, ◌^◌, Bool, cond, ◌&&◌, List, length, ◌==◌, nat_le, nat_lt, slice_index}
use Rattle.lists.specs.Every.{each}
use Rattle.names.specs.CardSet.{member_of}

pub record Placement : Type 0 where
  pub cards : ℕ
  pub homes : List ℕ  -- by task: its home card
  pub copies : List ℕ  -- by register: the set of cards that hold a copy
  pub primaries : List ℕ  -- by register: its primary card

-- 3: a number of cards, registers or tasks out of range (RULES 1.3)
unfoldable pub sizes_in_range : ℕ → ℕ → ℕ → Bool
sizes_in_range cards registers tasks = nat_le 1 cards && nat_le cards 8 && nat_le 1 registers && nat_le registers 32 && nat_le 1 tasks && nat_le tasks 16

-- a home card is present
unfoldable pub home_placed : ℕ → ℕ → Bool
home_placed cards home = nat_lt home cards

-- a register has a copy, none on an absent card, and its primary has one
unfoldable pub register_placed : ℕ → ℕ → ℕ → Bool
register_placed cards holders primary = nat_le 1 holders && nat_lt holders (2 ^ cards) && member_of holders primary

abbrev pub placement : ℕ → List ℕ → List ℕ → List ℕ → Placement
placement cards homes copies primaries = record { cards = cards; homes = homes; copies = copies; primaries = primaries }

unfoldable pub homes_placed : ℕ → List ℕ → Bool
homes_placed cards homes = each (length homes) (λ c. home_placed cards (slice_index homes c))

unfoldable pub registers_placed : ℕ → List ℕ → List ℕ → Bool
registers_placed cards copies primaries = each (length copies) (λ x. register_placed cards (slice_index copies x) (slice_index primaries x))

-- 3, then 4 (RULES 8.4)
abbrev pub placement_number : Bool → Bool → ℕ
placement_number sized placed = cond sized (cond placed 0 4) 3

module _ (p : Placement) where
  -- the other sizes are the tables' lengths
  abbrev pub tasks : ℕ
  tasks = length p.homes

  abbrev pub registers : ℕ
  registers = length p.copies

  abbrev pub home : ℕ → ℕ
  home c = slice_index p.homes c

  abbrev pub holders : ℕ → ℕ
  holders x = slice_index p.copies x

  abbrev pub primary : ℕ → ℕ
  primary x = slice_index p.primaries x

  -- card i, which is present, holds a copy of register x
  abbrev pub copy : ℕ → ℕ → Bool
  copy x i = nat_lt i p.cards && member_of (holders x) i

  -- 3. Tables of unequal length count as a size out of range (RULES 10.2).
  unfoldable pub sized : Bool
  sized = sizes_in_range p.cards registers tasks && length p.primaries == registers

  -- 4: a register has no copy; a copy or a home is on an absent card; a primary has no copy (RULES 8.2)
  unfoldable pub placed : Bool
  placed = homes_placed p.cards p.homes && registers_placed p.cards p.copies p.primaries

  -- 0, or the refusal
  unfoldable pub placement_refusal : ℕ
  placement_refusal = placement_number sized placed
