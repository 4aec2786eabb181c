-- The total of a log, read in two ways (RULES 16.1 to 16.4). A log is two parallel lists over updates: the home card of each one's task, and its
-- operand.
use Rattle.std.specs.Prelude.{ℕ, Bool, cond, List, [], ◌∷◌, Result, Ok, Err, eqb, leb, ltb, length, get_or, set}
use Rattle.lists.specs.Every.{each}
use Rattle.lists.specs.Filters.{keep}
use Rattle.lists.specs.Listings.{listing}
use Rattle.lists.specs.Made.{make}
use Rattle.names.specs.declared.refusals.Refusal.{Refusal}
use Rattle.names.specs.Refusals.{refusal_number}
use Rattle.names.specs.Update.{sum_of}

-- the refusal, 0 where there is none, and the total, 0 where it is refused
pub record Totalled : Type 0 where
  pub refusal : ℕ
  pub total : ℕ

-- what a result says: a total, or a refusal by its number
abbrev pub totalled : Result ℕ Refusal → Totalled
totalled (Ok n) = record { refusal = 0; total = n }
totalled (Err r) = record { refusal = refusal_number r; total = 0 }

-- one more, modulo 4,294,967,296: as function 5 adds (RULES 2.5)
abbrev pub added : ℕ → ℕ → ℕ
added s w = sum_of s w

-- numbers added as they stand, from 0
unfoldable pub summed : List ℕ → ℕ
summed ws = make (λ w s. added s w) 0 ws

-- the operands of card i, in their order
abbrev pub group : ℕ → List ℕ → List ℕ → List ℕ
group i [] ws = []
group i (c ∷ cs) [] = []
group i (c ∷ cs) (w ∷ ws) = keep (eqb c i) w (group i cs ws)

-- the cards that have a group: 0 to 7
abbrev pub group_count : ℕ
group_count = 8

-- each card's group added up
unfoldable pub card_sums : List ℕ → List ℕ → List ℕ
card_sums cards operands = listing (λ i. summed (group i cards operands)) group_count

-- one operand more in its card's sum; a card above 7 has none
unfoldable pub card_added : List ℕ → ℕ → ℕ → List ℕ
card_added sums card operand = cond (ltb card group_count) (set sums card (added (get_or sums card 0) operand)) sums

-- no card number is above 7
unfoldable pub cards_known : List ℕ → Bool
cards_known cards = each (length cards) (λ k. leb (get_or cards k 0) 7)

-- 3: lists of unequal length; then 14: a card number above 7 (RULES 16.4)
abbrev pub log_number : Bool → Bool → ℕ
log_number even known = cond even (cond known 0 14) 3

unfoldable pub log_refusal : List ℕ → List ℕ → ℕ
log_refusal cards operands = log_number (eqb (length cards) (length operands)) (cards_known cards)

-- with a refusal the total is 0
abbrev pub given : ℕ → ℕ → Totalled
given refusal total = record { refusal = refusal; total = cond (eqb refusal 0) total 0 }

-- the plain reading: the operands as they stand (RULES 16.2)
unfoldable pub total_of : List ℕ → List ℕ → Totalled
total_of cards operands = given (log_refusal cards operands) (summed operands)

-- by card: each card's group, then the groups (RULES 16.3)
unfoldable pub total_by_card : List ℕ → List ℕ → Totalled
total_by_card cards operands = given (log_refusal cards operands) (summed (card_sums cards operands))
