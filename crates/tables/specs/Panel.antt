-- What the memories say to one who looks (RULES 11.6, 11.7): 0 and quiet for an absent card, task or register.
use Rattle.std.specs.Prelude.{ℕ, cond, ◌&&◌, List, ltb}
use Rattle.lists.specs.Listings.{listing}
use Rattle.names.specs.declared.Card.{Card}
use Rattle.names.specs.declared.Task.{Task}
use Rattle.names.specs.declared.Register.{Register}
use Rattle.channel.specs.Layout.{cards_of, tasks_of, registers_of}
use Rattle.tables.specs.declared.Doing.{Doing}
use Rattle.tables.specs.declared.Doing.TheVariants.{Quiet}
use Rattle.tables.specs.Layout.{Place, card_after_card, copy_at, holds}
use Rattle.tables.specs.Doings.{doing_at}

-- the value of a card's copy of a register
abbrev pub value_shown_at : Place → List ℕ → List ℕ → Card → Register → ℕ
value_shown_at place rs cs card x = cond (ltb card.0 (cards_of cs) && ltb x.0 (registers_of cs)) (copy_at place rs card.0 x.0) 0

-- the copies of a register, card by card: for card i the value of its copy, 0 without one
abbrev pub held_shown_at : Place → List ℕ → List ℕ → Register → ℕ → ℕ
held_shown_at place rs cs x i = cond (holds rs x.0 i) (value_shown_at place rs cs (record { 0 = i }) x) 0

unfoldable pub copies_shown_at : Place → List ℕ → List ℕ → Register → List ℕ
copies_shown_at place rs cs x = listing (held_shown_at place rs cs x) 8

abbrev pub value_shown : List ℕ → List ℕ → Card → Register → ℕ
value_shown rs cs card x = value_shown_at card_after_card rs cs card x

-- what a task is doing
unfoldable pub doing_shown : List ℕ → List ℕ → Task → Doing
doing_shown rs cs t = cond (ltb t.0 (tasks_of cs)) (doing_at rs t.0) Quiet
