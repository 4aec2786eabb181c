-- What the channel reads off a message, whatever the message is (RULES 6.1, 6.4).
use Rattle.std.specs.Prelude.{ℕ, Bool}

pub record Mail (M : Type 0) : Type 0 where
  pub task : M → ℕ  -- the task whose request it serves
  pub to : M → ℕ → Bool  -- the card is a destination
  pub multi : M → Bool  -- more than one destination
  pub dest : M → ℕ  -- the destination, if there is one
