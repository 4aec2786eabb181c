-- The messages of 000 Figure 5 (RULES 1.7). The operation's name ξ is left out: a task has one open request. The replies to updates carry no
-- value; those that the store sends do (names' Body, specs/Found).
use Rattle.std.specs.Prelude.{ℕ}

pub data Body : Type 0 where
  ReadDo : Body  -- (read-do, c, ξ, x)
  ReadReply : ℕ → Body  -- (read-reply, c, ξ, x, v): the value
  UpdateDo : ℕ → ℕ → Body  -- (update-do, c, ξ, x, f): function and operand
  UpdateReply : Body  -- (update-reply, c, ξ, x)
