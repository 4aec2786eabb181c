-- The ten steps, decoded (RULES 5.1 to 5.10).
use Rattle.std.specs.Prelude.{ℕ}

pub data Command : Type 0 where
  request_read : ℕ → ℕ → Command  -- 1: task, register
  request_update : ℕ → ℕ → ℕ → ℕ → Command  -- 2: task, register, function, operand
  perform : ℕ → Command  -- 3: task
  send_read : ℕ → ℕ → Command  -- 4: task, chosen card
  send_update : ℕ → Command  -- 5: task
  dispatch : ℕ → Command  -- 6: card
  take_broadcast : ℕ → Command  -- 7: card
  take_single : ℕ → Command  -- 8: task
  deliver : ℕ → Command  -- 9: card
  report : ℕ → Command  -- 10: task
