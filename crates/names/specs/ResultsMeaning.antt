-- What `is_taken` and `result_from` mean (RULES 4.2, 9.3), stated apart from them.
use Rattle.std.specs.Prelude.{◌≡◌, ℕ, Bool, true, false, ◌≢◌, ◌⊎◌, ◌↔◌}
use Rattle.names.specs.Results.{is_taken, result_from}

pub record ResultsMeaning : Type 0 where
  -- two numbers are taken, and every other one refuses
  pub taken_if : (n : ℕ) → (is_taken n ≡ true) ↔ ((n ≡ 0) ⊎ (n ≡ 100))
  -- what nothing refuses is taken: 100 where the message is held, else 0
  pub none_refuses : (held : Bool) → is_taken (result_from 0 held) ≡ true
  pub held_is : result_from 0 true ≡ 100
  pub not_held : result_from 0 false ≡ 0
  -- a refusal is the result
  pub refuses : (r : ℕ) (held : Bool) → r ≢ 0 → result_from r held ≡ r
