-- What is fixed of the messages of a run (000 §6): what the channel reads off each, that two of them can be told apart, and who sends each.
use Rattle.std.specs.Prelude.{◌≡◌, Bool, true, false, ℕ, eqb}
use Rattle.automaton.specs.Mail.{Mail}

pub record Network (M : Type 0) : Type 0 where
  pub mail : Mail M
  pub from : M → ℕ  -- the sending card
  -- a message with no more than one destination goes to that one
  pub single : (m : M) → mail.multi m ≡ false → (i : ℕ) → mail.to m i ≡ eqb i (mail.dest m)
  -- whether two messages are the same
  pub eqm : M → M → Bool
  pub eqm_eq : (m n : M) → eqm m n ≡ true → m ≡ n
  pub eqm_refl : (m : M) → eqm m m ≡ true
