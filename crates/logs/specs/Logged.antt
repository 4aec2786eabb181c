-- What is said of a log: 0 and how many updates it has, or the refusal of the file and none.
use Rattle.std.specs.Prelude.{ℕ, Result, Ok, Err}
use Rattle.names.specs.declared.refusals.Refusal.{Refusal}
use Rattle.names.specs.Refusals.{refusal_number}

pub record Logged : Type 0 where
  pub refusal : ℕ
  pub length : ℕ

abbrev pub logged : Result ℕ Refusal → Logged
logged (Ok n) = record { refusal = 0; length = n }
logged (Err r) = record { refusal = refusal_number r; length = 0 }
