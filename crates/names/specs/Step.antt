-- A step as it is given, a code and the eight bytes of its argument (RULES 3.1, 3.3), before it is judged.
use Rattle.std.specs.Prelude.{ℕ, List}

pub record RawStep : Type 0 where
  pub code : ℕ
  pub argument : List ℕ
