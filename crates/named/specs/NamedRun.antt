-- A run: the bytes of its file, and of its answer. A longer file has a line for its sizes, its homes, copies and primaries, its codes, and
-- each argument; its answer one for N, the results and each value.
use Rattle.std.specs.Prelude.{ℕ, List}

pub record NamedRun : Type 0 where
  pub file : List ℕ
  pub answer : List ℕ
