-- 000 Theorem 5.1, over a channel in the words of 000 §4: the site automata, composed with any context multicast channel, are sequentially
-- consistent. A complete run is one of which §4 speaks; a run that has stopped anywhere is a first part of a complete one.
use Rattle.std.specs.Prelude.{ℕ, List}
use Rattle.lists.specs.Histories.{Suf}
use Rattle.multicast.specs.ContextMulticast.{ContextMulticast}
use Rattle.registers.specs.Explains.{ExplainsValues}
use Rattle.registers.specs.Layer.{Values, World, Msg, Event, Valid, view}

module _ {U : Values} (W : World U) where
  -- one serial order explains the run, its values too
  abbrev pub SequentiallyConsistent : List (Event U) → Type 0
  SequentiallyConsistent E = (order : List ℕ) × ExplainsValues W E order

  -- a complete run of the composition: of the sites, and of a context multicast channel with T as its order of the multicasts
  pub record CompleteRun (T : Msg U → Msg U → Type 0) (E : List (Event U)) : Type 0 where
    pub sites : Valid W E
    pub channel : ContextMulticast (view W) T E

  -- "A is a sequentially consistent shared memory system": each complete run, and each first part of one
  abbrev pub Theorem5-1 : Type 1
  Theorem5-1 = (T : Msg U → Msg U → Type 0) (whole : List (Event U)) → CompleteRun T whole
      → (part : List (Event U)) → Suf part whole → SequentiallyConsistent part
