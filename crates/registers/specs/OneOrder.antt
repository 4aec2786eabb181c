-- All holders of a register apply its updates in one order (RULES 12.13), over any channel that keeps its promise. So each of them finds the same
-- value for an update, whenever it applies it: home's copy and the primary's give the same, and what its report gives is what they found.
use Rattle.std.specs.Prelude.{ℕ, ◌≡◌, ◌⊎◌, true, List, ◌++◌}
use Rattle.lists.specs.Histories.{Any, At}
use Rattle.multicast.specs.Promise.{Promise}
use Rattle.registers.specs.Layer.{Values, World, Msg, Event, Valid, run, view}
use Rattle.registers.specs.Events.{Gives, Crucial}

-- l is a first part of m, perhaps empty or the whole
abbrev pub FirstPart : List ℕ → List ℕ → Type 0
FirstPart l m = (rest : List ℕ) × (m ≡ l ++ rest)

module _ {U : Values} (W : World U) where
  pub record OneOrder (E : List (Event U)) : Type 0 where
    -- of two copies of a register one shows a first part of what the other shows
    pub copies : (x i j : ℕ) → W.copy x i ≡ true → W.copy x j ≡ true
        → FirstPart ((run W E).shown i x) ((run W E).shown j x) ⊎ FirstPart ((run W E).shown j x) ((run W E).shown i x)
    -- update k found the same on card i, which applied it after B, as on card j, which applied it after C
    pub found : (k i j : ℕ) (B C : List (Event U)) → W.upd k ≡ true → At (Crucial W k i) B E → At (Crucial W k j) C E
        → (run W B).val i (W.reg k) ≡ (run W C).val j (W.reg k)
    -- and its report gives what any of them found
    pub told : (k i : ℕ) (B : List (Event U)) (v : U.Val) → W.upd k ≡ true → Any (Gives k v) E → At (Crucial W k i) B E
        → v ≡ (run W B).val i (W.reg k)

  abbrev pub HoldersAgree : Type 0
  HoldersAgree = (rank : Msg U → ℕ) (E : List (Event U)) → Valid W E → Promise (view W) rank E → OneOrder E
