-- The run of the algorithm that the store runs answers each step with the ledger's result.
use Prim.Native.Nat.{suc, zero, ℕ}
use lib.ListN.{drop, length, take}
use mathlib.Core.List.{List, [], ◌++◌, ◌∷◌}
use mathlib.Core.Option.{none-ne-some, some-injective, some}
use mathlib.Core.Path.{ap, ap₂, refl, sym, ◌∙◌, ◌≡◌}
use Rattle.lists.specs.Places.{nth}
use Rattle.names.specs.Placement.{Placement, placement_refusal}
use Rattle.claims.proofs.Together.{results_agree}
use Rattle.claims.specs.FoundRun.{found_run}
use Rattle.claims.specs.Reports.{LedgerNumbers}
use Rattle.claims.specs.Steps.{RawStep}

-- a list at one of its places: what stands before it and behind it
pub split_at : {A : Type 0} (l : List A) (n : ℕ) (a : A) → nth l n ≡ some a → (l ≡ take n l ++ a ∷ drop (suc n) l) × (length (take n l) ≡ n)
split_at [] n a e = absurd (none-ne-some a e)
split_at (b ∷ l) zero a e = (ap (λ x. x ∷ l) (some-injective b a e), refl)
split_at (b ∷ l) (suc n) a e = let r = split_at l n a e in (ap (λ x. b ∷ x) r.0, ap suc r.1)

pub ledger_numbers : (P : Placement) → placement_refusal P ≡ 0 → (steps : List RawStep) → LedgerNumbers P steps (found_run P steps).1
ledger_numbers P ok steps n a e =
    let s = split_at steps n a e in
    let r = results_agree P ok (take n steps) a (drop (suc n) steps) in
    (r.0, ap₂ (λ l k. nth (found_run P l).1 k) s.0 (sym s.1) ∙ r.1)
