-- Numbers added up modulo 2^32: all of them, in any order, and one list after another.
use Prim.Native.Nat.{ℕ, ◌+◌, ◌%◌, ◌<◌}
use mathlib.Core.Path.{◌≡◌, refl, sym, ap, ◌∙◌}
use mathlib.Core.List.{List, [], ◌∷◌, ◌++◌}
use native.Mathlib.Numerals.{add-one}
use native.Mathlib.Omega.{arith}
use lib.ListN.{length, get_or, take}
use lib.Seq.{take-suc}
use Rattle.lists.specs.Made.{Rearranged, make, made_append}
use Rattle.names.specs.Update.{sum_of, updated}
use Rattle.names.proofs.UpdateMeaning.{add, added_from, updates_sum}
use Rattle.totals.specs.Totals.{added, summed}

-- ---- one more, as the loops add it

pub summed_none : summed [] ≡ 0
unfolding summed
summed_none = refl

pub summed_snoc : (ws : List ℕ) (w : ℕ) → summed (ws ++ (w ∷ [])) ≡ added (summed ws) w
unfolding summed
summed_snoc ws w = made_append (λ u s. added s u) 0 ws (w ∷ [])

-- the first k + 1 of a list
pub summed_more : (ws : List ℕ) (k : ℕ) → k < length ws → summed (take (k + 1) ws) ≡ added (summed (take k ws)) (get_or ws k 0)
summed_more ws k h = ap summed (ap (λ n. take n ws) (add-one k) ∙ take-suc ws k 0 h) ∙ summed_snoc (take k ws) (get_or ws k 0)

-- ---- all of them

-- added up as a register's value is by function 5
pub as_updates : (ws : List ℕ) → summed ws ≡ make (updated 5) 0 ws
unfolding summed updated
as_updates ws = refl

pub summed_all : (ws : List ℕ) → summed ws ≡ make add 0 ws % 4294967296
summed_all ws = as_updates ws ∙ (updates_sum 0 ws (omega arith)).summed_all

-- in any order (RULES 2.7)
pub summed_rearranged : {ws us : List ℕ} → Rearranged ws us → summed ws ≡ summed us
summed_rearranged {ws} {us} r = as_updates ws ∙ ((updates_sum 0 ws (omega arith)).any_order us r).1 ∙ sym (as_updates us)

pub summed_append : (ws us : List ℕ) → summed (ws ++ us) ≡ added (summed ws) (summed us)
unfolding sum_of
summed_append ws us =
    let e = made_append add 0 ws us in
    let f = added_from (make add 0 ws) us in
    let a = summed_all (ws ++ us) in
    let b = summed_all ws in
    let c = summed_all us in
    omega arith
