-- The sums of the cards' groups, update by update, as the loop makes them.
use Prim.Native.Nat.{ℕ, zero, suc, ◌+◌, ◌<◌, ◌≤◌, min}
use mathlib.Core.Path.{◌≡◌, refl, sym, ap, ap₂, ◌∙◌}
use mathlib.Core.Bool.{Bool, true, false, cond}
use mathlib.Core.List.{List, [], ◌∷◌, ◌++◌}
use native.Mathlib.Decide.{dec_lt, ℕ_discrete}
use native.Mathlib.Numerals.{add-one}
use native.Mathlib.Omega.{arith}
use borrow.Author.Tests.{lt-ltb, le-ltb}
use lib.Dec.{eqb, ltb}
use lib.ListN.{length, get_or, set, take, replicate}
use lib.Seq.{take-suc, take-set-lt, length-take-le}
use Rattle.std.proofs.lemmas.List.{length-take, take-set-le, get_or-take}
use Rattle.lists.specs.Filters.{keep}
use Rattle.lists.specs.Listings.{listing, listing_zero, listing_snoc, listing_cong, listing_length, listing_at, listing_set}
use Rattle.lists.specs.Queues.{push}
use Rattle.lists.specs.Tests.{eqb_refl, eqb_not}
use Rattle.totals.specs.Totals.{added, summed, group, group_count, card_sums, card_added}
use Rattle.totals.proofs.Adding.{summed_snoc}

pub sums_none : card_sums [] [] ≡ replicate group_count 0
unfolding card_sums listing summed
sums_none = refl

-- the ninth sum lies behind the groups' sums: of these the card's own alone grows
pub added_apart : (sums : List ℕ) (card operand : ℕ)
    → take group_count (set sums (min card group_count) (added (get_or sums (min card group_count) 0) operand)) ≡ card_added (take group_count sums) card operand
unfolding card_added
added_apart sums card operand = go (dec_lt card group_count)
  where
    go : Dec (card < group_count)
        → take group_count (set sums (min card group_count) (added (get_or sums (min card group_count) 0) operand))
        ≡ cond (ltb card group_count) (set (take group_count sums) card (added (get_or (take group_count sums) card 0) operand)) (take group_count sums)
    go (yes h) =
        let low : min card group_count ≡ card = omega arith in
        rw (low, lt-ltb card group_count h, get_or-take group_count sums card 0 h) (take-set-lt group_count sums card _ h)
    go (no h) =
        let high : min card group_count ≡ group_count = omega arith in
        rw (high, le-ltb card group_count (omega arith)) (take-set-le group_count sums group_count _ (omega arith))

-- the first n of a list named one by one, where it has n
named : (l : List ℕ) (n : ℕ) → n ≤ length l → listing (λ i. get_or l i 0) n ≡ take n l
named l zero h = listing_zero _
named l (suc n) h = listing_snoc _ n ∙ ap (λ t. t ++ (get_or l n 0 ∷ [])) (named l n (omega arith)) ∙ sym (take-suc l n 0 (omega arith))

pub sums_named : (sums cs ws : List ℕ) → take group_count sums ≡ card_sums cs ws → listing (λ i. get_or sums i 0) group_count ≡ card_sums cs ws
unfolding card_sums
sums_named sums cs ws e = named sums group_count (omega (arith, length-take group_count sums, ap length e, listing_length (λ i. summed (group i cs ws)) group_count)) ∙ e

-- ---- one update more

group_snoc : (i c w : ℕ) (cs ws : List ℕ) → length cs ≡ length ws → group i (cs ++ (c ∷ [])) (ws ++ (w ∷ [])) ≡ push (eqb c i) w (group i cs ws)
group_snoc i c w [] [] e = go (eqb c i)
  where
    go : (b : Bool) → keep b w [] ≡ push b w []
    go true = refl
    go false = refl
group_snoc i c w [] (u ∷ ws) e = absurd (omega arith)
group_snoc i c w (d ∷ cs) [] e = absurd (omega arith)
group_snoc i c w (d ∷ cs) (u ∷ ws) e = ap (keep (eqb d i) u) (group_snoc i c w cs ws (omega arith)) ∙ go (eqb d i) (eqb c i)
  where
    go : (a b : Bool) → keep a u (push b w (group i cs ws)) ≡ push b w (keep a u (group i cs ws))
    go true true = refl
    go true false = refl
    go false b = refl

summed_push : (b : Bool) (w : ℕ) (ws : List ℕ) → summed (push b w ws) ≡ cond b (added (summed ws) w) (summed ws)
summed_push true w ws = summed_snoc ws w
summed_push false w ws = refl

module _ (c w : ℕ) (cs ws : List ℕ) (e : length cs ≡ length ws) where
  abbrev was : ℕ → ℕ
  was i = summed (group i cs ws)

  grown : (i : ℕ) → summed (group i (cs ++ (c ∷ [])) (ws ++ (w ∷ []))) ≡ cond (eqb c i) (added (was i) w) (was i)
  grown i = ap summed (group_snoc i c w cs ws e) ∙ summed_push (eqb c i) w (group i cs ws)

  sums_snoc : card_sums (cs ++ (c ∷ [])) (ws ++ (w ∷ [])) ≡ card_added (card_sums cs ws) c w
  unfolding card_sums card_added
  sums_snoc = go (dec_lt c group_count)
    where
      at : (i : ℕ) → Dec (c ≡ i) → cond (eqb c i) (added (was i) w) (was i) ≡ cond (eqb i c) (added (was c) w) (was i)
      at i (yes p) = rw (← p, eqb_refl c)
      at i (no q) = rw (eqb_not q, eqb_not (λ p. q (sym p)))

      go : Dec (c < group_count)
          → listing (λ i. summed (group i (cs ++ (c ∷ [])) (ws ++ (w ∷ [])))) group_count
          ≡ cond (ltb c group_count) (set (listing was group_count) c (added (get_or (listing was group_count) c 0) w)) (listing was group_count)
      go (yes h) =
          rw (lt-ltb c group_count h, listing_at was group_count c 0 h, listing_set was group_count c (added (was c) w) h)
          (listing_cong (λ i. summed (group i (cs ++ (c ∷ [])) (ws ++ (w ∷ [])))) (λ i. cond (eqb i c) (added (was c) w) (was i)) group_count (λ i g. grown i ∙ at i (ℕ_discrete c i)))
      go (no h) =
          rw (le-ltb c group_count (omega arith))
          (listing_cong (λ i. summed (group i (cs ++ (c ∷ [])) (ws ++ (w ∷ [])))) was group_count (λ i g. grown i ∙ ap (λ b. cond b (added (was i) w) (was i)) (eqb_not {m = c} {n = i} (λ q. omega arith))))

-- the first k + 1 updates of two lists
pub sums_more : (cs ws : List ℕ) (k : ℕ) → k < length cs → k < length ws
    → card_sums (take (k + 1) cs) (take (k + 1) ws) ≡ card_added (card_sums (take k cs) (take k ws)) (get_or cs k 0) (get_or ws k 0)
sums_more cs ws k h g =
    ap₂ card_sums (ap (λ n. take n cs) (add-one k) ∙ take-suc cs k 0 h) (ap (λ n. take n ws) (add-one k) ∙ take-suc ws k 0 g)
    ∙ sums_snoc (get_or cs k 0) (get_or ws k 0) (take k cs) (take k ws) (length-take-le k cs (omega arith) ∙ sym (length-take-le k ws (omega arith)))

-- as far as both lists go
taken_none : (n : ℕ) → take {A = ℕ} n [] ≡ []
taken_none zero = refl
taken_none (suc n) = refl

group_none : (i : ℕ) (cs : List ℕ) → group i cs [] ≡ []
group_none i [] = refl
group_none i (c ∷ cs) = refl

group_taken : (i : ℕ) (cs ws : List ℕ) (n : ℕ) → min (length cs) (length ws) ≤ n → group i (take n cs) (take n ws) ≡ group i cs ws
group_taken i [] ws n h = ap (λ l. group i l (take n ws)) (taken_none n)
group_taken i (c ∷ cs) [] n h = ap (λ l. group i (take n (c ∷ cs)) l) (taken_none n) ∙ group_none i (take n (c ∷ cs))
group_taken i (c ∷ cs) (w ∷ ws) zero h = absurd (omega arith)
group_taken i (c ∷ cs) (w ∷ ws) (suc n) h = ap (keep (eqb c i) w) (group_taken i cs ws n (omega arith))

pub sums_taken : (cs ws : List ℕ) (n : ℕ) → min (length cs) (length ws) ≤ n → card_sums (take n cs) (take n ws) ≡ card_sums cs ws
unfolding card_sums
sums_taken cs ws n h = listing_cong _ _ group_count (λ i g. ap summed (group_taken i cs ws n h))
