-- The promise has teeth: histories that the tempting mistakes lead to (docs/CLAIMS, Not hollow), of which no rank at all keeps the promise.
-- Newest first; a message is a number.
use mathlib.Core.Path.{refl}
use mathlib.Core.Bool.{Bool, true, ◌||◌}
use mathlib.Core.List.{List, [], ◌∷◌}
use Prim.Native.Nat.{ℕ}
use native.Mathlib.Omega.{arith}
use lib.Dec.{eqb}
use Rattle.lists.specs.Histories.{Any, here, there, At, now, before, any_nil}
use Rattle.multicast.specs.Promise.{Act, mcast, receive, McastFrom, McastTo, IsReceive, Promise}

abbrev pub Unordered : List (Act ℕ) → Type 0
Unordered E = (rank : ℕ → ℕ) → ¬ Promise (λ e. e) rank E

-- card i sends m after it received n, and card j, to which both go, receives m without n
overtaken : (m n i j : ℕ) {B C E : List (Act ℕ)} → At (McastFrom m i) B E → Any (IsReceive n i) B → At (IsReceive m j) C E
    → Any (McastTo n j) E
    → ¬ Any (IsReceive n j) C → Unordered E
overtaken m n i j {B} {C} x y z u without rank p = without (p.receive_consistent m n j C z u (p.context_safe m n i B x y))

abbrev everywhere : ℕ → Bool
everywhere i = true

abbrev only : ℕ → ℕ → Bool
only d i = eqb i d

-- K9 without a tag, or where a larger tag joins at once, or where a released message is put ahead of its broadcast: update 0 goes
-- everywhere; card 0 receives it, then sends 1 to card 1, which receives 1 first.
abbrev pub k9_overtaken : List (Act ℕ)
k9_overtaken = receive 1 1 ∷ mcast 1 0 (only 1) ∷ receive 0 0 ∷ mcast 0 2 everywhere ∷ []

pub k9_unordered : Unordered k9_overtaken
k9_unordered = overtaken 1 0 0 1 (before (now (refl, refl))) (here (refl, refl)) (now (refl, refl)) (there (there (there (here (refl, refl))))) without
  where
    without : ¬ Any (IsReceive {M = ℕ} 0 1) (mcast 1 0 (only 1) ∷ receive 0 0 ∷ mcast 0 2 everywhere ∷ [])
    without (here x3) = elim x3 [ ]
    without (there (there (here x10))) = elim x10 [ ]
    without (there (here q)) = let e = q.1 in omega arith
    without (there (there (there x))) = any_nil x

-- K10 where replies have no tag: update 0 goes everywhere; card 1 receives it, then 1, which reads there for card 0, and sends the reply
-- 2, which card 0 receives before the update.
abbrev pub k10_overtaken : List (Act ℕ)
k10_overtaken = receive 2 0 ∷ mcast 2 1 (only 0) ∷ receive 1 1 ∷ mcast 1 0 (only 1) ∷ receive 0 1 ∷ mcast 0 2 everywhere ∷ []

pub k10_unordered : Unordered k10_overtaken
k10_unordered =
    overtaken 2 0 1 0 (before (now (refl, refl))) (there (there (here (refl, refl)))) (now (refl, refl))
    (there (there (there (there (there (here (refl, refl))))))) without
  where
    without : ¬ Any (IsReceive {M = ℕ} 0 0) (mcast 2 1 (only 0) ∷ receive 1 1 ∷ mcast 1 0 (only 1) ∷ receive 0 1 ∷ mcast 0 2 everywhere ∷ [])
    without (here x3) = elim x3 [ ]
    without (there (there (here x10))) = elim x10 [ ]
    without (there (there (there (there (here x17))))) = elim x17 [ ]
    without (there (here q)) = let e = q.1 in omega arith
    without (there (there (there (here q)))) = let e = q.1 in omega arith
    without (there (there (there (there (there x))))) = any_nil x

-- A card that counts only the broadcasts that are for it: 0 goes to cards 1 and 2, then 1 everywhere. Card 0 has taken both and counts
-- one, so what it sends after it received 1 is tagged 1. Card 1 has taken 0 alone, and receives 2 before 1.
abbrev pub uncounted : List (Act ℕ)
uncounted = receive 2 1 ∷ receive 0 1 ∷ mcast 2 0 (only 1) ∷ receive 1 0 ∷ mcast 1 2 everywhere ∷ mcast 0 2 (λ i. eqb i 1 || eqb i 2) ∷ []

pub uncounted_unordered : Unordered uncounted
uncounted_unordered =
    overtaken 2 1 0 1 (before (before (now (refl, refl)))) (here (refl, refl)) (now (refl, refl)) (there (there (there (there (here (refl, refl)))))) without
  where
    without : ¬ Any (IsReceive {M = ℕ} 1 1) (receive 0 1 ∷ mcast 2 0 (only 1) ∷ receive 1 0 ∷ mcast 1 2 everywhere ∷ mcast 0 2 (λ i. eqb i 1 || eqb i 2) ∷ [])
    without (here q) = let e = q.0 in omega arith
    without (there (here x6)) = elim x6 [ ]
    without (there (there (there (here x13)))) = elim x13 [ ]
    without (there (there (there (there (here x17))))) = elim x17 [ ]
    without (there (there (here q))) = let e = q.1 in omega arith
    without (there (there (there (there (there x))))) = any_nil x
