-- The table of phrases: where a number is found, that all are plain, that no two are alike. Each is one decided check of the table.
use Prim.Native.Nat.{ℕ, ◌≤◌, ◌<◌}
use mathlib.Core.Path.{◌≡◌, refl, sym, ap, subst, ◌∙◌}
use mathlib.Core.Bool.{Bool, true, false, cond, not, ◌&&◌, ◌||◌}
use mathlib.Core.List.{List, [], ◌∷◌, ◌++◌}
use native.Mathlib.Omega.{arith}
use lib.Dec.{eqb, ltb, leb}
use lib.ListN.{length}
use borrow.Author.Tests.{eqb-true, leb-true, ltb-true, ltb-false, lt-leb}
use Rattle.lists.specs.Tests.{eqb_refl, eqb_not, and_intro, and_false}
use Rattle.lists.specs.Every.{each, each_at}
use Rattle.lists.specs.All.{all, all_head, all_tail}
use Rattle.names.specs.declared.refusals.Refusal.{Refusal}
use Rattle.names.specs.declared.refusals.Refusal.TheVariants.{IllSized, NoStep, NotZero, NoTask, NoRegister, NoCard, NoFunction, RequestOpen, NotReady, CopiesForbid, NoRequests, NothingToSend, NoBroadcast, NoneInFlight, NothingToDeliver, FarBehind, Crowded}
use Rattle.names.specs.Refusals.{refusal_number}
use Rattle.words.specs.Phrases.{phrases, found, phrase_of, silent}
use Rattle.words.specs.Meaning.{is_letter, numbered}

abbrev Entry : Type 0
Entry = ℕ × List ℕ

-- by whether a number is an entry's
found_here : (n : ℕ) (e : Entry) (es : List Entry) → eqb n e.0 ≡ true → found n (e ∷ es) ≡ e.1
unfolding found
found_here n e es h = ap (λ b. cond b e.1 (found n es)) h

found_later : (n : ℕ) (e : Entry) (es : List Entry) → eqb n e.0 ≡ false → found n (e ∷ es) ≡ found n es
unfolding found
found_later n e es h = ap (λ b. cond b e.1 (found n es)) h

by_entry : {A : Type 0} (n : ℕ) (e : Entry) → (eqb n e.0 ≡ true → A) → (eqb n e.0 ≡ false → A) → A
by_entry {A} n e here later = go (eqb n e.0) refl
  where
    go : (b : Bool) → eqb n e.0 ≡ b → A
    go true h = here h
    go false h = later h

-- every entry of a table has a smaller number: none is found
below : (b n : ℕ) (es fs : List Entry) → all (λ e. ltb e.0 b) es ≡ true → b ≤ n → found n (es ++ fs) ≡ found n fs
below b n [] fs h k = refl
below b n (e ∷ es) fs h k =
    let g = ltb-true e.0 b (all_head (λ d. ltb d.0 b) e es h) in
    found_later n e (es ++ fs) (eqb_not (λ (q : n ≡ e.0). omega arith)) ∙ below b n es fs (all_tail (λ d. ltb d.0 b) e es h) k

-- a number that refuses nothing has no phrase
pub unrefused : (n : ℕ) → ((r : Refusal) → refusal_number r ≡ n → ⊥) → phrase_of n ≡ []
unfolding phrase_of found
unrefused n h =
    let other = λ (r : Refusal). eqb_not {m = n} {n = refusal_number r} (λ q. h r (sym q)) in
    simp (other IllSized, other NoStep, other NotZero, other NoTask, other NoRegister, other NoCard, other NoFunction, other RequestOpen, other NotReady, other CopiesForbid, other NoRequests, other NothingToSend, other NoBroadcast, other NoneInFlight, other NothingToDeliver, other FarBehind, other Crowded)

-- what every text of a table passes, and nothing passes too, passes what is found
found_text : (p : List ℕ → Bool) (n : ℕ) (es : List Entry) → p [] ≡ true → all (λ e. p e.1) es ≡ true → p (found n es) ≡ true
unfolding found
found_text p n [] z h = z
found_text p n (e ∷ es) z h =
    by_entry n e (λ q. ap p (found_here n e es q) ∙ all_head (λ d. p d.1) e es h)
    (λ q. ap p (found_later n e es q) ∙ found_text p n es z (all_tail (λ d. p d.1) e es h))

-- what every entry passes, the number with its text passes, where there is one
found_passes : (p : Entry → Bool) (n : ℕ) (es : List Entry) → all p es ≡ true → 0 < length (found n es) → p (n, found n es) ≡ true
unfolding found
found_passes p n [] h k = absurd (none k)
  where
    none : 0 < 0 → ⊥
    none q = omega arith
found_passes p n (e ∷ es) h k =
    by_entry n e (λ q. ap p (pair (eqb-true n e.0 q) (found_here n e es q)) ∙ all_head p e es h)
    (λ q. ap (λ t. p (n, t)) (found_later n e es q) ∙ found_passes p n es (all_tail p e es h) (subst (λ t. 0 < length t) (found_later n e es q) k))
  where
    pair : {m : ℕ} {s t : List ℕ} → n ≡ m → s ≡ t → ◌≡◌ {A = Entry} (n, s) (m, t)
    pair a b = λ i. (a i, b i)

-- ---- letters and spaces

pub plain : (n : ℕ) → all (λ c. is_letter c || eqb c 32) (phrase_of n) ≡ true
unfolding phrase_of all is_letter
plain n = found_text (all (λ c. is_letter c || eqb c 32)) n phrases refl refl

-- ---- the longest

pub short : (n : ℕ) → length (phrase_of n) ≤ 38
unfolding phrase_of all
short n = leb-true (length (phrase_of n)) 38 (found_text (λ t. leb (length t) 38) n phrases refl refl)

-- ---- no two alike

same : List ℕ → List ℕ → Bool
same [] [] = true
same [] (y ∷ ys) = false
same (x ∷ xs) [] = false
same (x ∷ xs) (y ∷ ys) = eqb x y && same xs ys

same_self : (xs : List ℕ) → same xs xs ≡ true
unfolding same
same_self [] = refl
same_self (x ∷ xs) = and_intro (eqb_refl x) (same_self xs)

-- two entries have one number or different texts
told_apart : Entry → Entry → Bool
told_apart d e = eqb d.0 e.0 || not (same d.1 e.1)

pub one_number : (m n : ℕ) → 0 < length (phrase_of m) → 0 < length (phrase_of n) → phrase_of m ≡ phrase_of n → m ≡ n
unfolding phrase_of all same told_apart
one_number m n h k e =
    let p = found_passes (λ d. all (told_apart d) phrases) m phrases refl h in
    let q = found_passes (told_apart (m, phrase_of m)) n phrases p k in
    eqb-true m n (go (eqb m n) (same (phrase_of m) (phrase_of n)) (ap (same (phrase_of m)) (sym e) ∙ same_self (phrase_of m)) q)
  where
    go : (a b : Bool) → b ≡ true → (a || not b) ≡ true → a ≡ true
    go true b s t = refl
    go false true s t = t
    go false false s t = s

-- ---- which numbers have a phrase

alike : Bool → Bool → Bool
alike true b = b
alike false b = not b

alike_is : (a b : Bool) → alike a b ≡ true → a ≡ b
unfolding alike
alike_is true true h = refl
alike_is true false h = sym h
alike_is false true h = h
alike_is false false h = refl

counted : each 36 (λ n. alike (silent n) (not (numbered n))) ≡ true
unfolding each alike silent phrase_of found numbered
counted = refl

past : (n : ℕ) → 36 ≤ n → silent n ≡ true
unfolding silent phrase_of found all
past n h = ap (λ t. eqb (length t) 0) (below 36 n phrases [] refl h)

unnumbered : (n : ℕ) → 36 ≤ n → numbered n ≡ false
unfolding numbered
unnumbered n h =
    let a = eqb_not {m = n} {n = 6} (λ (q : n ≡ 6). omega arith) in
    let b = lt-leb n 15 (omega arith) in
    let c = lt-leb n 23 (omega arith) in
    let d = lt-leb n 35 (omega arith) in
    simp (a, b, c, d, and_false)

pub spoken : (n : ℕ) → silent n ≡ not (numbered n)
spoken n = go (ltb n 36) refl
  where
    go : (b : Bool) → ltb n 36 ≡ b → silent n ≡ not (numbered n)
    go true e = alike_is (silent n) (not (numbered n)) (each_at 36 (λ k. alike (silent k) (not (numbered k))) counted n (ltb-true n 36 e))
    go false e = let h = ltb-false n 36 e in past n h ∙ sym (ap not (unnumbered n h))
