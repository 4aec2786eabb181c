-- Parts of a list: n elements from a place on, and the rest from a place on as a loan of `&mut s[a..]` states it and gives it back.
use Rattle.std.specs.Prelude.{ℕ, suc, ◌+◌, ◌-◌, ◌≤◌, ◌<◌, min, ◌≡◌, refl, List, [], ◌∷◌, ◌++◌, length, get_or, set, take, drop}
use Rattle.std.proofs.Common.{sym, ap, ap₂, ◌∙◌, arith, add-suc, add-one, length-take, length-drop, drop_of_length-le, take-append-drop, length-take-le, take-suc, take_all, drop-drop, get_or-take, get_or-drop, take_at, drop_at}
use Rattle.std.proofs.Math.ListN.{get_or-eq_default}
use Rattle.std.proofs.lemmas.List.{take-set-le, drop-set-add}
use Rattle.std.proofs.lemmas.List.Edits.{sets, sets-eq}

-- n elements from place a on, fewer where the list ends before
abbrev pub part {ℓ} : {A : Type ℓ} → List A → ℕ → ℕ → List A
part s a n = take n (drop a s)

pub part_length {ℓ} : {A : Type ℓ} (s : List A) (a n : ℕ) → length (part s a n) ≡ min n (length s - a)
part_length s a n = simp (length-take, length-drop)

pub part_whole {ℓ} : {A : Type ℓ} (s : List A) (a n : ℕ) → a + n ≤ length s → length (part s a n) ≡ n
part_whole s a n h = let e = part_length s a n in omega arith

pub part_at {ℓ} : {A : Type ℓ} (s : List A) (a n i : ℕ) (d : A) → i < n → get_or (part s a n) i d ≡ get_or s (a + i) d
part_at s a n i d h = get_or-take n (drop a s) i d h ∙ get_or-drop a s i d

-- past the part, and past the list, there is nothing
pub part_past {ℓ} : {A : Type ℓ} (s : List A) (a n i : ℕ) (d : A) → n ≤ i → get_or (part s a n) i d ≡ d
part_past s a n i d h = let e = part_length s a n in get_or-eq_default (part s a n) d (omega arith)

pub part_short {ℓ} : {A : Type ℓ} (s : List A) (a n i : ℕ) (d : A) → length s ≤ a + i → get_or (part s a n) i d ≡ d
part_short s a n i d h = let e = part_length s a n in get_or-eq_default (part s a n) d (omega arith)

-- the rest from a place on: a part, and the rest after it
pub part_split {ℓ} : {A : Type ℓ} (s : List A) (a n : ℕ) → drop a s ≡ part s a n ++ drop (a + n) s
part_split s a n = sym (take-append-drop n (drop a s)) ∙ ap (λ r. part s a n ++ r) (drop-drop n a s)

pub tail_part {ℓ} : {A : Type ℓ} (a : ℕ) (ys : List A) → take (length ys - a) (drop a ys) ≡ drop a ys
tail_part a ys = take_all (length ys - a) (drop a ys) (omega (arith, length-drop a ys))

pub tail_rest {ℓ} : {A : Type ℓ} (a : ℕ) (ys : List A) → drop (length ys - a) (drop a ys) ≡ []
tail_rest a ys = drop_of_length-le (drop a ys) {i = length ys - a} (omega (arith, length-drop a ys))

-- stores into the part from a on are stores into the list
pub sets_in_tail {ℓ} : {A : Type ℓ} (a : ℕ) (ys : List A) (i : ℕ) (vs : List A) → take a ys ++ sets (drop a ys) i vs ≡ sets ys (a + i) vs
sets_in_tail a ys i [] = take-append-drop a ys
sets_in_tail a ys i (v ∷ vs) =
    ap₂ (λ p q. p ++ sets q (suc i) vs) (sym (take-set-le a ys (a + i) v (omega arith))) (sym (drop-set-add a ys i v))
    ∙ sets_in_tail a (set ys (a + i) v) (suc i) vs
    ∙ ap (λ k. sets (set ys (a + i) v) k vs) (add-suc a i)

-- stores where two lists meet
pub sets_at_seam {ℓ} : {A : Type ℓ} (p q vs : List A) (i : ℕ) → length p ≡ i → length vs ≤ length q → sets (p ++ q) i vs ≡ p ++ (vs ++ drop (length vs) q)
sets_at_seam p q vs i e h =
    let s = sets_in_tail (length p) (p ++ q) 0 vs in
    let n : length p + 0 ≡ i = omega arith in
    let z : 0 + length vs ≡ length vs = omega arith in
    sym (rw (take_at p q (length p) refl, drop_at p q (length p) refl, n) at s)
    ∙ ap (λ r. p ++ r) (sets-eq vs q 0 (omega arith) ∙ ap (λ k. vs ++ drop k q) z)

-- stores of one list and then of another, where the first ends
pub sets_append {ℓ} : {A : Type ℓ} (l : List A) (i : ℕ) (us vs : List A) → sets l i (us ++ vs) ≡ sets (sets l i us) (i + length us) vs
sets_append l i [] vs = let e : i ≡ i + 0 = omega arith in ap (λ k. sets l k vs) e
sets_append l i (u ∷ us) vs =
    let e : suc i + length us ≡ i + suc (length us) = omega arith in
    sets_append (set l i u) (suc i) us vs ∙ ap (λ k. sets (sets (set l i u) (suc i) us) k vs) e

-- one store more
pub sets_more {ℓ} : {A : Type ℓ} (l : List A) (i : ℕ) (vs : List A) (k : ℕ) (d : A) → k < length vs → sets l i (take (k + 1) vs) ≡ set (sets l i (take k vs)) (i + k) (get_or vs k d)
sets_more l i vs k d h =
    ap (λ m. sets l i (take m vs)) (add-one k)
    ∙ ap (sets l i) (take-suc vs k d h)
    ∙ sets_append l i (take k vs) (get_or vs k d ∷ [])
    ∙ ap (λ m. set (sets l i (take k vs)) (i + m) (get_or vs k d)) (length-take-le k vs (omega arith))
