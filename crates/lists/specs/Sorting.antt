-- Lists strictly sorted by a key, a number. Equal keys among the members mean equal members.
use Rattle.std.specs.Prelude.{◌≡◌, refl, ◌⊎◌, Bool, true, false, List, [], ◌∷◌, ◌++◌, ℕ, ◌≤◌, ◌<◌}
use Rattle.std.proofs.Common.{sym, ap, ◌∙◌, subst, inl, inr, append-nil, arith}
use Rattle.lists.specs.Histories.{here, there, In, any_nil, any_append, any_left, any_right}
use Rattle.lists.specs.Queues.{push, Once}
use Rattle.lists.specs.Filters.{keep, filter, filter_in, Precedes, in_split}
use Rattle.lists.specs.Keys.{Tri, less, alike, more, tri}

module _ {A : Type 0} (key : A → ℕ) where
  -- strictly rising keys
  abbrev pub Sorted : List A → Type 0
  Sorted [] = Unit {0}
  Sorted (a ∷ l) = ((b : A) → In b l → key a < key b) × Sorted l

  pub sorted_once : (l : List A) → Sorted l → Once l
  sorted_once [] s = tt
  sorted_once (a ∷ l) s = ((λ h. let k = s.0 a h in omega arith), sorted_once l s.1)

  -- insertion; an element that is there already is not put in again
  abbrev pub place : {m n : ℕ} → Tri m n → A → A → List A → List A → List A
  place (less p) a b l r = a ∷ b ∷ l
  place (alike p) a b l r = b ∷ l
  place (more p) a b l r = b ∷ r

  abbrev pub insert : A → List A → List A
  insert a [] = a ∷ []
  insert a (b ∷ l) = place (tri (key a) (key b)) a b l (insert a l)

  abbrev pub sort : List A → List A
  sort [] = []
  sort (a ∷ l) = insert a (sort l)

  pub insert_in : (a : A) {k : A} (l : List A) → In k (insert a l) → (a ≡ k) ⊎ In k l
  insert_in a [] (here e) = inl e
  insert_in a [] (there h) = absurd (any_nil h)
  insert_in a {k} (b ∷ l) h = go (tri (key a) (key b)) h (λ x. insert_in a l x)
    where
      up : (a ≡ k) ⊎ In k l → (a ≡ k) ⊎ In k (b ∷ l)
      up (inl e) = inl e
      up (inr x) = inr (there x)

      go : {m n : ℕ} (t : Tri m n) → In k (place t a b l (insert a l)) → (In k (insert a l) → (a ≡ k) ⊎ In k l) → (a ≡ k) ⊎ In k (b ∷ l)
      go (less p) (here e) r = inl e
      go (less p) (there x) r = inr x
      go (alike p) x r = inr x
      go (more p) (here e) r = inr (here e)
      go (more p) (there x) r = up (r x)

  pub in_insert_old : (a : A) {k : A} {l : List A} → In k l → In k (insert a l)
  in_insert_old a {k} (here {e = b} {E = l} e) = go (tri (key a) (key b))
    where
      go : {m n : ℕ} (t : Tri m n) → In k (place t a b l (insert a l))
      go (less p) = there (here e)
      go (alike p) = here e
      go (more p) = here e
  in_insert_old a {k} (there {e = b} {E = l} h) = go (tri (key a) (key b)) (in_insert_old a h)
    where
      go : {m n : ℕ} (t : Tri m n) → In k (insert a l) → In k (place t a b l (insert a l))
      go (less p) r = there (there h)
      go (alike p) r = there h
      go (more p) r = there r

  pub in_insert_new : (a : A) (l : List A) → ((b : A) → In b l → key a ≡ key b → b ≡ a) → In a (insert a l)
  in_insert_new a [] inj = here refl
  in_insert_new a (b ∷ l) inj = go (tri (key a) (key b)) (in_insert_new a l (λ c h. inj c (there h)))
    where
      go : (t : Tri (key a) (key b)) → In a (insert a l) → In a (place t a b l (insert a l))
      go (less p) r = here refl
      go (alike p) r = here (inj b (here refl) p)
      go (more p) r = there r

  pub insert_sorted : (a : A) (l : List A) → Sorted l → Sorted (insert a l)
  insert_sorted a [] s = ((λ b h. absurd (any_nil h)), tt)
  insert_sorted a (b ∷ l) s = go (tri (key a) (key b)) (insert_sorted a l s.1)
    where
      below : key a < key b → (c : A) → In c (b ∷ l) → key a < key c
      below p c (here e) = subst (λ x. key a < key x) e p
      below p c (there h) = let q = s.0 c h in omega arith

      above : key b < key a → (c : A) → (a ≡ c) ⊎ In c l → key b < key c
      above p c (inl e) = subst (λ x. key b < key x) e p
      above p c (inr h) = s.0 c h

      go : (t : Tri (key a) (key b)) → Sorted (insert a l) → Sorted (place t a b l (insert a l))
      go (less p) r = (below p, s)
      go (alike p) r = s
      go (more p) r = ((λ c h. above p c (insert_in a l h)), r)

  pub sort_sorted : (l : List A) → Sorted (sort l)
  sort_sorted [] = tt
  sort_sorted (a ∷ l) = insert_sorted a (sort l) (sort_sorted l)

  pub sort_in : {k : A} (l : List A) → In k (sort l) → In k l
  sort_in [] h = h
  sort_in {k} (a ∷ l) h = go (insert_in a (sort l) h) (λ x. sort_in l x)
    where
      go : (a ≡ k) ⊎ In k (sort l) → (In k (sort l) → In k l) → In k (a ∷ l)
      go (inl e) r = here e
      go (inr x) r = there (r x)

  -- members with one key are one
  abbrev pub Keyed : List A → Type 0
  Keyed l = (a b : A) → In a l → In b l → key a ≡ key b → b ≡ a

  pub in_sort : {k : A} (l : List A) → Keyed l → In k l → In k (sort l)
  in_sort [] inj h = h
  in_sort (a ∷ l) inj (here e) =
      subst (λ x. In x (sort (a ∷ l))) e (in_insert_new a (sort l) (λ b h q. inj a b (here refl) (there (sort_in l h)) q))
  in_sort (a ∷ l) inj (there h) = in_insert_old a (in_sort l (λ b c x y. inj b c (there x) (there y)) h)

  pub filter_sorted : (p : A → Bool) (l : List A) → Sorted l → Sorted (filter p l)
  filter_sorted p [] s = tt
  filter_sorted p (a ∷ l) s = go (p a) (filter_sorted p l s.1)
    where
      go : (b : Bool) → Sorted (filter p l) → Sorted (keep b a (filter p l))
      go true r = ((λ c h. s.0 c (filter_in p l h).0), r)
      go false r = r

  -- one more at the end
  pub snoc_sorted : (l : List A) (a : A) → Sorted l → ((b : A) → In b l → key b < key a) → Sorted (l ++ (a ∷ []))
  snoc_sorted [] a s h = ((λ b x. absurd (any_nil x)), tt)
  snoc_sorted (c ∷ l) a s h = ((λ b x. go b (any_append l (a ∷ []) x)), snoc_sorted l a s.1 (λ b x. h b (there x)))
    where
      go : (b : A) → In b l ⊎ In b (a ∷ []) → key c < key b
      go b (inl x) = s.0 b x
      go b (inr (here e)) = subst (λ x. key c < key x) e (h c (here refl))
      go b (inr (there x)) = absurd (any_nil x)

  pub push_sorted : (b : Bool) (a : A) (l : List A) → Sorted l → (b ≡ true → (c : A) → In c l → key c < key a) → Sorted (push b a l)
  push_sorted true a l s h = snoc_sorted l a s (h refl)
  push_sorted false a l s h = s

  -- a sorted part of a sorted list with everything below its members is the list's first part
  pub first_part : (s l : List A) → Sorted s → Sorted l → ((a : A) → In a l → In a s)
      → ((a b : A) → In a l → In b s → key b < key a → In b l) → (r : List A) × (s ≡ l ++ r)
  first_part s [] S L sub down = (s, refl)
  first_part [] (a ∷ l) S L sub down = absurd (any_nil (sub a (here refl)))
  first_part (c ∷ s) (a ∷ l) S L sub down = go (sub a (here refl)) (λ e. first_part s l S.1 L.1 (sub' e) (down' e))
    where
      -- the heads are the same: a is in c ∷ s; were it in s, c would be below a, so in a ∷ l, and so not below a
      at_most : (x : A) → In x (a ∷ l) → key a ≤ key x
      at_most x (here e) = subst (λ y. key a ≤ key y) e (omega arith)
      at_most x (there h) = let q = L.0 x h in omega arith

      sub' : c ≡ a → (x : A) → In x l → In x s
      sub' e x h = pick (sub x (there h))
        where
          pick : In x (c ∷ s) → In x s
          pick (here p) = let q = L.0 x h in let r : key a ≡ key x = ap key (sym e ∙ p) in absurd (omega arith)
          pick (there y) = y

      down' : c ≡ a → (x y : A) → In x l → In y s → key y < key x → In y l
      down' e x y h k q = pick (down x y (there h) (there k) q)
        where
          pick : In y (a ∷ l) → In y l
          pick (here p) = let z = S.0 y k in let r : key c ≡ key y = ap key (e ∙ p) in absurd (omega arith)
          pick (there w) = w

      done : c ≡ a → (r : List A) × (s ≡ l ++ r) → (r : List A) × (c ∷ s ≡ a ∷ l ++ r)
      done e (r, q) = (r, rw (e, q))

      go : In a (c ∷ s) → (c ≡ a → (r : List A) × (s ≡ l ++ r)) → (r : List A) × (c ∷ s ≡ a ∷ l ++ r)
      go (here e) rec = done e (rec e)
      go (there h) rec =
          let q = S.0 a h in
          let m = at_most c (down a c (here refl) (here refl) q) in
          absurd (omega arith)

  -- in a sorted list, what stands before k is what has a smaller key
  pub before_less : {k j : A} (l r : List A) → Sorted (l ++ k ∷ r) → In j l → key j < key k
  before_less [] r s x = elim x [ ]
  before_less {k} (a ∷ l) r s (here e) = subst (λ x. key x < key k) e (s.0 k (any_right l (here refl)))
  before_less (a ∷ l) r s (there h) = before_less l r s.1 h

  pub less_before : {k j : A} (l r : List A) → Sorted (l ++ k ∷ r) → In j (l ++ k ∷ r) → key j < key k → In j l
  less_before {k} {j} [] r s (here e) q = let w : key k ≡ key j = ap key e in absurd (omega arith)
  less_before {k} {j} [] r s (there h) q = let w = s.0 j h in absurd (omega arith)
  less_before (a ∷ l) r s (here e) q = here e
  less_before (a ∷ l) r s (there h) q = there (less_before l r s.1 h q)

  -- two sorted lists with the same members are equal
  pub sorted_unique : (s l : List A) → Sorted s → Sorted l → ((a : A) → In a s → In a l) → ((a : A) → In a l → In a s) → s ≡ l
  sorted_unique s l S L f g = go (first_part s l S L g (λ a b x y z. f b y))
    where
      go : (r : List A) × (s ≡ l ++ r) → s ≡ l
      go ([], q) = q ∙ append-nil l
      go (c ∷ r, q) =
          let w = before_less {k = c} {j = c} l r (rw q at S) (f c (subst (In c) (sym q) (any_right l (here refl)))) in
          absurd (omega arith)

  pub sorted_left : (l r : List A) → Sorted (l ++ r) → Sorted l
  sorted_left [] r s = tt
  sorted_left (a ∷ l) r s = ((λ b h. s.0 b (any_left r h)), sorted_left l r s.1)

  pub less_precedes : {j k : A} {l : List A} → Sorted l → In j l → In k l → key j < key k → Precedes j k l
  less_precedes {j} s x y h = let r = in_split y in (r.0, r.1, r.2, less_before r.0 r.1 (rw r.2 at s) (subst (In j) r.2 x) h)

  -- the two parts of a sorted list share nothing
  pub apart : {j k : A} (l r : List A) → Sorted (l ++ r) → In j l → In k r → key j < key k
  apart [] r s x y = elim x [ ]
  apart {k = k} (a ∷ l) r s (here e) y = subst (λ x. key x < key k) e (s.0 k (any_right l y))
  apart (a ∷ l) r s (there x) y = apart l r s.1 x y
