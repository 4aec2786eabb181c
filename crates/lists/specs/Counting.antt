-- How long a list may be whose elements stand once.
use Rattle.std.specs.Prelude.{ℕ, zero, suc, ◌+◌, ◌≤◌, ◌<◌, ◌≡◌, refl, ◌⊎◌, Bool, true, false, not, List, [], ◌∷◌, ◌++◌, length}
use Rattle.std.proofs.Common.{sym, ap, ◌∙◌, subst, inl, inr, arith, length-append}
use Rattle.std.proofs.Math.Decide.{ℕ_discrete}
use Rattle.lists.specs.Histories.{In, here, there, any_nil, any_append, any_left, any_right}
use Rattle.lists.specs.Queues.{Once}
use Rattle.lists.specs.Filters.{keep, filter, filter_in}

-- A list without repetitions whose elements have different numbers below t has at most t elements.

module _ {A : Type 0} (f : A → ℕ) where
  record Cut (t : ℕ) (l : List A) : Type 0 where
    fore : List A
    it : A
    aft : List A
    whole : l ≡ fore ++ it ∷ aft
    has : f it ≡ t

  cut : (t : ℕ) (l : List A) → Cut t l ⊎ ((a : A) → In a l → ¬ (f a ≡ t))
  cut t [] = inr (λ a h. absurd (any_nil h))
  cut t (a ∷ l) = go (ℕ_discrete (f a) t) (cut t l)
    where
      go : Dec (f a ≡ t) → Cut t l ⊎ ((b : A) → In b l → ¬ (f b ≡ t)) → Cut t (a ∷ l) ⊎ ((b : A) → In b (a ∷ l) → ¬ (f b ≡ t))
      go (yes e) r = inl (record { fore = []; it = a; aft = l; whole = refl; has = e })
      go (no n) (inl c) = inl (record { fore = a ∷ c.fore; it = c.it; aft = c.aft; whole = ap (λ x. a ∷ x) c.whole; has = c.has })
      go (no n) (inr r) = inr k
        where
          k : (b : A) → In b (a ∷ l) → ¬ (f b ≡ t)
          k b (here p) e = n (ap f p ∙ e)
          k b (there h) e = r b h e

  -- the element taken out
  once_out : (l r : List A) (a : A) → Once (l ++ a ∷ r) → Once (l ++ r) × ¬ In a (l ++ r)
  once_out [] r a o = (o.1, o.0)
  once_out (b ∷ l) r a o = go (once_out l r a o.1)
    where
      widen : In b l ⊎ In b r → In b (l ++ a ∷ r)
      widen (inl x) = any_left (a ∷ r) x
      widen (inr y) = any_right l (there y)

      go : Once (l ++ r) × (¬ In a (l ++ r)) → Once (b ∷ (l ++ r)) × ¬ In a (b ∷ (l ++ r))
      go ih = (((λ h. o.0 (widen (any_append l r h))), ih.0), no_a)
        where
          no_a : ¬ In a (b ∷ (l ++ r))
          no_a (here p) = o.0 (subst (λ x. In x (l ++ a ∷ r)) (sym p) (any_right l (here refl)))
          no_a (there h) = ih.1 h

  in_out : (l r : List A) (a : A) {b : A} → In b (l ++ r) → In b (l ++ a ∷ r)
  in_out l r a {b} h = go (any_append l r h)
    where
      go : In b l ⊎ In b r → In b (l ++ a ∷ r)
      go (inl x) = any_left (a ∷ r) x
      go (inr y) = any_right l (there y)

  pub at_most_one_each : (t : ℕ) (l : List A) → Once l → ((a b : A) → In a l → In b l → f a ≡ f b → a ≡ b) → ((a : A) → In a l → f a < t) → length l ≤ t
  at_most_one_each zero [] o d u = omega arith
  at_most_one_each zero (a ∷ l) o d u = let h = u a (here refl) in absurd (omega arith)
  at_most_one_each (suc t) l o d u = go (cut t l) (λ k x y z. at_most_one_each t k x y z)
    where
      go : Cut t l ⊎ ((a : A) → In a l → ¬ (f a ≡ t))
          → ((k : List A) → Once k → ((a b : A) → In a k → In b k → f a ≡ f b → a ≡ b) → ((a : A) → In a k → f a < t) → length k ≤ t) → length l ≤ suc t
      go (inr n) r = let h = r l o d (λ a x. let k = u a x in let m = n a x in omega arith) in omega arith
      go (inl c) r =
          let e = c.whole in
          let w = once_out c.fore c.aft c.it (subst Once e o) in
          let back : (b : A) → In b (c.fore ++ c.aft) → In b l = λ b x. subst (In b) (sym e) (in_out c.fore c.aft c.it x) in
          let itself : In c.it l = subst (In c.it) (sym e) (any_right c.fore (here refl)) in
          let low : (b : A) → In b (c.fore ++ c.aft) → f b < t = λ b x.
          let k = u b (back b x) in
          let m : ¬ (f b ≡ t) = λ q. w.1 (subst (λ z. In z (c.fore ++ c.aft)) (d b c.it (back b x) itself (q ∙ sym c.has)) x) in
          omega arith in
          let h = r (c.fore ++ c.aft) w.0 (λ a b x y. d a b (back a x) (back b y)) low in
          let p = ap length e in
          let q = length-append c.fore (c.it ∷ c.aft) in
          let s = length-append c.fore c.aft in
          omega arith

module _ {A : Type 0} (p : A → Bool) where
  -- those that pass a test and those that do not
  pub filter_split : (l : List A) → length l ≡ length (filter p l) + length (filter (λ a. not (p a)) l)
  filter_split [] = refl
  filter_split (a ∷ l) = go (p a) (filter_split l)
    where
      go : (t : Bool) → length l ≡ length (filter p l) + length (filter (λ b. not (p b)) l)
          → suc (length l) ≡ length (keep t a (filter p l)) + length (keep (not t) a (filter (λ b. not (p b)) l))
      go true e = omega arith
      go false e = omega arith

  pub filter_once : (l : List A) → Once l → Once (filter p l)
  filter_once [] o = tt
  filter_once (a ∷ l) o = go (p a) (filter_once l o.1)
    where
      go : (t : Bool) → Once (filter p l) → Once (keep t a (filter p l))
      go true r = ((λ h. o.0 (filter_in p l h).0), r)
      go false r = r

  pub filter_append : (l r : List A) → length (filter p (l ++ r)) ≡ length (filter p l) + length (filter p r)
  filter_append [] r = omega arith
  filter_append (a ∷ l) r = go (p a) (filter_append l r)
    where
      go : (t : Bool) → length (filter p (l ++ r)) ≡ length (filter p l) + length (filter p r) → length (keep t a (filter p (l ++ r))) ≡ length (keep t a (filter p l)) + length (filter p r)
      go true e = omega arith
      go false e = e

  -- none passes
  pub filter_none : (l : List A) → ((a : A) → In a l → p a ≡ false) → length (filter p l) ≡ 0
  filter_none [] f = refl
  filter_none (a ∷ l) f = ap (λ t. length (keep t a (filter p l))) (f a (here refl)) ∙ filter_none l (λ b h. f b (there h))

pub once_right : {A : Type 0} (l r : List A) → Once (l ++ r) → Once r
once_right [] r o = o
once_right (a ∷ l) r o = once_right l r o.1

pub once_left : {A : Type 0} (l r : List A) → Once (l ++ r) → Once l
once_left [] r o = tt
once_left (a ∷ l) r o = ((λ h. o.0 (any_left r h)), once_left l r o.1)

-- a list that has one element, once
pub only_one : {A : Type 0} (a : A) (l : List A) → Once l → ((b : A) → In b l → b ≡ a) → In a l → l ≡ a ∷ []
only_one a [] o f h = absurd (any_nil h)
only_one a (b ∷ []) o f h = ap (λ x. x ∷ []) (f b (here refl))
only_one a (b ∷ c ∷ l) o f h = absurd (o.0 (here (f c (there (here refl)) ∙ sym (f b (here refl)))))

-- what stands once does not stand in front of itself
pub once_front : {A : Type 0} (l r : List A) (a : A) → Once (l ++ a ∷ r) → ¬ In a l
once_front [] r a o x = elim x [ ]
once_front (b ∷ l) r a o (here p) = o.0 (subst (λ x. In x (l ++ a ∷ r)) (sym p) (any_right l (here refl)))
once_front (b ∷ l) r a o (there h) = once_front l r a o.1 h
