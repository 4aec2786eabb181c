-- Queues as lists, oldest first: an element put at the end, and the head taken off, each if a test says so. Elements that stand once.
use Rattle.std.specs.Prelude.{◌≡◌, refl, ◌⊎◌, Bool, true, false, List, [], ◌∷◌, ◌++◌}
use Rattle.std.proofs.Common.{sym, inl, inr, append_assoc}
use Rattle.lists.specs.Histories.{Any, here, there, In, any_nil, any_append, any_left, any_right}

module _ {A : Type 0} where
  abbrev pub push : Bool → A → List A → List A
  push true a l = l ++ (a ∷ [])
  push false a l = l

  abbrev pub pop : Bool → List A → List A
  pop false l = l
  pop true [] = []
  pop true (a ∷ l) = l

  -- what has P after a push had it before, or was pushed
  pub push_any : {P : A → Type 0} (b : Bool) (a : A) (l : List A) → Any P (push b a l) → Any P l ⊎ ((b ≡ true) × P a)
  push_any {P} true a l h = go (any_append l (a ∷ []) h)
    where
      go : Any P l ⊎ Any P (a ∷ []) → Any P l ⊎ ((true ≡ true) × P a)
      go (inl x) = inl x
      go (inr (here p)) = inr (refl, p)
      go (inr (there q)) = absurd (any_nil q)
  push_any false a l h = inl h

  pub push_cases : (b : Bool) {a c : A} (l : List A) → In c (push b a l) → In c l ⊎ ((a ≡ c) × (b ≡ true))
  push_cases b {a} {c} l h = go (push_any b a l h)
    where
      go : In c l ⊎ ((b ≡ true) × (a ≡ c)) → In c l ⊎ ((a ≡ c) × (b ≡ true))
      go (inl x) = inl x
      go (inr p) = inr (p.1, p.0)

  pub push_old : {P : A → Type 0} (b : Bool) (a : A) (l : List A) → Any P l → Any P (push b a l)
  push_old true a l h = any_left (a ∷ []) h
  push_old false a l h = h

  pub push_new : {b : Bool} (a : A) (l : List A) → b ≡ true → In a (push b a l)
  push_new a l e = rw e (any_right l (here refl))

  pub push_append : (b : Bool) (a : A) (g l : List A) → push b a (g ++ l) ≡ g ++ push b a l
  push_append true a g l = append_assoc g l (a ∷ [])
  push_append false a g l = refl

  pub pop_in : (b : Bool) {c : A} (l : List A) → In c (pop b l) → In c l
  pop_in false l h = h
  pop_in true [] h = h
  pop_in true (a ∷ l) h = there h

  -- each element stands once
  abbrev pub Once : List A → Type 0
  Once [] = Unit {0}
  Once (a ∷ l) = (¬ In a l) × Once l

  pub once_push : (b : Bool) (a : A) (l : List A) → Once l → (b ≡ true → ¬ In a l) → Once (push b a l)
  once_push false a l o n = o
  once_push true a [] o n = ((λ h. any_nil h), tt)
  once_push true a (c ∷ l) o n = ((λ h. go (any_append l (a ∷ []) h)), once_push true a l o.1 (λ e h. n e (there h)))
    where
      go : In c l ⊎ In c (a ∷ []) → ⊥
      go (inl x) = o.0 x
      go (inr (here e)) = n refl (here (sym e))
      go (inr (there x)) = any_nil x

  pub once_pop : (b : Bool) (l : List A) → Once l → Once (pop b l)
  once_pop false l o = o
  once_pop true [] o = o
  once_pop true (a ∷ l) o = o.1
