-- The elements of a list that pass a test, in their order; and which of two elements stands first.
use Rattle.std.specs.Prelude.{◌≡◌, refl, ◌⊎◌, Bool, true, false, ◌&&◌, List, [], ◌∷◌, ◌++◌}
use Rattle.std.proofs.Common.{sym, ap, ◌∙◌, subst, inl, inr}
use Rattle.lists.specs.Histories.{here, there, In, any_nil}
use Rattle.lists.specs.Queues.{push}

module _ {A : Type 0} where
  -- the elements that pass a test, in their order
  abbrev pub keep : Bool → A → List A → List A
  keep true a l = a ∷ l
  keep false a l = l

  abbrev pub filter : (A → Bool) → List A → List A
  filter p [] = []
  filter p (a ∷ l) = keep (p a) a (filter p l)

  pub keep_in : (b : Bool) (a : A) {k : A} {l : List A} → In k (keep b a l) → ((a ≡ k) × (b ≡ true)) ⊎ In k l
  keep_in true a (here e) = inl (e, refl)
  keep_in true a (there h) = inr h
  keep_in false a h = inr h

  pub keep_old : (b : Bool) (a : A) {k : A} {l : List A} → In k l → In k (keep b a l)
  keep_old true a h = there h
  keep_old false a h = h

  pub keep_new : {b : Bool} (a : A) (l : List A) → b ≡ true → In a (keep b a l)
  keep_new a l e = rw e (here refl)

  pub filter_in : (p : A → Bool) {k : A} (l : List A) → In k (filter p l) → In k l × (p k ≡ true)
  filter_in p [] h = absurd (any_nil h)
  filter_in p {k} (a ∷ l) h = go (keep_in (p a) a h) (λ x. filter_in p l x)
    where
      go : ((a ≡ k) × (p a ≡ true)) ⊎ In k (filter p l) → (In k (filter p l) → In k l × (p k ≡ true)) → In k (a ∷ l) × (p k ≡ true)
      go (inl e) r = (here e.0, ap p (sym e.0) ∙ e.1)
      go (inr x) r = (there (r x).0, (r x).1)

  pub in_filter : (p : A → Bool) {k : A} {l : List A} → In k l → p k ≡ true → In k (filter p l)
  in_filter p {k} (here {e = a} {E = l} q) t = subst (λ x. In x (keep (p a) a (filter p l))) q (keep_new a (filter p l) (ap p q ∙ t))
  in_filter p (there {e = a} h) t = keep_old (p a) a (in_filter p h t)

  -- of one more at the end
  pub filter_push : (p : A → Bool) (b : Bool) (a : A) (l : List A) → filter p (push b a l) ≡ push (b && p a) a (filter p l)
  filter_push p false a l = refl
  filter_push p true a [] = one (p a)
    where
      one : (t : Bool) → keep t a [] ≡ push t a []
      one true = refl
      one false = refl
  filter_push p true a (c ∷ l) = ap (keep (p c) c) (filter_push p true a l) ∙ keep_push (p c) (p a) (filter p l)
    where
      keep_push : (t u : Bool) (r : List A) → keep t c (push u a r) ≡ push u a (keep t c r)
      keep_push true true r = refl
      keep_push true false r = refl
      keep_push false u r = refl

  -- j stands before k
  abbrev pub Precedes : A → A → List A → Type 0
  Precedes j k l = (pre : List A) × (post : List A) × (l ≡ pre ++ k ∷ post) × In j pre

  pub in_split : {k : A} {l : List A} → In k l → (pre : List A) × (post : List A) × (l ≡ pre ++ k ∷ post)
  in_split (here {e = a} {E = l} p) = ([], l, ap (λ x. x ∷ l) p)
  in_split (there {e = a} h) = let r = in_split h in (a ∷ r.0, r.1, ap (λ x. a ∷ x) r.2)
