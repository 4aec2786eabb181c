-- Facts on lists of held messages: which of them a broadcast releases, which stay, and that each is held once.
use lib.Dec.{eqb}
use borrow.Author.Tests.{eqb-true}
use mathlib.Core.Path.{◌≡◌, refl, sym, ap, ◌∙◌, subst}
use mathlib.Core.Logic.{◌⊎◌, inl, inr, ◌≢◌}
use mathlib.Core.Bool.{Bool, true, false}
use mathlib.Core.List.{List, [], ◌∷◌}
use Prim.Native.Nat.{ℕ}
use Rattle.lists.specs.Tests.{eqb_of, clash}
use Rattle.lists.specs.Histories.{Any, In, any_nil, any_map, here, there}
use Rattle.lists.specs.Queues.{push, push_any, Once}
use Rattle.automaton.specs.State.{Tagged, choose, released, leave, kept}

module _ {M : Type 0} where
  -- m is held in a list, with tag t
  abbrev pub Holds : M → ℕ → Tagged M → Type 0
  Holds m t x = (x.msg ≡ m) × (x.mark ≡ t)

  -- m is held, with whatever tag
  abbrev pub Names : M → Tagged M → Type 0
  Names m x = x.msg ≡ m

  -- each message stands once
  abbrev pub Distinct : List (Tagged M) → Type 0
  Distinct [] = Unit {0}
  Distinct (x ∷ l) = (¬ Any (Names x.msg) l) × Distinct l

  pub released_in : (n : ℕ) (m : M) (l : List (Tagged M)) → In m (released n l) → Any (Holds m n) l
  released_in n m [] h = absurd (any_nil h)
  released_in n m (x ∷ l) h = go (eqb x.mark n) refl h (λ y. released_in n m l y)
    where
      go : (t : Bool) → eqb x.mark n ≡ t → In m (choose t x.msg (released n l)) → (In m (released n l) → Any (Holds m n) l)
          → Any (Holds m n) (x ∷ l)
      go true e (here p) r = here {e = x} (p, eqb-true _ _ e)
      go true e (there y) r = there (r y)
      go false e y r = there (r y)

  pub holds_in : {x : Tagged M} {l : List (Tagged M)} → In x l → Any (Holds x.msg x.mark) l
  holds_in h = any_map (λ y e. (ap (λ z. z.msg) e, ap (λ z. z.mark) e)) h

  pub holds_names : {m : M} {t : ℕ} {l : List (Tagged M)} → Any (Holds m t) l → Any (Names m) l
  holds_names (here p) = here p.0
  holds_names (there h) = there (holds_names h)

  pub names_holds : {m : M} {l : List (Tagged M)} → Any (Names m) l → (t : ℕ) × Any (Holds m t) l
  names_holds (here {e = x} p) = (x.mark, here {e = x} (p, refl))
  names_holds (there h) = let r = names_holds h in (r.0, there r.1)

  -- what has tag n is released
  pub in_released : {m : M} {t n : ℕ} {l : List (Tagged M)} → Any (Holds m t) l → t ≡ n → In m (released n l)
  in_released {m} {t} {n} (here {e = x} {E = l} p) q = subst (λ b. In m (choose b x.msg (released n l))) (sym (eqb_of (p.1 ∙ q))) (here p.0)
  in_released {m} {t} {n} (there {e = x} {E = l} h) q = go (eqb x.mark n) (in_released h q)
    where
      go : (b : Bool) → In m (released n l) → In m (choose b x.msg (released n l))
      go true r = there r
      go false r = r

  -- and what has another tag stays
  pub in_kept : {m : M} {t n : ℕ} {l : List (Tagged M)} → Any (Holds m t) l → ¬ (t ≡ n) → Any (Holds m t) (kept n l)
  in_kept {m} {t} {n} (here {e = x} {E = l} p) q = go (eqb x.mark n) refl
    where
      go : (b : Bool) → eqb x.mark n ≡ b → Any (Holds m t) (leave b x (kept n l))
      go true e = absurd (q (sym p.1 ∙ eqb-true _ _ e))
      go false e = here {e = x} p
  in_kept {m} {t} {n} (there {e = x} {E = l} h) q = go (eqb x.mark n) (in_kept h q)
    where
      go : (b : Bool) → Any (Holds m t) (kept n l) → Any (Holds m t) (leave b x (kept n l))
      go true r = r
      go false r = there r

  pub released_once : (n : ℕ) (l : List (Tagged M)) → Distinct l → Once (released n l)
  released_once n [] d = tt
  released_once n (x ∷ l) d = go (eqb x.mark n) (released_once n l d.1)
    where
      go : (t : Bool) → Once (released n l) → Once (choose t x.msg (released n l))
      go true r = ((λ h. d.0 (holds_names (released_in n x.msg l h))), r)
      go false r = r

  pub kept_in : (n : ℕ) (m : M) (t : ℕ) (l : List (Tagged M)) → Any (Holds m t) (kept n l) → Any (Holds m t) l × (t ≢ n)
  kept_in n m t [] h = absurd (any_nil h)
  kept_in n m t (x ∷ l) h = go (eqb x.mark n) refl h (λ y. kept_in n m t l y)
    where
      go : (s : Bool) → eqb x.mark n ≡ s → Any (Holds m t) (leave s x (kept n l))
          → (Any (Holds m t) (kept n l) → Any (Holds m t) l × (t ≢ n)) → Any (Holds m t) (x ∷ l) × (t ≢ n)
      go true e y r = (there (r y).0, (r y).1)
      go false e (here p) r = (here {e = x} p, λ q. clash (eqb_of (p.1 ∙ q)) e)
      go false e (there y) r = (there (r y).0, (r y).1)

  pub kept_distinct : (n : ℕ) (l : List (Tagged M)) → Distinct l → Distinct (kept n l)
  kept_distinct n [] d = tt
  kept_distinct n (x ∷ l) d = go (eqb x.mark n) (kept_distinct n l d.1)
    where
      go : (t : Bool) → Distinct (kept n l) → Distinct (leave t x (kept n l))
      go true r = r
      go false r = ((λ h. let y = names_holds h in d.0 (holds_names (kept_in n x.msg y.0 l y.1).0)), r)

  pub push_distinct : (b : Bool) (x : Tagged M) (l : List (Tagged M)) → Distinct l → ¬ Any (Names x.msg) l → Distinct (push b x l)
  push_distinct false x l d n = d
  push_distinct true x [] d n = ((λ h. any_nil h), tt)
  push_distinct true x (y ∷ l) d n = ((λ h. go (push_any true x l h)), push_distinct true x l d.1 (λ h. n (there h)))
    where
      go : Any (Names y.msg) l ⊎ ((true ≡ true) × (x.msg ≡ y.msg)) → ⊥
      go (inl h) = d.0 h
      go (inr p) = n (here {e = y} (sym p.1))
