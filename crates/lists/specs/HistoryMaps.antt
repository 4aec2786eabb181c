-- Histories under a map.
use Rattle.std.specs.Prelude.{◌≡◌, refl, List, [], ◌∷◌, map}
use Rattle.lists.specs.Histories.{Any, here, there, At, now, before, any_nil}

module _ {X Z : Type 0} (f : Z → X) where
  pub any_into : {P : X → Type 0} {E : List Z} → Any (λ z. P (f z)) E → Any P (map f E)
  any_into (here p) = here p
  any_into (there h) = there (any_into h)

  pub any_out : {P : X → Type 0} (E : List Z) → Any P (map f E) → Any (λ z. P (f z)) E
  any_out [] h = absurd (any_nil h)
  any_out (z ∷ E) (here p) = here p
  any_out (z ∷ E) (there h) = there (any_out E h)

  pub at_into : {P : X → Type 0} {B E : List Z} → At (λ z. P (f z)) B E → At P (map f B) (map f E)
  at_into (now p) = now p
  at_into (before q) = before (at_into q)

  -- a moment of the mapped history is that of a moment
  pub record Pre (P : X → Type 0) (B : List X) (E : List Z) : Type 0 where
    pub was : List Z
    pub same_was : map f was ≡ B
    pub at_was : At (λ z. P (f z)) was E

  pub at_out : {P : X → Type 0} {B : List X} (E : List Z) → At P B (map f E) → Pre P B E
  at_out [] h = elim h [ ]
  at_out (z ∷ E) (now p) = record { was = E; same_was = refl; at_was = now p }
  at_out (z ∷ E) (before q) = let r = at_out E q in record { was = r.was; same_was = r.same_was; at_was = before r.at_was }
