-- Lists and queues under a map; maps that agree on a list.
use Rattle.std.specs.Prelude.{zero, suc, ◌≡◌, refl, Bool, true, false, List, [], ◌∷◌, map, length}
use Rattle.std.proofs.Common.{ap, ap₂, ◌∙◌, arith}
use Rattle.std.proofs.lemmas.List.{map-append}
use Rattle.std.proofs.Math.Option
use Rattle.std.proofs.Math.Option.{Option, none, some, none-ne-some, some-injective}
use Rattle.lists.specs.Histories.{In, here, there}
use Rattle.lists.specs.Queues.{push, pop}
use Rattle.lists.specs.Filters.{keep, filter}

module _ {A B : Type 0} (h : A → B) where
  pub map_push : (t : Bool) (a : A) (l : List A) → map h (push t a l) ≡ push t (h a) (map h l)
  map_push true a l = map-append h l (a ∷ [])
  map_push false a l = refl

  pub map_pop : (t : Bool) (l : List A) → map h (pop t l) ≡ pop t (map h l)
  map_pop false l = refl
  map_pop true [] = refl
  map_pop true (a ∷ l) = refl

  -- as many pass a test that agrees on what is mapped
  pub length_filter_map : (p : A → Bool) (q : B → Bool) → ((a : A) → q (h a) ≡ p a) → (l : List A) → length (filter q (map h l)) ≡ length (filter p l)
  length_filter_map p q e [] = refl
  length_filter_map p q e (a ∷ l) = ap (λ t. length (keep t (h a) (filter q (map h l)))) (e a) ∙ go (p a) (length_filter_map p q e l)
    where
      go : (t : Bool) → length (filter q (map h l)) ≡ length (filter p l) → length (keep t (h a) (filter q (map h l))) ≡ length (keep t a (filter p l))
      go true r = ap suc r
      go false r = r

  -- the head of a mapped list
  pub map_head : (l : List A) (b : B) (r : List B) → map h l ≡ b ∷ r → (a : A) × (t : List A) × (l ≡ a ∷ t) × (h a ≡ b)
  map_head [] b r e = let z : zero ≡ suc (length r) = ap length e in absurd (omega arith)
  map_head (a ∷ l) b r e = (a, l, refl, ap (λ z. first z) e)
    where
      first : List B → B
      first [] = b
      first (x ∷ z) = x

  pub map_some : (o : Option A) (b : B) → Option.map h o ≡ some b → (a : A) × (o ≡ some a) × (h a ≡ b)
  map_some none b e = absurd (none-ne-some b e)
  map_some (some a) b e = (a, refl, some-injective (h a) b e)

module _ {A B : Type 0} (h k : A → B) where
  pub map_agree : (l : List A) → ((a : A) → In a l → h a ≡ k a) → map h l ≡ map k l
  map_agree [] e = refl
  map_agree (a ∷ l) e = ap₂ (λ x y. x ∷ y) (e a (here refl)) (map_agree l (λ b x. e b (there x)))

  pub option_agree : (o : Option A) → ((a : A) → o ≡ some a → h a ≡ k a) → Option.map h o ≡ Option.map k o
  option_agree none e = refl
  option_agree (some a) e = ap some (e a refl)

module _ {A B C : Type 0} (g : B → C) (h : A → B) where
  pub map_map : (l : List A) → map g (map h l) ≡ map (λ a. g (h a)) l
  map_map [] = refl
  map_map (a ∷ l) = ap (λ r. g (h a) ∷ r) (map_map l)

  pub option_map_map : (o : Option A) → Option.map g (Option.map h o) ≡ Option.map (λ a. g (h a)) o
  option_map_map none = refl
  option_map_map (some a) = refl
