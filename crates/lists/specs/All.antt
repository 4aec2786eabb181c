-- A test that every element of a list passes.
use Rattle.std.specs.Prelude.{◌≡◌, refl, Bool, true, ◌&&◌, List, [], ◌∷◌, ◌++◌}
use Rattle.lists.specs.Tests.{and_fst, and_snd, and_intro}

unfoldable pub all {ℓ} : {A : Type ℓ} → (A → Bool) → List A → Bool
all p [] = true
all p (x ∷ xs) = p x && all p xs

pub all_head {ℓ} : {A : Type ℓ} (p : A → Bool) (x : A) (xs : List A) → all p (x ∷ xs) ≡ true → p x ≡ true
unfolding all
all_head p x xs h = and_fst (p x) (all p xs) h

pub all_tail {ℓ} : {A : Type ℓ} (p : A → Bool) (x : A) (xs : List A) → all p (x ∷ xs) ≡ true → all p xs ≡ true
unfolding all
all_tail p x xs h = and_snd (p x) (all p xs) h

pub all_nil {ℓ} : {A : Type ℓ} (p : A → Bool) → all p [] ≡ true
unfolding all
all_nil p = refl

pub all_one {ℓ} : {A : Type ℓ} (p : A → Bool) (x : A) (xs : List A) → p x ≡ true → all p xs ≡ true → all p (x ∷ xs) ≡ true
unfolding all
all_one p x xs h k = and_intro h k

pub all_append {ℓ} : {A : Type ℓ} (p : A → Bool) (xs ys : List A) → all p xs ≡ true → all p ys ≡ true → all p (xs ++ ys) ≡ true
all_append p [] ys h k = k
all_append p (x ∷ xs) ys h k = all_one p x (xs ++ ys) (all_head p x xs h) (all_append p xs ys (all_tail p x xs h) k)
