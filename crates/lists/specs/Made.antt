-- What elements make of a value, one after the other, and when their order makes no difference.
use Rattle.std.specs.Prelude.{◌≡◌, refl, List, [], ◌∷◌, ◌++◌, ℕ}
use Rattle.std.proofs.Common.{ap, ◌∙◌}

-- the same elements, each as often, in any order
pub data Rearranged {A : Type 0} : List A → List A → Type 0 where
  none : Rearranged [] []
  same : (a : A) {l r : List A} → Rearranged l r → Rearranged (a ∷ l) (a ∷ r)
  swapped : (a b : A) (l : List A) → Rearranged (a ∷ b ∷ l) (b ∷ a ∷ l)
  further : {l m r : List A} → Rearranged l m → Rearranged m r → Rearranged l r

module _ {Val : Type 0} (fun : ℕ → Val → Val) where
  abbrev pub make : Val → List ℕ → Val
  make v [] = v
  make v (k ∷ l) = make (fun k v) l

  -- of two lists in a row
  pub made_append : (v : Val) (l r : List ℕ) → make v (l ++ r) ≡ make (make v l) r
  made_append v [] r = refl
  made_append v (k ∷ l) r = made_append (fun k v) l r

  -- where two in a row may change places, so may all
  pub made_rearranged : ((j k : ℕ) (v : Val) → fun k (fun j v) ≡ fun j (fun k v)) → {l r : List ℕ} → Rearranged l r → (v : Val) → make v l ≡ make v r
  made_rearranged x none v = refl
  made_rearranged x (same a p) v = made_rearranged x p (fun a v)
  made_rearranged x (swapped a b l) v = ap (λ u. make u l) (x a b v)
  made_rearranged x (further p q) v = made_rearranged x p v ∙ made_rearranged x q v
