-- The latest element of a history that passes a test p, where p tests for P: f of what came before it, and when it was.
use Rattle.std.specs.Prelude.{◌≡◌, refl, Bool, true, false, cond, List, [], ◌∷◌, ℕ, suc, ◌≤◌, length}
use Rattle.std.proofs.Common.{arith}
use Rattle.lists.specs.Histories.{Any, here, there, At, now, before, any_nil, at_any}
use Rattle.lists.specs.Tests.{clash}

module _ {A : Type 0} where
  -- f of what came before it; 0 if there is none
  abbrev pub latest : (List A → ℕ) → (A → Bool) → List A → ℕ
  latest f p [] = 0
  latest f p (e ∷ E) = cond (p e) (f E) (latest f p E)

  -- when it was
  abbrev pub time : (A → Bool) → List A → ℕ
  time = latest (λ B. suc (length B))

  pub time_below : (p : A → Bool) (E : List A) → time p E ≤ length E
  time_below p [] = omega arith
  time_below p (e ∷ E) = go (p e) (time_below p E)
    where
      go : (b : Bool) → time p E ≤ length E → cond b (suc (length E)) (time p E) ≤ suc (length E)
      go true h = omega arith
      go false h = omega arith

  module _ {P : A → Type 0} (p : A → Bool) (test : (e : A) → P e → p e ≡ true) (tested : (e : A) → p e ≡ true → P e) where
    -- the only one is the latest
    pub latest_at : (f : List A → ℕ) {B E : List A} → ((C : List A) → At P C E → ¬ Any P C) → At P B E → latest f p E ≡ f B
    latest_at f o (now q) = rw (test _ q)
    latest_at f {B} o (before {e = e} {E = E} q) = go (p e) refl (latest_at f (λ C x. o C (before x)) q)
      where
        go : (b : Bool) → p e ≡ b → latest f p E ≡ f B → cond b (f E) (latest f p E) ≡ f B
        go true h r = absurd (o E (now (tested e h)) (at_any q))
        go false h r = r

    pub latest_none : (f : List A → ℕ) (E : List A) → ¬ Any P E → latest f p E ≡ 0
    latest_none f [] n = refl
    latest_none f (e ∷ E) n = go (p e) refl (latest_none f E (λ h. n (there h)))
      where
        go : (b : Bool) → p e ≡ b → latest f p E ≡ 0 → cond b (f E) (latest f p E) ≡ 0
        go true h r = absurd (n (here (tested e h)))
        go false h r = r

    pub any? : (E : List A) → Dec (Any P E)
    any? [] = no (λ h. any_nil h)
    any? (e ∷ E) = go (p e) refl (any? E)
      where
        go : (b : Bool) → p e ≡ b → Dec (Any P E) → Dec (Any P (e ∷ E))
        go true h d = yes (here (tested e h))
        go false h (yes x) = yes (there x)
        go false h (no x) = no f
          where
            f : ¬ Any P (e ∷ E)
            f (here y) = clash (test e y) h
            f (there y) = x y
