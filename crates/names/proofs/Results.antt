-- Results: taken or refused.
use Rattle.std.proofs.Common.{◌≡◌, ℕ, ◌<◌, Bool, true, false, cond, ◌||◌, eqb, ◌≢◌, ◌⊎◌, ◌↔◌, sym, refl, ap, ◌∙◌, inl, inr, arith, ne_eqb, eqb-true}
use Rattle.lists.specs.Tests.{eqb_of, eqb_not, clash}
use Rattle.names.specs.Results.{is_taken, result_from}
use Rattle.names.specs.ResultsMeaning.{ResultsMeaning}

pub taken_zero : is_taken 0 ≡ true
unfolding is_taken
taken_zero = refl

taken_those : (n : ℕ) → (n ≡ 0) ⊎ (n ≡ 100) → is_taken n ≡ true
unfolding is_taken
taken_those n (inl e) = rw e
taken_those n (inr e) = rw e

taken_only : (n : ℕ) → is_taken n ≡ true → (n ≡ 0) ⊎ (n ≡ 100)
unfolding is_taken
taken_only n = go (eqb n 0) refl
  where
    go : (b : Bool) → eqb n 0 ≡ b → (b || eqb n 100) ≡ true → (n ≡ 0) ⊎ (n ≡ 100)
    go true e q = inl (eqb-true n 0 e)
    go false e q = inr (eqb-true n 100 q)

-- nothing below 100 but 0 is taken, and no refusal is as large
pub taken_small : (n : ℕ) → n < 100 → is_taken n ≡ eqb n 0
unfolding is_taken
taken_small n h = rw (ne_eqb n 100 (λ e. omega arith)) (go (eqb n 0))
  where
    go : (b : Bool) → (b || false) ≡ b
    go true = refl
    go false = refl

-- a number that refuses is not 0
pub refused_not_zero : (n : ℕ) → is_taken n ≡ false → n ≢ 0
refused_not_zero n h e = clash taken_zero (sym (ap is_taken e) ∙ h)

pub not_zero_refused : (n : ℕ) → n < 100 → n ≢ 0 → is_taken n ≡ false
not_zero_refused n h z = taken_small n h ∙ eqb_not z

pub refuses : (r : ℕ) (held : Bool) → r ≢ 0 → result_from r held ≡ r
unfolding result_from
refuses r held z = rw (ne_eqb r 0 z)

none_refuses : (held : Bool) → is_taken (result_from 0 held) ≡ true
unfolding is_taken result_from
none_refuses true = refl
none_refuses false = refl

pub held_is : result_from 0 true ≡ 100
unfolding result_from
held_is = refl

pub not_held : result_from 0 false ≡ 0
unfolding result_from
not_held = refl

-- a step that holds no message answers what refuses it
pub result_plain : (r : ℕ) → result_from r false ≡ r
unfolding result_from
result_plain r = go (eqb r 0) refl
  where
    go : (b : Bool) → eqb r 0 ≡ b → cond b 0 r ≡ r
    go true e = sym (eqb-true r 0 e)
    go false e = refl

-- taken exactly if nothing refuses it
pub taken_is : (r : ℕ) (held : Bool) → r < 100 → is_taken (result_from r held) ≡ eqb r 0
taken_is r held h = go (eqb r 0) refl
  where
    go : (b : Bool) → eqb r 0 ≡ b → is_taken (result_from r held) ≡ b
    go true e = ap (λ n. is_taken (result_from n held)) (eqb-true r 0 e) ∙ none_refuses held
    go false e = let z : r ≢ 0 = (λ q. clash (eqb_of q) e) in ap is_taken (refuses r held z) ∙ not_zero_refused r h z

-- a number that refuses is the result exactly if it is the refusal
pub refused_is : (r : ℕ) (held : Bool) (n : ℕ) → is_taken n ≡ false → (result_from r held ≡ n) ↔ (r ≡ n)
refused_is r held n h = (go (eqb r 0) refl, λ e. ap (λ m. result_from m held) e ∙ refuses n held (refused_not_zero n h))
  where
    go : (b : Bool) → eqb r 0 ≡ b → result_from r held ≡ n → r ≡ n
    go true e q = absurd (clash (sym (ap is_taken (ap (λ m. result_from m held) (sym (eqb-true r 0 e)) ∙ q)) ∙ none_refuses held) h)
    go false e q = sym (refuses r held (λ z. clash (eqb_of z) e)) ∙ q

-- 100 exactly if nothing refuses it and its message is held
pub held_exact : (r : ℕ) (held : Bool) → r < 100 → (result_from r held ≡ 100) ↔ ((r ≡ 0) × (held ≡ true))
held_exact r held h = (go (eqb r 0) refl held, λ e. ap (λ n. result_from n held) e.0 ∙ ap (result_from 0) e.1 ∙ held_is)
  where
    go : (b : Bool) → eqb r 0 ≡ b → (c : Bool) → result_from r c ≡ 100 → (r ≡ 0) × (c ≡ true)
    go true e true q = (eqb-true r 0 e, refl)
    go true e false q = let z : ◌≡◌ {A = ℕ} r 100 = sym (result_plain r) ∙ q in absurd (omega arith)
    go false e c q = let z : ◌≡◌ {A = ℕ} r 100 = sym (refuses r c (λ x. clash (eqb_of x) e)) ∙ q in absurd (omega arith)

-- 0 exactly if nothing refuses it and its message is not held
pub zero_exact : (r : ℕ) (held : Bool) → (result_from r held ≡ 0) ↔ ((r ≡ 0) × (held ≡ false))
zero_exact r held = (go (eqb r 0) refl held, λ e. ap (λ n. result_from n held) e.0 ∙ ap (result_from 0) e.1 ∙ not_held)
  where
    go : (b : Bool) → eqb r 0 ≡ b → (c : Bool) → result_from r c ≡ 0 → (r ≡ 0) × (c ≡ false)
    go true e true q = let z : ◌≡◌ {A = ℕ} 100 0 = sym held_is ∙ ap (λ n. result_from n true) (sym (eqb-true r 0 e)) ∙ q in absurd (omega arith)
    go true e false q = (eqb-true r 0 e, refl)
    go false e c q = let z : r ≢ 0 = (λ x. clash (eqb_of x) e) in absurd (z (sym (refuses r c z) ∙ q))

pub results_meaning : ResultsMeaning
results_meaning = record {
  taken_if = λ n. (taken_only n, taken_those n);
  none_refuses = none_refuses;
  held_is = held_is;
  not_held = not_held;
  refuses = refuses;
}
