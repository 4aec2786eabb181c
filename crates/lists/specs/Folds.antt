-- What std's loops over the numbers 0 .. n - 1 give, by a closure that no call changes: `fold`, where it keeps a fact from number to number,
-- and `all`, where it tests each.
use Rattle.std.specs.Prelude.{ℕ, ◌+◌, ◌≤◌, ◌<◌, ◌≡◌, refl, Bool, true, false, cond, ◌&&◌, List, [], ◌∷◌, Option, None, Some, MatchOption}
use Rattle.std.specs.Fn.{Called, Takes}
use Rattle.std.specs.List.{FoldsTo}
use Rattle.std.specs.Iterator.{Yields, CallableInFold, FoldsItems, FoldTurn, ChecksAll}
use Rattle.std.specs.declared.ops.Range.{Range}
use Rattle.std.proofs.iter.Yields.{nat_range_steps}
use Rattle.std.proofs.Common.{sym, ap, ◌∙◌, subst, arith}
use denote.Param.Members.{Mut}
use Rattle.lists.specs.Every.{each, each_zero, each_next, each_more, each_fails}
use Rattle.lists.specs.Loops.{total, total_zero, total_more}

-- the range 0 .. n
abbrev pub below : ℕ → Range ℕ
below n = record { start = 0; end = n }

-- steps of R, one for each number below n from the start of s on, where each keeps J
module _ {P : Type 0} (R : P → ℕ → P → Type 0) (J : ℕ → P → Type 0) (n : ℕ) (step : (k : ℕ) (p q : P) → k < n → J k p → R p k q → J (k + 1) q) where
  along : (xs : List ℕ) (s t : Range ℕ) (p q : P) → s.end ≡ n → s.start ≤ n → J s.start p → Yields nat_range_steps s xs t → FoldsTo R p xs q
      → (t.end ≡ n) × (t.start ≤ n) × J t.start q
  along [] s t p q e l j y c =
      subst (λ (u : Range ℕ). (u.end ≡ n) × (u.start ≤ n) × J u.start q) y (e, l, subst (J s.start) c j)
  along (x ∷ xs) s t p q e l j y c =
      let now : R p s.start c.0 = subst (λ k. R p k c.0) y.1.1.1 c.1 in
      let next : J y.0.start c.0 = subst (λ k. J k c.0) (sym y.1.1.2) (step s.start p c.0 (omega (arith, y.1.1.0, e)) j now) in
      along xs y.0 t c.0 q (y.1.0 ∙ e) (omega (arith, y.1.1.0, y.1.1.2, e)) next y.2 c.2

module _ {F C : Type 0} (g : Mut F (C × (ℕ × Unit {0})) C) (J : ℕ → C → Type 0) (f : F) (n : ℕ)
    (step : (k : ℕ) (a b : C) (f' : F) → k < n → J k a → Called g f (a, (k, tt)) b f' → J (k + 1) b × (f' ≡ f)) where
  abbrev Kept : ℕ → F × C → Type 0
  Kept k p = (p.0 ≡ f) × J k p.1

  keeps : (k : ℕ) (p q : F × C) → k < n → Kept k p → FoldTurn g p k q → Kept (k + 1) q
  keeps k p q l j c =
      let s = step k p.1 q.1 q.0 l j.1 (subst (λ (h : F). Called g h (p.1, (k, tt)) q.1 q.0) j.0 c) in
      (s.1, s.0)

  -- what each call keeps, the fold gives
  pub fold_keeps : (a r : C) → J 0 a → FoldsItems nat_range_steps g (below n) f a r → J n r
  fold_keeps a r j ran =
      let w = along {P = F × C} (FoldTurn g) Kept n keeps ran.0 (below n) ran.2.1.0 (f, a) (ran.1, r) refl (omega arith) (refl, j) ran.2.1.1 ran.3 in
      subst (λ k. J k r) {x = ran.2.1.0.start} {y = n} (omega (arith, w.0, w.1, ran.2.1.2.1.0)) w.2.1

  -- and each call may be made, where what is kept lets it
  pub fold_may_call : (a : C) → J 0 a → ((k : ℕ) (b : C) → k < n → J k b → Takes g f (b, (k, tt))) → CallableInFold nat_range_steps g (below n) f a
  fold_may_call a j may = record {
    at = λ xs t q x u y c e.
        let w = along {P = F × C} (FoldTurn g) Kept n keeps xs (below n) t (f, a) q refl (omega arith) (refl, j) y c in
        subst (λ (h : F). Takes g h (q.1, (x, tt))) (sym w.2.0) (may x q.1 (omega (arith, e.1.0, e.1.1, w.0)) (subst (λ k. J k q.1) (sym e.1.1) w.2.1));
  }

-- a fold by `&` of a test of each number
pub fold_each : {F : Type 0} {g : Mut F (Bool × (ℕ × Unit {0})) Bool} {f : F} {n : ℕ} {r : Bool} (p : ℕ → Bool)
    → FoldsItems nat_range_steps g (below n) f true r
    → ((k : ℕ) (a b : Bool) (f' : F) → k < n → Called g f (a, (k, tt)) b f' → (b ≡ (a && p k)) × (f' ≡ f))
    → r ≡ each n p
fold_each {F} {g} {f} {n} {r} p ran answers = fold_keeps g (λ k a. a ≡ each k p) f n
    (λ k a b f' l j c. let s = answers k a b f' l c in (s.0 ∙ ap (λ z. z && p k) j ∙ sym (each_next k p), s.1))
    true r (sym (each_zero p)) ran

-- a fold that adds 1 at each number that passes a test
module _ (p : ℕ → Bool) where
  abbrev pub passing : ℕ → ℕ
  passing = total (λ k. cond (p k) 1 0)

  abbrev Counted : ℕ → ℕ → Type 0
  Counted k a = (a ≡ passing k) × (a ≤ k)

  at_most_one : (b : Bool) → cond {A = ℕ} b 1 0 ≤ 1
  at_most_one true = omega arith
  at_most_one false = omega arith

  one_more : (k a b : ℕ) → Counted k a → b ≡ a + cond (p k) 1 0 → Counted (k + 1) b
  one_more k a b j s = let m = at_most_one (p k) in (s ∙ ap (λ z. z + cond (p k) 1 0) j.0 ∙ sym (total_more (λ i. cond (p i) 1 0) k), omega (arith, m, s, j.1))

  module _ {F : Type 0} {g : Mut F (ℕ × (ℕ × Unit {0})) ℕ} {f : F} {n : ℕ} where
    counts : ((k a b : ℕ) (f' : F) → k < n → Called g f (a, (k, tt)) b f' → (b ≡ a + cond (p k) 1 0) × (f' ≡ f))
        → (k a b : ℕ) (f' : F) → k < n → Counted k a → Called g f (a, (k, tt)) b f' → Counted (k + 1) b × (f' ≡ f)
    counts adds k a b f' l j c = let s = adds k a b f' l c in (one_more k a b j s.0, s.1)

    pub fold_counts : {r : ℕ} → FoldsItems nat_range_steps g (below n) f 0 r
        → ((k a b : ℕ) (f' : F) → k < n → Called g f (a, (k, tt)) b f' → (b ≡ a + cond (p k) 1 0) × (f' ≡ f))
        → (r ≡ passing n) × (r ≤ n)
    fold_counts {r} ran adds = fold_keeps g Counted f n (counts adds) 0 r (sym (total_zero (λ i. cond (p i) 1 0)), omega arith) ran

-- each call of a fold that adds at most 1 each time may be made, where a sum of at most the number lets it
pub may_count : {F : Type 0} {g : Mut F (ℕ × (ℕ × Unit {0})) ℕ} {f : F} {n : ℕ}
    → ((k a b : ℕ) (f' : F) → k < n → Called g f (a, (k, tt)) b f' → (b ≤ a + 1) × (f' ≡ f))
    → ((k a : ℕ) → k < n → a ≤ k → Takes g f (a, (k, tt)))
    → CallableInFold nat_range_steps g (below n) f 0
may_count {F} {g} {f} {n} adds may = fold_may_call g (λ k a. a ≤ k) f n (λ k a b f' l j c. let s = adds k a b f' l c in (omega (arith, j, s.0), s.1)) 0 (omega arith) may

-- `all` of a test of each number
pub all_each : {F : Type 0} {g : Mut F (ℕ × Unit {0}) Bool} {f : F} {n : ℕ} {r : Bool} {u : Range ℕ} (p : ℕ → Bool)
    → ChecksAll nat_range_steps g (below n) f r u
    → ((k : ℕ) (b : Bool) (f' : F) → k < n → Called g f (k, tt) b f' → (b ≡ p k) × (f' ≡ f))
    → r ≡ each n p
all_each {F} {g} {f} {n} {r} {u} p ran answers = go ran.1 ran.3.2 ran.5
  where
    here : (k : ℕ) (b : Bool) (h q : F) → k < n → h ≡ f → Called g h (k, tt) b q → (b ≡ p k) × (q ≡ f)
    here k b h q l e c = answers k b q l (subst (λ (i : F). Called g i (k, tt) b q) e c)

    passed : (k : ℕ) (h q : F) → k < n → (h ≡ f) × (each k p ≡ true) → Called g h (k, tt) true q → (q ≡ f) × (each (k + 1) p ≡ true)
    passed k h q l j c = let s = here k true h q l j.0 c in (s.1, each_more k p j.1 (sym s.0))

    w : (ran.3.0.end ≡ n) × (ran.3.0.start ≤ n) × ((ran.2 ≡ f) × (each ran.3.0.start p ≡ true))
    w = along (λ h x q. Called g h (x, tt) true q) (λ k h. (h ≡ f) × (each k p ≡ true)) n passed ran.0 (below n) ran.3.0 f ran.2 refl (omega arith) (refl, each_zero p) ran.3.1 ran.4

    go : (o : Option ℕ) → nat_range_steps ran.3.0 o u → MatchOption o (r ≡ true) (λ x. (r ≡ false) × ((h : F) × Called g ran.2 (x, tt) false h)) → r ≡ each n p
    go None s m = m ∙ sym (subst (λ k. each k p ≡ true) {x = ran.3.0.start} {y = n} (omega (arith, w.0, w.1, s.1.0)) w.2.1)
    go (Some x) s m =
        let l : x < n = omega (arith, w.0, s.1.0, s.1.1) in
        m.0 ∙ sym (each_fails n p x l (sym (here x false ran.2 m.1.0 l w.2.0 m.1.1).0))
