-- What the channel keeps while its steps are taken: only messages for one card are in flight or held, no inbox has more than 32 undelivered
-- broadcasts, and no card is too far behind.
use Prim.Native.Nat.{suc, ℕ, ◌+◌, ◌<◌, ◌≤◌}
use borrow.Author.Tests.{eqb-true, leb-false}
use lib.Dec.{eqb, leb, ltb}
use lib.ListN.{length, length-append}
use mathlib.Core.Bool.{Bool, cond, false, false≢true, true, ◌&&◌}
use mathlib.Core.List.{List, [], ◌++◌, ◌∷◌}
use mathlib.Core.Logic.{inl, inr, ◌⊎◌}
use mathlib.Core.Option.{Option, none-ne-some, some-injective, none, some}
use mathlib.Core.Path.{ap, refl, sym, ◌∙◌, ◌≡◌}
use native.Mathlib.Omega.{arith}
use Rattle.automaton.specs.Mail.{Mail}
use Rattle.automaton.specs.Refusals.{broadcast_refusal, dispatch_refusal, flight_refusal, otherwise, take_refusal}
use Rattle.automaton.specs.State.{ChannelState, Tagged, arriving, channel_step, choose, dispatching, initial_channel, kept, landing, leave, released, taking}
use Rattle.lists.specs.Counting.{filter_append, filter_none}
use Rattle.lists.specs.Every.{each, each_at}
use Rattle.lists.specs.Filters.{filter, keep}
use Rattle.lists.specs.Histories.{In, any_nil, here, there}
use Rattle.lists.specs.Queues.{pop, push, push_cases}
use Rattle.automaton.specs.State as C
use Rattle.automaton.specs.MostBehind.{most_behind, keeps_up}
use Rattle.automaton.proofs.KeepsUp.{kept_up}

module _ {M : Type 0} where
  kept_sub : (n : ℕ) (x : Tagged M) (l : List (Tagged M)) → In x (kept n l) → In x l
  kept_sub n x [] h = h
  kept_sub n x (y ∷ l) h = go (eqb y.mark n) h (kept_sub n x l)
    where
      go : (t : Bool) → In x (leave t y (kept n l)) → (In x (kept n l) → In x l) → In x (y ∷ l)
      go true h f = there (f h)
      go false (here p) f = here p
      go false (there h) f = there (f h)

  released_sub : (n : ℕ) (m : M) (l : List (Tagged M)) → In m (released n l) → (x : Tagged M) × In x l × (x.msg ≡ m)
  released_sub n m [] h = absurd (any_nil h)
  released_sub n m (y ∷ l) h = go (eqb y.mark n) h (released_sub n m l)
    where
      go : (t : Bool) → In m (choose t y.msg (released n l)) → (In m (released n l) → (x : Tagged M) × In x l × (x.msg ≡ m)) → (x : Tagged M) × In x (y ∷ l) × (x.msg ≡ m)
      go true (here p) f = (y, here refl, p)
      go true (there h) f = let r = f h in (r.0, there r.1, r.2)
      go false h f = let r = f h in (r.0, there r.1, r.2)

  -- counting those that pass a test
  count_push : (p : M → Bool) (t : Bool) (m : M) (l : List M) → length (filter p (push t m l)) ≤ length (filter p l) + 1
  count_push p true m l = let e = filter_append p l (m ∷ []) in let h = one (p m) in omega arith
    where
      one : (t : Bool) → length (keep t m []) ≤ 1
      one true = omega arith
      one false = omega arith
  count_push p false m l = omega arith

  count_same : (p : M → Bool) (t : Bool) (m : M) (l : List M) → p m ≡ false → length (filter p (push t m l)) ≡ length (filter p l)
  count_same p true m l e = let z = filter_append p l (m ∷ []) in let y = ap (λ t. length (keep t m [])) e in omega arith
  count_same p false m l e = refl

  count_pop : (p : M → Bool) (t : Bool) (l : List M) → length (filter p (pop t l)) ≤ length (filter p l)
  count_pop p false l = omega arith
  count_pop p true [] = omega arith
  count_pop p true (m ∷ l) = go (p m)
    where
      go : (t : Bool) → length (filter p l) ≤ length (keep t m (filter p l))
      go true = omega arith
      go false = omega arith

module _ {M : Type 0} (mail : Mail M) (cards : ℕ) where
  pub record Modest (w : ChannelState M) : Type 0 where
    pub flying : (c : ℕ) (x : Tagged M) → w.flight c ≡ some x → mail.multi x.msg ≡ false
    pub holding : (i : ℕ) (x : Tagged M) → In x (w.held i) → mail.multi x.msg ≡ false
    pub few : (i : ℕ) → length (filter mail.multi (w.inbox i)) ≤ 32
    pub near : (i : ℕ) → i < cards → length w.sent ≤ w.taken i + most_behind

  pub modest_start : Modest initial_channel
  modest_start = record {
    flying = λ c x e. absurd (none-ne-some x e);
    holding = λ i x h. absurd (any_nil h);
    few = λ i. omega arith;
    near = λ i h. omega arith;
  }

  module _ (w : ChannelState M) (a : Modest w) where
    -- step 6
    pub modest_dispatch : (i : ℕ) (m : M) → dispatch_refusal mail cards w m ≡ 0 → Modest (channel_step mail w (C.dispatch i m))
    modest_dispatch i m e = go (mail.multi m) refl e
      where
        behind : ℕ → Bool
        behind j = keeps_up (suc (length w.sent)) (w.taken j)

        all_near : (t u : Bool) → cond t (otherwise 6 u) 34 ≡ 0 → t ≡ true
        all_near true u q = refl
        all_near false u q = absurd (omega arith)

        go : (t : Bool) → mail.multi m ≡ t → cond t (broadcast_refusal mail cards w) (flight_refusal mail cards (w.flight (mail.task m))) ≡ 0 → Modest (dispatching mail t w i m)
        go true u q = record {
          flying = a.flying;
          holding = a.holding;
          few = a.few;
          near = λ j h.
              let l = kept_up (suc (length w.sent)) (w.taken j) (each_at cards behind (all_near (each cards behind) (ltb (length w.sent) 65535) q) j h) in
              let z = length-append w.sent (m ∷ []) in
              omega arith;
        }
        go false u q = record { flying = fly; holding = a.holding; few = a.few; near = a.near }
          where
            fly : (c : ℕ) (x : Tagged M) → cond (eqb c (mail.task m)) (some (record { msg = m; mark = w.taken i })) (w.flight c) ≡ some x → mail.multi x.msg ≡ false
            fly c x p = which (eqb c (mail.task m)) p
              where
                which : (t : Bool) → cond t (some (record { msg = m; mark = w.taken i })) (w.flight c) ≡ some x → mail.multi x.msg ≡ false
                which true p = ap (λ y. mail.multi y.msg) (sym (some-injective (record { msg = m; mark = w.taken i }) x p)) ∙ u
                which false p = a.flying c x p

    -- step 7
    -- the card is not both a destination and crowded
    abbrev pub Free : ℕ → Option M → Type 0
    Free i none = Unit {0}
    Free i (some m) = (mail.to m i && leb 32 (length (filter mail.multi (w.inbox i)))) ≡ false

    pub free_taken : (i : ℕ) (o : Option M) → take_refusal mail cards w i o ≡ 0 → Free i o
    free_taken i none e = tt
    free_taken i (some m) e = go (mail.to m i && leb 32 (length (filter mail.multi (w.inbox i)))) e
      where
        go : (t : Bool) → cond t 35 (otherwise 6 (leb (length (push (mail.to m i) m (w.inbox i) ++ released (suc (w.taken i)) (w.held i))) 48)) ≡ 0 → t ≡ false
        go true q = absurd (omega arith)
        go false q = refl

    pub modest_take : (i : ℕ) (o : Option M) → Free i o → Modest (taking mail w i o)
    modest_take i none e = a
    modest_take i (some m) e = record { flying = a.flying; holding = hold; few = count; near = close }
      where
        n : ℕ
        n = suc (w.taken i)

        hold : (j : ℕ) (x : Tagged M) → In x (cond (eqb j i) (kept n (w.held j)) (w.held j)) → mail.multi x.msg ≡ false
        hold j x h = go (eqb j i) h
          where
            go : (t : Bool) → In x (cond t (kept n (w.held j)) (w.held j)) → mail.multi x.msg ≡ false
            go true h = a.holding j x (kept_sub n x (w.held j) h)
            go false h = a.holding j x h

        close : (j : ℕ) → j < cards → length w.sent ≤ cond (eqb j i) (suc (w.taken j)) (w.taken j) + most_behind
        close j h = go (eqb j i) (a.near j h)
          where
            go : (t : Bool) → length w.sent ≤ w.taken j + most_behind → length w.sent ≤ cond t (suc (w.taken j)) (w.taken j) + most_behind
            go true l = omega arith
            go false l = l

        -- not crowded
        free : (t u : Bool) → (t && u) ≡ false → t ≡ true → u ≡ false
        free true u q h = q
        free false u q h = absurd (false≢true h)

        pushed : (t : Bool) → mail.to m i ≡ t → (j : ℕ) → j ≡ i → length (filter mail.multi (push t m (w.inbox j))) ≤ 32
        pushed true p j z =
            let q = free (mail.to m i) (leb 32 (length (filter mail.multi (w.inbox i)))) e p in
            let l = leb-false 32 (length (filter mail.multi (w.inbox i))) q in
            let k = count_push mail.multi true m (w.inbox j) in
            let y : length (filter mail.multi (w.inbox j)) ≡ length (filter mail.multi (w.inbox i)) = ap (λ c. length (filter mail.multi (w.inbox c))) z in
            omega arith
        pushed false p j z = a.few j

        count : (j : ℕ) → length (filter mail.multi (cond (eqb j i) (push (mail.to m i) m (w.inbox j) ++ released n (w.held j)) (w.inbox j))) ≤ 32
        count j = go (eqb j i) refl
          where
            go : (t : Bool) → eqb j i ≡ t → length (filter mail.multi (cond t (push (mail.to m i) m (w.inbox j) ++ released n (w.held j)) (w.inbox j))) ≤ 32
            go true q =
                let x = filter_append mail.multi (push (mail.to m i) m (w.inbox j)) (released n (w.held j)) in
                let y = filter_none mail.multi (released n (w.held j)) (λ b h. let r = released_sub n b (w.held j) h in ap mail.multi (sym r.2) ∙ a.holding j r.0 r.1) in
                let z = pushed (mail.to m i) refl j (eqb-true _ _ q) in
                omega arith
            go false q = a.few j

    -- step 8
    pub modest_single : (c : ℕ) (o : Option (Tagged M)) → w.flight c ≡ o → Modest (arriving mail w c o)
    modest_single c none e = a
    modest_single c (some x) e = go (leb x.mark (w.taken (mail.dest x.msg)))
      where
        left : (d : ℕ) (y : Tagged M) → cond (eqb d c) none (w.flight d) ≡ some y → mail.multi y.msg ≡ false
        left d y p = which (eqb d c) p
          where
            which : (t : Bool) → cond t none (w.flight d) ≡ some y → mail.multi y.msg ≡ false
            which true p = absurd (none-ne-some y p)
            which false p = a.flying d y p

        go : (t : Bool) → Modest (landing mail t w c x)
        go true = record {
          flying = left;
          holding = a.holding;
          few = λ j. let q = count_same mail.multi (eqb j (mail.dest x.msg)) x.msg (w.inbox j) (a.flying c x e) in let l = a.few j in omega arith;
          near = a.near;
        }
        go false = record { flying = left; holding = hold; few = a.few; near = a.near }
          where
            hold : (j : ℕ) (y : Tagged M) → In y (push (eqb j (mail.dest x.msg)) x (w.held j)) → mail.multi y.msg ≡ false
            hold j y h = which (push_cases (eqb j (mail.dest x.msg)) (w.held j) h)
              where
                which : In y (w.held j) ⊎ ((x ≡ y) × (eqb j (mail.dest x.msg) ≡ true)) → mail.multi y.msg ≡ false
                which (inl z) = a.holding j y z
                which (inr z) = ap (λ k. mail.multi k.msg) (sym z.0) ∙ a.flying c x e

    -- step 9
    pub modest_deliver : (i : ℕ) → Modest (channel_step mail w (C.deliver i))
    modest_deliver i = record {
      flying = a.flying;
      holding = a.holding;
      few = λ j. let q = count_pop mail.multi (eqb j i) (w.inbox j) in let l = a.few j in omega arith;
      near = a.near;
    }
