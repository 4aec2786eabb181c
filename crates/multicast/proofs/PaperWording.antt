-- The promise and 000's own wording. Receive consistency and context safety (000 Lemmas 6.8 and 6.7) hold of every run that keeps the
-- promise. Of a complete run, one that has delivered everything, the promise says what 000 §4 says, no more and no less.
use mathlib.Core.Path.{◌≡◌, sym, ap, ◌∙◌, subst}
use mathlib.Core.Logic.{◌⊎◌, inl, inr}
use mathlib.Core.List.{List}
use Prim.Native.Nat.{ℕ, ◌<◌}
use native.Mathlib.Omega.{arith}
use Rattle.lists.specs.Histories.{Any, At, any_map, suf_any, suf_at, at_suf, at_any, any_at, at_order}
use Rattle.lists.specs.Keys.{Tri, less, alike, more, tri}
use Rattle.multicast.specs.Promise.{Act, mcast, receive, other, IsMcast, McastTo, IsReceive, Promise}
use Rattle.multicast.specs.ContextMulticast.{ReceiveConsistent, ContextSafe, ContextMulticast}

module _ {M : Type 0} where
  to_mcast : (m : M) (i : ℕ) (a : Act M) → McastTo m i a → IsMcast m a
  to_mcast m i (mcast n j J) h = h.0
  to_mcast m i (receive n j) h = h
  to_mcast m i other h = h

  one_receive : (m n : M) (i : ℕ) (a : Act M) → IsReceive m i a → IsReceive n i a → m ≡ n
  one_receive m n i (mcast k j J) p q = absurd p
  one_receive m n i (receive k j) p q = sym p.0 ∙ q.0
  one_receive m n i other p q = absurd p

module _ {X M : Type 0} (view : X → Act M) (rank : M → ℕ) (E : List X) (p : Promise view rank E) where
  -- (m, n) ∈ T
  abbrev T : M → M → Type 0
  T m n = rank m < rank n

  -- what is received was multicast
  multicast : (m : M) (i : ℕ) {B : List X} → At (λ e. IsReceive m i (view e)) B E → Any (λ e. IsMcast m (view e)) E
  multicast m i {B} x = any_map (λ e. to_mcast m i (view e)) (suf_any (at_suf x) (p.sent m i B x))

  -- 000 Lemma 6.8
  pub receives_in_order : ReceiveConsistent view T E
  receives_in_order m n i B x h = go (tri (rank m) (rank n))
    where
      y : (C : List X) × At (λ e. IsReceive m i (view e)) C B
      y = any_at h

      z : At (λ e. IsReceive m i (view e)) y.0 E
      z = suf_at (at_suf x) y.1

      go : Tri (rank m) (rank n) → rank m < rank n
      go (less q) = q
      go (alike q) =
          let e = p.distinct m n (multicast m i z) (multicast n i x) q in
          absurd (p.once n i B x (subst (λ a. Any (λ e. IsReceive a i (view e)) B) e h))
      go (more q) =
          let r = p.receive_consistent m n i y.0 z (suf_any (at_suf x) (p.sent n i B x)) q in
          absurd (p.once n i B x (suf_any (at_suf y.1) r))

  -- 000 Lemma 6.7
  pub sends_above : ContextSafe view T E
  sends_above m n i B x h = p.context_safe n m i B x h

  pub ordered : (m n : M) → Any (λ e. IsMcast m (view e)) E → Any (λ e. IsMcast n (view e)) E → (m ≡ n) ⊎ (T m n ⊎ T n m)
  ordered m n x y = go (tri (rank m) (rank n))
    where
      go : Tri (rank m) (rank n) → (m ≡ n) ⊎ (T m n ⊎ T n m)
      go (less q) = inr (inl q)
      go (alike q) = inl (p.distinct m n x y q)
      go (more q) = inr (inr q)

  -- a complete run that keeps the promise is one of a context multicast channel
  pub complete_run : ((m : M) (i : ℕ) → Any (λ e. McastTo m i (view e)) E → Any (λ e. IsReceive m i (view e)) E) → ContextMulticast view T E
  complete_run d = record {
    caused = p.sent;
    not_twice = p.once;
    delivered = d;
    irreflexive = λ m h. omega arith;
    transitive = λ m n k h l. omega arith;
    total = ordered;
    well_founded = (rank, λ m n h. h);
    receive_consistent = receives_in_order;
    context_safe = sends_above;
  }

-- and the other way: what 000 §4 asks of a complete run is the promise
module _ {X M : Type 0} (view : X → Act M) (T : M → M → Type 0) (E : List X) (c : ContextMulticast view T E) where
  abbrev height : M → ℕ
  height = c.well_founded.0

  lower : {m n : M} → T m n → height m < height n
  lower {m} {n} h = c.well_founded.1 m n h

  pub paper_promise : Promise view c.well_founded.0 E
  paper_promise = record {
    distinct = λ m n x y e. one m n (c.total m n x y) e;
    sent = c.caused;
    once = c.not_twice;
    receive_consistent = λ m n i B x y h. consistent m n i B x (any_at (c.delivered n i y)) h;
    context_safe = λ m n i B x y. lower (c.context_safe n m i B x y);
  }
    where
      one : (m n : M) → (m ≡ n) ⊎ (T m n ⊎ T n m) → height m ≡ height n → m ≡ n
      one m n (inl e) q = e
      one m n (inr (inl t)) q = let k = lower t in absurd (omega arith)
      one m n (inr (inr t)) q = let k = lower t in absurd (omega arith)

      consistent : (m n : M) (i : ℕ) (B : List X) → At (λ e. IsReceive m i (view e)) B E
          → (C : List X) × At (λ e. IsReceive n i (view e)) C E
          → height n < height m → Any (λ e. IsReceive n i (view e)) B
      consistent m n i B x y h = go (at_order x y.1)
        where
          go : ((e : X) × IsReceive m i (view e) × IsReceive n i (view e)) ⊎
              (At (λ e. IsReceive m i (view e)) B y.0 ⊎ At (λ e. IsReceive n i (view e)) y.0 B)
              → Any (λ e. IsReceive n i (view e)) B
          go (inl w) = let k = ap height (one_receive m n i (view w.0) w.1 w.2) in absurd (omega arith)
          go (inr (inl w)) = let k = lower (c.receive_consistent m n i y.0 y.1 (at_any w)) in absurd (omega arith)
          go (inr (inr w)) = at_any w
