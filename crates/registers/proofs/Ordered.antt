-- The channel's promise in the register layer's own words.
use Prim.Native.Nat.{◌<◌, ℕ}
use mathlib.Core.Bool.{true}
use mathlib.Core.List.{List}
use mathlib.Core.Path.{◌∙◌, ◌≡◌, ap, sym}
use Rattle.multicast.specs.Promise.{IsMcast, IsReceive, McastFrom, McastTo, Promise}
use Rattle.lists.specs.Histories.{Any, At, Suf, any_map, any_split, at_map, suf_any, suf_at}
use Rattle.registers.specs.Events.{Delivers, Dispatches}
use Rattle.registers.specs.Layer.{Values, Event, Msg, World, deliver, dispatch, from, idle, perform, report, request, send, to, view}

module _ {U : Values} (W : World U) where
  -- ---- the promise, in the layer's own words

  module _ (rank : Msg U → ℕ) where
    pub record Ordered (E : List (Event U)) : Type 0 where
      pub distinct : (m n : Msg U) → Any (Dispatches m) E → Any (Dispatches n) E → rank m ≡ rank n → m ≡ n
      pub sent : (m : Msg U) (i : ℕ) (B : List (Event U)) → At (Delivers m i) B E → Any (Dispatches m) B × (to W m i ≡ true)
      pub once : (m : Msg U) (i : ℕ) (B : List (Event U)) → At (Delivers m i) B E → ¬ Any (Delivers m i) B
      pub receive_consistent : (m n : Msg U) (i : ℕ) (B : List (Event U)) → At (Delivers m i) B E → Any (Dispatches n) E → to W n i ≡ true → rank n < rank m → Any (Delivers n i) B
      pub context_safe : (m n : Msg U) (B : List (Event U)) → At (Dispatches m) B E → Any (Delivers n (from W m)) B → rank n < rank m

    gets→ : (m : Msg U) (i : ℕ) (e : Event U) → IsReceive m i (view W e) → Delivers m i e
    gets→ m i (request j) h = h
    gets→ m i (perform j) h = h
    gets→ m i (send j) h = h
    gets→ m i (dispatch n) h = h
    gets→ m i (deliver n j) h = h
    gets→ m i (report j w) h = h
    gets→ m i idle h = h

    →gets : (m : Msg U) (i : ℕ) (e : Event U) → Delivers m i e → IsReceive m i (view W e)
    →gets m i (request j) h = h
    →gets m i (perform j) h = h
    →gets m i (send j) h = h
    →gets m i (dispatch n) h = h
    →gets m i (deliver n j) h = h
    →gets m i (report j w) h = h
    →gets m i idle h = h

    →sends : (m : Msg U) (e : Event U) → Dispatches m e → IsMcast m (view W e)
    →sends m (request j) h = h
    →sends m (perform j) h = h
    →sends m (send j) h = h
    →sends m (dispatch n) h = h
    →sends m (deliver n j) h = h
    →sends m (report j w) h = h
    →sends m idle h = h

    →from : (m : Msg U) (e : Event U) → Dispatches m e → McastFrom m (from W m) (view W e)
    →from m (request j) h = h
    →from m (perform j) h = h
    →from m (send j) h = h
    →from m (dispatch n) h = (h, ap (from W) h)
    →from m (deliver n j) h = h
    →from m (report j w) h = h
    →from m idle h = h

    to→ : (m : Msg U) (i : ℕ) (e : Event U) → McastTo m i (view W e) → Dispatches m e × (to W m i ≡ true)
    to→ m i (request j) h = absurd h
    to→ m i (perform j) h = absurd h
    to→ m i (send j) h = absurd h
    to→ m i (dispatch n) h = (h.0, ap (λ x. to W x i) (sym h.0) ∙ h.1)
    to→ m i (deliver n j) h = absurd h
    to→ m i (report j w) h = absurd h
    to→ m i idle h = absurd h

    →to : (m : Msg U) (i : ℕ) → to W m i ≡ true → (e : Event U) → Dispatches m e → McastTo m i (view W e)
    →to m i t (request j) h = h
    →to m i t (perform j) h = h
    →to m i t (send j) h = h
    →to m i t (dispatch n) h = (h, ap (λ x. to W x i) h ∙ t)
    →to m i t (deliver n j) h = h
    →to m i t (report j w) h = h
    →to m i t idle h = h

    pub ordered : (E : List (Event U)) → Promise (view W) rank E → Ordered E
    ordered E p = record {
      distinct = λ m n x y. p.distinct m n (any_map (→sends m) x) (any_map (→sends n) y);
      sent = λ m i B x. any_split (p.sent m i B (at_map (→gets m i) x)) (to→ m i);
      once = λ m i B x y. p.once m i B (at_map (→gets m i) x) (any_map (→gets m i) y);
      receive_consistent = λ m n i B x y t r. any_map (gets→ n i) (p.receive_consistent m n i B (at_map (→gets m i) x) (any_map (→to n i t) y) r);
      context_safe = λ m n B x y. p.context_safe m n (from W m) B (at_map (→from m) x) (any_map (→gets n (from W m)) y);
    }

    pub ordered_suf : {B E : List (Event U)} → Suf B E → Ordered E → Ordered B
    ordered_suf s p = record {
      distinct = λ m n x y. p.distinct m n (suf_any s x) (suf_any s y);
      sent = λ m i C x. p.sent m i C (suf_at s x);
      once = λ m i C x. p.once m i C (suf_at s x);
      receive_consistent = λ m n i C x y. p.receive_consistent m n i C (suf_at s x) (suf_any s y);
      context_safe = λ m n C x. p.context_safe m n C (suf_at s x);
    }
