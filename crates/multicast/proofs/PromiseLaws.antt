-- What follows from the promise alone.
use mathlib.Core.List.{List}
use Prim.Native.Nat.{ℕ}
use Rattle.lists.specs.Histories.{Suf, suf_any, suf_at}
use Rattle.multicast.specs.Promise.{Act, Promise}

module _ {X M : Type 0} (view : X → Act M) (rank : M → ℕ) where
  -- a run's promise holds of every earlier state of the run
  pub promise_suf : {B E : List X} → Suf B E → Promise view rank E → Promise view rank B
  promise_suf s p = record {
    distinct = λ m n x y. p.distinct m n (suf_any s x) (suf_any s y);
    sent = λ m i C x. p.sent m i C (suf_at s x);
    once = λ m i C x. p.once m i C (suf_at s x);
    receive_consistent = λ m n i C x y. p.receive_consistent m n i C (suf_at s x) (suf_any s y);
    context_safe = λ m n i C x. p.context_safe m n i C (suf_at s x);
  }
