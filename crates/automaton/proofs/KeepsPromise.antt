-- The channel of 000 §6 keeps the promise of 000 §4, with T as rank (000 Theorem 6.1).
use mathlib.Core.Path.{◌≡◌, sym, ap, ◌∙◌, subst}
use mathlib.Core.Bool.{true}
use mathlib.Core.List.{List}
use Prim.Native.Nat.{ℕ}
use Rattle.lists.specs.Histories.{Any, any_map, any_split, at_map, at_split}
use Rattle.multicast.specs.Promise.{IsMcast, McastFrom, McastTo, IsReceive, Promise}
use Rattle.automaton.specs.Network.{Network}
use Rattle.automaton.specs.Automaton.{Step, mcast, take, join, receive, rest, Mcasts, Receives, ChannelExecution, external}
use Rattle.automaton.specs.TotalOrder.{rank}
use Rattle.automaton.proofs.Integrity.{was_sent, received_once}
use Rattle.automaton.proofs.ReceiveConsistency.{received_before}
use Rattle.automaton.proofs.ContextSafety.{sent_above}
use Rattle.automaton.proofs.Distinct.{form, one_rank}

module _ {M : Type 0} (N : Network M) where
  pub gets→ : (m : M) (i : ℕ) (e : Step M) → IsReceive m i (external N e) → Receives m i e
  gets→ m i (mcast a) h = h
  gets→ m i (take c a) h = h
  gets→ m i (join a) h = h
  gets→ m i (receive a c) h = h
  gets→ m i rest h = h

  pub →gets : (m : M) (i : ℕ) (e : Step M) → Receives m i e → IsReceive m i (external N e)
  →gets m i (mcast a) h = h
  →gets m i (take c a) h = h
  →gets m i (join a) h = h
  →gets m i (receive a c) h = h
  →gets m i rest h = h

  pub sends→ : (m : M) (e : Step M) → IsMcast m (external N e) → Mcasts m e
  sends→ m (mcast a) h = h
  sends→ m (take c a) h = h
  sends→ m (join a) h = h
  sends→ m (receive a c) h = h
  sends→ m rest h = h

  pub to→ : (m : M) (i : ℕ) (e : Step M) → McastTo m i (external N e) → Mcasts m e × (N.mail.to m i ≡ true)
  to→ m i (mcast a) h = (h.0, ap (λ b. N.mail.to b i) (sym h.0) ∙ h.1)
  to→ m i (take c a) h = absurd h
  to→ m i (join a) h = absurd h
  to→ m i (receive a c) h = absurd h
  to→ m i rest h = absurd h

  pub →to : (m : M) (i : ℕ) → N.mail.to m i ≡ true → (e : Step M) → Mcasts m e → McastTo m i (external N e)
  →to m i t (mcast a) h = (h, ap (λ b. N.mail.to b i) h ∙ t)
  →to m i t (take c a) h = h
  →to m i t (join a) h = h
  →to m i t (receive a c) h = h
  →to m i t rest h = h

  pub from→ : (m : M) (i : ℕ) (e : Step M) → McastFrom m i (external N e) → Mcasts m e × (N.from m ≡ i)
  from→ m i (mcast a) h = (h.0, ap N.from (sym h.0) ∙ h.1)
  from→ m i (take c a) h = absurd h
  from→ m i (join a) h = absurd h
  from→ m i (receive a c) h = absurd h
  from→ m i rest h = absurd h

  module _ (E : List (Step M)) (v : ChannelExecution N E) where
    pub keeps_promise : Promise (external N) (rank N E) E
    keeps_promise = record {
      distinct = λ m n x y e. one_rank N E v (form N E v (any_map (sends→ m) x)) (form N E v (any_map (sends→ n) y)) e;
      sent = λ m i B x. let r = was_sent N E v (at_map (gets→ m i) x) in any_map (→to m i r.1) r.0;
      once = λ m i B x y. received_once N E v (at_map (gets→ m i) x) (any_map (gets→ m i) y);
      receive_consistent = λ m n i B x y h. let r = any_split y (to→ n i) in any_map (→gets n i) (received_before N E v (at_map (gets→ m i) x) r.0 r.1 h);
      context_safe = λ m n i B x y. let r = at_split x (from→ m i) in sent_above N E v r.0
          (subst (λ c. Any (Receives n c) B) (sym r.1) (any_map (gets→ n i) y));
    }
