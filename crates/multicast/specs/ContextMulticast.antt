-- A context multicast channel in the words of 000 §4, of a run E and a relation T on its multicasts. Each message of a run is multicast
-- once, so a message stands for its mcast event.
use Rattle.std.specs.Prelude.{◌≡◌, ◌⊎◌, List, ℕ, ◌<◌}
use Rattle.lists.specs.Histories.{Any, At}
use Rattle.multicast.specs.Promise.{Act, IsMcast, McastFrom, McastTo, IsReceive}

module _ {X M : Type 0} (view : X → Act M) (T : M → M → Type 0) (E : List X) where
  -- "If π and π' are mcast events in β, and a receive corresponding to π precedes a receive corresponding to π' at some site i, in β, then
  -- (π, π') ∈ T."
  abbrev pub ReceiveConsistent : Type 0
  ReceiveConsistent = (m n : M) (i : ℕ) (B : List X) → At (λ e. IsReceive n i (view e)) B E → Any (λ e. IsReceive m i (view e)) B → T m n

  -- "If π is any mcast event, π' is an mcast event at site i, and a receive event corresponding to π precedes π' at site i in β, then
  -- (π, π') ∈ T."
  abbrev pub ContextSafe : Type 0
  ContextSafe = (m n : M) (i : ℕ) (B : List X) → At (λ e. McastFrom n i (view e)) B E → Any (λ e. IsReceive m i (view e)) B → T m n

  -- "T is well-founded": it "does not order infinitely many multicasts before any particular multicast"
  abbrev pub WellFounded : Type 0
  WellFounded = (height : M → ℕ) × ((m n : M) → T m n → height m < height n)

  -- "every fair trace β satisfies the basic reliability requirements, and also has a total order T such that β and T are well-founded,
  -- receive consistent and context safe"
  pub record ContextMulticast : Type 0 where
    -- "a cause function mapping each receive event in β to a preceding mcast event": of this message, with this site as a destination
    pub caused : (m : M) (i : ℕ) (B : List X) → At (λ e. IsReceive m i (view e)) B E → Any (λ e. McastTo m i (view e)) B
    -- "there is no duplicate delivery at the same site"
    pub not_twice : (m : M) (i : ℕ) (B : List X) → At (λ e. IsReceive m i (view e)) B E → ¬ Any (λ e. IsReceive m i (view e)) B
    -- "every message is in fact delivered everywhere it should be"
    pub delivered : (m : M) (i : ℕ) → Any (λ e. McastTo m i (view e)) E → Any (λ e. IsReceive m i (view e)) E
    -- "a particular total order T of mcast events in β"
    pub irreflexive : (m : M) → ¬ T m m
    pub transitive : (m n k : M) → T m n → T n k → T m k
    pub total : (m n : M) → Any (λ e. IsMcast m (view e)) E → Any (λ e. IsMcast n (view e)) E → (m ≡ n) ⊎ (T m n ⊎ T n m)
    pub well_founded : WellFounded
    pub receive_consistent : ReceiveConsistent
    pub context_safe : ContextSafe
