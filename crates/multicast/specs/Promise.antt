-- What a context multicast channel promises of a run (000 §4, in a form that fits unfinished runs; RULES 6.6).
-- A run is a history of events, newest first. `view` says what the channel sees of an event.
use Rattle.std.specs.Prelude.{◌≡◌, Bool, true, List, ℕ, ◌<◌}
use Rattle.lists.specs.Histories.{Any, At}

pub data Act (M : Type 0) : Type 0 where
  mcast : M → ℕ → (ℕ → Bool) → Act M  -- message, sending card, destinations
  receive : M → ℕ → Act M  -- message, receiving card
  other : Act M

module _ {M : Type 0} where
  -- m is multicast
  abbrev pub IsMcast : M → Act M → Type 0
  IsMcast m (mcast n i J) = n ≡ m
  IsMcast m (receive n i) = ⊥
  IsMcast m other = ⊥

  -- m is multicast by card i
  abbrev pub McastFrom : M → ℕ → Act M → Type 0
  McastFrom m i (mcast n j J) = (n ≡ m) × (j ≡ i)
  McastFrom m i (receive n j) = ⊥
  McastFrom m i other = ⊥

  -- m is multicast to card i, and perhaps to others
  abbrev pub McastTo : M → ℕ → Act M → Type 0
  McastTo m i (mcast n j J) = (n ≡ m) × (J i ≡ true)
  McastTo m i (receive n j) = ⊥
  McastTo m i other = ⊥

  -- m is received at card i
  abbrev pub IsReceive : M → ℕ → Act M → Type 0
  IsReceive m i (mcast n j J) = ⊥
  IsReceive m i (receive n j) = (n ≡ m) × (j ≡ i)
  IsReceive m i other = ⊥

module _ {X M : Type 0} (view : X → Act M) (rank : M → ℕ) where
  pub record Promise (E : List X) : Type 0 where
    -- no two multicast messages have one rank
    pub distinct : (m n : M) → Any (λ e. IsMcast m (view e)) E → Any (λ e. IsMcast n (view e)) E → rank m ≡ rank n → m ≡ n
    -- integrity: what is received was sent there before, and is received once
    pub sent : (m : M) (i : ℕ) (B : List X) → At (λ e. IsReceive m i (view e)) B E → Any (λ e. McastTo m i (view e)) B
    pub once : (m : M) (i : ℕ) (B : List X) → At (λ e. IsReceive m i (view e)) B E → ¬ Any (λ e. IsReceive m i (view e)) B
    -- receive consistency: before m a card has received each lower message that is ever sent to it
    pub receive_consistent : (m n : M) (i : ℕ) (B : List X) → At (λ e. IsReceive m i (view e)) B E → Any (λ e. McastTo n i (view e)) E → rank n < rank m
        → Any (λ e. IsReceive n i (view e)) B
    -- context safety: a card sends m above all that it has received
    pub context_safe : (m n : M) (i : ℕ) (B : List X) → At (λ e. McastFrom m i (view e)) B E → Any (λ e. IsReceive n i (view e)) B → rank n < rank m
