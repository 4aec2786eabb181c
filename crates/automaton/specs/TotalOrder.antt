-- The order T on the multicasts of a run: as 000 §6.2 defines it, and as a number. The two are the same: (m, n) ∈ T exactly if
-- rank m < rank n, once both have their place (proofs/SameOrder).
use Rattle.std.specs.Prelude.{◌≡◌, ◌⊎◌, Bool, true, false, cond, ◌&&◌, List, ℕ, zero, suc, ◌≤◌, ◌<◌, eqb, length}
use Rattle.lists.specs.Histories.{Any, At}
use Rattle.lists.specs.Latest.{latest, time}
use Rattle.lists.specs.Keys.{enc}
use Rattle.automaton.specs.Network.{Network}
use Rattle.automaton.specs.Automaton.{Step, mcast, take, join, receive, rest, Mcasts, Receives, chan}

-- the rank of a message with one destination, by its epoch, the time of its multicast, and the time of its receive event (0 if there is none)
abbrev pub rank_single : ℕ → ℕ → ℕ → ℕ → ℕ → ℕ
rank_single b big e sent zero = enc b big sent
rank_single b big e sent (suc t) = enc b e (suc t)

module _ {M : Type 0} (N : Network M) where
  -- the step multicasts m
  abbrev pub mcasts? : M → Step M → Bool
  mcasts? m (mcast n) = N.eqm n m
  mcasts? m (take i n) = false
  mcasts? m (join n) = false
  mcasts? m (receive n i) = false
  mcasts? m rest = false

  -- m joins the inbox of its only destination
  abbrev pub joins? : M → Step M → Bool
  joins? m (mcast n) = false
  joins? m (take i n) = false
  joins? m (join n) = N.eqm n m
  joins? m (receive n i) = false
  joins? m rest = false

  -- m is received at its only destination
  abbrev pub receives? : M → Step M → Bool
  receives? m (mcast n) = false
  receives? m (take i n) = false
  receives? m (join n) = false
  receives? m (receive n i) = N.eqm n m && eqb i (N.mail.dest m)
  receives? m rest = false

  -- "If π is a multi-destination mcast, then epoch(π) is the value assigned to the state component seqno when π's receive (from BC) occurs
  -- at any site": the broadcast's number. Of another message, seqno at its destination when it joins the inbox there. That is 000's maximum
  -- of its tag and of seqno there at its arrival (proofs/CallsEpoch): it joins at its arrival if the tag is no larger, and else when seqno
  -- becomes the tag.
  abbrev pub epoch : List (Step M) → M → ℕ
  epoch E m = cond (N.mail.multi m) ((chan N E).mark m) (latest (λ B. (chan N B).taken (N.mail.dest m)) (joins? m) E)

  -- a multi-destination mcast of the run
  abbrev pub Multi : List (Step M) → M → Type 0
  Multi E m = (N.mail.multi m ≡ true) × Any (Mcasts m) E

  -- a single-destination mcast of the run, once it is received: then it has its epoch
  abbrev pub Single : List (Step M) → M → Type 0
  Single E m = (N.mail.multi m ≡ false) × Any (Receives m (N.mail.dest m)) E

  -- "We now define T as the relation on mcast events in α which is the transitive closure of the union of several individual relations."
  pub data T (E : List (Step M)) : M → M → Type 0 where
    -- "The multi-multi order relates any two multi-destination mcast events in α; it orders them according to their epoch's."
    multi_multi : {m n : M} → Multi E m → Multi E n → epoch E m < epoch E n → T E m n
    -- "The multi-single relation orders a multi-destination mcast event π in α before a single-destination mcast event φ in α if
    -- epoch(π) ≤ epoch(φ)."
    multi_single : {m n : M} → Multi E m → Single E n → epoch E m ≤ epoch E n → T E m n
    -- "The single-multi relation orders a single-destination mcast event φ in α before a multi-destination mcast event π in α if
    -- epoch(φ) < epoch(π)."
    single_multi : {m n : M} → Single E m → Multi E n → epoch E m < epoch E n → T E m n
    -- "The single-single order relates any two single-destination mcast events in α that have the same epoch; it orders them in the order
    -- of their receive events as they occur in α."
    single_single : {m n : M} → Single E m → Single E n → epoch E m ≡ epoch E n → (B : List (Step M)) → At (Receives n (N.mail.dest n)) B E
        → Any (Receives m (N.mail.dest m)) B → T E m n
    transitive : {m k n : M} → T E m k → T E k n → T E m n

  -- what T orders
  abbrev pub Placed : List (Step M) → M → Type 0
  Placed E m = Multi E m ⊎ Single E m

  -- "T respects the order determined by epoch numbers, and among events with the same epoch, T places the unique multi-destination mcast
  -- at the beginning"; single-single orders the others "in the order of their receive events". A run may be unfinished: what it has not
  -- received comes last, in the order of the multicasts. (b is above every time, big above every epoch.)
  abbrev pub rank_at : ℕ → ℕ → List (Step M) → M → ℕ
  rank_at b big E m = cond (N.mail.multi m) (enc b (epoch E m) 0) (rank_single b big (epoch E m) (time (mcasts? m) E) (time (receives? m) E))

  module _ (E : List (Step M)) where
    abbrev pub bound : ℕ
    bound = suc (suc (length E))

    abbrev pub limit : ℕ
    limit = suc (chan N E).made

    abbrev pub rank : M → ℕ
    rank = rank_at bound limit E

    -- m ranks below n
    abbrev pub Before : M → M → Type 0
    Before m n = rank m < rank n
