-- The channel as one automaton, the daemons of 000 Figure 7 with BC and PP: what a run of it is. A message with one destination joins
-- the inbox there as soon as the tag allows, in step 7 or step 8; whether it was in flight (PP) or held (ppwait) until then makes no
-- difference to what is promised, so here it is just not yet joined.
use Rattle.std.specs.Prelude.{◌≡◌, true, false, cond, ◌&&◌, List, [], ◌∷◌, ℕ, zero, suc, ◌≤◌, eqb}
use Rattle.lists.specs.Histories.{Any}
use Rattle.lists.specs.Queues.{push, pop}
use Rattle.multicast.specs.Promise.{Act, other}
use Rattle.automaton.specs.Network.{Network}

pub data Step (M : Type 0) : Type 0 where
  mcast : M → Step M  -- step 6: a message is multicast
  take : ℕ → M → Step M  -- step 7 (receive from BC): card, the broadcast that it takes
  join : M → Step M  -- a message with one destination joins the inbox there
  receive : M → ℕ → Step M  -- step 9 (receive): the head of a card's inbox, card
  rest : Step M  -- nothing of the channel's

module _ {M : Type 0} where
  -- m is multicast
  abbrev pub Mcasts : M → Step M → Type 0
  Mcasts m (mcast n) = n ≡ m
  Mcasts m (take i n) = ⊥
  Mcasts m (join n) = ⊥
  Mcasts m (receive n i) = ⊥
  Mcasts m rest = ⊥

  -- card i takes broadcast m
  abbrev pub Takes : ℕ → M → Step M → Type 0
  Takes i m (mcast n) = ⊥
  Takes i m (take j n) = (n ≡ m) × (j ≡ i)
  Takes i m (join n) = ⊥
  Takes i m (receive n j) = ⊥
  Takes i m rest = ⊥

  -- m, which has one destination, joins the inbox there
  abbrev pub Joins : M → Step M → Type 0
  Joins m (mcast n) = ⊥
  Joins m (take i n) = ⊥
  Joins m (join n) = n ≡ m
  Joins m (receive n i) = ⊥
  Joins m rest = ⊥

  -- m is received at card i
  abbrev pub Receives : M → ℕ → Step M → Type 0
  Receives m i (mcast n) = ⊥
  Receives m i (take j n) = ⊥
  Receives m i (join n) = ⊥
  Receives m i (receive n j) = (n ≡ m) × (j ≡ i)
  Receives m i rest = ⊥

pub record Chan (M : Type 0) : Type 0 where
  pub made : ℕ  -- broadcasts made
  pub mark : M → ℕ  -- a broadcast's number; the tag of another message
  pub taken : ℕ → ℕ  -- by card: broadcasts taken (seqno)
  pub inbox : ℕ → List M  -- by card, oldest first (msgs)

module _ {M : Type 0} (N : Network M) where
  abbrev pub empty : Chan M
  empty = record { made = zero; mark = λ m. zero; taken = λ i. zero; inbox = λ i. [] }

  -- what a step does
  abbrev pub after : Chan M → Step M → Chan M
  after s (mcast m) = record {
    made = cond (N.mail.multi m) (suc s.made) s.made;
    mark = λ n. cond (N.eqm m n) (cond (N.mail.multi m) (suc s.made) (s.taken (N.from m))) (s.mark n);
    taken = s.taken;
    inbox = s.inbox;
  }
  after s (take i m) = record {
    made = s.made;
    mark = s.mark;
    taken = λ j. cond (eqb j i) (suc (s.taken j)) (s.taken j);
    inbox = λ j. push (eqb j i && N.mail.to m i) m (s.inbox j);
  }
  after s (join m) = record {
    made = s.made;
    mark = s.mark;
    taken = s.taken;
    inbox = λ j. push (eqb j (N.mail.dest m)) m (s.inbox j);
  }
  after s (receive m i) = record { made = s.made; mark = s.mark; taken = s.taken; inbox = λ j. pop (eqb j i) (s.inbox j) }
  after s rest = s

  -- the state after a history, newest step first
  abbrev pub chan : List (Step M) → Chan M
  chan [] = empty
  chan (e ∷ E) = after (chan E) e

  -- When a step may be taken. A card takes the broadcasts in the order of their numbers; a message joins, once, when its destination has
  -- taken as many broadcasts as its tag says. That a message is multicast once is the caller's part.
  abbrev pub ChannelPrecondition : List (Step M) → Step M → Type 0
  ChannelPrecondition E (mcast m) = ¬ Any (Mcasts m) E
  ChannelPrecondition E (take i m) = (N.mail.multi m ≡ true) × Any (Mcasts m) E × ((chan E).mark m ≡ suc ((chan E).taken i))
  ChannelPrecondition E (join m) =
      (N.mail.multi m ≡ false) × Any (Mcasts m) E × (¬ Any (Joins m) E) × ((chan E).mark m ≤ (chan E).taken (N.mail.dest m))
  ChannelPrecondition E (receive m i) = (r : List M) × ((chan E).inbox i ≡ m ∷ r)
  ChannelPrecondition E rest = Unit {0}

  abbrev pub ChannelExecution : List (Step M) → Type 0
  ChannelExecution [] = Unit {0}
  ChannelExecution (e ∷ E) = ChannelPrecondition E e × ChannelExecution E

  -- what is seen of a step from above
  abbrev pub external : Step M → Act M
  external (mcast m) = Act.mcast m (N.from m) (N.mail.to m)
  external (take i m) = other
  external (join m) = other
  external (receive m i) = Act.receive m i
  external rest = other
