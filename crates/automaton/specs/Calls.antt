-- Any list of calls of the channel (RULES 5.6 to 5.9), refused ones included, and what is promised of it (000 §4). The calls' messages may
-- repeat; a message's identity is the number of the dispatch that was done with it.
use Rattle.std.specs.Prelude.{◌≡◌, Bool, true, cond, ◌&&◌, List, [], ◌∷◌, ◌++◌, ℕ, ◌<◌, eqb, length, get_or}
use Rattle.std.proofs.Common.{eqb-true}
use Rattle.lists.specs.Tests.{eqb_refl}
use Rattle.lists.specs.Histories.{Any, At, Suf, In}
use Rattle.multicast.specs.Promise.{IsMcast, Promise}
use Rattle.automaton.specs.Mail.{Mail}
use Rattle.automaton.specs.State.{Tagged, ChannelState, initial_channel, ChannelAction, dispatch, take_broadcast, take_single, deliver, channel_step}
use Rattle.automaton.specs.Refusals.{channel_refusal}
use Rattle.automaton.specs.Network.{Network}
use Rattle.automaton.specs.Automaton.{Step, mcast, receive, external}
use Rattle.automaton.specs.TotalOrder.{rank}
use Rattle.automaton.specs.Trace.{steps}
use Rattle.automaton.specs.Renaming.{channel_map}

-- a message that was dispatched, and by which card
pub record Posted (M : Type 0) : Type 0 where
  pub from : ℕ
  pub body : M

-- one more at the end, if the call is a dispatch
abbrev pub posting : {M : Type 0} → ChannelAction M → List (Posted M) → List (Posted M)
posting (dispatch i m) l = l ++ (record { from = i; body = m } ∷ [])
posting (take_broadcast i) l = l
posting (take_single c) l = l
posting (deliver i) l = l

-- a dispatch of message number n, if the call is one
abbrev pub numbering : {M : Type 0} → ℕ → ChannelAction M → ChannelAction ℕ
numbering n (dispatch i m) = dispatch i n
numbering n (take_broadcast i) = take_broadcast i
numbering n (take_single c) = take_single c
numbering n (deliver i) = deliver i

-- what the calls are made over
pub record Setup (M : Type 0) : Type 0 where
  pub mail : Mail M
  pub cards : ℕ
  pub in_range : ChannelAction M → Bool  -- what a call names (card, task, message) is in range
  pub blank : Posted M  -- what a number names that was never given

module _ {M : Type 0} (C : Setup M) where
  -- where the channel brings a message: a broadcast to its destinations, another message to its one destination
  abbrev pub goes : M → ℕ → Bool
  goes m i = cond (C.mail.multi m) (C.mail.to m i) (eqb i (C.mail.dest m))

  -- a call is done if what it names is in range and nothing refuses it
  abbrev pub done : ChannelState M → ChannelAction M → Bool
  done w x = C.in_range x && eqb (channel_refusal C.mail C.cards w x) 0

  -- the state after a list of calls, newest first; a refused one changes nothing (RULES 5.12)
  abbrev pub calls : List (ChannelAction M) → ChannelState M
  calls [] = initial_channel
  calls (x ∷ xs) = cond (done (calls xs) x) (channel_step C.mail (calls xs) x) (calls xs)

  -- the messages dispatched; number k stands at place k
  abbrev pub posted : List (ChannelAction M) → List (Posted M)
  posted [] = []
  posted (x ∷ xs) = cond (done (calls xs) x) (posting x (posted xs)) (posted xs)

  module _ (P : List (Posted M)) where
    -- what number k is
    abbrev pub letter : ℕ → M
    letter k = (get_or P k C.blank).body

    abbrev pub numbered_mail : Mail ℕ
    numbered_mail = record {
      task = λ k. C.mail.task (letter k);
      to = λ k. goes (letter k);
      multi = λ k. C.mail.multi (letter k);
      dest = λ k. C.mail.dest (letter k);
    }

    abbrev pub numbers : Network ℕ
    numbers = record {
      mail = numbered_mail;
      from = λ k. (get_or P k C.blank).from;
      single = λ k u i. rw u;
      eqm = eqb;
      eqm_eq = eqb-true;
      eqm_refl = eqb_refl;
    }

    -- the same calls with numbers for messages
    abbrev pub numbered : List (ChannelAction M) → ChannelState ℕ
    numbered [] = initial_channel
    numbered (x ∷ xs) = cond (done (calls xs) x) (channel_step numbered_mail (numbered xs) (numbering (length (posted xs)) x)) (numbered xs)

    -- and the steps that they are, newest first: its multicasts and receives are what the promise speaks of
    abbrev pub trace : List (ChannelAction M) → List (Step ℕ)
    trace [] = []
    trace (x ∷ xs) = cond (done (calls xs) x) (steps numbered_mail (numbered xs) (numbering (length (posted xs)) x) (trace xs)) (trace xs)

  -- of a whole list of calls: its messages by their numbers, and its history
  abbrev pub network : List (ChannelAction M) → Network ℕ
  network xs = numbers (posted xs)

  abbrev pub history : List (ChannelAction M) → List (Step ℕ)
  history xs = trace (posted xs) xs

  -- What the events are: a dispatch that is done multicasts its message, from its card, under the next number; a receive that is done hands
  -- up the head of the card's inbox, which is the message that its number names.
  pub record CallsEvents (xs : List (ChannelAction M)) : Type 0 where
    pub multicasts : (ys : List (ChannelAction M)) (i : ℕ) (m : M) → Suf (dispatch i m ∷ ys) xs → done (calls ys) (dispatch i m) ≡ true
        → (trace (posted xs) (dispatch i m ∷ ys) ≡ mcast (length (posted ys)) ∷ trace (posted xs) ys)
        × (get_or (posted xs) (length (posted ys)) C.blank ≡ record { from = i; body = m })
    pub receives : (ys : List (ChannelAction M)) (i : ℕ) → Suf (deliver i ∷ ys) xs → done (calls ys) (deliver i) ≡ true
        → (k : ℕ) × (r : List M) × ((calls ys).inbox i ≡ letter (posted xs) k ∷ r) × (trace (posted xs) (deliver i ∷ ys) ≡ receive k i ∷ trace (posted xs) ys)

  -- What is promised of a list of calls. `promise`: with 000 §6.2's order T as rank, the multicasts and receives keep the promise.
  -- `number_once`: a number is multicast once. `shows`: at every moment the state is that of the numbers, with messages for numbers.
  -- `prompt`: what is held has a tag above the number of broadcasts taken there, so nothing is held longer than its tag asks.
  pub record CallsPromise (xs : List (ChannelAction M)) : Type 0 where
    pub promise : Promise (external (network xs)) (rank (network xs) (history xs)) (history xs)
    pub number_once : (k : ℕ) (B : List (Step ℕ)) → At (λ e. IsMcast k (external (network xs) e)) B (history xs)
        → ¬ Any (λ e. IsMcast k (external (network xs) e)) B
    pub shows : (ys : List (ChannelAction M)) → Suf ys xs → calls ys ≡ channel_map (letter (posted xs)) (numbered (posted xs) ys)
    pub prompt : (i : ℕ) (x : Tagged M) → In x ((calls xs).held i) → (calls xs).taken i < x.mark
