-- The channel's part of the named runs K9 and K10 (RULES 13), computed: what is held, and when it is released.
use Rattle.std.specs.Prelude.{◌≡◌, refl, Bool, true, false, ◌||◌, List, [], ◌∷◌, ◌++◌, ℕ, eqb, ltb}
use Rattle.lists.specs.Every.{each}
use Rattle.lists.specs.Keys.{enc}
use Rattle.automaton.specs.Mail.{Mail}
use Rattle.automaton.specs.State.{ChannelState, ChannelAction, dispatch, take_broadcast, take_single, deliver}
use Rattle.automaton.specs.Refusals.{channel_refusal}
use Rattle.automaton.specs.TotalOrder.{rank}
use Rattle.automaton.specs.Calls.{Setup, calls, network, history}

pub data Note : Type 0 where
  update : Note  -- of register 0, on all three cards, by task 2
  setting : Note  -- of register 1, on card 1, by task 0
  reading : Note  -- of register 1, asked of card 1 by task 0
  reply : Note  -- to task 0, on card 0
  partial : Note  -- an update for cards 1 and 2 alone, by task 1
  second : Note  -- another setting of register 1, on card 1, by task 2

abbrev task_of : Note → ℕ
task_of update = 2
task_of setting = 0
task_of reading = 0
task_of reply = 0
task_of partial = 1
task_of second = 2

abbrev several : Note → Bool
several update = true
several setting = false
several reading = false
several reply = false
several partial = true
several second = false

abbrev goal : Note → ℕ
goal update = 0
goal setting = 1
goal reading = 1
goal reply = 0
goal partial = 1
goal second = 1

abbrev goes : Note → ℕ → Bool
goes update i = ltb i 3
goes setting i = eqb i 1
goes reading i = eqb i 1
goes reply i = eqb i 0
goes partial i = eqb i 1 || eqb i 2
goes second i = eqb i 1

abbrev pub notes : Mail Note
notes = record { task = task_of; to = goes; multi = several; dest = goal }

abbrev setup : Setup Note
setup = record { mail = notes; cards = 3; in_range = λ x. true; blank = record { from = 0; body = update } }

-- the calls in their order, put before those made already
abbrev newest : List (ChannelAction Note) → List (ChannelAction Note) → List (ChannelAction Note)
newest [] l = l
newest (x ∷ xs) l = newest xs (x ∷ l)

abbrev pub after : List (ChannelAction Note) → ChannelState Note
after xs = calls setup (newest xs [])

-- K9 (RULES 3.5): card 2 sends the update; card 0 takes and receives it, then sends the setting of register 1; step 8 brings that to card 1
abbrev k9 : List (ChannelAction Note)
k9 = dispatch 2 update ∷ take_broadcast 0 ∷ deliver 0 ∷ dispatch 0 setting ∷ take_single 0 ∷ []

-- it is tagged 1, and held at card 1
pub k9_held : (after k9).held 1 ≡ record { msg = setting; mark = 1 } ∷ []
unfolding channel_refusal each
k9_held = refl

-- step 9 there gives 33
pub k9_empty : channel_refusal notes 3 (after k9) (deliver 1) ≡ 33
unfolding channel_refusal each
k9_empty = refl

-- when card 1 has taken broadcast 1, the update stands first in its inbox, then the setting
pub k9_released : (after (k9 ++ (take_broadcast 1 ∷ []))).inbox 1 ≡ update ∷ setting ∷ []
unfolding channel_refusal each
k9_released = refl

pub k9_none_held : (after (k9 ++ (take_broadcast 1 ∷ []))).held 1 ≡ []
unfolding channel_refusal each
k9_none_held = refl

-- K10: card 1 receives broadcast 1, then replies to a read of task 0; the reply is held at card 0 until card 0 takes broadcast 1
abbrev k10 : List (ChannelAction Note)
k10 =
    dispatch 2 update ∷ take_broadcast 1 ∷ deliver 1 ∷ dispatch 0 reading ∷ take_single 0 ∷ deliver 1 ∷ dispatch 1 reply ∷ take_single 0 ∷ []

pub k10_held : (after k10).held 0 ≡ record { msg = reply; mark = 1 } ∷ []
unfolding channel_refusal each
k10_held = refl

pub k10_empty : channel_refusal notes 3 (after k10) (deliver 0) ≡ 33
unfolding channel_refusal each
k10_empty = refl

pub k10_released : (after (k10 ++ (take_broadcast 0 ∷ []))).inbox 0 ≡ update ∷ reply ∷ []
unfolding channel_refusal each
k10_released = refl

-- Two messages of one tag, which reach card 1 against the order in which they were sent: they join in order of arrival (RULES 6.5).
abbrev arrivals : List (ChannelAction Note)
arrivals =
    dispatch 2 update ∷ take_broadcast 0 ∷ take_broadcast 2 ∷ dispatch 0 setting ∷ dispatch 2 second ∷ take_single 2 ∷ take_single 0 ∷ []

pub arrivals_held : (after arrivals).held 1 ≡ record { msg = second; mark = 1 } ∷ record { msg = setting; mark = 1 } ∷ []
unfolding channel_refusal each
arrivals_held = refl

pub arrivals_released : (after (arrivals ++ (take_broadcast 1 ∷ []))).inbox 1 ≡ update ∷ second ∷ setting ∷ []
unfolding channel_refusal each
arrivals_released = refl

-- A card that is no destination counts a broadcast too (RULES 6.2): card 0 drops it, and what it sends then waits for it at card 1.
abbrev counted : List (ChannelAction Note)
counted = dispatch 1 partial ∷ take_broadcast 0 ∷ dispatch 0 setting ∷ take_single 0 ∷ []

pub counted_taken : (after counted).taken 0 ≡ 1
unfolding channel_refusal each
counted_taken = refl

pub counted_dropped : (after counted).inbox 0 ≡ []
unfolding channel_refusal each
counted_dropped = refl

pub counted_held : (after counted).held 1 ≡ record { msg = setting; mark = 1 } ∷ []
unfolding channel_refusal each
counted_held = refl

pub counted_released : (after (counted ++ (take_broadcast 1 ∷ []))).inbox 1 ≡ partial ∷ setting ∷ []
unfolding channel_refusal each
counted_released = refl

-- The order T of K9, when all is received at card 1: the update (number 0) before the setting (number 1), which is of its epoch.
abbrev k9_all : List (ChannelAction Note)
k9_all = newest (k9 ++ (take_broadcast 1 ∷ deliver 1 ∷ deliver 1 ∷ [])) []

abbrev k9_rank : ℕ → ℕ
k9_rank = rank (network setup k9_all) (history setup k9_all)

-- eight steps, so an epoch counts 10: 1 * 10 + 0
pub k9_first : k9_rank 0 ≡ 10
unfolding channel_refusal each enc
k9_first = refl

-- 1 * 10 + 8: received in the eighth step
pub k9_second : k9_rank 1 ≡ 18
unfolding channel_refusal each enc
k9_second = refl
