-- The channel's part of K11 and K12 (RULES 13), computed: their numbers stand here for themselves, whatever MostBehind says.
use Rattle.std.specs.Prelude.{◌≡◌, refl, List, [], ◌∷◌, ◌++◌, ℕ, zero, suc}
use Rattle.lists.specs.Every.{each}
use Rattle.automaton.specs.State.{ChannelAction, dispatch, take_broadcast, deliver}
use Rattle.automaton.specs.Refusals.{channel_refusal}
use Rattle.automaton.specs.Examples.{Note, update, notes, after}

abbrev times : ℕ → List (ChannelAction Note) → List (ChannelAction Note)
times zero l = []
times (suc n) l = l ++ times n l

-- a broadcast to cards 0, 1 and 2, which all but card 1 take and deliver
abbrev without_1 : List (ChannelAction Note)
without_1 = dispatch 2 update ∷ take_broadcast 0 ∷ deliver 0 ∷ take_broadcast 2 ∷ deliver 2 ∷ []

-- K11: card 1 takes nothing; broadcast 24 passes
pub k11_passes : channel_refusal notes 3 (after (times 23 without_1)) (dispatch 2 update) ≡ 0
unfolding channel_refusal each
k11_passes = refl

-- 25 gives 34
pub k11_refused : channel_refusal notes 3 (after (times 24 without_1)) (dispatch 2 update) ≡ 34
unfolding channel_refusal each
k11_refused = refl

-- all cards take a broadcast as it comes, and card 1 delivers none
abbrev as_they_come : List (ChannelAction Note)
as_they_come = without_1 ++ (take_broadcast 1 ∷ [])

-- K12: take 32 passes
pub k12_passes : channel_refusal notes 3 (after (times 31 as_they_come ++ without_1)) (take_broadcast 1) ≡ 0
unfolding channel_refusal each
k12_passes = refl

-- 33 gives 35
pub k12_refused : channel_refusal notes 3 (after (times 32 as_they_come ++ without_1)) (take_broadcast 1) ≡ 35
unfolding channel_refusal each
k12_refused = refl
