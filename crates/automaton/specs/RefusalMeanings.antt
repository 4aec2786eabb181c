-- What each refusal of the channel says of the idealised state (RULES 8.2), both ways.
use Rattle.std.specs.Prelude.{◌≡◌, ◌↔◌, true, [], ℕ, suc, ◌+◌, ◌<◌, ◌≤◌, length}
use Rattle.std.proofs.Math.Option.{none, some}
use Rattle.lists.specs.Filters.{filter}
use Rattle.lists.specs.Places.{nth}
use Rattle.automaton.specs.MostBehind.{most_behind}
use Rattle.automaton.specs.Mail.{Mail}
use Rattle.automaton.specs.State.{ChannelState, dispatch, take_broadcast, take_single, deliver}
use Rattle.automaton.specs.Refusals.{channel_refusal}

module _ {M : Type 0} (mail : Mail M) (cards : ℕ) (w : ChannelState M) where
  pub record RefusalMeanings : Type 0 where
    -- 31: the card has taken all broadcasts made
    pub none_to_take : (i : ℕ) → (channel_refusal mail cards w (take_broadcast i) ≡ 31) ↔ (length w.sent ≤ w.taken i)
    -- 32: nothing of the task is in flight
    pub none_in_flight : (t : ℕ) → (channel_refusal mail cards w (take_single t) ≡ 32) ↔ (w.flight t ≡ none)
    -- 33: the inbox is empty
    pub inbox_empty : (i : ℕ) → (channel_refusal mail cards w (deliver i) ≡ 33) ↔ (w.inbox i ≡ [])
    -- 34: the message is a broadcast, which would leave a present card more than `most_behind` behind (RULES 7.5, 7.10)
    pub far_behind : (i : ℕ) (m : M)
        → (channel_refusal mail cards w (dispatch i m) ≡ 34) ↔ ((mail.multi m ≡ true) × (j : ℕ) × (j < cards) × (w.taken j + most_behind < suc (length w.sent)))
    -- 35: the card is a destination and its inbox already has 32 undelivered broadcasts (RULES 7.6, 7.11)
    pub crowded : (i : ℕ)
        → (channel_refusal mail cards w (take_broadcast i) ≡ 35)
        ↔ ((m : M) × (nth w.sent (w.taken i) ≡ some m) × (mail.to m i ≡ true) × (32 ≤ length (filter mail.multi (w.inbox i))))
