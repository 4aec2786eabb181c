-- The limits within which every state reached from a start stays (RULES 7.1 to 7.8). So no step of a run gives 6 (12.10).
use Rattle.std.specs.Prelude.{ℕ, ◌+◌, ◌≤◌, ◌<◌, ◌≡◌, length}
use Rattle.std.proofs.Math.Option.{some}
use Rattle.lists.specs.Filters.{filter}
use Rattle.automaton.specs.Mail.{Mail}
use Rattle.automaton.specs.State.{Tagged}
use Rattle.automaton.specs.MostBehind.{most_behind}
use Rattle.claims.specs.Refusals.{Sight}

module _ {M : Type 0} (mail : Mail M) (cards : ℕ) where
  pub record WithinLimits (s : Sight M) : Type 0 where
    pub outboxes : (i : ℕ) → length (s.out i) ≤ 16
    pub inboxes : (i : ℕ) → length (s.channel.inbox i) ≤ 48
    -- of which at most 32 came by broadcast
    pub undelivered : (i : ℕ) → length (filter mail.multi (s.channel.inbox i)) ≤ 32
    pub held : (i : ℕ) → length (s.channel.held i) ≤ 16
    -- what is in flight under a task is its message
    pub flights : (c : ℕ) (x : Tagged M) → s.channel.flight c ≡ some x → mail.task x.msg ≡ c
    -- broadcasts made are at most the requests taken
    pub broadcasts : length s.channel.sent ≤ s.requests
    pub requests : s.requests ≤ 65535
    -- the broadcasts that a card has taken are neither above those made nor more than `most_behind` below
    pub counts : (i : ℕ) → i < cards → (s.channel.taken i ≤ length s.channel.sent) × (length s.channel.sent ≤ s.channel.taken i + most_behind)
