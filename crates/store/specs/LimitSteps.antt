-- At each limit (RULES 7.1 to 7.8), of any published state, reached or not: the step that meets it is taken, and the next refused, with 23, 34,
-- 35 or 6 for the outcome (8.8). Demand 2 says the same of every store that shows the state. It looks at the channel's queues.
use Rattle.std.specs.Prelude.{ℕ, suc, ◌+◌, ◌<◌, ◌≡◌, true, false, ◌&&◌, not, List, ◌∷◌, ◌++◌, length}
use Rattle.std.proofs.Math.Option.{none, some}
use Rattle.lists.specs.Filters.{filter}
use Rattle.lists.specs.Queues.{push}
use Rattle.lists.specs.Places.{nth}
use Rattle.names.specs.CardSet.{member_of, several, sole_of}
use Rattle.names.specs.Placement.{Placement, home, copy}
use Rattle.automaton.specs.State.{Tagged, released, ripe}
use Rattle.automaton.specs.MostBehind.{most_behind}
use Rattle.claims.specs.Command.{request_read, send_read, dispatch, take_broadcast, take_single}
use Rattle.claims.specs.Published.{Published, Letter, quiet, asking_read, mail, command_refusal}
use Rattle.claims.specs.PublishedRun.{command_result}

module _ (P : Placement) (s : Published) where
  -- broadcasts made
  abbrev pub sent : List Letter
  sent = s.channel.sent

  -- one broadcast more leaves no card more than `most_behind` behind
  abbrev pub Near : Type 0
  Near = (j : ℕ) → j < P.cards → length sent < s.channel.taken j + most_behind

  pub record LimitSteps : Type 0 where
    -- requests (7.8): 23
    pub request : (c x : ℕ) → s.status c ≡ quiet
        → (s.requests ≡ 65534 → command_refusal P s (request_read c x) ≡ 0) × (s.requests ≡ 65535 → command_refusal P s (request_read c x) ≡ 23)
    -- an outbox (7.1)
    pub outbox : (c x j : ℕ) → s.status c ≡ asking_read x → (not (copy P x (home P c)) && copy P x j) ≡ true
        → (length (s.out (home P c)) ≡ 15 → command_refusal P s (send_read c j) ≡ 0)
        × (length (s.out (home P c)) ≡ 16 → command_refusal P s (send_read c j) ≡ 6)
    -- broadcast numbers (7.7)
    pub broadcast : (i : ℕ) (m : Letter) (r : List Letter) → s.out i ≡ m ∷ r → several m.to ≡ true → Near
        → (length sent ≡ 65534 → command_refusal P s (dispatch i) ≡ 0) × (length sent ≡ 65535 → command_refusal P s (dispatch i) ≡ 6)
    -- a card that is behind (7.5): 34
    pub behind : (i : ℕ) (m : Letter) (r : List Letter) → s.out i ≡ m ∷ r → several m.to ≡ true
        → (j : ℕ) → j < P.cards → length sent ≡ s.channel.taken j + most_behind → command_refusal P s (dispatch i) ≡ 34
    -- a message in flight (7.4)
    pub flight : (i : ℕ) (m : Letter) (r : List Letter) → s.out i ≡ m ∷ r → several m.to ≡ false
        → (s.channel.flight m.task ≡ none → command_refusal P s (dispatch i) ≡ 0)
        × ((x : Tagged Letter) → s.channel.flight m.task ≡ some x → command_refusal P s (dispatch i) ≡ 6)
    -- undelivered broadcasts (7.6): 35; an inbox at step 7 (7.2)
    pub take : (i : ℕ) (m : Letter) → nth sent (s.channel.taken i) ≡ some m → member_of m.to i ≡ true
        → (length (filter mail.multi (s.channel.inbox i)) ≡ 32 → command_refusal P s (take_broadcast i) ≡ 35)
        × (length (filter mail.multi (s.channel.inbox i)) ≡ 31 → length (push true m (s.channel.inbox i) ++ released (suc (s.channel.taken i)) (s.channel.held i)) ≡ 48
        → command_refusal P s (take_broadcast i) ≡ 0)
        × (length (filter mail.multi (s.channel.inbox i)) ≡ 31 → length (push true m (s.channel.inbox i) ++ released (suc (s.channel.taken i)) (s.channel.held i)) ≡ 49
        → command_refusal P s (take_broadcast i) ≡ 6)
    -- an inbox at step 8 (7.2): the 48th message joins it
    pub inbox : (c : ℕ) (x : Tagged Letter) → s.channel.flight c ≡ some x → ripe mail s.channel x ≡ true
        → (length (s.channel.inbox (sole_of x.msg.to)) ≡ 47 → command_result P s (take_single c) ≡ 0)
        × (length (s.channel.inbox (sole_of x.msg.to)) ≡ 48 → command_result P s (take_single c) ≡ 6)
    -- held messages (7.3): the 16th is held
    pub held : (c : ℕ) (x : Tagged Letter) → s.channel.flight c ≡ some x → ripe mail s.channel x ≡ false
        → (length (s.channel.held (sole_of x.msg.to)) ≡ 15 → command_result P s (take_single c) ≡ 100)
        × (length (s.channel.held (sole_of x.msg.to)) ≡ 16 → command_result P s (take_single c) ≡ 6)
