-- When each refusal comes, in plain terms (RULES 8.2). `Misformed P a n`: step a is refused with n, one of 10 to 15, for itself.
-- `Comes P s n c`: in state s the decoded step c is refused with n, one of 20 to 35 or 6 for the outcome. The lowest comes, 6 for the outcome
-- last (8.5): each case says what the lower numbers ask too, where it is not said by the case itself.
use Rattle.std.specs.Prelude.{ℕ, suc, ◌+◌, ◌≤◌, ◌<◌, ◌≡◌, ◌⊎◌, true, false, List, [], ◌∷◌, ◌++◌, length, get_or}
use Rattle.std.proofs.Math.Option.{none, some}
use Rattle.lists.specs.Filters.{filter}
use Rattle.lists.specs.Queues.{push}
use Rattle.lists.specs.Places.{nth}
use Rattle.names.specs.CardSet.{member_of, several, sole_of}
use Rattle.names.specs.Placement.{Placement, tasks, registers, home, holders, copy}
use Rattle.automaton.specs.State.{Tagged, released}
use Rattle.automaton.specs.MostBehind.{most_behind}
use Rattle.claims.specs.Command.{Command, request_read, request_update, perform, send_read, send_update, dispatch, take_broadcast, take_single, deliver, report}
use Rattle.claims.specs.Steps.{RawStep}
use Rattle.claims.specs.Refusals.{alone}
use Rattle.claims.specs.Published.{Doing, quiet, asking_read, asking_update, done_read, done_update, Letter, Published, mail, answered}

-- ---- 10 to 15

-- the byte at place k of a step's argument
abbrev pub byte : RawStep → ℕ → ℕ
byte a k = get_or a.argument k 0

-- what the code names (RULES 3.3)
pub data OfTask : ℕ → Type 0 where
  one : OfTask 1
  two : OfTask 2
  three : OfTask 3
  four : OfTask 4
  five : OfTask 5
  eight : OfTask 8
  ten : OfTask 10

pub data OfCard : ℕ → Type 0 where
  six : OfCard 6
  seven : OfCard 7
  nine : OfCard 9

pub data OfRegister : ℕ → Type 0 where
  one : OfRegister 1
  two : OfRegister 2

-- the code is one of 1 to 10
abbrev pub Known : RawStep → Type 0
Known a = (1 ≤ a.code) × (a.code ≤ 10)

-- place k is not named by the code (RULES 3.3, 3.4)
pub data Unnamed (n : ℕ) : ℕ → Type 0 where
  at_1 : ¬ OfRegister n → ¬ (n ≡ 4) → Unnamed n 1
  at_2 : ¬ (n ≡ 2) → Unnamed n 2
  at_3 : Unnamed n 3
  at_4 : ¬ (n ≡ 2) → Unnamed n 4
  at_5 : ¬ (n ≡ 2) → Unnamed n 5
  at_6 : ¬ (n ≡ 2) → Unnamed n 6
  at_7 : ¬ (n ≡ 2) → Unnamed n 7

-- no unnamed byte is other than zero
abbrev pub Clean : RawStep → Type 0
Clean a = (k : ℕ) → Unnamed a.code k → byte a k ≡ 0

module _ (P : Placement) (a : RawStep) where
  pub data Misformed : ℕ → Type 0 where
    -- 10: the code is not 1 to 10
    code_zero : a.code ≡ 0 → Misformed 10
    code_high : 10 < a.code → Misformed 10
    -- 11: a byte that the code does not name is not zero
    unnamed : Known a → (k : ℕ) → Unnamed a.code k → ¬ (byte a k ≡ 0) → Misformed 11
    -- 12 the task, 13 the register, 14 the card is absent; 15: the function is not 1 to 5
    no_task : Clean a → OfTask a.code → tasks P ≤ byte a 0 → Misformed 12
    no_register : Clean a → OfRegister a.code → byte a 0 < tasks P → registers P ≤ byte a 1 → Misformed 13
    no_card : Clean a → OfCard a.code → P.cards ≤ byte a 0 → Misformed 14
    no_chosen : Clean a → a.code ≡ 4 → byte a 0 < tasks P → P.cards ≤ byte a 1 → Misformed 14
    no_function : Clean a → a.code ≡ 2 → byte a 0 < tasks P → byte a 1 < registers P → (byte a 2 ≡ 0) ⊎ (5 < byte a 2) → Misformed 15

-- ---- 20 to 35, then 6

-- what a task asks, or that it is done
abbrev pub AsksRead : Doing → Type 0
AsksRead d = (x : ℕ) × (d ≡ asking_read x)

abbrev pub AsksUpdate : Doing → Type 0
AsksUpdate d = (x : ℕ) × (f : ℕ) × (w : ℕ) × (d ≡ asking_update x f w)

abbrev pub IsDone : Doing → Type 0
IsDone d = ((v : ℕ) × (d ≡ done_read v)) ⊎ (d ≡ done_update)

module _ (P : Placement) (s : Published) where
  -- broadcasts made
  abbrev pub made : ℕ
  made = length s.channel.sent

  -- broadcasts that card i has taken
  abbrev pub taken : ℕ → ℕ
  taken i = s.channel.taken i

  -- undelivered broadcasts (RULES 1.7): how many messages in card i's inbox came by broadcast
  abbrev pub undelivered : ℕ → ℕ
  undelivered i = length (filter mail.multi (s.channel.inbox i))

  -- card i's inbox once it has taken broadcast m
  abbrev pub inbox_after : ℕ → Letter → List Letter
  inbox_after i m = push (mail.to m i) m (s.channel.inbox i) ++ released (suc (taken i)) (s.channel.held i)

  pub data Comes : ℕ → Command → Type 0 where
    -- 20: the task is not quiet
    busy_read : {c x : ℕ} → ¬ (s.status c ≡ quiet) → Comes 20 (request_read c x)
    busy_update : {c x f w : ℕ} → ¬ (s.status c ≡ quiet) → Comes 20 (request_update c x f w)
    -- 21: the task does not ask (3), not to read (4), not to update (5), is not done (10)
    not_asking : {c : ℕ} → ¬ AsksRead (s.status c) → ¬ AsksUpdate (s.status c) → Comes 21 (perform c)
    not_read : {c j : ℕ} → ¬ AsksRead (s.status c) → Comes 21 (send_read c j)
    not_update : {c : ℕ} → ¬ AsksUpdate (s.status c) → Comes 21 (send_update c)
    not_done : {c : ℕ} → ¬ IsDone (s.status c) → Comes 21 (report c)
    -- 22: copies lie otherwise than steps 3 to 5 ask
    no_copy : {c : ℕ} (x : ℕ) → s.status c ≡ asking_read x → copy P x (home P c) ≡ false → Comes 22 (perform c)
    not_alone : {c : ℕ} (x f w : ℕ) → s.status c ≡ asking_update x f w → alone P x (home P c) ≡ false → Comes 22 (perform c)
    copy_here : {c j : ℕ} (x : ℕ) → s.status c ≡ asking_read x → copy P x (home P c) ≡ true → Comes 22 (send_read c j)
    no_holder : {c j : ℕ} (x : ℕ) → s.status c ≡ asking_read x → copy P x j ≡ false → Comes 22 (send_read c j)
    alone_here : {c : ℕ} (x f w : ℕ) → s.status c ≡ asking_update x f w → alone P x (home P c) ≡ true → Comes 22 (send_update c)
    -- 23: 65,535 requests were taken before
    last_read : {c x : ℕ} → s.status c ≡ quiet → 65535 ≤ s.requests → Comes 23 (request_read c x)
    last_update : {c x f w : ℕ} → s.status c ≡ quiet → 65535 ≤ s.requests → Comes 23 (request_update c x f w)
    -- 30: the outbox is empty; 31: all broadcasts made are taken; 32: nothing of the task is in flight; 33: the inbox is empty
    no_letter : {i : ℕ} → s.out i ≡ [] → Comes 30 (dispatch i)
    no_broadcast : {i : ℕ} → made ≤ taken i → Comes 31 (take_broadcast i)
    none_in_flight : {c : ℕ} → s.channel.flight c ≡ none → Comes 32 (take_single c)
    no_message : {i : ℕ} → s.channel.inbox i ≡ [] → Comes 33 (deliver i)
    -- 34: the head has more than one destination and card j is `most_behind` behind
    far_behind : {i : ℕ} (m : Letter) (r : List Letter) (j : ℕ) → s.out i ≡ m ∷ r → several m.to ≡ true → j < P.cards → taken j + most_behind ≤ made → Comes 34 (dispatch i)
    -- 35: the card is a destination and its inbox already has 32 undelivered broadcasts
    crowded : {i : ℕ} (m : Letter) → nth s.channel.sent (taken i) ≡ some m → member_of m.to i ≡ true → 32 ≤ undelivered i → Comes 35 (take_broadcast i)
    -- 6 for the outcome (RULES 8.8): an outbox past 16 (steps 4, 5, 9), a message to nobody, broadcast 65,536, a second message of a task in
    -- flight, an inbox past 48, a 17th message held
    outbox_full_read : {c j : ℕ} (x : ℕ) → s.status c ≡ asking_read x → copy P x (home P c) ≡ false → copy P x j ≡ true → 16 ≤ length (s.out (home P c)) → Comes 6 (send_read c j)
    nobody : {c : ℕ} (x f w : ℕ) → s.status c ≡ asking_update x f w → alone P x (home P c) ≡ false → holders P x ≡ 0 → Comes 6 (send_update c)
    outbox_full_update : {c : ℕ} (x f w : ℕ) → s.status c ≡ asking_update x f w → alone P x (home P c) ≡ false → 16 ≤ length (s.out (home P c)) → Comes 6 (send_update c)
    last_broadcast : {i : ℕ} (m : Letter) (r : List Letter) → s.out i ≡ m ∷ r → several m.to ≡ true → ((j : ℕ) → j < P.cards → made < taken j + most_behind) → 65535 ≤ made → Comes 6 (dispatch i)
    second_in_flight : {i : ℕ} (m : Letter) (r : List Letter) (x : Tagged Letter) → s.out i ≡ m ∷ r → several m.to ≡ false → s.channel.flight m.task ≡ some x → Comes 6 (dispatch i)
    inbox_full_take : {i : ℕ} (m : Letter) → nth s.channel.sent (taken i) ≡ some m → (member_of m.to i ≡ false) ⊎ (undelivered i < 32) → 48 < length (inbox_after i m) → Comes 6 (take_broadcast i)
    inbox_full_single : {c : ℕ} (x : Tagged Letter) → s.channel.flight c ≡ some x → x.mark ≤ taken (sole_of x.msg.to) → 48 ≤ length (s.channel.inbox (sole_of x.msg.to)) → Comes 6 (take_single c)
    held_full : {c : ℕ} (x : Tagged Letter) → s.channel.flight c ≡ some x → taken (sole_of x.msg.to) < x.mark → 16 ≤ length (s.channel.held (sole_of x.msg.to)) → Comes 6 (take_single c)
    outbox_full_reply : {i : ℕ} (m : Letter) (r : List Letter) → s.channel.inbox i ≡ m ∷ r → answered P m i ≡ true → 16 ≤ length (s.out i) → Comes 6 (deliver i)
