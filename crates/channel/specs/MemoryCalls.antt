-- The calls that the channel offers (RULES 5.6 to 5.9), with any argument: what each does to a memory, by the definitions that the functions'
-- contracts cite, and which operation of the idealised channel over letters it is. `CallFollows` and `RunFollows` say that the two keep step.
use Rattle.std.specs.Prelude.{ℕ, ◌≡◌, true, false, cond, ◌&&◌, List, [], ◌∷◌, map, eqb, ltb, length, get_or, Result, Ok, Err}
use Rattle.names.specs.declared.Card.{Card}
use Rattle.names.specs.declared.Task.{Task}
use Rattle.names.specs.declared.Message.{Message}
use Rattle.names.specs.declared.Letter.{Letter}
use Rattle.names.specs.declared.refusals.Refusal.{Refusal}
use Rattle.names.specs.declared.refusals.Refusal.TheVariants.{NoCard, NothingToDeliver}
use Rattle.automaton.specs.State.{ChannelState, initial_channel, ChannelAction, dispatch, take_broadcast, take_single, deliver, channel_step}
use Rattle.automaton.specs.Refusals.{otherwise, channel_refusal}
use Rattle.automaton.specs.Holding.{holds}
use Rattle.channel.specs.Layout.{channel_words, cards_word, tasks_word, registers_word, cards_of, tasks_of, registers_of, made_of, taken_by}
use Rattle.names.specs.Letters.{letter_at}
use Rattle.names.specs.Results.{is_taken, result_from}
use Rattle.channel.specs.Letters.{fits}
use Rattle.names.specs.Refusals.{result_number, number_of}
use Rattle.channel.specs.Begin.{sizes_fit, begin_answer, begin_memory}
use Rattle.channel.specs.Inbox.{receive_answer, receive_memory}
use Rattle.channel.specs.TakeBroadcast.{take_answer, take_memory}
use Rattle.channel.specs.TakeSingle.{single_answer, single_memory}
use Rattle.channel.specs.Dispatch.{letter_to, dispatch_answer, dispatch_memory}
use Rattle.channel.specs.Sized.{well_sized}
use Rattle.channel.specs.Shows.{letter_mail, Shows}
use Rattle.automaton.specs.Calls.{Setup, done, calls, CallsPromise, CallsEvents}
use Rattle.automaton.specs.AtRest.{GoesToCards, CallsComplete}

pub data Call : Type 0 where
  dispatch_call : Card → Message → ℕ → Call  -- sending card, message, destinations
  take_broadcast_call : Card → Call
  take_single_call : Task → Call
  receive_call : Card → Call

-- ---- on a memory

-- the number of the answer; 0 or 100: it is done
unfoldable pub call_number : List ℕ → Call → ℕ
call_number ws (dispatch_call card m to) = result_number (dispatch_answer ws card m to)
call_number ws (take_broadcast_call card) = result_number (take_answer ws card)
call_number ws (take_single_call task) = result_number (single_answer ws task)
call_number ws (receive_call card) = number_of (receive_answer ws card)

-- the memory left
unfoldable pub call_memory : List ℕ → Call → List ℕ
call_memory ws (dispatch_call card m to) = dispatch_memory ws card m to
call_memory ws (take_broadcast_call card) = take_memory ws card
call_memory ws (take_single_call task) = single_memory ws task
call_memory ws (receive_call card) = receive_memory ws card

-- the memory after a list of calls, newest first, and the numbers of their answers
unfoldable pub memory_after : List ℕ → List Call → List ℕ
memory_after ws [] = ws
memory_after ws (c ∷ cs) = call_memory (memory_after ws cs) c

unfoldable pub answers_after : List ℕ → List Call → List ℕ
answers_after ws [] = []
answers_after ws (c ∷ cs) = call_number (memory_after ws cs) c ∷ answers_after ws cs

-- ---- on the idealised channel, over letters

abbrev pub action_of : Call → ChannelAction Letter
action_of (dispatch_call card m to) = dispatch card.0 (letter_to m to)
action_of (take_broadcast_call card) = take_broadcast card.0
action_of (take_single_call task) = take_single task.0
action_of (receive_call card) = deliver card.0

-- the first of two refusals; 0 is none
abbrev pub or_else : ℕ → ℕ → ℕ
or_else r s = cond (eqb r 0) s r

-- what `receive` hands up of an inbox: its head's message
abbrev pub handed_up : List Letter → Result Message Refusal
handed_up [] = Err NothingToDeliver
handed_up (l ∷ r) = Ok l.message

-- The sizes are those of a memory ms; no call changes them.
module _ (ms : List ℕ) where
  -- 12 an absent task, 14 an absent card
  abbrev pub absent : ChannelAction Letter → ℕ
  absent (dispatch i l) = cond (ltb i (cards_of ms)) 0 14
  absent (take_broadcast i) = cond (ltb i (cards_of ms)) 0 14
  absent (take_single t) = cond (ltb t (tasks_of ms)) 0 12
  absent (deliver i) = cond (ltb i (cards_of ms)) 0 14

  -- 6 a letter with a field past its limit, or to nobody
  abbrev pub unfit : ChannelAction Letter → ℕ
  unfit (dispatch i l) = otherwise 6 (fits ms l)
  unfit (take_broadcast i) = 0
  unfit (take_single t) = 0
  unfit (deliver i) = 0

  -- rising number, then 6 for the outcome (RULES 8.5)
  unfoldable pub call_refusal : ChannelState Letter → ChannelAction Letter → ℕ
  call_refusal w x = or_else (absent x) (or_else (channel_refusal letter_mail (cards_of ms) w x) (unfit x))

  -- and its result: 100 where it is done and holds a message, else 0 (RULES 5.8)
  unfoldable pub call_result : ChannelState Letter → ChannelAction Letter → ℕ
  call_result w x = result_from (call_refusal w x) (holds letter_mail w x)

  -- the idealised channel that the memory is one of
  abbrev pub letters : Setup Letter
  letters = record {
    mail = letter_mail;
    cards = cards_of ms;
    in_range = λ x. eqb (absent x) 0 && eqb (unfit x) 0;
    blank = record { from = 0; body = letter_at [] 0 };
  }

  -- the results of a list of operations, newest first
  unfoldable pub results_after : List (ChannelAction Letter) → List ℕ
  results_after [] = []
  results_after (x ∷ xs) = call_result (calls letters xs) x ∷ results_after xs

-- the same calls on the idealised channel, and the state after them
abbrev pub actions_of : List Call → List (ChannelAction Letter)
actions_of = map action_of

abbrev pub state_after : List ℕ → List Call → ChannelState Letter
state_after ms cs = calls (letters ms) (actions_of cs)

-- two memories of the same numbers of cards, tasks and registers
pub record SameSizes (us ws : List ℕ) : Type 0 where
  pub cards : get_or us cards_word 0 ≡ get_or ws cards_word 0
  pub tasks : get_or us tasks_word 0 ≡ get_or ws tasks_word 0
  pub registers : get_or us registers_word 0 ≡ get_or ws registers_word 0

-- One call on a memory that is well sized and shows the idealised state w.
pub record CallFollows (ws : List ℕ) (w : ChannelState Letter) (c : Call) : Type 0 where
  pub number : call_number ws c ≡ call_result ws w (action_of c)
  pub shows : Shows (call_memory ws c) (cond (done (letters ws) w (action_of c)) (channel_step letter_mail w (action_of c)) w)
  pub sized : well_sized (call_memory ws c) ≡ true
  pub long : length (call_memory ws c) ≡ channel_words
  pub sizes : SameSizes (call_memory ws c) ws
  pub untouched : is_taken (call_number ws c) ≡ false → call_memory ws c ≡ ws

-- `begin` on any memory.
pub record BeginFollows (ws : List ℕ) (cards tasks registers : ℕ) : Type 0 where
  pub number : result_number (begin_answer cards tasks registers) ≡ otherwise 3 (sizes_fit cards tasks registers)
  pub untouched : sizes_fit cards tasks registers ≡ false → begin_memory ws cards tasks registers ≡ ws
  pub sizes : sizes_fit cards tasks registers ≡ true
      → (cards_of (begin_memory ws cards tasks registers) ≡ cards) × (tasks_of (begin_memory ws cards tasks registers) ≡ tasks)
      × (registers_of (begin_memory ws cards tasks registers) ≡ registers)
  pub shows : sizes_fit cards tasks registers ≡ true → Shows (begin_memory ws cards tasks registers) initial_channel

-- Any list of calls, refused ones included, from a memory ms that is just begun. `hands`, `taken`, `made`: what may be read of the memory now,
-- a receive's message among it, is what the idealised state has. `promise`, `events`, `complete`: what 000 §4 states of a context multicast
-- channel holds of the calls' multicasts and receives, and if the channel is at rest the run is complete in the paper's sense.
pub record RunFollows (ms : List ℕ) (cs : List Call) : Type 0 where
  pub sized : well_sized (memory_after ms cs) ≡ true
  pub long : length (memory_after ms cs) ≡ channel_words
  pub sizes : SameSizes (memory_after ms cs) ms
  pub shows : Shows (memory_after ms cs) (state_after ms cs)
  pub answers : answers_after ms cs ≡ results_after ms (actions_of cs)
  pub hands : (card : Card) → receive_answer (memory_after ms cs) card ≡ cond (ltb card.0 (cards_of ms)) (handed_up ((state_after ms cs).inbox card.0)) (Err NoCard)
  pub taken : (i : ℕ) → taken_by (memory_after ms cs) i ≡ cond (ltb i (cards_of ms)) ((state_after ms cs).taken i) 0
  pub made : made_of (memory_after ms cs) ≡ length (state_after ms cs).sent
  pub promise : CallsPromise (letters ms) (actions_of cs)
  pub events : CallsEvents (letters ms) (actions_of cs)
  pub complete : CallsComplete (letters ms) (actions_of cs)
  pub to_cards : GoesToCards (letters ms)
