-- The channel's part of the named runs K9 and K10 (RULES 13) on a memory: what the calls answer and hand up. The theorem leads from the
-- memory to the idealised channel, where they are computed.
use Prim.Native.Nat.{ℕ}
use mathlib.Core.Path.{◌≡◌, refl}
use mathlib.Core.List.{List, [], ◌∷◌}
use mathlib.Core.Bool.{true}
use Rattle.lists.specs.Loops.{total, turns}
use Rattle.lists.specs.Every.{each}
use Rattle.names.specs.CardSet.{member_of, size_of, several, single, sole_of}
use Rattle.names.specs.declared.Card.{Card}
use Rattle.names.specs.declared.Task.{Task}
use Rattle.names.specs.declared.Message.{Message}
use Rattle.names.specs.declared.Body.{Body}
use Rattle.names.specs.declared.Body.TheVariants.{ReadDo, UpdateDo, ReadReply}
use Rattle.std.specs.Prelude.{Ok}
use Rattle.automaton.specs.Refusals.{channel_refusal}
use Rattle.channel.specs.Layout.{cards_of, tasks_of, registers_of}
use Rattle.names.specs.Letters.{known}
use Rattle.names.specs.Results.{result_from}
use Rattle.names.specs.Update.{known_function}
use Rattle.channel.specs.Letters.{addressed, fits}
use Rattle.channel.specs.Begin.{sizes_fit, begun, begin_memory}
use Rattle.channel.specs.Inbox.{receive_answer}
use Rattle.channel.specs.MemoryCalls.{Call, dispatch_call, take_broadcast_call, take_single_call, receive_call, memory_after, answers_after, call_refusal, call_result, results_after, RunFollows}
use Rattle.channel.proofs.ChannelLaw.{channel_follows}

abbrev about : ℕ → ℕ → Body → Message
about t x b = record { task = record { 0 = t }; register = record { 0 = x }; body = b }

abbrev card : ℕ → Card
card i = record { 0 = i }

abbrev task : ℕ → Task
task t = record { 0 = t }

-- task 2 sets register 0 to 7, on all three cards
abbrev shared : Message
shared = about 2 0 (UpdateDo 1 7)

-- task 0 sets register 1 to 9, on card 1; and a read of register 1 with its reply
abbrev only_there : Message
only_there = about 0 1 (UpdateDo 1 9)

abbrev asks : Message
asks = about 0 1 ReadDo

abbrev answers : Message
answers = about 0 1 (ReadReply 5)

sizes : sizes_fit 3 3 2 ≡ true
unfolding sizes_fit
sizes = refl

-- on any memory that begins with three cards, three tasks and two registers; calls newest first
module _ (ws : List ℕ) where
  abbrev start : List ℕ
  start = begin_memory ws 3 3 2

  follows : (cs : List Call) → RunFollows start cs
  follows = channel_follows ws 3 3 2 sizes

  -- K9: step 8 holds the message at card 1, and step 9 there gives 33
  abbrev k9 : List Call
  k9 =
      receive_call (card 1) ∷ take_single_call (task 0) ∷ dispatch_call (card 0) only_there 2 ∷ receive_call (card 0) ∷ take_broadcast_call (card 0)
      ∷ dispatch_call (card 2) shared 7 ∷ []

  pub k9_held : answers_after start k9 ≡ 33 ∷ 100 ∷ 0 ∷ 0 ∷ 0 ∷ 0 ∷ []
  unfolding results_after call_result result_from call_refusal channel_refusal fits addressed known known_function cards_of tasks_of registers_of begin_memory sizes_fit begun several single sole_of size_of member_of total turns each
  k9_held = (follows k9).answers

  -- when card 1 has taken broadcast 1, two deliveries set 7, then 9
  abbrev k9_taken : List Call
  k9_taken = take_broadcast_call (card 1) ∷ k9

  pub k9_first : receive_answer (memory_after start k9_taken) (card 1) ≡ Ok shared
  unfolding call_refusal channel_refusal fits addressed known known_function cards_of tasks_of registers_of begin_memory sizes_fit begun several single sole_of size_of member_of total turns each
  k9_first = (follows k9_taken).hands (card 1)

  pub k9_second : receive_answer (memory_after start (receive_call (card 1) ∷ k9_taken)) (card 1) ≡ Ok only_there
  unfolding call_refusal channel_refusal fits addressed known known_function cards_of tasks_of registers_of begin_memory sizes_fit begun several single sole_of size_of member_of total turns each
  k9_second = (follows (receive_call (card 1) ∷ k9_taken)).hands (card 1)

  -- K10: card 1 delivers broadcast 1, then replies to a read of task 0; the reply is held at card 0 until card 0 takes broadcast 1
  abbrev k10 : List Call
  k10 =
      receive_call (card 0) ∷ take_single_call (task 0) ∷ dispatch_call (card 1) answers 1 ∷ receive_call (card 1) ∷ take_single_call (task 0) ∷ receive_call (card 1)
      ∷ take_broadcast_call (card 1) ∷ dispatch_call (card 0) asks 2 ∷ dispatch_call (card 2) shared 7 ∷ []

  pub k10_held : answers_after start k10 ≡ 33 ∷ 100 ∷ 0 ∷ 0 ∷ 0 ∷ 0 ∷ 0 ∷ 0 ∷ 0 ∷ []
  unfolding results_after call_result result_from call_refusal channel_refusal fits addressed known known_function cards_of tasks_of registers_of begin_memory sizes_fit begun several single sole_of size_of member_of total turns each
  k10_held = (follows k10).answers

  abbrev k10_taken : List Call
  k10_taken = take_broadcast_call (card 0) ∷ k10

  pub k10_first : receive_answer (memory_after start k10_taken) (card 0) ≡ Ok shared
  unfolding call_refusal channel_refusal fits addressed known known_function cards_of tasks_of registers_of begin_memory sizes_fit begun several single sole_of size_of member_of total turns each
  k10_first = (follows k10_taken).hands (card 0)

  pub k10_second : receive_answer (memory_after start (receive_call (card 0) ∷ k10_taken)) (card 0) ≡ Ok answers
  unfolding call_refusal channel_refusal fits addressed known known_function cards_of tasks_of registers_of begin_memory sizes_fit begun several single sole_of size_of member_of total turns each
  k10_second = (follows (receive_call (card 0) ∷ k10_taken)).hands (card 0)
