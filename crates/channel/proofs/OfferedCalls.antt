-- The four calls for a layer above: on a memory that is well sized and shows a state, a call whose names are in range does what the idealised
-- channel's operation does, and answers its refusal, or whether it holds a message. And the same channel with its letters under other names.
use Prim.Native.Nat.{ℕ, ◌<◌}
use mathlib.Core.Path.{◌≡◌, refl, sym, ap, ap₂, ◌∙◌}
use mathlib.Core.Bool.{Bool, true, false, cond}
use mathlib.Core.List.{List}
use borrow.Author.Tests.{eqb-true, lt-ltb}
use lib.Dec.{eqb}
use lib.ListN.{length}
use Rattle.lists.specs.Places.{nth}
use Rattle.names.specs.declared.Card.{Card}
use Rattle.names.specs.declared.Task.{Task}
use Rattle.names.specs.declared.Message.{Message}
use Rattle.names.specs.declared.Letter.{Letter}
use Rattle.names.specs.Results.{is_taken, result_from}
use Rattle.automaton.specs.Mail.{Mail}
use Rattle.automaton.specs.State.{ChannelState, ChannelAction, dispatch, take_broadcast, take_single, deliver, channel_step}
use Rattle.automaton.specs.Refusals.{dispatch_refusal, take_refusal, single_refusal, channel_refusal}
use Rattle.automaton.specs.Holding.{held_back, holds}
use Rattle.channel.specs.Layout.{channel_words, cards_of, tasks_of}
use Rattle.channel.specs.Letters.{fits}
use Rattle.names.specs.Refusals.{result_number, number_of}
use Rattle.channel.specs.Inbox.{receive_answer, receive_memory}
use Rattle.channel.specs.TakeBroadcast.{take_answer, take_memory}
use Rattle.channel.specs.TakeSingle.{single_answer, single_memory}
use Rattle.channel.specs.Dispatch.{letter_to, dispatch_answer, dispatch_memory}
use Rattle.channel.specs.Sized.{well_sized}
use Rattle.channel.specs.Shows.{letter_mail, Shows}
use Rattle.channel.specs.Results.{channel_result}
use Rattle.automaton.specs.Calls.{done}
use Rattle.channel.specs.MemoryCalls.{Call, dispatch_call, take_broadcast_call, take_single_call, receive_call, call_number, call_memory, action_of, or_else, absent, unfit, call_refusal, call_result, letters, SameSizes, CallFollows}
use Rattle.channel.proofs.CallLaws.{taken_done, call_follows}
use Rattle.automaton.specs.Renaming.{Alike, SentAlike, channel_map, action_map}
use Rattle.automaton.proofs.RenamedRefusals.{channel_refusal_map, holds_map}
pub use Rattle.automaton.proofs.RenamedSteps.{channel_step_map}

-- the call that is operation x answers n and leaves us
pub record Passes (ws : List ℕ) (w : ChannelState Letter) (x : ChannelAction Letter) (n : ℕ) (us : List ℕ) : Type 0 where
  pub number : n ≡ channel_result letter_mail (cards_of ws) w x
  pub shows : is_taken n ≡ true → Shows us (channel_step letter_mail w x)
  pub untouched : is_taken n ≡ false → us ≡ ws
  pub sized : well_sized us ≡ true
  pub long : length us ≡ channel_words
  pub sizes : SameSizes us ws

fine : (r : ℕ) → or_else r 0 ≡ r
fine r = go (eqb r 0) refl
  where
    go : (b : Bool) → eqb r 0 ≡ b → cond b 0 r ≡ r
    go true e = sym (eqb-true r 0 e)
    go false e = refl

module _ (ws : List ℕ) (w : ChannelState Letter) (long : length ws ≡ channel_words) (ok : well_sized ws ≡ true) (v : Shows ws w) where
  passes : (c : Call) → absent ws (action_of c) ≡ 0 → unfit ws (action_of c) ≡ 0 → Passes ws w (action_of c) (call_number ws c) (call_memory ws c)
  unfolding call_refusal call_result channel_result
  passes c there fit = record {
    number = k.number ∙ ap (λ r. result_from r (holds letter_mail w (action_of c))) (rw (there, fit) (fine _));
    shows = λ e. let d : done (letters ws) w (action_of c) ≡ true = sym (taken_done ws w (action_of c)) ∙ ap is_taken (sym k.number) ∙ e in rw d at k.shows;
    untouched = k.untouched;
    sized = k.sized;
    long = k.long;
    sizes = k.sizes;
  }
    where
      k : CallFollows ws w c
      k = call_follows ws w long ok v c

  pub dispatch_passes : (card : Card) (m : Message) (to : ℕ) → card.0 < cards_of ws → fits ws (letter_to m to) ≡ true
      → Passes ws w (dispatch card.0 (letter_to m to)) (result_number (dispatch_answer ws card m to)) (dispatch_memory ws card m to)
  unfolding call_number call_memory
  dispatch_passes card m to h f = passes (dispatch_call card m to) (rw (lt-ltb card.0 (cards_of ws) h)) (rw f)

  pub take_broadcast_passes : (card : Card) → card.0 < cards_of ws → Passes ws w (take_broadcast card.0) (result_number (take_answer ws card)) (take_memory ws card)
  unfolding call_number call_memory
  take_broadcast_passes card h = passes (take_broadcast_call card) (rw (lt-ltb card.0 (cards_of ws) h)) refl

  pub take_single_passes : (task : Task) → task.0 < tasks_of ws → Passes ws w (take_single task.0) (result_number (single_answer ws task)) (single_memory ws task)
  unfolding call_number call_memory
  take_single_passes task h = passes (take_single_call task) (rw (lt-ltb task.0 (tasks_of ws) h)) refl

  pub receive_passes : (card : Card) → card.0 < cards_of ws → Passes ws w (deliver card.0) (number_of (receive_answer ws card)) (receive_memory ws card)
  unfolding call_number call_memory
  receive_passes card h = passes (receive_call card) (rw (lt-ltb card.0 (cards_of ws) h)) refl

-- ---- the results, under other names and operation by operation

module _ {M N : Type 0} (h : M → N) (a : Mail M) (b : Mail N) (r : Alike h a b) (cards : ℕ) where
  pub channel_result_map : (w : ChannelState M) → SentAlike h a b w → (x : ChannelAction M)
      → channel_result b cards (channel_map h w) (action_map h x) ≡ channel_result a cards w x
  unfolding channel_result
  channel_result_map w u x = ap₂ result_from (channel_refusal_map h a b r cards w u x) (holds_map h a b r cards w x)

module _ {M : Type 0} (mail : Mail M) (cards : ℕ) (w : ChannelState M) where
  pub dispatch_result : (i : ℕ) (m : M) → channel_result mail cards w (dispatch i m) ≡ result_from (dispatch_refusal mail cards w m) false
  unfolding channel_result channel_refusal
  dispatch_result i m = refl

  pub take_broadcast_result : (i : ℕ) → channel_result mail cards w (take_broadcast i) ≡ result_from (take_refusal mail cards w i (nth w.sent (w.taken i))) false
  unfolding channel_result channel_refusal
  take_broadcast_result i = refl

  pub take_single_result : (c : ℕ) → channel_result mail cards w (take_single c) ≡ result_from (single_refusal mail cards w (w.flight c)) (held_back mail w (w.flight c))
  unfolding channel_result channel_refusal
  take_single_result c = refl
