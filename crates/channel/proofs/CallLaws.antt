-- Each call on a well-sized memory does and answers what the idealised channel does and answers.
use Prim.Native.Nat.{ℕ, ◌+◌, ◌<◌}
use mathlib.Core.Path.{◌≡◌, refl, sym, ap, ◌∙◌}
use mathlib.Core.Bool.{Bool, true, false, cond, ◌&&◌}
use mathlib.Core.Logic.{◌≢◌}
use mathlib.Core.List.{List}
use native.Mathlib.Omega.{arith}
use borrow.Author.Tests.{eqb-true, ne_eqb}
use lib.Dec.{eqb, ltb}
use lib.ListN.{length}
use Rattle.lists.specs.Places.{nth_listing}
use Rattle.names.specs.declared.Card.{Card}
use Rattle.names.specs.declared.Task.{Task}
use Rattle.names.specs.declared.Message.{Message}
use Rattle.names.specs.declared.Letter.{Letter}
use Rattle.std.specs.Prelude.{Result, Ok, Err}
use Rattle.names.specs.declared.refusals.Refusal.{Refusal}
use Rattle.names.specs.declared.refusals.Refusal.TheVariants.{NoCard, NothingToDeliver}
use Rattle.names.specs.declared.refusals.Taken.{Taken}
use Rattle.automaton.specs.State.{ChannelState, ChannelAction, dispatch, take_broadcast, take_single, deliver, channel_step}
use Rattle.automaton.specs.Refusals.{otherwise, channel_refusal}
use Rattle.automaton.specs.Holding.{holds}
use Rattle.automaton.proofs.RefusalsSmall.{cond_small, channel_small}
use Rattle.channel.specs.Layout.{channel_words, cards_of, tasks_of, count_of, broadcast_block, made_of}
use Rattle.names.specs.CardSet.{several}
use Rattle.names.specs.Letters.{letter_at}
use Rattle.names.specs.Results.{is_taken, result_from}
use Rattle.names.proofs.Results.{taken_zero, result_plain, taken_is}
use Rattle.channel.specs.Letters.{fits}
use Rattle.names.specs.Refusals.{result_number, number_of}
use Rattle.channel.specs.Answers.{is_done}
use Rattle.channel.specs.Inbox.{got_of, popped, receive_answer, receive_memory}
use Rattle.channel.specs.TakeBroadcast.{take_answer, take_memory}
use Rattle.channel.specs.TakeSingle.{single_answer, single_memory}
use Rattle.channel.specs.Dispatch.{cast_answer, cast_memory, fly_answer, fly_memory, letter_to, dispatch_answer, dispatch_memory}
use Rattle.channel.specs.Sized.{well_sized}
use Rattle.channel.specs.Shows.{letter_mail, Shows, state_of}
use Rattle.automaton.specs.Calls.{done}
use Rattle.channel.specs.MemoryCalls.{Call, dispatch_call, take_broadcast_call, take_single_call, receive_call, call_number, call_memory, action_of, or_else, absent, unfit, call_refusal, call_result, letters, CallFollows}
use Rattle.channel.proofs.SizedFacts.{Sized}
use Rattle.channel.proofs.AnswerNumbers.{done_number}
use Rattle.channel.proofs.Receiving.{receive_number, receive_left}
use Rattle.channel.proofs.TakeBroadcastLaw.{take_number, take_left}
use Rattle.channel.proofs.TakeSingleLaw.{single_number, single_left}
use Rattle.channel.proofs.DispatchLaw.{or_else_small, six_small, dispatch_number_lem, dispatch_left}
use Rattle.channel.proofs.WellSizedParts.{Fit, fit_of, of_fit}
use Rattle.channel.proofs.FitKept.{sized_of}
use Rattle.channel.proofs.SizedReceive.{receive_keeps}
use Rattle.channel.proofs.SizedTakeBroadcast.{take_keeps}
use Rattle.channel.proofs.SizedTakeSingle.{single_keeps}
use Rattle.channel.proofs.SizedDispatch.{dispatch_keeps}
use Rattle.lists.specs.Listings.{listing_length}
use Rattle.lists.specs.Tests.{clash}

-- ---- refusals

-- done: nothing refuses it
pub refused_is : (ms : List ℕ) (w : ChannelState Letter) (x : ChannelAction Letter) → done (letters ms) w x ≡ eqb (call_refusal ms w x) 0
unfolding call_refusal
refused_is ms w x = go (absent ms x) (channel_refusal letter_mail (cards_of ms) w x) (unfit ms x)
  where
    go : (a r u : ℕ) → (eqb a 0 && eqb u 0 && eqb r 0) ≡ eqb (or_else a (or_else r u)) 0
    go a r u = first (eqb a 0) refl
      where
        second : (b : Bool) → eqb r 0 ≡ b → (eqb u 0 && b) ≡ eqb (cond b u r) 0
        second true e = last (eqb u 0) refl
          where
            last : (c : Bool) → eqb u 0 ≡ c → (c && true) ≡ eqb u 0
            last true q = sym q
            last false q = sym q
        second false e = last (eqb u 0)
          where
            last : (c : Bool) → (c && false) ≡ eqb r 0
            last true = sym e
            last false = sym e

        first : (b : Bool) → eqb a 0 ≡ b → (b && eqb u 0 && eqb r 0) ≡ eqb (cond b (or_else r u) a) 0
        first true e = second (eqb r 0) refl
        first false e = sym e

-- and no refusal is as large as the number of a held message
call_small : (ms : List ℕ) (w : ChannelState Letter) (x : ChannelAction Letter) → call_refusal ms w x < 100
unfolding call_refusal
call_small ms w x =
    or_else_small (absent ms x) _ (away x) (or_else_small (channel_refusal letter_mail (cards_of ms) w x) (unfit ms x) (channel_small letter_mail (cards_of ms) w x) (unfits x))
  where
    away : (y : ChannelAction Letter) → absent ms y < 100
    away (dispatch i l) = cond_small (ltb i (cards_of ms)) 0 14 (omega arith) (omega arith)
    away (take_broadcast i) = cond_small (ltb i (cards_of ms)) 0 14 (omega arith) (omega arith)
    away (take_single t) = cond_small (ltb t (tasks_of ms)) 0 12 (omega arith) (omega arith)
    away (deliver i) = cond_small (ltb i (cards_of ms)) 0 14 (omega arith) (omega arith)

    unfits : (y : ChannelAction Letter) → unfit ms y < 100
    unfits (dispatch i l) = six_small (fits ms l)
    unfits (take_broadcast i) = omega arith
    unfits (take_single t) = omega arith
    unfits (deliver i) = omega arith

-- so a result says taken exactly if the call is done
pub taken_done : (ms : List ℕ) (w : ChannelState Letter) (x : ChannelAction Letter) → is_taken (call_result ms w x) ≡ done (letters ms) w x
unfolding call_result
taken_done ms w x = taken_is (call_refusal ms w x) (holds letter_mail w x) (call_small ms w x) ∙ sym (refused_is ms w x)

-- a card or a task that is absent, else what else refuses it
present : (b : Bool) (r n : ℕ) → n ≢ 0 → cond b r n ≡ or_else (cond b 0 n) r
present true r n h = refl
present false r n h = rw (ne_eqb n 0 h)

fine : (r : ℕ) → r ≡ or_else r 0
fine r = go (eqb r 0) refl
  where
    go : (b : Bool) → eqb r 0 ≡ b → r ≡ cond b 0 r
    go true e = eqb-true r 0 e
    go false e = refl

-- ---- a refused call leaves the memory

left_alone : (ws us : List ℕ) (a : Result Taken Refusal) → is_taken (result_number a) ≡ false → cond (is_done a) us ws ≡ ws
left_alone ws us a h = rw (done_number a, h)

cast_alone : (ws : List ℕ) (l : Letter) → is_taken (result_number (cast_answer ws l)) ≡ false → cast_memory ws l ≡ ws
unfolding cast_memory
cast_alone ws l h = left_alone ws _ (cast_answer ws l) h

fly_alone : (ws : List ℕ) (i : ℕ) (l : Letter) → is_taken (result_number (fly_answer ws l)) ≡ false → fly_memory ws i l ≡ ws
unfolding fly_memory
fly_alone ws i l h = left_alone ws _ (fly_answer ws l) h

-- ---- the four calls

module _ (ws : List ℕ) (w : ChannelState Letter) (long : length ws ≡ channel_words) (ok : well_sized ws ≡ true) (v : Shows ws w) where
  f : Fit ws
  f = fit_of ws ok

  z : Sized ws
  z = sized_of ws long f

  -- a call that holds no message answers its refusal
  plain : (x : ChannelAction Letter) → holds letter_mail w x ≡ false → call_refusal ws w x ≡ call_result ws w x
  unfolding call_result
  plain x e = rw e (sym (result_plain (call_refusal ws w x)))

  -- the memory left shows what the idealised call leaves, where it does for a number that is the refusal
  reads : (us : List ℕ) (x : ChannelAction Letter) (r : ℕ) → r ≡ call_refusal ws w x → Shows us (cond (eqb r 0) (channel_step letter_mail w x) w)
      → Shows us (cond (done (letters ws) w x) (channel_step letter_mail w x) w)
  reads us x r e s = rw (refused_is ws w x, ← e) s

  dispatch_refusal_lem : (card : Card) (m : Message) (to : ℕ)
      → cond (ltb card.0 (cards_of ws))
      (or_else (channel_refusal letter_mail (cards_of ws) w (dispatch card.0 (letter_to m to))) (otherwise 6 (fits ws (letter_to m to)))) 14
      ≡ call_refusal ws w (action_of (dispatch_call card m to))
  unfolding call_refusal
  dispatch_refusal_lem card m to = present (ltb card.0 (cards_of ws)) _ 14 (omega arith)

  take_refusal_lem : (card : Card)
      → cond (ltb card.0 (cards_of ws)) (channel_refusal letter_mail (cards_of ws) w (take_broadcast card.0)) 14
      ≡ call_refusal ws w (action_of (take_broadcast_call card))
  unfolding call_refusal
  take_refusal_lem card = ap (λ r. cond (ltb card.0 (cards_of ws)) r 14) (fine _) ∙ present (ltb card.0 (cards_of ws)) _ 14 (omega arith)

  single_refusal_lem : (task : Task)
      → cond (ltb task.0 (tasks_of ws)) (channel_refusal letter_mail (cards_of ws) w (take_single task.0)) 12 ≡ call_refusal ws w (action_of (take_single_call task))
  unfolding call_refusal
  single_refusal_lem task = ap (λ r. cond (ltb task.0 (tasks_of ws)) r 12) (fine _) ∙ present (ltb task.0 (tasks_of ws)) _ 12 (omega arith)

  receive_refusal_lem : (card : Card)
      → cond (ltb card.0 (cards_of ws)) (channel_refusal letter_mail (cards_of ws) w (deliver card.0)) 14 ≡ call_refusal ws w (action_of (receive_call card))
  unfolding call_refusal
  receive_refusal_lem card = ap (λ r. cond (ltb card.0 (cards_of ws)) r 14) (fine _) ∙ present (ltb card.0 (cards_of ws)) _ 14 (omega arith)

  dispatch_follows : (card : Card) (m : Message) (to : ℕ) → CallFollows ws w (dispatch_call card m to)
  unfolding call_number call_memory channel_refusal dispatch_answer dispatch_memory
  dispatch_follows card m to =
      let k = dispatch_keeps ws long f card m to in
      let n = dispatch_number_lem ws w z v card m to in
      record {
        number = n ∙ dispatch_refusal_lem card m to ∙ plain (action_of (dispatch_call card m to)) refl;
        shows = reads (dispatch_memory ws card m to) (action_of (dispatch_call card m to)) _ (dispatch_refusal_lem card m to) (dispatch_left ws w z v card m to);
        sized = of_fit (dispatch_memory ws card m to) k.fit;
        long = k.long;
        sizes = k.sizes;
        untouched = λ h. alone (ltb card.0 (cards_of ws)) (several to) h;
      }
    where
      l : Letter
      l = letter_to m to

      alone : (b c : Bool) → is_taken (result_number (cond b (cond c (cast_answer ws l) (fly_answer ws l)) (Err NoCard))) ≡ false
          → cond b (cond c (cast_memory ws l) (fly_memory ws card.0 l)) ws ≡ ws
      alone true true h = cast_alone ws l h
      alone true false h = fly_alone ws card.0 l h
      alone false c h = refl

  take_follows : (card : Card) → CallFollows ws w (take_broadcast_call card)
  unfolding call_number call_memory channel_refusal take_memory
  take_follows card =
      let k = take_keeps ws long f card in
      record {
        number = take_number ws w z v card ∙ take_refusal_lem card ∙ plain (action_of (take_broadcast_call card)) refl;
        shows = reads (take_memory ws card) (action_of (take_broadcast_call card)) _ (take_refusal_lem card) (take_left ws w z v card);
        sized = of_fit (take_memory ws card) k.fit;
        long = k.long;
        sizes = k.sizes;
        untouched = λ h. left_alone ws _ (take_answer ws card) h;
      }

  single_follows : (task : Task) → CallFollows ws w (take_single_call task)
  unfolding call_number call_memory call_result channel_refusal single_memory
  single_follows task =
      let k = single_keeps ws long f task in
      record {
        number = single_number ws w z v task ∙ ap (λ r. result_from r (holds letter_mail w (take_single task.0))) (single_refusal_lem task);
        shows = reads (single_memory ws task) (action_of (take_single_call task)) _ (single_refusal_lem task) (single_left ws w z v task);
        sized = of_fit (single_memory ws task) k.fit;
        long = k.long;
        sizes = k.sizes;
        untouched = λ h. left_alone ws _ (single_answer ws task) h;
      }

  receive_follows : (card : Card) → CallFollows ws w (receive_call card)
  unfolding call_number call_memory channel_refusal receive_memory receive_answer got_of popped
  receive_follows card =
      let k = receive_keeps ws long f card in
      record {
        number = receive_number ws w z v card ∙ receive_refusal_lem card ∙ plain (action_of (receive_call card)) refl;
        shows = reads (receive_memory ws card) (action_of (receive_call card)) _ (receive_refusal_lem card) (receive_left ws w z v card);
        sized = of_fit (receive_memory ws card) k.fit;
        long = k.long;
        sizes = k.sizes;
        untouched = λ h. alone (ltb card.0 (cards_of ws)) (eqb (count_of ws card.0) 0) _ _ h;
      }
    where
      alone : (b c : Bool) (m : Message) (us : List ℕ) → is_taken (number_of (cond b (cond c (Err NothingToDeliver) (Ok m)) (Err NoCard))) ≡ false → cond b (cond c ws us) ws ≡ ws
      alone true true m us h = refl
      alone true false m us h = absurd (clash taken_zero h)
      alone false c m us h = refl

  pub call_follows : (c : Call) → CallFollows ws w c
  call_follows (dispatch_call card m to) = dispatch_follows card m to
  call_follows (take_broadcast_call card) = take_follows card
  call_follows (take_single_call task) = single_follows task
  call_follows (receive_call card) = receive_follows card

-- every memory shows a state
pub shows_state : (ws : List ℕ) → Shows ws (state_of ws)
unfolding state_of
shows_state ws = record {
  made= = listing_length _ (made_of ws);
  sent= = λ n p q. nth_listing (λ k. letter_at ws (broadcast_block (k + 1))) (made_of ws) n p;
  taken= = λ i c. refl;
  flight= = λ t h. refl;
  held= = λ i c. refl;
  inbox= = λ i c. refl;
}

-- so each call on a well-sized memory follows the idealised channel, whether or not calls ever lead to it
pub any_follows : (ws : List ℕ) → length ws ≡ channel_words → well_sized ws ≡ true → (c : Call) → CallFollows ws (state_of ws) c
any_follows ws long ok c = call_follows ws (state_of ws) long ok (shows_state ws) c
