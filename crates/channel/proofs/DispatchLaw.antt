-- `dispatch` answers and does what the idealised step 6 does.
use Prim.Native.Nat.{ℕ, suc, ◌<◌}
use mathlib.Core.Path.{◌≡◌, refl, ap}
use mathlib.Core.Bool.{Bool, true, false, cond}
use mathlib.Core.List.{List}
use mathlib.Core.Option.{Option, none, some}
use native.Mathlib.Numerals.{add-one}
use native.Mathlib.Omega.{arith}
use borrow.Author.Tests.{ltb-true}
use lib.Dec.{eqb, ltb}
use lib.ListN.{length}
use Rattle.lists.specs.Every.{each, each_cong}
use Rattle.names.specs.declared.Card.{Card}
use Rattle.names.specs.declared.Message.{Message}
use Rattle.names.specs.declared.Letter.{Letter}
use Rattle.std.specs.Prelude.{Ok, Err}
use Rattle.names.specs.declared.refusals.Refusal.TheVariants.{FarBehind, IllSized, NoCard}
use Rattle.names.specs.declared.refusals.Taken.TheVariants.{Done}
use Rattle.automaton.specs.State.{Tagged, ChannelState, dispatching}
use Rattle.automaton.specs.Refusals.{otherwise, broadcast_refusal, flight_refusal, dispatch_refusal}
use Rattle.automaton.specs.MostBehind.{keeps_up}
use Rattle.automaton.proofs.RefusalsSmall.{otherwise_small, cond_small, flight_small, broadcast_small}
use Rattle.channel.specs.Layout.{cards_of, made_of, taken_of, flight_block}
use Rattle.names.specs.CardSet.{several}
use Rattle.channel.specs.Letters.{fits}
use Rattle.names.specs.Refusals.{result_number}
use Rattle.channel.specs.Answers.{is_done}
use Rattle.channel.specs.TakeSingle.{no_flight}
use Rattle.channel.specs.Dispatch.{near_at, near, cast_answer, cast_memory, fly_answer, fly_memory, letter_to, dispatch_answer, dispatch_memory}
use Rattle.channel.specs.Shows.{letter_mail, tagged_at, flight_of, Shows}
use Rattle.channel.specs.MemoryCalls.{or_else}
use Rattle.channel.proofs.SizedFacts.{Sized}
use Rattle.channel.proofs.AnswerNumbers.{done_plain, picked, settle}
use Rattle.channel.proofs.LetterFits.{fits_is, fits_packs}
use Rattle.channel.proofs.Sending.{fly_shows, cast_shows}

-- numbers below 100
pub or_else_small : (r s : ℕ) → r < 100 → s < 100 → or_else r s < 100
or_else_small r s h g = cond_small (eqb r 0) s r g h

pub six_small : (b : Bool) → otherwise 6 b < 100
six_small b = otherwise_small 6 b (omega arith)

module _ (ws : List ℕ) (w : ChannelState Letter) (z : Sized ws) (v : Shows ws w) where
  -- 34 looks at each present card
  near_is : near ws ≡ each (cards_of ws) (λ i. keeps_up (suc (length w.sent)) (w.taken i))
  unfolding near near_at
  near_is = each_cong (cards_of ws) _ _ (λ i c. rw (v.made=, v.taken= i c) (ap (λ n. keeps_up n (taken_of ws i)) (add-one (made_of ws))))

  abbrev cast_refusal : Letter → ℕ
  cast_refusal l = or_else (broadcast_refusal letter_mail (cards_of ws) w) (otherwise 6 (fits ws l))

  abbrev fly_refusal : Letter → ℕ
  fly_refusal l = or_else (flight_refusal letter_mail (cards_of ws) (w.flight l.message.task.0)) (otherwise 6 (fits ws l))

  cast_number : (l : Letter) → result_number (cast_answer ws l) ≡ cast_refusal l
  unfolding cast_answer
  cast_number l = rw (near_is, v.made=) (go (each (cards_of ws) (λ i. keeps_up (suc (made_of ws)) (w.taken i))) (fits ws l) (ltb (made_of ws) 65535))
    where
      go : (a b c : Bool) → result_number (cond a (cond b (cond c (Ok Done) (Err IllSized)) (Err IllSized)) (Err FarBehind)) ≡ or_else (cond a (otherwise 6 c) 34) (otherwise 6 b)
      go true true true = refl
      go true true false = refl
      go true false true = refl
      go true false false = refl
      go false true true = refl
      go false true false = refl
      go false false true = refl
      go false false false = refl

  fly_number : (l : Letter) → result_number (fly_answer ws l) ≡ fly_refusal l
  unfolding fly_answer flight_of
  fly_number l = go (fits ws l) refl
    where
      slot : (b : Bool) (x : Tagged Letter) → result_number (cond b (Ok Done) (Err IllSized)) ≡ or_else (flight_refusal letter_mail (cards_of ws) (cond b none (some x))) 0
      slot true x = refl
      slot false x = refl

      bad : (o : Option (Tagged Letter)) → 6 ≡ or_else (flight_refusal letter_mail (cards_of ws) o) 6
      bad none = refl
      bad (some x) = refl

      go : (b : Bool) → fits ws l ≡ b → result_number (cond b (cond (no_flight ws l.message.task.0) (Ok Done) (Err IllSized)) (Err IllSized))
          ≡ or_else (flight_refusal letter_mail (cards_of ws) (w.flight l.message.task.0)) (otherwise 6 b)
      go true e =
          rw (v.flight= l.message.task.0 (fits_is ws l e).task) (slot (no_flight ws l.message.task.0) (tagged_at ws (flight_block l.message.task.0)))
      go false e = bad (w.flight l.message.task.0)

  module _ (card : Card) (m : Message) (to : ℕ) where
    abbrev i : ℕ
    i = card.0

    abbrev l : Letter
    l = letter_to m to

    -- 14, 34, 6 as the idealised step has them; 6 too for a letter that does not fit
    pub dispatch_number_lem : result_number (dispatch_answer ws card m to)
        ≡ cond (ltb i (cards_of ws)) (or_else (dispatch_refusal letter_mail (cards_of ws) w l) (otherwise 6 (fits ws l))) 14
    unfolding dispatch_answer
    dispatch_number_lem = go (ltb i (cards_of ws)) (several to)
      where
        go : (b c : Bool) → result_number (cond b (cond c (cast_answer ws l) (fly_answer ws l)) (Err NoCard))
            ≡ cond b (or_else (cond c (broadcast_refusal letter_mail (cards_of ws) w) (flight_refusal letter_mail (cards_of ws) (w.flight m.task.0))) (otherwise 6 (fits ws l))) 14
        go true true = cast_number l
        go true false = fly_number l
        go false c = refl

    cast_left : Shows (cast_memory ws l) (cond (eqb (cast_refusal l) 0) (dispatching letter_mail true w i l) w)
    unfolding cast_memory cast_answer is_done
    cast_left =
        settle ws _ w _ (cast_answer ws l) (cast_refusal l)
        (done_plain (cast_answer ws l) (cast_refusal l) (or_else_small (broadcast_refusal letter_mail (cards_of ws) w) (otherwise 6 (fits ws l)) (broadcast_small letter_mail (cards_of ws) w) (six_small (fits ws l))) (cast_number l)) v
        (λ e. cast_shows ws w z v i l (fits_packs ws l (picked (fits ws l) _ (Err IllSized) refl (picked (near ws) _ (Err FarBehind) refl e).1).0))

    fly_left : i < cards_of ws → Shows (fly_memory ws i l) (cond (eqb (fly_refusal l) 0) (dispatching letter_mail false w i l) w)
    unfolding fly_memory fly_answer is_done
    fly_left c =
        settle ws _ w _ (fly_answer ws l) (fly_refusal l)
        (done_plain (fly_answer ws l) (fly_refusal l) (or_else_small (flight_refusal letter_mail (cards_of ws) (w.flight m.task.0)) (otherwise 6 (fits ws l)) (flight_small letter_mail (cards_of ws) w (w.flight m.task.0)) (six_small (fits ws l))) (fly_number l)) v
        (λ e. let f = (picked (fits ws l) _ (Err IllSized) refl e).0 in fly_shows ws w z v i l c (fits_is ws l f).task (fits_packs ws l f))

    pub dispatch_left : Shows (dispatch_memory ws card m to)
        (cond (eqb (cond (ltb i (cards_of ws)) (or_else (dispatch_refusal letter_mail (cards_of ws) w l) (otherwise 6 (fits ws l))) 14) 0) (dispatching letter_mail (several to) w i l) w)
    unfolding dispatch_memory
    dispatch_left = go (ltb i (cards_of ws)) refl (several to)
      where
        go : (b : Bool) → ltb i (cards_of ws) ≡ b → (c : Bool)
            → Shows (cond b (cond c (cast_memory ws l) (fly_memory ws i l)) ws)
            (cond (eqb (cond b (or_else (cond c (broadcast_refusal letter_mail (cards_of ws) w) (flight_refusal letter_mail (cards_of ws) (w.flight m.task.0))) (otherwise 6 (fits ws l))) 14) 0)
            (dispatching letter_mail c w i l) w)
        go true e true = cast_left
        go true e false = fly_left (ltb-true i (cards_of ws) e)
        go false e c = v
