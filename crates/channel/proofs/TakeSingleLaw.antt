-- `take_single` answers and does what the idealised step 8 does.
use Prim.Native.Nat.{ℕ, ◌<◌}
use mathlib.Core.Path.{◌≡◌, refl, ◌∙◌}
use mathlib.Core.Bool.{Bool, true, false, cond, not}
use mathlib.Core.List.{List}
use mathlib.Core.Option.{none, some}
use native.Mathlib.Omega.{arith}
use borrow.Author.Tests.{ltb-true, leb-true, leb-false, le-ltb, lt-ltb}
use lib.Dec.{eqb, ltb, leb}
use Rattle.names.specs.declared.Task.{Task}
use Rattle.names.specs.declared.Letter.{Letter}
use Rattle.std.specs.Prelude.{Result, Err}
use Rattle.names.specs.declared.refusals.Refusal.{Refusal}
use Rattle.names.specs.declared.refusals.Refusal.TheVariants.{IllSized, NoTask, NoneInFlight}
use Rattle.names.specs.declared.refusals.Taken.{Taken}
use Rattle.automaton.specs.State.{Tagged, ChannelState, arriving}
use Rattle.automaton.specs.Refusals.{otherwise, single_refusal}
use Rattle.automaton.specs.Holding.{held_back}
use Rattle.automaton.proofs.RefusalsSmall.{cond_small, single_small}
use Rattle.channel.specs.Layout.{flight_block, cards_of, tasks_of, count_of, held_count_of}
use Rattle.names.specs.CardSet.{single}
use Rattle.names.specs.Results.{result_from}
use Rattle.names.specs.Refusals.{result_number}
use Rattle.channel.specs.Answers.{is_done, unless_full}
use Rattle.channel.specs.TakeSingle.{no_flight, flight_letter, flight_tag, flight_to, joins_at, land_answer, single_answer, single_memory}
use Rattle.channel.specs.Shows.{letter_mail, tagged_at, flight_of, Shows}
use Rattle.channel.proofs.SizedFacts.{Sized}
use Rattle.channel.proofs.AnswerNumbers.{done_is, picked, passed, settle}
use Rattle.channel.proofs.Landing.{land_shows}
use Rattle.channel.proofs.TakeBroadcastLaw.{inbox_length, held_length}

-- what a done call knew
pub record Landed (ws : List ℕ) (t : ℕ) : Type 0 where
  pub present : t < tasks_of ws
  pub flying : no_flight ws t ≡ false
  pub room_in : cond (joins_at ws (flight_to ws t) (flight_tag ws t)) (count_of ws (flight_to ws t)) 0 < 48
  pub room_held : cond (joins_at ws (flight_to ws t) (flight_tag ws t)) 0 (held_count_of ws (flight_to ws t)) < 16

pub landed_knew : (ws : List ℕ) (task : Task) → is_done (single_answer ws task) ≡ true → Landed ws task.0
unfolding single_answer land_answer is_done
landed_knew ws task e =
    let t : ℕ = task.0 in
    let a = picked (ltb t (tasks_of ws)) _ (Err NoTask) refl e in
    let b = passed (no_flight ws t) (Err NoneInFlight) _ refl a.1 in
    let c = picked (single (flight_letter ws t).to) _ (Err IllSized) refl b.1 in
    let r = room (flight_to ws t) (joins_at ws (flight_to ws t) (flight_tag ws t)) _ _ c.1 in
    record { present = ltb-true t (tasks_of ws) a.0; flying = b.0; room_in = r.0; room_held = r.1 }
  where
    room : (i : ℕ) (b : Bool) (joined held : Result Taken Refusal) → is_done (cond b (unless_full (leb 48 (count_of ws i)) joined) (unless_full (leb 16 (held_count_of ws i)) held)) ≡ true
        → (cond b (count_of ws i) 0 < 48) × (cond b 0 (held_count_of ws i) < 16)
    room i true joined held q = (leb-false 48 (count_of ws i) (passed (leb 48 (count_of ws i)) (Err IllSized) joined refl q).0, omega arith)
    room i false joined held q = (omega arith, leb-false 16 (held_count_of ws i) (passed (leb 16 (held_count_of ws i)) (Err IllSized) held refl q).0)

module _ (ws : List ℕ) (w : ChannelState Letter) (z : Sized ws) (v : Shows ws w) (task : Task) where
  abbrev t : ℕ
  t = task.0

  abbrev x : Tagged Letter
  x = tagged_at ws (flight_block t)

  abbrev i : ℕ
  i = flight_to ws t

  flies : t < tasks_of ws → no_flight ws t ≡ false → w.flight t ≡ some x
  unfolding flight_of
  flies h e = v.flight= t h ∙ rw e

  none_flies : t < tasks_of ws → no_flight ws t ≡ true → w.flight t ≡ none
  unfolding flight_of
  none_flies h e = v.flight= t h ∙ rw e

  joins_is : i < cards_of ws → joins_at ws i (flight_tag ws t) ≡ leb x.mark (w.taken i)
  unfolding joins_at
  joins_is c = rw (v.taken= i c)

  land_number : i < cards_of ws → result_number (land_answer ws i (joins_at ws i (flight_tag ws t))) ≡ result_from (single_refusal letter_mail (cards_of ws) w (some x)) (held_back letter_mail w (some x))
  unfolding land_answer result_from
  land_number c = rw (joins_is c, v.inbox= i c, v.held= i c, inbox_length ws i, held_length ws i) (go (leb x.mark (w.taken i)) (leb 48 (count_of ws i)) refl (leb 16 (held_count_of ws i)) refl)
    where
      go : (b full : Bool) → leb 48 (count_of ws i) ≡ full → (crowded : Bool) → leb 16 (held_count_of ws i) ≡ crowded
          → result_number (land_answer ws i b) ≡ result_from (cond b (otherwise 6 (ltb (count_of ws i) 48)) (otherwise 6 (ltb (held_count_of ws i) 16))) (not b)
      go true true e d f = rw (e, le-ltb (count_of ws i) 48 (leb-true 48 (count_of ws i) e))
      go true false e d f = rw (e, lt-ltb (count_of ws i) 48 (leb-false 48 (count_of ws i) e))
      go false c e true f = rw (f, le-ltb (held_count_of ws i) 16 (leb-true 16 (held_count_of ws i) f))
      go false c e false f = rw (f, lt-ltb (held_count_of ws i) 16 (leb-false 16 (held_count_of ws i) f))

  -- 12, 32, 6 as the idealised step has them
  abbrev refusal : ℕ
  refusal = cond (ltb t (tasks_of ws)) (single_refusal letter_mail (cards_of ws) w (w.flight t)) 12

  -- and 100 where it holds the message
  pub single_number : result_number (single_answer ws task) ≡ result_from refusal (held_back letter_mail w (w.flight t))
  unfolding single_answer result_from
  single_number = go (ltb t (tasks_of ws)) refl
    where
      here : t < tasks_of ws → (b : Bool) → no_flight ws t ≡ b
          → result_number (cond b (Err NoneInFlight) (cond (single (flight_letter ws t).to) (land_answer ws i (joins_at ws i (flight_tag ws t))) (Err IllSized)))
          ≡ result_from (single_refusal letter_mail (cards_of ws) w (w.flight t)) (held_back letter_mail w (w.flight t))
      here h true e = rw (none_flies h e)
      here h false e = let f = z.flights t h e in rw (f.0, flies h e) (land_number f.1)

      go : (b : Bool) → ltb t (tasks_of ws) ≡ b
          → result_number (cond b (cond (no_flight ws t) (Err NoneInFlight)
          (cond (single (flight_letter ws t).to) (land_answer ws i (joins_at ws i (flight_tag ws t))) (Err IllSized))) (Err NoTask))
          ≡ result_from (cond b (single_refusal letter_mail (cards_of ws) w (w.flight t)) 12) (held_back letter_mail w (w.flight t))
      go true e = here (ltb-true t (tasks_of ws) e) (no_flight ws t) refl
      go false e = refl

  small : refusal < 100
  small = cond_small (ltb t (tasks_of ws)) _ 12 (single_small letter_mail (cards_of ws) w (w.flight t)) (omega arith)

  pub single_left : Shows (single_memory ws task) (cond (eqb refusal 0) (arriving letter_mail w t (w.flight t)) w)
  unfolding single_memory
  single_left =
      settle ws _ w _ (single_answer ws task) refusal (done_is (single_answer ws task) refusal (held_back letter_mail w (w.flight t)) small single_number) v
      (λ e. let k = landed_knew ws task e in let c = (z.flights t k.present k.flying).1 in
      rw (flies k.present k.flying, ← joins_is c) (land_shows ws w z v t k.present c (joins_at ws i (flight_tag ws t)) k.room_in k.room_held))
