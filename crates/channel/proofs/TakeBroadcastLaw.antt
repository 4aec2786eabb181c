-- `take_broadcast` answers and does what the idealised step 7 does.
use Prim.Native.Nat.{ℕ, ◌+◌, ◌<◌, ◌≤◌, min}
use mathlib.Core.Path.{◌≡◌, refl, sym, ◌∙◌}
use mathlib.Core.Bool.{Bool, true, false, cond, ◌&&◌}
use mathlib.Core.List.{List, [], ◌∷◌, ◌++◌}
use native.Mathlib.Numerals.{add-one}
use native.Mathlib.Omega.{arith}
use borrow.Author.Tests.{ltb-true, ltb-false}
use lib.Dec.{eqb, ltb, leb}
use lib.ListN.{length, length-append}
use Rattle.lists.specs.Filters.{filter}
use Rattle.lists.specs.Counts.{filter_listing}
use Rattle.lists.specs.Listings.{listing_length}
use Rattle.lists.specs.Queues.{push}
use Rattle.lists.specs.Places.{nth, nth_past}
use Rattle.names.specs.declared.Card.{Card}
use Rattle.names.specs.declared.Letter.{Letter}
use Rattle.std.specs.Prelude.{Ok, Err}
use Rattle.names.specs.declared.refusals.Refusal.TheVariants.{Crowded, IllSized, NoBroadcast, NoCard}
use Rattle.names.specs.declared.refusals.Taken.TheVariants.{Done}
use Rattle.automaton.specs.State.{Tagged, ChannelState, released, taking}
use Rattle.automaton.specs.Refusals.{otherwise, take_refusal}
use Rattle.channel.specs.Layout.{held_block, place_of, cards_of, made_of, taken_of, count_of, held_count_of}
use Rattle.names.specs.Letters.{letter_at}
use Rattle.names.specs.Refusals.{result_number}
use Rattle.channel.specs.Answers.{is_done}
use Rattle.channel.specs.TakeBroadcast.{ready_at, releasable_of, broadcast_at, broadcasts_of, next_letter, next_there, room_answer, take_answer, take_memory}
use Rattle.channel.specs.Shows.{letter_mail, tagged_at, inbox_of, held_of, Shows}
use Rattle.automaton.proofs.ReleasedLists.{released_count}
use Rattle.automaton.proofs.RefusalsSmall.{cond_small, take_small}
use Rattle.channel.proofs.SizedFacts.{Sized}
use Rattle.channel.proofs.AnswerNumbers.{done_plain, above, picked, passed, settle}
use Rattle.channel.proofs.Taking.{next_is, take_shows}

-- ---- the counts

releasable_is : (ws : List ℕ) (i n : ℕ) → held_count_of ws i ≤ 16 → releasable_of ws i n ≡ length (released n (held_of ws i))
unfolding releasable_of held_of ready_at
releasable_is ws i n h =
    let e : min (held_count_of ws i) 16 ≡ held_count_of ws i = omega arith in
    rw e (sym (released_count n (held_of ws i) ∙ filter_listing (λ (x : Tagged Letter). eqb x.mark n) (λ k. tagged_at ws (held_block i k)) (held_count_of ws i)))

broadcasts_is : (ws : List ℕ) (i : ℕ) → count_of ws i ≤ 48 → broadcasts_of ws i ≡ length (filter letter_mail.multi (inbox_of ws i))
unfolding broadcasts_of inbox_of broadcast_at
broadcasts_is ws i h =
    let e : min (count_of ws i) 48 ≡ count_of ws i = omega arith in
    rw e (sym (filter_listing letter_mail.multi (λ k. letter_at ws (place_of ws i k)) (count_of ws i)))

pub inbox_length : (ws : List ℕ) (i : ℕ) → length (inbox_of ws i) ≡ count_of ws i
unfolding inbox_of
inbox_length ws i = listing_length _ (count_of ws i)

pub held_length : (ws : List ℕ) (i : ℕ) → length (held_of ws i) ≡ held_count_of ws i
unfolding held_of
held_length ws i = listing_length _ (held_count_of ws i)

pub push_length : (t : Bool) (l : Letter) (s : List Letter) → length (push t l s) ≡ length s + cond t 1 0
push_length true l s = length-append s (l ∷ [])
push_length false l s = omega arith

-- ---- the answers

-- whether there is room
room_number : (ws : List ℕ) (i n : ℕ) (there : Bool) (l : Letter) → count_of ws i ≤ 48 → held_count_of ws i ≤ 16
    → result_number (room_answer ws i n there)
    ≡ cond (there && leb 32 (length (filter letter_mail.multi (inbox_of ws i)))) 35
    (otherwise 6 (leb (length (push there l (inbox_of ws i) ++ released n (held_of ws i))) 48))
unfolding room_answer
room_number ws i n there l c h =
    rw (length-append, push_length there l (inbox_of ws i), inbox_length ws i, releasable_is ws i n h, broadcasts_is ws i c) (go there)
  where
    r : ℕ
    r = length (released n (held_of ws i))

    b : ℕ
    b = length (filter letter_mail.multi (inbox_of ws i))

    go : (t : Bool)
        → result_number (cond t (cond (leb 32 b) (Err Crowded) (cond (ltb 48 (count_of ws i + r + 1)) (Err IllSized) (Ok Done))) (cond (ltb 48 (count_of ws i + r)) (Err IllSized) (Ok Done)))
        ≡ cond (t && leb 32 b) 35 (otherwise 6 (leb (count_of ws i + cond t 1 0 + r) 48))
    go false = let e : count_of ws i + 0 + r ≡ count_of ws i + r = omega arith in rw e (above (count_of ws i + r) 48)
    go true = let e : count_of ws i + 1 + r ≡ count_of ws i + r + 1 = omega arith in rw e (busy (leb 32 b))
      where
        busy : (u : Bool)
            → result_number (cond u (Err Crowded) (cond (ltb 48 (count_of ws i + r + 1)) (Err IllSized) (Ok Done))) ≡ cond u 35 (otherwise 6 (leb (count_of ws i + r + 1) 48))
        busy true = refl
        busy false = above (count_of ws i + r + 1) 48

-- if it is done, there was
room_done : (ws : List ℕ) (i n : ℕ) (there : Bool) → held_count_of ws i ≤ 16 → is_done (room_answer ws i n there) ≡ true
    → count_of ws i + length (released n (held_of ws i)) + cond there 1 0 ≤ 48
unfolding room_answer is_done
room_done ws i n true h e =
    let r = releasable_is ws i n h in
    let a = passed (leb 32 (broadcasts_of ws i)) (Err Crowded) _ refl e in
    let b = passed (ltb 48 (count_of ws i + releasable_of ws i n + 1)) (Err IllSized) (Ok Done) refl a.1 in
    omega (arith, ltb-false 48 (count_of ws i + releasable_of ws i n + 1) b.0)
room_done ws i n false h e =
    let r = releasable_is ws i n h in
    let b = passed (ltb 48 (count_of ws i + releasable_of ws i n)) (Err IllSized) (Ok Done) refl e in
    omega (arith, ltb-false 48 (count_of ws i + releasable_of ws i n) b.0)

-- what a done call knew
pub record Took (ws : List ℕ) (card : Card) : Type 0 where
  pub there : card.0 < cards_of ws
  pub more : taken_of ws card.0 < made_of ws
  pub room : count_of ws card.0 + length (released (taken_of ws card.0 + 1) (held_of ws card.0)) + cond (next_there ws card.0) 1 0 ≤ 48

pub took : (ws : List ℕ) → Sized ws → (card : Card) → is_done (take_answer ws card) ≡ true → Took ws card
unfolding take_answer is_done
took ws z card e =
    let i : ℕ = card.0 in
    let a = picked (ltb i (cards_of ws)) _ (Err NoCard) refl e in
    let b = picked (ltb (taken_of ws i) (made_of ws)) _ (Err NoBroadcast) refl a.1 in
    let c = ltb-true i (cards_of ws) a.0 in
    record { there = c; more = ltb-true _ _ b.0; room = room_done ws i (taken_of ws i + 1) (next_there ws i) (z.helds i c) b.1 }

module _ (ws : List ℕ) (w : ChannelState Letter) (z : Sized ws) (v : Shows ws w) (card : Card) where
  abbrev i : ℕ
  i = card.0

  -- 14, 31, 35, 6 as the idealised step has them
  abbrev refusal : ℕ
  refusal = cond (ltb i (cards_of ws)) (take_refusal letter_mail (cards_of ws) w i (nth w.sent (w.taken i))) 14

  pub take_number : result_number (take_answer ws card) ≡ refusal
  unfolding take_answer
  take_number = go (ltb i (cards_of ws)) refl
    where
      here : i < cards_of ws → (t : Bool) → ltb (taken_of ws i) (made_of ws) ≡ t
          → result_number (cond t (room_answer ws i (taken_of ws i + 1) (next_there ws i)) (Err NoBroadcast))
          ≡ take_refusal letter_mail (cards_of ws) w i (nth w.sent (w.taken i))
      here c true e =
          rw (next_is ws w z v i c (ltb-true _ _ e), v.taken= i c, v.inbox= i c, v.held= i c, ← add-one (taken_of ws i))
          (room_number ws i (taken_of ws i + 1) (next_there ws i) (next_letter ws i) (z.counts i c) (z.helds i c))
      here c false e = rw (nth_past w.sent (w.taken i) (omega (arith, v.made=, v.taken= i c, ltb-false (taken_of ws i) (made_of ws) e)))

      go : (t : Bool) → ltb i (cards_of ws) ≡ t
          → result_number (cond t (cond (ltb (taken_of ws i) (made_of ws)) (room_answer ws i (taken_of ws i + 1) (next_there ws i)) (Err NoBroadcast)) (Err NoCard))
          ≡ cond t (take_refusal letter_mail (cards_of ws) w i (nth w.sent (w.taken i))) 14
      go true e = here (ltb-true i (cards_of ws) e) (ltb (taken_of ws i) (made_of ws)) refl
      go false e = refl

  small : refusal < 100
  small = cond_small (ltb i (cards_of ws)) _ 14 (take_small letter_mail (cards_of ws) w i (nth w.sent (w.taken i))) (omega arith)

  pub take_left : Shows (take_memory ws card) (cond (eqb refusal 0) (taking letter_mail w i (nth w.sent (w.taken i))) w)
  unfolding take_memory
  take_left =
      settle ws _ w _ (take_answer ws card) refusal (done_plain (take_answer ws card) refusal small take_number) v
      (λ e. let t = took ws z card e in rw (next_is ws w z v i t.there t.more) (take_shows ws w z v i t.there t.more t.room))
