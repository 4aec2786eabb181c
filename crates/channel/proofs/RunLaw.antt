-- The memory of a channel after any list of calls from its beginning shows the idealised channel after the same calls.
use Prim.Native.Nat.{ℕ, ◌<◌}
use mathlib.Core.Path.{◌≡◌, refl, sym, ap, ap₂, ◌∙◌}
use mathlib.Core.Bool.{Bool, true, false, cond}
use mathlib.Core.List.{List, [], ◌∷◌}
use lib.Dec.{eqb, ltb}
use lib.ListN.{length}
use Rattle.names.specs.declared.Letter.{Letter}
use Rattle.std.specs.Prelude.{Err}
use Rattle.names.specs.declared.refusals.Refusal.TheVariants.{NoCard}
use Rattle.automaton.specs.State.{ChannelState, ChannelAction, dispatch, take_broadcast, take_single, deliver, channel_step}
use Rattle.channel.specs.Sized.{well_sized}
use Rattle.channel.specs.Shows.{letter_mail, Shows}
use Rattle.automaton.specs.Calls.{done, calls}
use Rattle.channel.specs.MemoryCalls.{Call, call_number, call_memory, memory_after, answers_after, action_of, handed_up, absent, unfit, call_refusal, call_result, letters, results_after, SameSizes, RunFollows, actions_of, state_after}
use Rattle.channel.proofs.Receiving.{receive_answer_lem}
use Rattle.channel.proofs.WellSizedParts.{fit_of, same_cards, same_tasks, fits_same}
use Rattle.channel.proofs.FitRelease.{sizes_trans}
use Rattle.channel.proofs.FitKept.{sized_of}
use Rattle.channel.proofs.CallLaws.{refused_is, call_follows}
use Rattle.automaton.proofs.CallsKeepPromise.{calls_promise}
use Rattle.automaton.proofs.CallsEvents.{calls_events}
use Rattle.automaton.proofs.CallsComplete.{calls_complete}
use Rattle.names.proofs.CardSets.{single_of}
use Rattle.channel.proofs.Destinations.{sole_present, member_present}
use Rattle.channel.proofs.LetterFits.{fits_to, fits_small}
use Rattle.automaton.specs.AtRest.{GoesToCards}
use Rattle.names.specs.CardSet.{several, sole_of, member_of}
use Rattle.channel.specs.Letters.{fits}
use Rattle.automaton.specs.Refusals.{otherwise}
use Rattle.automaton.specs.Holding.{holds}
use Rattle.names.specs.Results.{result_from}
use Rattle.lists.specs.Tests.{clash, and_snd}
use borrow.Author.Tests.{eqb-true, ltb-true}
use native.Mathlib.Omega.{arith}
use Rattle.channel.specs.Layout.{channel_words, cards_of, taken_of, taken_by}

-- refusals look at nothing of a memory but its sizes
refusal_sizes : (us ms : List ℕ) → SameSizes us ms → (w : ChannelState Letter) (x : ChannelAction Letter) → call_refusal us w x ≡ call_refusal ms w x
unfolding call_refusal
refusal_sizes us ms s w (dispatch i l) = rw (same_cards us ms s, fits_same us ms s l)
refusal_sizes us ms s w (take_broadcast i) = rw (same_cards us ms s)
refusal_sizes us ms s w (take_single t) = rw (same_cards us ms s, same_tasks us ms s)
refusal_sizes us ms s w (deliver i) = rw (same_cards us ms s)

result_sizes : (us ms : List ℕ) → SameSizes us ms → (w : ChannelState Letter) (x : ChannelAction Letter) → call_result us w x ≡ call_result ms w x
unfolding call_result
result_sizes us ms s w x = ap (λ r. result_from r (holds letter_mail w x)) (refusal_sizes us ms s w x)

done_sizes : (us ms : List ℕ) → SameSizes us ms → (w : ChannelState Letter) (x : ChannelAction Letter) → done (letters us) w x ≡ done (letters ms) w x
done_sizes us ms s w x = refused_is us w x ∙ ap (λ r. eqb r 0) (refusal_sizes us ms s w x) ∙ sym (refused_is ms w x)

-- a letter in range goes to present cards
to_cards : (ms : List ℕ) → GoesToCards (letters ms)
to_cards ms i l r j g = go (several l.to) refl g
  where
    f : fits ms l ≡ true
    f = sixes (fits ms l) (and_snd (eqb (absent ms (dispatch i l)) 0) (eqb (unfit ms (dispatch i l)) 0) r)
      where
        sixes : (b : Bool) → eqb (otherwise 6 b) 0 ≡ true → b ≡ true
        sixes true e = refl
        sixes false e = absurd (clash e refl)

    go : (b : Bool) → several l.to ≡ b → cond b (member_of l.to j) (eqb j (sole_of l.to)) ≡ true → j < cards_of ms
    go true e h = member_present l.to (cards_of ms) j (fits_to ms l f) h
    go false e h =
        let s = fits_small ms l f in
        let p = sole_present l.to s (single_of l.to e) (cards_of ms) (fits_to ms l f) in
        let q = eqb-true j (sole_of l.to) h in
        omega arith

-- where the run stands
record Upto (ms us : List ℕ) (w : ChannelState Letter) : Type 0 where
  pub sized : well_sized us ≡ true
  pub long : length us ≡ channel_words
  pub sizes : SameSizes us ms
  pub shows : Shows us w

module _ (ms : List ℕ) (long : length ms ≡ channel_words) (ok : well_sized ms ≡ true) (v : Shows ms (calls (letters ms) [])) where
  upto : (cs : List Call) → Upto ms (memory_after ms cs) (state_after ms cs)
  unfolding memory_after
  upto [] = record { sized = ok; long = long; sizes = record { cards = refl; tasks = refl; registers = refl }; shows = v }
  upto (c ∷ cs) = onward (upto cs)
    where
      us : List ℕ
      us = memory_after ms cs

      w : ChannelState Letter
      w = state_after ms cs

      onward : Upto ms us w → Upto ms (call_memory us c) (cond (done (letters ms) w (action_of c)) (channel_step letter_mail w (action_of c)) w)
      onward u =
          let k = call_follows us w u.long u.sized u.shows c in
          record {
            sized = k.sized;
            long = k.long;
            sizes = sizes_trans (call_memory us c) us ms k.sizes u.sizes;
            shows = rw (← done_sizes us ms u.sizes w (action_of c)) k.shows;
          }

  numbers : (cs : List Call) → answers_after ms cs ≡ results_after ms (actions_of cs)
  unfolding answers_after results_after
  numbers [] = refl
  numbers (c ∷ cs) = ap₂ (λ (a : ℕ) (b : List ℕ). a ∷ b) (one (upto cs)) (numbers cs)
    where
      us : List ℕ
      us = memory_after ms cs

      w : ChannelState Letter
      w = state_after ms cs

      one : Upto ms us w → call_number us c ≡ call_result ms w (action_of c)
      one u = (call_follows us w u.long u.sized u.shows c).number ∙ result_sizes us ms u.sizes w (action_of c)

  pub run_follows : (cs : List Call) → RunFollows ms cs
  unfolding taken_by
  run_follows cs =
      let u = upto cs in
      record {
        sized = u.sized;
        long = u.long;
        sizes = u.sizes;
        shows = u.shows;
        answers = numbers cs;
        hands = λ card.
            receive_answer_lem (memory_after ms cs) (state_after ms cs) (sized_of (memory_after ms cs) u.long (fit_of (memory_after ms cs) u.sized)) u.shows card
            ∙ ap (λ n. cond (ltb card.0 n) (handed_up ((state_after ms cs).inbox card.0)) (Err NoCard)) (same_cards (memory_after ms cs) ms u.sizes);
        taken = λ i. read u i;
        made = sym u.shows.made=;
        promise = calls_promise (letters ms) (actions_of cs);
        events = calls_events (letters ms) (actions_of cs);
        complete = calls_complete (letters ms) (actions_of cs);
        to_cards = to_cards ms;
      }
    where
      read : Upto ms (memory_after ms cs) (state_after ms cs) → (i : ℕ) → taken_by (memory_after ms cs) i ≡ cond (ltb i (cards_of ms)) ((state_after ms cs).taken i) 0
      read u i = rw (same_cards (memory_after ms cs) ms u.sizes) (go (ltb i (cards_of ms)) refl)
        where
          go : (b : Bool) → ltb i (cards_of ms) ≡ b → cond b (taken_of (memory_after ms cs) i) 0 ≡ cond b ((state_after ms cs).taken i) 0
          go true e = sym (u.shows.taken= i (rw (same_cards (memory_after ms cs) ms u.sizes) (ltb-true i (cards_of ms) e)))
          go false e = refl
