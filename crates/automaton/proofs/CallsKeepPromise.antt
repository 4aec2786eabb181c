-- Every list of calls keeps the promise, whatever the calls are.
use mathlib.Core.Path.{◌≡◌, refl, sym, ap, ◌∙◌}
use mathlib.Core.Bool.{Bool, true, false, cond}
use mathlib.Core.List.{List, [], ◌∷◌}
use mathlib.Core.Option.{Option, none, some}
use Prim.Native.Nat.{ℕ, suc, ◌<◌}
use native.Mathlib.Omega.{arith}
use native.Mathlib.Numerals.{add-one}
use lib.ListN.{length, length-append}
use Rattle.lists.specs.Histories.{Any, here, there, Suf, stop, any_map, any_nil, at_map, suf_tail}
use Rattle.lists.specs.Places.{nth}
use Rattle.automaton.specs.State.{Tagged, ChannelState, released, ChannelAction, dispatch, take_broadcast, take_single, deliver, channel_step, ripe}
use Rattle.automaton.specs.Network.{Network}
use Rattle.automaton.specs.Automaton.{Step, mcast, take, join, Mcasts, ChannelExecution}
use Rattle.automaton.specs.Trace.{steps_take, steps_single, steps_deliver, steps}
use Rattle.automaton.specs.Renaming.{channel_map, action_map, Alike, SentAlike}
use Rattle.automaton.specs.Calls.{Posted, Setup, posting, numbering, done, calls, posted, letter, network, numbered, trace, CallsPromise}
use Rattle.automaton.proofs.Counts.{flow, mcast_once}
use Rattle.automaton.proofs.Held.{holds_in}
use Rattle.automaton.proofs.JoinLists.{mcast_joins}
use Rattle.automaton.proofs.Agreement.{Agrees, agrees_start}
use Rattle.automaton.proofs.ChannelKeeps.{FreshAction, channel_step_keeps}
use Rattle.automaton.proofs.RenamedSteps.{channel_step_map}
use Rattle.automaton.proofs.KeepsPromise.{sends→, keeps_promise}
use Rattle.automaton.proofs.Prompt.{calls_prompt}
use Rattle.automaton.proofs.Postings.{posted_new}

-- the numbers multicast so far are those given so far
module _ {M : Type 0} (N : Network ℕ) (w : ChannelState ℕ) (E : List (Step ℕ)) (l : List (Posted M)) (low : (k : ℕ) → Any (Mcasts k) E → k < length l) where
  low_take : (i : ℕ) (o : Option ℕ) (k : ℕ) → Any (Mcasts k) (steps_take w i o E) → k < length l
  low_take i none k h = low k h
  low_take i (some m) k h = go (mcast_joins N (released (suc (w.taken i)) (w.held i)) h)
    where
      go : Any (Mcasts k) (take i m ∷ E) → k < length l
      go (here x4) = elim x4 [ ]
      go (there x) = low k x

  low_single : (o : Option (Tagged ℕ)) (k : ℕ) → Any (Mcasts k) (steps_single N.mail w o E) → k < length l
  low_single none k h = low k h
  low_single (some x) k h = go (ripe N.mail w x) h
    where
      go : (t : Bool) → Any (Mcasts k) (cond t (join x.msg ∷ E) E) → k < length l
      go true (here x5) = elim x5 [ ]
      go true (there y) = low k y
      go false y = low k y

  low_deliver : (b : List ℕ) (i k : ℕ) → Any (Mcasts k) (steps_deliver b i E) → k < length l
  low_deliver [] i k h = low k h
  low_deliver (m ∷ r) i k (here x3) = elim x3 [ ]
  low_deliver (m ∷ r) i k (there h) = low k h

  steps_low : (x : ChannelAction M) (k : ℕ) → Any (Mcasts k) (steps N.mail w (numbering (length l) x) E) → k < length (posting x l)
  steps_low (dispatch i m) k h = go h
    where
      more : length (posting (dispatch i m) l) ≡ suc (length l)
      more = length-append l (record { from = i; body = m } ∷ []) ∙ add-one (length l)

      go : Any (Mcasts k) (mcast (length l) ∷ E) → k < length (posting (dispatch i m) l)
      go (here p) = omega (arith, more)
      go (there y) = let z = low k y in omega (arith, more)
  steps_low (take_broadcast i) k h = low_take i (nth w.sent (w.taken i)) k h
  steps_low (take_single c) k h = low_single (w.flight c) k h
  steps_low (deliver i) k h = low_deliver (w.inbox i) i k h

module _ {M : Type 0} (C : Setup M) (xs : List (ChannelAction M)) where
  abbrev P : List (Posted M)
  P = posted C xs

  abbrev N : Network ℕ
  N = network C xs

  abbrev h : ℕ → M
  h = letter C P

  abbrev plain : List (ChannelAction M) → ChannelState M
  plain = calls C

  abbrev given : List (ChannelAction M) → List (Posted M)
  given = posted C

  abbrev state : List (ChannelAction M) → ChannelState ℕ
  state = numbered C P

  abbrev run : List (ChannelAction M) → List (Step ℕ)
  run = trace C P

  pub alike : Alike h N.mail C.mail
  alike = record { task= = λ k. refl; multi= = λ k. refl; dest= = λ k. refl }

  -- what has been broadcast goes to the destinations that it names
  pub sent_alike : (w : ChannelState ℕ) (E : List (Step ℕ)) → Agrees N w E → SentAlike h N.mail C.mail w
  sent_alike w E a n k e i = rw (a.sent= n k e).0

  -- numbers in place of messages: where the run stands
  pub record Upto (p : ChannelState M) (l : List (Posted M)) (w : ChannelState ℕ) (E : List (Step ℕ)) : Type 0 where
    pub agrees : Agrees N w E
    pub execution : ChannelExecution N E
    pub low : (k : ℕ) → Any (Mcasts k) E → k < length l
    pub shown : p ≡ channel_map h w

  module _ (x : ChannelAction M) (ys : List (ChannelAction M)) (s : Suf (x ∷ ys) xs) (d : done C (plain ys) x ≡ true) where
    pub renamed : action_map h (numbering (length (given ys)) x) ≡ x
    renamed = go x s d
      where
        go : (x : ChannelAction M) → Suf (x ∷ ys) xs → done C (plain ys) x ≡ true
            → action_map h (numbering (length (given ys)) x) ≡ x
        go (dispatch i m) s d = ap (λ q. dispatch i q.body) (posted_new C ys i m s d)
        go (take_broadcast i) s d = refl
        go (take_single c) s d = refl
        go (deliver i) s d = refl

    fresh : ((k : ℕ) → Any (Mcasts k) (run ys) → k < length (given ys)) → FreshAction N (numbering (length (given ys)) x) (run ys)
    fresh low = go x s d
      where
        go : (x : ChannelAction M) → Suf (x ∷ ys) xs → done C (plain ys) x ≡ true
            → FreshAction N (numbering (length (given ys)) x) (run ys)
        go (dispatch i m) s d = ((λ y. let z = low (length (given ys)) y in omega arith), ap (λ q. q.from) (posted_new C ys i m s d))
        go (take_broadcast i) s d = tt
        go (take_single c) s d = tt
        go (deliver i) s d = tt

  onward : (x : ChannelAction M) (ys : List (ChannelAction M)) → Suf (x ∷ ys) xs → Upto (plain ys) (given ys) (state ys) (run ys)
      → Upto (plain (x ∷ ys)) (given (x ∷ ys)) (state (x ∷ ys)) (run (x ∷ ys))
  onward x ys s u = go (done C (plain ys) x) refl
    where
      go : (t : Bool) → done C (plain ys) x ≡ t
          → Upto (cond t (channel_step C.mail (plain ys) x) (plain ys)) (cond t (posting x (given ys)) (given ys))
          (cond t (channel_step N.mail (state ys) (numbering (length (given ys)) x)) (state ys))
          (cond t (steps N.mail (state ys) (numbering (length (given ys)) x) (run ys)) (run ys))
      go false d = u
      go true d =
          let k = channel_step_keeps N (state ys) (run ys) u.agrees u.execution (numbering (length (given ys)) x) (fresh x ys s d u.low) in
          record {
            agrees = k.0;
            execution = k.1;
            low = steps_low N (state ys) (run ys) (given ys) u.low x;
            shown = ap (λ p. channel_step C.mail p x) u.shown ∙ ap (channel_step C.mail (channel_map h (state ys))) (sym (renamed x ys s d))
                ∙ channel_step_map h N.mail C.mail alike (state ys) (sent_alike (state ys) (run ys) u.agrees) (numbering (length (given ys)) x);
          }

  pub upto : (ys : List (ChannelAction M)) → Suf ys xs → Upto (plain ys) (given ys) (state ys) (run ys)
  upto [] s = record { agrees = agrees_start N; execution = tt; low = λ k y. absurd (any_nil y); shown = refl }
  upto (x ∷ ys) s = onward x ys s (upto ys (suf_tail s))

  pub calls_promise : CallsPromise C xs
  calls_promise = record {
    promise = keeps_promise N (run xs) (upto xs stop).execution;
    number_once = λ k B y z.
        let g = flow N (upto xs stop).execution (at_map (sends→ N k) y) in
        mcast_once N g.0 B k g.2 (any_map (sends→ N k) z) g.1;
    shows = λ ys s. (upto ys s).shown;
    prompt = λ i x y. calls_prompt C xs i x.msg x.mark (holds_in y);
  }
