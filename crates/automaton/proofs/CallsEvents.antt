-- What the events of a list of calls are.
use borrow.Author.Tests.{eqb-true}
use mathlib.Core.Path.{◌≡◌, refl, sym, ap, ◌∙◌}
use mathlib.Core.Bool.{true, cond}
use mathlib.Core.List.{List, [], ◌∷◌, map}
use Prim.Native.Nat.{ℕ}
use native.Mathlib.Omega.{arith}
use lib.ListN.{length}
use Rattle.lists.specs.Tests.{and_snd}
use Rattle.lists.specs.Histories.{Suf, suf_tail}
use Rattle.automaton.specs.State.{ChannelState, ChannelAction, dispatch, deliver}
use Rattle.automaton.specs.Refusals.{receive_refusal, channel_refusal}
use Rattle.automaton.specs.Automaton.{Step, receive}
use Rattle.automaton.specs.Trace.{steps_deliver, steps}
use Rattle.automaton.specs.Calls.{Setup, numbering, done, calls, posted, letter, network, numbered, trace, CallsEvents}
use Rattle.automaton.proofs.Postings.{posted_new}
use Rattle.automaton.proofs.CallsKeepPromise.{upto}

module _ {M : Type 0} (C : Setup M) (xs : List (ChannelAction M)) where
  abbrev h : ℕ → M
  h = letter C (posted C xs)

  abbrev state : List (ChannelAction M) → ChannelState ℕ
  state = numbered C (posted C xs)

  abbrev run : List (ChannelAction M) → List (Step ℕ)
  run = trace C (posted C xs)

  -- a call that is done adds its steps
  done_trace : (x : ChannelAction M) (ys : List (ChannelAction M)) → done C (calls C ys) x ≡ true
      → run (x ∷ ys) ≡ steps (network C xs).mail (state ys) (numbering (length (posted C ys)) x) (run ys)
  done_trace x ys d = ap (λ t. cond t (steps (network C xs).mail (state ys) (numbering (length (posted C ys)) x) (run ys)) (run ys)) d

  -- and a receive is refused of an empty inbox
  filled : (w : ChannelState M) (i : ℕ) → channel_refusal C.mail C.cards w (deliver i) ≡ 0 → ¬ (w.inbox i ≡ [])
  unfolding channel_refusal
  filled w i z e = let k : ◌≡◌ {A = ℕ} 33 0 = ap (receive_refusal C.mail C.cards) (sym e) ∙ z in omega arith

  received : (ys : List (ChannelAction M)) (i : ℕ) → Suf ys xs → done C (calls C ys) (deliver i) ≡ true → (l : List ℕ) → (state ys).inbox i ≡ l
      → (k : ℕ) × (r : List M) × ((calls C ys).inbox i ≡ h k ∷ r) × (steps_deliver ((state ys).inbox i) i (run ys) ≡ receive k i ∷ run ys)
  received ys i s d [] e = absurd (filled (calls C ys) i (eqb-true _ _ (and_snd (C.in_range (deliver i)) _ d))
      (ap (λ w. w.inbox i) (upto C xs ys s).shown ∙ ap (map h) e))
  received ys i s d (k ∷ r) e = (k, map h r, ap (λ w. w.inbox i) (upto C xs ys s).shown ∙ ap (map h) e, ap (λ l. steps_deliver l i (run ys)) e)

  pub calls_events : CallsEvents C xs
  calls_events = record {
    multicasts = λ ys i m s d. (done_trace (dispatch i m) ys d, posted_new C ys i m s d);
    receives = λ ys i s d.
        let r = received ys i (suf_tail s) d ((state ys).inbox i) refl in
        (r.0, r.1, r.2, done_trace (deliver i) ys d ∙ r.3);
  }
