-- A list of calls that leaves the channel at rest is a complete run of a context multicast channel, in the words of 000 §4.
use borrow.Author.Tests.{eqb-true}
use mathlib.Core.Path.{◌≡◌, refl, sym, ap, ◌∙◌, subst}
use mathlib.Core.Bool.{Bool, true, false, cond}
use mathlib.Core.List.{List, [], ◌∷◌, map}
use mathlib.Core.Option
use mathlib.Core.Option.{Option, none, some, some-ne-none}
use Prim.Native.Nat.{ℕ, suc, ◌<◌}
use native.Mathlib.Decide.{dec_lt}
use native.Mathlib.Omega.{arith}
use native.Mathlib.Numerals.{add-one}
use lib.ListN.{length, length-append, length-map, get_or, get_or-append}
use lib.Seq.{get_or_at}
use Rattle.lists.specs.Tests.{and_fst, and_snd}
use Rattle.lists.specs.Histories.{Any, Suf, stop, suf_tail, any_map, any_split}
use Rattle.multicast.specs.Promise.{McastTo, IsReceive}
use Rattle.automaton.specs.State.{ChannelState, ChannelAction, dispatch, take_broadcast, take_single, deliver, channel_step}
use Rattle.automaton.specs.Refusals.{channel_refusal}
use Rattle.automaton.specs.Network.{Network}
use Rattle.automaton.specs.Automaton.{Step, external}
use Rattle.automaton.specs.Trace.{steps}
use Rattle.automaton.specs.Renaming.{tag_map, channel_map}
use Rattle.automaton.specs.Calls.{Posted, Setup, posting, numbering, done, calls, posted, letter, network, numbered, trace}
use Rattle.automaton.specs.AtRest.{AtRest, CallsComplete}
use Rattle.automaton.proofs.KeepsPromise.{to→, →gets}
use Rattle.automaton.proofs.PaperWording.{channel_complete}
use Rattle.automaton.proofs.NothingLost.{Safe, safe_start, step_safe}
use Rattle.automaton.proofs.Delivered.{delivered}
use Rattle.automaton.proofs.RenamedRefusals.{channel_refusal_map}
use Rattle.automaton.proofs.CallsKeepPromise.{alike, sent_alike, renamed, Upto, upto}

module _ {M : Type 0} (C : Setup M) where
  -- every posted message was in range
  posted_range : (xs : List (ChannelAction M)) (k : ℕ) → k < length (posted C xs)
      → C.in_range (dispatch (get_or (posted C xs) k C.blank).from (get_or (posted C xs) k C.blank).body) ≡ true
  posted_range [] k h = absurd (omega arith)
  posted_range (x ∷ xs) k h = go (done C (calls C xs) x) refl x refl h (λ l. posted_range xs k l)
    where
      InRange : List (Posted M) → Type 0
      InRange l = C.in_range (dispatch (get_or l k C.blank).from (get_or l k C.blank).body) ≡ true

      go : (t : Bool) → done C (calls C xs) x ≡ t → (y : ChannelAction M) → x ≡ y
          → k < length (cond t (posting y (posted C xs)) (posted C xs))
          → (k < length (posted C xs) → InRange (posted C xs)) → InRange (cond t (posting y (posted C xs)) (posted C xs))
      go false d y e l r = r l
      go true d (dispatch i m) e l r = pick (dec_lt k (length (posted C xs)))
        where
          more : length (posting (dispatch i m) (posted C xs)) ≡ suc (length (posted C xs))
          more = length-append (posted C xs) (record { from = i; body = m } ∷ []) ∙ add-one (length (posted C xs))

          pick : Dec (k < length (posted C xs))
              → C.in_range (dispatch (get_or (posting (dispatch i m) (posted C xs)) k C.blank).from
              (get_or (posting (dispatch i m) (posted C xs)) k C.blank).body) ≡ true
          pick (yes q) = ap (λ a. C.in_range (dispatch a.from a.body))
              (get_or-append (posted C xs) (record { from = i; body = m } ∷ []) C.blank k q) ∙ r q
          pick (no q) =
              ap (λ a. C.in_range (dispatch a.from a.body)) (get_or_at (posted C xs) (record { from = i; body = m }) [] C.blank k (omega (arith, more)))
              ∙ ap C.in_range (sym e) ∙ and_fst (C.in_range x) _ d
      go true d (take_broadcast i) e l r = r l
      go true d (take_single c) e l r = r l
      go true d (deliver i) e l r = r l

-- a state at rest stays so when its messages are renamed back
module _ {M N : Type 0} (h : M → N) where
  none_map : {A B : Type 0} (f : A → B) (o : Option A) → Option.map f o ≡ none → o ≡ none
  none_map f none e = refl
  none_map f (some a) e = absurd (some-ne-none (f a) e)

  nil_map : {A B : Type 0} (f : A → B) (l : List A) → map f l ≡ [] → l ≡ []
  nil_map f [] e = refl
  nil_map f (a ∷ l) e = let k = ap length e in absurd (omega arith)

  rest_map : (cards : ℕ) (w : ChannelState M) → AtRest cards (channel_map h w) → AtRest cards w
  rest_map cards w r = record {
    none_flying = λ c. none_map (tag_map h) (w.flight c) (r.none_flying c);
    none_held = λ i l. nil_map (tag_map h) (w.held i) (r.none_held i l);
    all_taken = λ i l. r.all_taken i l ∙ length-map w.sent h;
    all_received = λ i l. nil_map h (w.inbox i) (r.all_received i l);
  }

module _ {M : Type 0} (C : Setup M) (xs : List (ChannelAction M)) where
  abbrev N : Network ℕ
  N = network C xs

  abbrev state : List (ChannelAction M) → ChannelState ℕ
  state = numbered C (posted C xs)

  abbrev run : List (ChannelAction M) → List (Step ℕ)
  run = trace C (posted C xs)

  -- a call that is done is not refused, whether its message is named or numbered
  not_refused : (x : ChannelAction M) (ys : List (ChannelAction M)) → Suf (x ∷ ys) xs → done C (calls C ys) x ≡ true
      → channel_refusal N.mail C.cards (state ys) (numbering (length (posted C ys)) x) ≡ 0
  not_refused x ys s d =
      let u = upto C xs ys (suf_tail s) in
      sym (channel_refusal_map (letter C (posted C xs)) N.mail C.mail (alike C xs) C.cards (state ys) (sent_alike C xs (state ys) (run ys) u.agrees)
      (numbering (length (posted C ys)) x))
      ∙ ap (channel_refusal C.mail C.cards (channel_map (letter C (posted C xs)) (state ys))) (renamed C xs x ys s d)
      ∙ ap (λ w. channel_refusal C.mail C.cards w x) (sym u.shown)
      ∙ eqb-true _ _ (and_snd (C.in_range x) _ d)

  safe : (ys : List (ChannelAction M)) → Suf ys xs → Safe N (state ys) (run ys)
  safe [] s = safe_start N
  safe (x ∷ ys) s = go (done C (calls C ys) x) refl (safe ys (suf_tail s))
    where
      go : (t : Bool) → done C (calls C ys) x ≡ t → Safe N (state ys) (run ys)
          → Safe N (cond t (channel_step N.mail (state ys) (numbering (length (posted C ys)) x)) (state ys))
          (cond t (steps N.mail (state ys) (numbering (length (posted C ys)) x) (run ys)) (run ys))
      go false d r = r
      go true d r = step_safe N (state ys) (run ys) r C.cards (numbering (length (posted C ys)) x) (not_refused x ys s d)

  -- 000 Theorem 6.1 of a run that has come to rest: reliable, totally ordered, well-founded, receive consistent and context safe
  pub calls_complete : CallsComplete C xs
  calls_complete g r = channel_complete N (run xs) u.execution all
    where
      u : Upto C xs (calls C xs) (posted C xs) (state xs) (run xs)
      u = upto C xs xs stop

      all : (k i : ℕ) → Any (λ e. McastTo k i (external N e)) (run xs) → Any (λ e. IsReceive k i (external N e)) (run xs)
      all k i h =
          let q = any_split h (to→ N k i) in
          let c = g _ _ (posted_range C xs k (u.low k q.0)) i q.1 in
          any_map (→gets N k i)
          (delivered N (state xs) (run xs) u.agrees u.execution (safe xs stop) C.cards
          (rest_map (letter C (posted C xs)) C.cards (state xs) (subst (AtRest C.cards) u.shown r)) k i c q.0 q.1)
