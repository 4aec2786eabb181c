-- Step 7 keeps the agreement.
use lib.Dec.{eqb}
use borrow.Author.Tests.{eqb-true}
use mathlib.Core.Path.{◌≡◌, refl, sym, ap, ◌∙◌}
use mathlib.Core.Logic.{◌⊎◌, inl, inr}
use mathlib.Core.Bool.{Bool, true, false, cond, ◌&&◌}
use mathlib.Core.List.{List, ◌∷◌, ◌++◌}
use mathlib.Core.Option.{Option, none, some}
use Prim.Native.Nat.{ℕ, suc, ◌≤◌}
use native.Mathlib.Omega.{arith}
use Rattle.lists.specs.Tests.{eqb_refl, eqb_of, clash, cond_cases}
use Rattle.lists.specs.Histories.{Any, In, there}
use Rattle.lists.specs.Queues.{push}
use Rattle.lists.specs.Places.{nth}
use Rattle.automaton.specs.State.{Tagged, ChannelState, released, kept, take_broadcast, taking}
use Rattle.automaton.specs.Network.{Network}
use Rattle.automaton.specs.Automaton.{Step, take, Mcasts, Joins, chan, ChannelPrecondition, ChannelExecution}
use Rattle.automaton.specs.Trace.{joins, steps_take}
use Rattle.automaton.proofs.Held.{Holds, Names, Distinct, released_in, holds_names, names_holds, released_once, kept_in, kept_distinct}
use Rattle.automaton.proofs.Agreement.{Kept, InTransit, Agrees}
use Rattle.automaton.proofs.JoinLists.{joins_mcast, joins_joined, joins_taken, joins_made, joins_mark, joins_inbox, joins_flows}

module _ {M : Type 0} (N : Network M) where
  pub take_broadcast_keeps : (w : ChannelState M) (E : List (Step M)) → Agrees N w E → ChannelExecution N E → (i : ℕ)
      → Kept N w (take_broadcast i) E
  take_broadcast_keeps w E a v i = go (nth w.sent (w.taken i)) refl
    where
      n : ℕ
      n = suc (w.taken i)

      rel : List M
      rel = released n (w.held i)

      go : (o : Option M) → nth w.sent (w.taken i) ≡ o
          → Agrees N (taking N.mail w i o) (steps_take w i o E) × ChannelExecution N (steps_take w i o E)
      go none e = (a, v)
      go (some m) e = (
        record {
          taken= = λ j. ap (λ k. cond (eqb j i) (suc k) k) (a.taken= j) ∙ sym (ap (λ f. f j) (joins_taken N rel (take i m ∷ E)));
          inbox= = λ j. box j (eqb j i) refl ∙ sym (joins_inbox N rel (take i m ∷ E) i j (λ x h. (fit x h).1));
          made= = a.made= ∙ sym (joins_made N rel (take i m ∷ E));
          sent= = λ q x y. let r = a.sent= q x y in (r.0, joins_mcast N rel (there r.1), ap (λ k. k x) (joins_mark N rel (take i m ∷ E)) ∙ r.2);
          flies = λ c x y. let r = a.flies c x y in (on r.0 (λ h. a.apart c x i y (holds_names (released_in n x.msg (w.held i) h))), r.1);
          holds = λ j x t h. hold j x t (cond_cases (Any (Holds x t)) (eqb j i) (kept n (w.held j)) (w.held j) h);
          apart = λ c x j y h. off c x j y (cond_cases (Any (Names x.msg)) (eqb j i) (kept n (w.held j)) (w.held j) h);
          each = λ j. one j (eqb j i);
        },
        joins_flows N rel (take i m ∷ E) (may, v) (released_once n (w.held i) (a.each i)) free,
      )
        where
          s : (N.mail.multi m ≡ true) × Any (Mcasts m) E × ((chan N E).mark m ≡ n)
          s = a.sent= (w.taken i) m e

          may : ChannelPrecondition N E (take i m)
          may = (s.0, s.1, s.2 ∙ ap suc (a.taken= i))

          -- what is released
          fit : (x : M) → In x rel → InTransit N E x n × (N.mail.dest x ≡ i)
          fit x h = a.holds i x n (released_in n x (w.held i) h)

          -- what is not released stays loose
          on : {x : M} {t : ℕ} → InTransit N E x t → ¬ In x rel → InTransit N (joins rel (take i m ∷ E)) x t
          on {x} {t} l q = record {
            alone = l.alone;
            mcast_it = joins_mcast N rel (there l.mcast_it);
            unjoined = λ h. f (joins_joined N rel h);
            tag_is = ap (λ k. k x) (joins_mark N rel (take i m ∷ E)) ∙ l.tag_is;
          }
            where
              f : Any (Joins x) (take i m ∷ E) ⊎ In x rel → ⊥
              f (inl (Rattle.lists.specs.Histories.here x6)) = elim x6 [ ]
              f (inl (there h)) = l.unjoined h
              f (inr h) = q h

          hold : (j : ℕ) (x : M) (t : ℕ)
              → ((eqb j i ≡ true) × Any (Holds x t) (kept n (w.held j))) ⊎ ((eqb j i ≡ false) × Any (Holds x t) (w.held j))
              → InTransit N (joins rel (take i m ∷ E)) x t × (N.mail.dest x ≡ j)
          hold j x t (inl y) =
              let k = kept_in n x t (w.held j) y.1 in
              let r = a.holds j x t k.0 in
              (on r.0 (λ h. k.1 (sym r.0.tag_is ∙ (fit x h).0.tag_is)), r.1)
          hold j x t (inr y) =
              let r = a.holds j x t y.1 in
              (on r.0 (λ h. clash (eqb_of (sym r.1 ∙ (fit x h).1)) y.0), r.1)

          off : (c : ℕ) (x : Tagged M) (j : ℕ) → w.flight c ≡ some x
              → ((eqb j i ≡ true) × Any (Names x.msg) (kept n (w.held j))) ⊎ ((eqb j i ≡ false) × Any (Names x.msg) (w.held j)) → ⊥
          off c x j y (inl h) = let r = names_holds h.1 in a.apart c x j y (holds_names (kept_in n x.msg r.0 (w.held j) r.1).0)
          off c x j y (inr h) = a.apart c x j y h.1

          one : (j : ℕ) (t : Bool) → Distinct (cond t (kept n (w.held j)) (w.held j))
          one j true = kept_distinct n (w.held j) (a.each j)
          one j false = a.each j

          box : (j : ℕ) (t : Bool) → eqb j i ≡ t
              → cond t (push (N.mail.to m i) m (w.inbox j) ++ released n (w.held j)) (w.inbox j)
              ≡ cond t (push (t && N.mail.to m i) m ((chan N E).inbox j) ++ rel) (push (t && N.mail.to m i) m ((chan N E).inbox j))
          box j true y = ap (λ l. push (N.mail.to m i) m l ++ released n (w.held j)) (a.inbox= j)
              ∙ ap (λ c. push (N.mail.to m i) m ((chan N E).inbox j) ++ released n (w.held c)) (eqb-true _ _ y)
          box j false y = a.inbox= j

          free : (x : M) → In x rel → (N.mail.multi x ≡ false) × Any (Mcasts x) (take i m ∷ E) × (¬ Any (Joins x) (take i m ∷ E))
              × ((chan N (take i m ∷ E)).mark x ≤ (chan N (take i m ∷ E)).taken (N.mail.dest x))
          free x h = (l.alone, there l.mcast_it, un, le)
            where
              l : InTransit N E x n
              l = (fit x h).0

              un : ¬ Any (Joins x) (take i m ∷ E)
              un (Rattle.lists.specs.Histories.here x5) = elim x5 [ ]
              un (there y) = l.unjoined y

              le : (chan N E).mark x ≤ cond (eqb (N.mail.dest x) i) (suc ((chan N E).taken (N.mail.dest x))) ((chan N E).taken (N.mail.dest x))
              le = rw ((fit x h).1, eqb_refl) (let p = l.tag_is in let q = a.taken= i in omega arith)
