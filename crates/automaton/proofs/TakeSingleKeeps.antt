-- Step 8 keeps the agreement.
use lib.Dec.{eqb}
use borrow.Author.Tests.{eqb-true, leb-true}
use mathlib.Core.Path.{◌≡◌, refl, sym, ap, ◌∙◌, subst}
use mathlib.Core.Logic.{◌⊎◌, inl, inr}
use mathlib.Core.Bool.{Bool, true, false, cond}
use mathlib.Core.List.{List, ◌∷◌}
use mathlib.Core.Option.{Option, none, some, none-ne-some}
use Prim.Native.Nat.{ℕ}
use native.Mathlib.Omega.{arith}
use Rattle.lists.specs.Tests.{eqb_of, clash, cond_cases}
use Rattle.lists.specs.Histories.{Any, there}
use Rattle.lists.specs.Queues.{push, push_any}
use Rattle.automaton.specs.State.{Tagged, ChannelState, take_single, landing, arriving, ripe}
use Rattle.automaton.specs.Network.{Network}
use Rattle.automaton.specs.Automaton.{Step, join, ChannelPrecondition, ChannelExecution}
use Rattle.automaton.specs.Trace.{steps_single}
use Rattle.automaton.proofs.Held.{Holds, Names, holds_names, push_distinct}
use Rattle.automaton.proofs.Agreement.{Kept, InTransit, Agrees, in_transit_on}

module _ {M : Type 0} (N : Network M) where
  pub take_single_keeps : (w : ChannelState M) (E : List (Step M)) → Agrees N w E → ChannelExecution N E → (c : ℕ)
      → Kept N w (take_single c) E
  take_single_keeps w E a v c = go (w.flight c) refl
    where
      landed : (x : Tagged M) → w.flight c ≡ some x → (t : Bool) → ripe N.mail w x ≡ t
          → Agrees N (landing N.mail t w c x) (cond t (join x.msg ∷ E) E) × ChannelExecution N (cond t (join x.msg ∷ E) E)
      landed x e t q = into t q
        where
          l : InTransit N E x.msg x.mark
          l = (a.flies c x e).0

          may : ripe N.mail w x ≡ true → ChannelPrecondition N E (join x.msg)
          may y = (
            l.alone,
            l.mcast_it,
            l.unjoined,
            let p = leb-true x.mark
                (w.taken (N.mail.dest x.msg)) y in let k = l.tag_is in let r = a.taken= (N.mail.dest x.msg) in omega arith,
          )

          -- another task's message is another message
          differs : (d : ℕ) (y : Tagged M) → eqb d c ≡ false → w.flight d ≡ some y → ¬ (x.msg ≡ y.msg)
          differs d y n f p = clash (eqb_of (sym (a.flies d y f).1 ∙ ap N.mail.task (sym p) ∙ (a.flies c x e).1)) n

          -- what is left in flight
          left : (d : ℕ) (y : Tagged M) → cond (eqb d c) none (w.flight d) ≡ some y → (eqb d c ≡ false) × (w.flight d ≡ some y)
          left d y f = pick (cond_cases (λ o. o ≡ some y) (eqb d c) none (w.flight d) f)
            where
              pick : ((eqb d c ≡ true) × (none ≡ some y)) ⊎ ((eqb d c ≡ false) × (w.flight d ≡ some y))
                  → (eqb d c ≡ false) × (w.flight d ≡ some y)
              pick (inl z) = absurd (none-ne-some y z.1)
              pick (inr z) = z

          into : (t : Bool) → ripe N.mail w x ≡ t
              → Agrees N (landing N.mail t w c x) (cond t (join x.msg ∷ E) E) × ChannelExecution N (cond t (join x.msg ∷ E) E)
          into true q = (
            record {
              taken= = a.taken=;
              inbox= = λ j. ap (push (eqb j (N.mail.dest x.msg)) x.msg) (a.inbox= j);
              made= = a.made=;
              sent= = λ n m y. let r = a.sent= n m y in (r.0, there r.1, r.2);
              flies = λ d y f. let z = left d y f in let r = a.flies d y z.1 in (in_transit_on N r.0 (λ p. p) (differs d y z.0 z.1), r.1);
              holds = λ i m t h. let r = a.holds i m t h in (
                in_transit_on N r.0 (λ p. p)
                    (λ p. a.apart c x i e (subst (λ b. Any (Names b) (w.held i)) (sym p) (holds_names h))),
                r.1,
              );
              apart = λ d y i f. a.apart d y i (left d y f).1;
              each = a.each;
            },
            (may q, v),
          )
          into false q = (
            record {
              taken= = a.taken=;
              inbox= = a.inbox=;
              made= = a.made=;
              sent= = a.sent=;
              flies = λ d y f. a.flies d y (left d y f).1;
              holds = λ i m t h. hold i m t (push_any (eqb i (N.mail.dest x.msg)) x (w.held i) h);
              apart = λ d y i f h. off d y i (left d y f) (push_any (eqb i (N.mail.dest x.msg)) x (w.held i) h);
              each = λ i. push_distinct (eqb i (N.mail.dest x.msg)) x (w.held i) (a.each i) (a.apart c x i e);
            },
            v,
          )
            where
              hold : (i : ℕ) (m : M) (t : ℕ) → Any (Holds m t) (w.held i) ⊎ ((eqb i (N.mail.dest x.msg) ≡ true) × Holds m t x)
                  → InTransit N E m t × (N.mail.dest m ≡ i)
              hold i m t (inl h) = a.holds i m t h
              hold i m t (inr h) = (
                subst (λ b. InTransit N E b t) h.1.0 (subst (λ b. InTransit N E x.msg b) h.1.1 l),
                ap N.mail.dest (sym h.1.0)
                    ∙ sym (eqb-true _ _ h.0),
              )

              off : (d : ℕ) (y : Tagged M) (i : ℕ) → (eqb d c ≡ false) × (w.flight d ≡ some y)
                  → Any (Names y.msg) (w.held i) ⊎ ((eqb i (N.mail.dest x.msg) ≡ true) × (x.msg ≡ y.msg)) → ⊥
              off d y i z (inl h) = a.apart d y i z.1 h
              off d y i z (inr h) = differs d y z.0 z.1 h.1

      go : (o : Option (Tagged M)) → w.flight c ≡ o
          → Agrees N (arriving N.mail w c o) (steps_single N.mail w o E) × ChannelExecution N (steps_single N.mail w o E)
      go none e = (a, v)
      go (some x) e = landed x e (ripe N.mail w x) refl
