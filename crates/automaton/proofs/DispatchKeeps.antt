-- Step 6 keeps the agreement.
use lib.Dec.{eqb}
use borrow.Author.Tests.{eqb-true}
use mathlib.Core.Path.{◌≡◌, refl, sym, ap, ◌∙◌, subst}
use mathlib.Core.Logic.{◌⊎◌, inl, inr}
use mathlib.Core.Bool.{Bool, true, false, cond}
use mathlib.Core.List.{List, [], ◌∷◌, ◌++◌}
use mathlib.Core.Option.{some, none-ne-some, some-injective}
use Prim.Native.Nat.{ℕ, zero, suc}
use native.Mathlib.Omega.{arith}
use native.Mathlib.Numerals.{add-one}
use lib.ListN.{length, length-append}
use Rattle.lists.specs.Tests.{cond_cases}
use Rattle.lists.specs.Histories.{Any, here, there}
use Rattle.lists.specs.Places.{nth}
use Rattle.automaton.specs.State.{Tagged, ChannelState, dispatch, dispatching, channel_step, tagging}
use Rattle.automaton.specs.Network.{Network}
use Rattle.automaton.specs.Automaton.{Step, mcast, Mcasts, Joins, chan, ChannelExecution}
use Rattle.automaton.proofs.Counts.{mark_on, mark_now}
use Rattle.automaton.proofs.Held.{Names, names_holds}
use Rattle.automaton.proofs.Agreement.{InTransit, Agrees, in_transit_on, joined_mcast}

module _ {M : Type 0} where
  -- a place of a list with one more at the end
  pub nth_append : (l : List M) (a : M) (n : ℕ) (m : M) → nth (l ++ (a ∷ [])) n ≡ some m → (nth l n ≡ some m) ⊎ ((n ≡ length l) × (a ≡ m))
  nth_append [] a zero m e = inr (refl, some-injective a m e)
  nth_append [] a (suc n) m e = absurd (none-ne-some m e)
  nth_append (b ∷ l) a zero m e = inl e
  nth_append (b ∷ l) a (suc n) m e = go (nth_append l a n m e)
    where
      go : (nth l n ≡ some m) ⊎ ((n ≡ length l) × (a ≡ m)) → (nth l n ≡ some m) ⊎ ((suc n ≡ suc (length l)) × (a ≡ m))
      go (inl x) = inl x
      go (inr x) = inr (ap suc x.0, x.1)

module _ {M : Type 0} (N : Network M) where
  pub dispatch_agrees : (w : ChannelState M) (E : List (Step M)) → Agrees N w E → ChannelExecution N E → (i : ℕ) (m : M)
      → ¬ Any (Mcasts m) E → N.from m ≡ i
      → Agrees N (channel_step N.mail w (dispatch i m)) (mcast m ∷ E)
  dispatch_agrees w E a v i m fresh from_i = go (N.mail.multi m) refl
    where
      other : {n : M} → Any (Mcasts n) E → ¬ (m ≡ n)
      other h p = fresh (subst (λ x. Any (Mcasts x) E) (sym p) h)

      on : {n : M} {t : ℕ} → InTransit N E n t → InTransit N (mcast m ∷ E) n t
      on l = in_transit_on N l (other l.mcast_it) (λ x. x)

      num : (x : M) {n : ℕ} → N.mail.multi x ≡ true → n ≡ length w.sent
          → cond (N.mail.multi x) (suc (chan N E).made) ((chan N E).taken (N.from x)) ≡ suc n
      num x u e = rw u (let k = a.made= in omega arith)

      entry : Tagged M
      entry = tagging w i m

      entry_in_transit : N.mail.multi m ≡ false → InTransit N (mcast m ∷ E) m (w.taken i)
      entry_in_transit u = record {
        alone = u;
        mcast_it = here refl;
        unjoined = f;
        tag_is = mark_now N (mcast m) E m refl
            ∙ (rw (u, from_i) (sym (a.taken= i)));
      }
        where
          f : ¬ Any (Joins m) (mcast m ∷ E)
          f (here x3) = elim x3 [ ]
          f (there h) = fresh (joined_mcast N v h)

      go : (t : Bool) → N.mail.multi m ≡ t → Agrees N (dispatching N.mail t w i m) (mcast m ∷ E)
      go true u = record {
        taken= = a.taken=;
        inbox= = a.inbox=;
        made= = length-append w.sent (m ∷ []) ∙ add-one _ ∙ ap suc a.made= ∙ (rw u refl);
        sent= = λ n x e. old n x (nth_append w.sent m n x e);
        flies = λ c x e. let r = a.flies c x e in (on r.0, r.1);
        holds = λ i x t h. let r = a.holds i x t h in (on r.0, r.1);
        apart = a.apart;
        each = a.each;
      }
        where
          old : (n : ℕ) (x : M) → (nth w.sent n ≡ some x) ⊎ ((n ≡ length w.sent) × (m ≡ x))
              → (N.mail.multi x ≡ true) × Any (Mcasts x) (mcast m ∷ E) × ((chan N (mcast m ∷ E)).mark x ≡ suc n)
          old n x (inl e) = let r = a.sent= n x e in (r.0, there r.1, mark_on N (mcast m) E x (other r.1) ∙ r.2)
          old n x (inr e) = (
            ap N.mail.multi (sym e.1) ∙ u,
            here e.1,
            mark_now N (mcast m) E x e.1
                ∙ num x (ap N.mail.multi (sym e.1) ∙ u) e.0,
          )
      go false u = record {
        taken= = a.taken=;
        inbox= = a.inbox=;
        made= = a.made= ∙ (rw u refl);
        sent= = λ n x e. let r = a.sent= n x e in (r.0, there r.1, mark_on N (mcast m) E x (other r.1) ∙ r.2);
        flies = λ c x e. fly c x (cond_cases (λ o. o ≡ some x) (eqb c (N.mail.task m)) (some entry) (w.flight c) e);
        holds = λ i x t h. let r = a.holds i x t h in (on r.0, r.1);
        apart = λ c x i e. off c x i (cond_cases (λ o. o ≡ some x) (eqb c (N.mail.task m)) (some entry) (w.flight c) e);
        each = a.each;
      }
        where
          fly : (c : ℕ) (x : Tagged M)
              → ((eqb c (N.mail.task m) ≡ true) × (some entry ≡ some x)) ⊎ ((eqb c (N.mail.task m) ≡ false) × (w.flight c ≡ some x))
              → InTransit N (mcast m ∷ E) x.msg x.mark × (N.mail.task x.msg ≡ c)
          fly c x (inl e) =
              subst (λ y. InTransit N (mcast m ∷ E) y.msg y.mark × (N.mail.task y.msg ≡ c)) (some-injective entry x e.1)
              (entry_in_transit u, sym (eqb-true _ _ e.0))
          fly c x (inr e) = let r = a.flies c x e.1 in (on r.0, r.1)

          off : (c : ℕ) (x : Tagged M) (i : ℕ)
              → ((eqb c (N.mail.task m) ≡ true) × (some entry ≡ some x)) ⊎ ((eqb c (N.mail.task m) ≡ false) × (w.flight c ≡ some x))
              → ¬ Any (Names x.msg) (w.held i)
          off c x i (inl e) h =
              let r = names_holds (subst (λ y. Any (Names y.msg) (w.held i)) (sym (some-injective entry x e.1)) h) in
              fresh (a.holds i m r.0 r.1).0.mcast_it
          off c x i (inr e) h = a.apart c x i e.1 h
