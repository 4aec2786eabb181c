-- Several messages that join in a row, as a take releases them; and an operation's steps as a part of the history.
use lib.Dec.{eqb}
use mathlib.Core.Path.{◌≡◌, refl, sym, ◌∙◌, subst}
use mathlib.Core.Logic.{◌⊎◌, inl, inr}
use mathlib.Core.Bool.{Bool, true, false, cond}
use mathlib.Core.List.{List, [], ◌∷◌, ◌++◌, append_assoc, append-nil}
use mathlib.Core.Option.{Option, none, some}
use Prim.Native.Nat.{ℕ, suc, ◌≤◌}
use Rattle.lists.specs.Histories.{Any, Suf, suf_any, stop, back, suf_trans, In, here, there}
use Rattle.lists.specs.Queues.{push, Once}
use Rattle.lists.specs.Places.{nth}
use Rattle.automaton.specs.State.{Tagged, ChannelState, released, ChannelAction, dispatch, take_broadcast, take_single, deliver, ripe}
use Rattle.automaton.specs.Network.{Network}
use Rattle.automaton.specs.Automaton.{Step, take, join, Mcasts, Joins, chan, ChannelExecution}
use Rattle.automaton.specs.Trace.{joins, steps_take, steps_single, steps_deliver, steps}

module _ {M : Type 0} (N : Network M) where
  pub joins_suf : (l : List M) (E : List (Step M)) → Suf E (joins l E)
  joins_suf [] E = stop
  joins_suf (a ∷ l) E = suf_trans (back stop) (joins_suf l (join a ∷ E))

  pub joins_in : (l : List M) (E : List (Step M)) {m : M} → In m l → Any (Joins m) (joins l E)
  joins_in [] E {m = m} x' = elim x' [ ]
  joins_in (a ∷ l) E (here p) = suf_any (joins_suf l (join a ∷ E)) (here {e = join a} p)
  joins_in (a ∷ l) E (there h) = joins_in l (join a ∷ E) h

  pub joins_mcast : (l : List M) {E : List (Step M)} {m : M} → Any (Mcasts m) E → Any (Mcasts m) (joins l E)
  joins_mcast [] h = h
  joins_mcast (a ∷ l) h = joins_mcast l (there h)

  -- a join is no multicast
  pub mcast_joins : (l : List M) {E : List (Step M)} {m : M} → Any (Mcasts m) (joins l E) → Any (Mcasts m) E
  mcast_joins [] h = h
  mcast_joins (a ∷ l) {E} {m} h = go (mcast_joins l h)
    where
      go : Any (Mcasts m) (join a ∷ E) → Any (Mcasts m) E
      go (here x4) = elim x4 [ ]
      go (there x) = x

  pub joins_joined : (l : List M) {E : List (Step M)} {m : M} → Any (Joins m) (joins l E) → Any (Joins m) E ⊎ In m l
  joins_joined [] h = inl h
  joins_joined (a ∷ l) {E} {m} h = go (joins_joined l h)
    where
      go : Any (Joins m) (join a ∷ E) ⊎ In m l → Any (Joins m) E ⊎ In m (a ∷ l)
      go (inl (here p)) = inr (here p)
      go (inl (there x)) = inl x
      go (inr x) = inr (there x)

  pub joins_taken : (l : List M) (E : List (Step M)) → (chan N (joins l E)).taken ≡ (chan N E).taken
  joins_taken [] E = refl
  joins_taken (a ∷ l) E = joins_taken l (join a ∷ E)

  pub joins_made : (l : List M) (E : List (Step M)) → (chan N (joins l E)).made ≡ (chan N E).made
  joins_made [] E = refl
  joins_made (a ∷ l) E = joins_made l (join a ∷ E)

  pub joins_mark : (l : List M) (E : List (Step M)) → (chan N (joins l E)).mark ≡ (chan N E).mark
  joins_mark [] E = refl
  joins_mark (a ∷ l) E = joins_mark l (join a ∷ E)

  pub joins_inbox : (l : List M) (E : List (Step M)) (i j : ℕ) → ((m : M) → In m l → N.mail.dest m ≡ i)
      → (chan N (joins l E)).inbox j ≡ cond (eqb j i) ((chan N E).inbox j ++ l) ((chan N E).inbox j)
  joins_inbox [] E i j d = go (eqb j i)
    where
      go : (t : Bool) → (chan N E).inbox j ≡ cond t ((chan N E).inbox j ++ []) ((chan N E).inbox j)
      go true = sym (append-nil ((chan N E).inbox j))
      go false = refl
  joins_inbox (a ∷ l) E i j d = joins_inbox l (join a ∷ E) i j (λ m h. d m (there h)) ∙ rw (d a (here refl)) (go (eqb j i))
    where
      go : (t : Bool)
          → cond t (push t a ((chan N E).inbox j) ++ l) (push t a ((chan N E).inbox j)) ≡ cond t ((chan N E).inbox j ++ a ∷ l) ((chan N E).inbox j)
      go true = append_assoc ((chan N E).inbox j) (a ∷ []) l
      go false = refl

  pub joins_flows : (l : List M) (E : List (Step M)) → ChannelExecution N E → Once l
      → ((m : M) → In m l → (N.mail.multi m ≡ false) × Any (Mcasts m) E × (¬ Any (Joins m) E) ×
      ((chan N E).mark m ≤ (chan N E).taken (N.mail.dest m))) → ChannelExecution N (joins l E)
  joins_flows [] E v o f = v
  joins_flows (a ∷ l) E v o f = joins_flows l (join a ∷ E) (f a (here refl), v) o.1 g
    where
      g : (m : M) → In m l
          → (N.mail.multi m ≡ false) × Any (Mcasts m) (join a ∷ E) × (¬ Any (Joins m) (join a ∷ E)) ×
          ((chan N E).mark m ≤ (chan N E).taken (N.mail.dest m))
      g m h = let r = f m (there h) in (r.0, there r.1, k, r.3)
        where
          k : ¬ Any (Joins m) (join a ∷ E)
          k (here p) = o.0 (subst (λ x. In x l) (sym p) h)
          k (there x) = (f m (there h)).2 x

  pub joins_inv : (l : List M) (E : List (Step M)) → ChannelExecution N (joins l E) → ChannelExecution N E
  joins_inv [] E v = v
  joins_inv (m ∷ l) E v = (joins_inv l (join m ∷ E) v).1

  -- an operation's steps are put before the history
  pub steps_suf : (w : ChannelState M) (x : ChannelAction M) (E : List (Step M)) → Suf E (steps N.mail w x E)
  steps_suf w (dispatch i m) E = back stop
  steps_suf w (take_broadcast i) E = go (nth w.sent (w.taken i))
    where
      go : (o : Option M) → Suf E (steps_take w i o E)
      go none = stop
      go (some m) = suf_trans (back stop) (joins_suf (released (suc (w.taken i)) (w.held i)) (take i m ∷ E))
  steps_suf w (take_single c) E = go (w.flight c)
    where
      at : (x : Tagged M) (t : Bool) → Suf E (cond t (join x.msg ∷ E) E)
      at x true = back stop
      at x false = stop

      go : (o : Option (Tagged M)) → Suf E (steps_single N.mail w o E)
      go none = stop
      go (some x) = at x (ripe N.mail w x)
  steps_suf w (deliver i) E = go (w.inbox i)
    where
      go : (l : List M) → Suf E (steps_deliver l i E)
      go [] = stop
      go (m ∷ r) = back stop
