-- The epoch of a message with one destination is what 000 §6.2 says: the larger of its tag and of the number of broadcasts that its
-- destination had taken when it arrived there (step 8).
use lib.Dec.{eqb, leb}
use borrow.Author.Tests.{eqb-true, leb-true, leb-false}
use mathlib.Core.Path.{◌≡◌, refl, sym, ap, ◌∙◌, subst}
use mathlib.Core.Bool.{Bool, true, false, cond}
use mathlib.Core.List.{List, [], ◌∷◌}
use mathlib.Core.Option.{Option, none, some}
use Prim.Native.Nat.{ℕ, suc, ◌<◌, max}
use native.Mathlib.Decide.{ℕ_discrete}
use native.Mathlib.Omega.{arith}
use Rattle.lists.specs.Tests.{eqb_refl}
use Rattle.lists.specs.Histories.{Any, here, there, At, now, before, suf_at, In}
use Rattle.lists.specs.Queues.{push_old, push_new}
use Rattle.lists.specs.Places.{nth}
use Rattle.automaton.specs.State.{Tagged, ChannelState, released, kept, ChannelAction, dispatch, take_broadcast, take_single, deliver, dispatching, taking, landing, arriving, channel_step, ripe}
use Rattle.automaton.specs.Network.{Network}
use Rattle.automaton.specs.Automaton.{Step, mcast, take, join, rest, Mcasts, Joins, chan, ChannelExecution}
use Rattle.automaton.specs.TotalOrder.{epoch}
use Rattle.automaton.specs.Trace.{joins, steps_take, steps_single, steps_deliver, steps}
use Rattle.automaton.proofs.Counts.{tag}
use Rattle.automaton.proofs.Times.{epoch_joined}
use Rattle.automaton.proofs.Held.{Holds, holds_in, in_released, in_kept}
use Rattle.automaton.proofs.JoinLists.{steps_suf}
use Rattle.automaton.proofs.Agreement.{Agrees}

module _ {M : Type 0} (N : Network M) where
  -- a message of a list of joins joins, and no card takes anything meanwhile
  joins_at : (m : M) (l : List M) (E : List (Step M)) → In m l
      → (D : List (Step M)) × At (Joins m) D (joins l E) × ((chan N D).taken ≡ (chan N E).taken)
  joins_at m [] E x' = elim x' [ ]
  joins_at m (a ∷ l) E (here p) = (E, on l (join a ∷ E) (now {e = join a} p), refl)
    where
      on : {D : List (Step M)} (l : List M) (F : List (Step M)) → At (Joins m) D F → At (Joins m) D (joins l F)
      on [] F x = x
      on (b ∷ l) F x = on l (join b ∷ F) (before x)
  joins_at m (a ∷ l) E (there h) = joins_at m l (join a ∷ E) h

  -- Message m with tag t, whose destination had taken a broadcasts when it arrived: it is among those held there, or it has joined, in
  -- the epoch that is the larger of the two.
  pub data ArrivedIn (m : M) (t a : ℕ) (l : List (Tagged M)) (E : List (Step M)) : Type 0 where
    held : a < t → Any (Holds m t) l → ArrivedIn m t a l E
    entered : (D : List (Step M)) → At (Joins m) D E → (chan N D).taken (N.mail.dest m) ≡ max t a → ArrivedIn m t a l E

  abbrev pub Arrived : M → ℕ → ℕ → ChannelState M → List (Step M) → Type 0
  Arrived m t a w E = ArrivedIn m t a (w.held (N.mail.dest m)) E

  -- what is held stays held through an operation, or is released in the epoch of its tag
  module _ (m : M) (t a : ℕ) (w : ChannelState M) (E : List (Step M)) (agrees : Agrees N w E) (below : a < t) (h : Any (Holds m t) (w.held (N.mail.dest m))) where
    held_dispatch : (b : Bool) (i : ℕ) (n : M) → Arrived m t a (dispatching N.mail b w i n) (mcast n ∷ E)
    held_dispatch true i n = held below h
    held_dispatch false i n = held below h

    held_take : (i : ℕ) (o : Option M) → Arrived m t a (taking N.mail w i o) (steps_take w i o E)
    held_take i none = held below h
    held_take i (some n) = go (eqb (N.mail.dest m) i) refl (ℕ_discrete t (suc (w.taken i)))
      where
        rel : List M
        rel = released (suc (w.taken i)) (w.held i)

        go : (u : Bool) → eqb (N.mail.dest m) i ≡ u → Dec (t ≡ suc (w.taken i))
            → ArrivedIn m t a (cond u (kept (suc (w.taken i)) (w.held (N.mail.dest m))) (w.held (N.mail.dest m)))
            (joins (released (suc (w.taken i)) (w.held i)) (take i n ∷ E))
        go false e d = held below h
        go true e (no q) = held below (in_kept h q)
        go true e (yes q) =
            let f = eqb-true _ _ e in
            let j = joins_at m (released (suc (w.taken i)) (w.held i)) (take i n ∷ E) (in_released (subst (λ c. Any (Holds m t) (w.held c)) f h) q) in
            entered j.0 j.1
            (ap (λ g. g (N.mail.dest m)) j.2 ∙ ap (λ v. cond v (suc ((chan N E).taken (N.mail.dest m))) ((chan N E).taken (N.mail.dest m))) e
            ∙ (let k = agrees.taken= (N.mail.dest m) in let c = ap w.taken f in omega arith))

    held_single : (c : ℕ) (o : Option (Tagged M)) → Arrived m t a (arriving N.mail w c o) (steps_single N.mail w o E)
    held_single c none = held below h
    held_single c (some x) = go (ripe N.mail w x)
      where
        go : (u : Bool) → Arrived m t a (landing N.mail u w c x) (cond u (join x.msg ∷ E) E)
        go true = held below h
        go false = held below (push_old (eqb (N.mail.dest m) (N.mail.dest x.msg)) x (w.held (N.mail.dest m)) h)

    held_deliver : (i : ℕ) (l : List M) → Arrived m t a (channel_step N.mail w (deliver i)) (steps_deliver l i E)
    held_deliver i [] = held below h
    held_deliver i (n ∷ r) = held below h

  pub arrived_step : (m : M) (t a : ℕ) (w : ChannelState M) (E : List (Step M)) → Agrees N w E → (x : ChannelAction M) → Arrived m t a w E
      → Arrived m t a (channel_step N.mail w x) (steps N.mail w x E)
  arrived_step m t a w E g x (entered D y e) = entered D (suf_at (steps_suf N w x E) y) e
  arrived_step m t a w E g (dispatch i n) (held b h) = held_dispatch m t a w E g b h (N.mail.multi n) i n
  arrived_step m t a w E g (take_broadcast i) (held b h) = held_take m t a w E g b h i (nth w.sent (w.taken i))
  arrived_step m t a w E g (take_single c) (held b h) = held_single m t a w E g b h c (w.flight c)
  arrived_step m t a w E g (deliver i) (held b h) = held_deliver m t a w E g b h i (w.inbox i)

  pub arrived_rest : (m : M) (t a : ℕ) (w : ChannelState M) (E : List (Step M)) → Arrived m t a w E → Arrived m t a w (rest ∷ E)
  arrived_rest m t a w E (held b h) = held b h
  arrived_rest m t a w E (entered D y e) = entered D (before y) e

  -- the arrival itself
  pub arrival : (w : ChannelState M) (E : List (Step M)) → Agrees N w E → (c : ℕ) (x : Tagged M) → w.flight c ≡ some x
      → Arrived x.msg x.mark (w.taken (N.mail.dest x.msg)) (channel_step N.mail w (take_single c)) (steps N.mail w (take_single c) E)
  arrival w E g c x e =
      subst (λ o. Arrived x.msg x.mark (w.taken i) (arriving N.mail w c o) (steps_single N.mail w o E)) (sym e)
      (go (leb x.mark (w.taken i)) refl)
    where
      i : ℕ
      i = N.mail.dest x.msg

      go : (u : Bool) → ripe N.mail w x ≡ u
          → Arrived x.msg x.mark (w.taken (N.mail.dest x.msg)) (landing N.mail u w c x) (cond u (join x.msg ∷ E) E)
      go true q =
          let k = leb-true x.mark (w.taken (N.mail.dest x.msg)) q in
          let r = g.taken= (N.mail.dest x.msg) in
          entered E (now {e = join x.msg} refl) (omega arith)
      go false q =
          let k = leb-false x.mark (w.taken (N.mail.dest x.msg)) q in
          held (omega arith) (holds_in (push_new x (w.held (N.mail.dest x.msg)) (eqb_refl (N.mail.dest x.msg))))

  -- once it has joined, its epoch is the larger of the two
  pub arrived_epoch : (m : M) (t a : ℕ) (w : ChannelState M) (E : List (Step M)) → Agrees N w E → ChannelExecution N E → Arrived m t a w E
      → Any (Joins m) E → epoch N E m ≡ max t a
  arrived_epoch m t a w E g v (held b h) j = absurd ((g.holds (N.mail.dest m) m t h).0.unjoined j)
  arrived_epoch m t a w E g v (entered D y e) j = epoch_joined N E v y ∙ e

  -- the tag is the number of broadcasts that the sender had taken when it multicast the message
  pub flight_tag_lem : (w : ChannelState M) (E : List (Step M)) → Agrees N w E → ChannelExecution N E
      → (c : ℕ) (x : Tagged M) {B : List (Step M)} → w.flight c ≡ some x
      → At (Mcasts x.msg) B E → x.mark ≡ (chan N B).taken (N.from x.msg)
  flight_tag_lem w E g v c x e y = let l = (g.flies c x e).0 in sym l.tag_is ∙ tag N v l.alone y
