-- Nothing is lost: a broadcast that was multicast stands among the broadcasts made, and another message is in flight, held at its
-- destination, or has joined the inbox there.
use lib.Dec.{eqb}
use borrow.Author.Tests.{eqb-true}
use mathlib.Core.Path.{◌≡◌, refl, sym, ap, ◌∙◌, subst}
use mathlib.Core.Bool.{Bool, true, false, cond, true≢false}
use mathlib.Core.List.{List, [], ◌∷◌, ◌++◌}
use mathlib.Core.Option.{Option, none, some, none-ne-some, some-injective}
use Prim.Native.Nat.{ℕ, suc}
use native.Mathlib.Decide.{ℕ_discrete}
use native.Mathlib.Omega.{arith}
use Rattle.lists.specs.Tests.{eqb_of, clash}
use Rattle.lists.specs.Histories.{Any, Suf, stop, back, suf_trans, any_map, here, there, In, any_nil, any_left, any_right, suf_any}
use Rattle.lists.specs.Queues.{push, push_old, push_new}
use Rattle.lists.specs.Places.{nth}
use Rattle.automaton.specs.State.{Tagged, ChannelState, initial_channel, released, kept, ChannelAction, dispatch, take_broadcast, take_single, deliver, dispatching, taking, landing, arriving, channel_step, ripe, tagging}
use Rattle.automaton.specs.Refusals.{broadcast_refusal, flight_refusal, channel_refusal}
use Rattle.automaton.specs.Network.{Network}
use Rattle.automaton.specs.Automaton.{Step, mcast, take, join, receive, Mcasts, Joins}
use Rattle.automaton.specs.Trace.{joins, steps_take, steps_single, steps_deliver, steps}
use Rattle.automaton.proofs.Held.{Holds, Names, names_holds, holds_names, in_released, in_kept}
use Rattle.automaton.proofs.JoinLists.{joins_suf, joins_in, mcast_joins}

module _ {M : Type 0} (N : Network M) where
  -- where a message with one destination is, after its multicast; f is what flies for its task, l what its destination holds
  pub data OnWay (m : M) (f : Option (Tagged M)) (l : List (Tagged M)) (E : List (Step M)) : Type 0 where
    flying : (x : Tagged M) → f ≡ some x → x.msg ≡ m → OnWay m f l E
    held : Any (Names m) l → OnWay m f l E
    joined : Any (Joins m) E → OnWay m f l E

  pub record Safe (w : ChannelState M) (E : List (Step M)) : Type 0 where
    pub stands : (m : M) → N.mail.multi m ≡ true → Any (Mcasts m) E → In m w.sent
    pub comes : (m : M) → N.mail.multi m ≡ false → Any (Mcasts m) E → OnWay m (w.flight (N.mail.task m)) (w.held (N.mail.dest m)) E

  pub safe_start : Safe initial_channel []
  safe_start = record { stands = λ m u h. absurd (any_nil h); comes = λ m u h. absurd (any_nil h) }

  on : {m : M} {f : Option (Tagged M)} {l : List (Tagged M)} {E F : List (Step M)} → Suf E F → OnWay m f l E → OnWay m f l F
  on s (flying x q r) = flying x q r
  on s (held h) = held h
  on s (joined j) = joined (suf_any s j)

  module _ (w : ChannelState M) (E : List (Step M)) (s : Safe w E) where
    -- step 6, which is refused while the task has a message in flight
    dispatch_safe : (i : ℕ) (n : M) (t : Bool) → N.mail.multi n ≡ t → (t ≡ false → w.flight (N.mail.task n) ≡ none)
        → Safe (dispatching N.mail t w i n) (mcast n ∷ E)
    dispatch_safe i n true u free = record { stands = λ m e h. a m e h; comes = λ m e h. b m e h }
      where
        a : (m : M) → N.mail.multi m ≡ true → Any (Mcasts m) (mcast n ∷ E) → In m (w.sent ++ (n ∷ []))
        a m e (here p) = any_right w.sent (here p)
        a m e (there h) = any_left (n ∷ []) (s.stands m e h)

        b : (m : M) → N.mail.multi m ≡ false → Any (Mcasts m) (mcast n ∷ E)
            → OnWay m (w.flight (N.mail.task m)) (w.held (N.mail.dest m)) (mcast n ∷ E)
        b m e (here p) = absurd (clash u (ap N.mail.multi p ∙ e))
        b m e (there h) = on (back stop) (s.comes m e h)
    dispatch_safe i n false u free = record { stands = λ m e h. a m e h; comes = λ m e h. b m e h }
      where
        entry : Tagged M
        entry = tagging w i n

        a : (m : M) → N.mail.multi m ≡ true → Any (Mcasts m) (mcast n ∷ E) → In m w.sent
        a m e (here p) = absurd (clash e (ap N.mail.multi (sym p) ∙ u))
        a m e (there h) = s.stands m e h

        old : (m : M) (t : Bool) → eqb (N.mail.task m) (N.mail.task n) ≡ t
            → OnWay m (w.flight (N.mail.task m)) (w.held (N.mail.dest m)) E
            → OnWay m (cond t (some (tagging w i n)) (w.flight (N.mail.task m))) (w.held (N.mail.dest m)) (mcast n ∷ E)
        old m true e (flying x q r) = absurd (none-ne-some x (sym (free refl) ∙ ap w.flight (sym (eqb-true _ _ e)) ∙ q))
        old m false e (flying x q r) = flying x q r
        old m t e (held h) = held h
        old m t e (joined j) = joined (there j)

        b : (m : M) → N.mail.multi m ≡ false → Any (Mcasts m) (mcast n ∷ E)
            → OnWay m (cond (eqb (N.mail.task m) (N.mail.task n)) (some (tagging w i n)) (w.flight (N.mail.task m)))
            (w.held (N.mail.dest m)) (mcast n ∷ E)
        b m e (here p) =
            flying (tagging w i n) (ap (λ t. cond t (some (tagging w i n))
            (w.flight (N.mail.task m))) (eqb_of (ap N.mail.task (sym p)))) p
        b m e (there h) = old m (eqb (N.mail.task m) (N.mail.task n)) refl (s.comes m e h)

    -- step 7
    take_safe : (i : ℕ) (o : Option M) → Safe (taking N.mail w i o) (steps_take w i o E)
    take_safe i none = s
    take_safe i (some n) = record { stands = λ m e h. s.stands m e (was m h); comes = λ m e h. b m (eqb (N.mail.dest m) i) refl (s.comes m e (was m h)) }
      where
        was : (m : M) → Any (Mcasts m) (joins (released (suc (w.taken i)) (w.held i)) (take i n ∷ E)) → Any (Mcasts m) E
        was m h = go (mcast_joins N (released (suc (w.taken i)) (w.held i)) h)
          where
            go : Any (Mcasts m) (take i n ∷ E) → Any (Mcasts m) E
            go (here x3) = elim x3 [ ]
            go (there x) = x

        b : (m : M) (t : Bool) → eqb (N.mail.dest m) i ≡ t → OnWay m (w.flight (N.mail.task m)) (w.held (N.mail.dest m)) E
            → OnWay m (w.flight (N.mail.task m)) (cond t (kept (suc (w.taken i)) (w.held (N.mail.dest m))) (w.held (N.mail.dest m)))
            (joins (released (suc (w.taken i)) (w.held i)) (take i n ∷ E))
        b m t e (flying x q r) = flying x q r
        b m t e (joined j) = joined (suf_any (suf_trans (back stop) (joins_suf N (released (suc (w.taken i)) (w.held i)) (take i n ∷ E))) j)
        b m false e (held h) = held h
        b m true e (held h) = go (names_holds h)
          where
            go : (t : ℕ) × Any (Holds m t) (w.held (N.mail.dest m))
                → OnWay m (w.flight (N.mail.task m)) (kept (suc (w.taken i)) (w.held (N.mail.dest m)))
                (joins (released (suc (w.taken i)) (w.held i)) (take i n ∷ E))
            go (t, y) = pick (ℕ_discrete t (suc (w.taken i)))
              where
                pick : Dec (t ≡ suc (w.taken i))
                    → OnWay m (w.flight (N.mail.task m)) (kept (suc (w.taken i)) (w.held (N.mail.dest m)))
                    (joins (released (suc (w.taken i)) (w.held i)) (take i n ∷ E))
                pick (yes q) = joined (joins_in N (released (suc (w.taken i)) (w.held i)) (take i n ∷ E)
                    (in_released (subst (λ c. Any (Holds m t) (w.held c)) (eqb-true _ _ e) y) q))
                pick (no q) = held (holds_names (in_kept y q))

    -- what flies for the task whose message arrives is that message
    landed : {c : ℕ} {x y : Tagged M} (m : M) → w.flight c ≡ some x → eqb (N.mail.task m) c ≡ true → w.flight (N.mail.task m) ≡ some y
        → y.msg ≡ m → x.msg ≡ m
    landed {c} {x} {y} m f e q r = ap (λ z. z.msg) (some-injective x y (sym f ∙ ap w.flight (sym (eqb-true _ _ e)) ∙ q)) ∙ r

    -- step 8
    land_safe : (c : ℕ) (x : Tagged M) → w.flight c ≡ some x → (t : Bool) → Safe (landing N.mail t w c x) (cond t (join x.msg ∷ E) E)
    land_safe c x f true = record { stands = λ m e h. s.stands m e (was m h); comes = λ m e h. b m (eqb (N.mail.task m) c) refl (s.comes m e (was m h)) }
      where
        was : (m : M) → Any (Mcasts m) (join x.msg ∷ E) → Any (Mcasts m) E
        was m (here x4) = elim x4 [ ]
        was m (there h) = h

        b : (m : M) (t : Bool) → eqb (N.mail.task m) c ≡ t → OnWay m (w.flight (N.mail.task m)) (w.held (N.mail.dest m)) E
            → OnWay m (cond t none (w.flight (N.mail.task m))) (w.held (N.mail.dest m)) (join x.msg ∷ E)
        b m true e (flying y q r) = joined (here (landed m f e q r))
        b m false e (flying y q r) = flying y q r
        b m t e (held h) = held h
        b m t e (joined j) = joined (there j)
    land_safe c x f false = record { stands = λ m e h. s.stands m e h; comes = λ m e h. b m (eqb (N.mail.task m) c) refl (s.comes m e h) }
      where
        b : (m : M) (t : Bool) → eqb (N.mail.task m) c ≡ t → OnWay m (w.flight (N.mail.task m)) (w.held (N.mail.dest m)) E
            → OnWay m (cond t none (w.flight (N.mail.task m))) (push (eqb (N.mail.dest m) (N.mail.dest x.msg)) x (w.held (N.mail.dest m))) E
        b m true e (flying y q r) = let p = landed m f e q r in held (any_map (λ z k. ap (λ v. v.msg) k ∙ p)
            (push_new x (w.held (N.mail.dest m)) (eqb_of (ap N.mail.dest (sym p)))))
        b m false e (flying y q r) = flying y q r
        b m t e (held h) = held (push_old (eqb (N.mail.dest m) (N.mail.dest x.msg)) x (w.held (N.mail.dest m)) h)
        b m t e (joined j) = joined j

    single_safe : (c : ℕ) (o : Option (Tagged M)) → w.flight c ≡ o → Safe (arriving N.mail w c o) (steps_single N.mail w o E)
    single_safe c none f = s
    single_safe c (some x) f = land_safe c x f (ripe N.mail w x)

    -- step 9
    deliver_safe : (i : ℕ) (l : List M) → Safe (channel_step N.mail w (deliver i)) (steps_deliver l i E)
    deliver_safe i [] = record { stands = s.stands; comes = s.comes }
    deliver_safe i (n ∷ r) = record { stands = λ m e h. s.stands m e (was m h); comes = λ m e h. on (back stop) (s.comes m e (was m h)) }
      where
        was : (m : M) → Any (Mcasts m) (receive n i ∷ E) → Any (Mcasts m) E
        was m (here x3) = elim x3 [ ]
        was m (there h) = h

    -- an operation that is not refused loses nothing
    pub step_safe : (cards : ℕ) (x : ChannelAction M) → channel_refusal N.mail cards w x ≡ 0
        → Safe (channel_step N.mail w x) (steps N.mail w x E)
    unfolding channel_refusal
    step_safe cards (dispatch i n) z = dispatch_safe i n (N.mail.multi n) refl (λ u. free (N.mail.multi n) u (w.flight (N.mail.task n)) refl z)
      where
        free : (t : Bool) → t ≡ false → (o : Option (Tagged M)) → w.flight (N.mail.task n) ≡ o
            → cond t (broadcast_refusal N.mail cards w) (flight_refusal N.mail cards o) ≡ 0 → w.flight (N.mail.task n) ≡ none
        free true u o f z = absurd (true≢false u)
        free false u none f z = f
        free false u (some y) f z = absurd (omega arith)
    step_safe cards (take_broadcast i) z = take_safe i (nth w.sent (w.taken i))
    step_safe cards (take_single c) z = single_safe c (w.flight c) refl
    step_safe cards (deliver i) z = deliver_safe i (w.inbox i)
