-- The channel's state as lists (State) against the automaton's run (Automaton): when the two agree.
use mathlib.Core.Path.{◌≡◌, refl, ◌∙◌}
use mathlib.Core.Bool.{true, false}
use mathlib.Core.List.{List, [], ◌∷◌}
use mathlib.Core.Option.{some, none-ne-some}
use Prim.Native.Nat.{ℕ, suc}
use lib.ListN.{length}
use Rattle.lists.specs.Histories.{Any, any_nil, here, there}
use Rattle.lists.specs.Places.{nth}
use Rattle.automaton.specs.State.{Tagged, ChannelState, initial_channel, ChannelAction, channel_step}
use Rattle.automaton.specs.Network.{Network}
use Rattle.automaton.specs.Automaton.{Step, rest, Mcasts, Joins, chan, ChannelExecution}
use Rattle.automaton.specs.Trace.{steps}
use Rattle.automaton.proofs.Counts.{mark_on}
use Rattle.automaton.proofs.Joining.{join_can}
use Rattle.automaton.proofs.Held.{Holds, Names, Distinct}

module _ {M : Type 0} (N : Network M) where
  -- m has one destination and tag t, was multicast, and has not joined
  pub record InTransit (E : List (Step M)) (m : M) (t : ℕ) : Type 0 where
    pub alone : N.mail.multi m ≡ false
    pub mcast_it : Any (Mcasts m) E
    pub unjoined : ¬ Any (Joins m) E
    pub tag_is : (chan N E).mark m ≡ t

  -- counts and inboxes are the same; the broadcasts stand by their numbers; what is in flight or held is on its way, and stands once
  pub record Agrees (w : ChannelState M) (E : List (Step M)) : Type 0 where
    pub taken= : (i : ℕ) → w.taken i ≡ (chan N E).taken i
    pub inbox= : (i : ℕ) → w.inbox i ≡ (chan N E).inbox i
    pub made= : length w.sent ≡ (chan N E).made
    pub sent= : (n : ℕ) (m : M) → nth w.sent n ≡ some m → (N.mail.multi m ≡ true) × Any (Mcasts m) E × ((chan N E).mark m ≡ suc n)
    pub flies : (c : ℕ) (x : Tagged M) → w.flight c ≡ some x → InTransit E x.msg x.mark × (N.mail.task x.msg ≡ c)
    pub holds : (i : ℕ) (m : M) (t : ℕ) → Any (Holds m t) (w.held i) → InTransit E m t × (N.mail.dest m ≡ i)
    pub apart : (c : ℕ) (x : Tagged M) (i : ℕ) → w.flight c ≡ some x → ¬ Any (Names x.msg) (w.held i)
    pub each : (i : ℕ) → Distinct (w.held i)

  -- an operation keeps step: the states agree after it, and its steps are a run
  abbrev pub Kept : ChannelState M → ChannelAction M → List (Step M) → Type 0
  Kept w x E = Agrees (channel_step N.mail w x) (steps N.mail w x E) × ChannelExecution N (steps N.mail w x E)

  pub in_transit_on : {e : Step M} {E : List (Step M)} {m : M} {t : ℕ} → InTransit E m t → ¬ Mcasts m e → ¬ Joins m e
      → InTransit (e ∷ E) m t
  in_transit_on {e} {E} {m} {t} l p q = record { alone = l.alone; mcast_it = there l.mcast_it; unjoined = f; tag_is = mark_on N e E m p ∙ l.tag_is }
    where
      f : ¬ Any (Joins m) (e ∷ E)
      f (here x) = q x
      f (there x) = l.unjoined x

  pub joined_mcast : {m : M} {E : List (Step M)} → ChannelExecution N E → Any (Joins m) E → Any (Mcasts m) E
  joined_mcast {m = m} v (here {e = e} {E = E} p) = there (join_can N e E m p v.0).1
  joined_mcast v (there h) = there (joined_mcast v.1 h)

  pub agrees_start : Agrees initial_channel []
  agrees_start = record {
    taken= = λ i. refl;
    inbox= = λ i. refl;
    made= = refl;
    sent= = λ n m e. absurd (none-ne-some m e);
    flies = λ c x e. absurd (none-ne-some x e);
    holds = λ i m t h. absurd (any_nil h);
    apart = λ c x i e. absurd (none-ne-some x e);
    each = λ i. tt;
  }

  -- a step of others changes nothing here
  pub agrees_rest : (w : ChannelState M) (E : List (Step M)) → Agrees w E → Agrees w (rest ∷ E)
  agrees_rest w E a = record {
    taken= = a.taken=;
    inbox= = a.inbox=;
    made= = a.made=;
    sent= = λ n x y. let z = a.sent= n x y in (z.0, there z.1, z.2);
    flies = λ c x f. let z = a.flies c x f in (in_transit_on z.0 (λ p. p) (λ p. p), z.1);
    holds = λ j x t h. let z = a.holds j x t h in (in_transit_on z.0 (λ p. p) (λ p. p), z.1);
    apart = a.apart;
    each = a.each;
  }
