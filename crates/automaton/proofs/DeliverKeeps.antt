-- Step 9 keeps the agreement.
use lib.Dec.{eqb}
use borrow.Author.Tests.{eqb-true}
use mathlib.Core.Path.{◌≡◌, refl, sym, ap, ◌∙◌}
use mathlib.Core.Bool.{Bool, true, false}
use mathlib.Core.List.{List, [], ◌∷◌}
use Prim.Native.Nat.{ℕ}
use Rattle.lists.specs.Histories.{there}
use Rattle.lists.specs.Queues.{pop}
use Rattle.automaton.specs.State.{ChannelState, deliver, channel_step}
use Rattle.automaton.specs.Network.{Network}
use Rattle.automaton.specs.Automaton.{Step, ChannelExecution}
use Rattle.automaton.specs.Trace.{steps_deliver}
use Rattle.automaton.proofs.Agreement.{Kept, Agrees, in_transit_on}

module _ {M : Type 0} (N : Network M) where
  pub deliver_keeps : (w : ChannelState M) (E : List (Step M)) → Agrees N w E → ChannelExecution N E → (i : ℕ) → Kept N w (deliver i) E
  deliver_keeps w E a v i = go (w.inbox i) refl
    where
      go : (l : List M) → w.inbox i ≡ l
          → Agrees N (channel_step N.mail w (deliver i)) (steps_deliver l i E) × ChannelExecution N (steps_deliver l i E)
      go [] e = (
        record {
          taken= = a.taken=;
          inbox= = λ j. none_there j (eqb j i) refl ∙ a.inbox= j;
          made= = a.made=;
          sent= = a.sent=;
          flies = a.flies;
          holds = a.holds;
          apart = a.apart;
          each = a.each;
        },
        v,
      )
        where
          none_there : (j : ℕ) (t : Bool) → eqb j i ≡ t → pop t (w.inbox j) ≡ w.inbox j
          none_there j true q = let p : w.inbox j ≡ [] = ap w.inbox (eqb-true _ _ q) ∙ e in rw p
          none_there j false q = refl
      go (m ∷ r) e = (
        record {
          taken= = a.taken=;
          inbox= = λ j. ap (pop (eqb j i)) (a.inbox= j);
          made= = a.made=;
          sent= = λ n x y. let z = a.sent= n x y in (z.0, there z.1, z.2);
          flies = λ c x f. let z = a.flies c x f in (in_transit_on N z.0 (λ p. p) (λ p. p), z.1);
          holds = λ j x t h. let z = a.holds j x t h in (in_transit_on N z.0 (λ p. p) (λ p. p), z.1);
          apart = a.apart;
          each = a.each;
        },
        ((r, sym (a.inbox= i) ∙ e), v),
      )
