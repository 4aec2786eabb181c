-- Step 8 holds the message exactly if it puts it into ppwait.
use Prim.Native.Nat.{ℕ}
use mathlib.Core.Path.{◌≡◌, refl, ap, ◌∙◌}
use mathlib.Core.Logic.{◌↔◌}
use mathlib.Core.Bool.{Bool, true, false, cond, true≢false, false≢true}
use mathlib.Core.List.{List, [], ◌∷◌, ◌++◌}
use mathlib.Core.Option.{Option, none, some}
use native.Mathlib.Omega.{arith}
use lib.Dec.{eqb}
use lib.ListN.{length, length-append}
use Rattle.lists.specs.Tests.{eqb_refl}
use Rattle.lists.specs.Queues.{push}
use Rattle.automaton.specs.Mail.{Mail}
use Rattle.automaton.specs.State.{Tagged, ChannelState, ChannelAction, dispatch, take_broadcast, take_single, deliver, ripe, landing, arriving, channel_step}
use Rattle.automaton.specs.Holding.{held_back, holds}
use Rattle.automaton.specs.HoldingMeaning.{IsHeld, Joins, HoldingMeaning}

-- a list with one more at its end is another
pub no_more : {A : Type 0} (l : List A) (a : A) → l ≡ l ++ (a ∷ []) → ⊥
no_more l a e = let n = ap length e ∙ length-append l (a ∷ []) in omega arith

module _ {M : Type 0} (mail : Mail M) (w : ChannelState M) (c : ℕ) (x : Tagged M) (flew : w.flight c ≡ some x) where
  abbrev after : Bool → ChannelState M
  after b = landing mail b w c x

  step_is : channel_step mail w (take_single c) ≡ after (ripe mail w x)
  step_is = ap (arriving mail w c) flew

  put : {A : Type 0} (a : A) (l : List A) → push (eqb (mail.dest x.msg) (mail.dest x.msg)) a l ≡ l ++ (a ∷ [])
  put a l = ap (λ b. push b a l) (eqb_refl (mail.dest x.msg))

  emptied : cond (eqb c c) none (w.flight c) ≡ none
  emptied = ap (λ b. cond b none (w.flight c)) (eqb_refl c)

  held_there : IsHeld mail w (after false) c x
  held_there = record { flew = flew; gone = emptied; held = put x (w.held (mail.dest x.msg)); inboxes = λ i. refl }

  joined_there : Joins mail w (after true) c x
  joined_there = record { flew = flew; gone = emptied; inbox = put x.msg (w.inbox (mail.dest x.msg)); held = λ i. refl }

  pub held_exact : (holds mail w (take_single c) ≡ true) ↔ IsHeld mail w (channel_step mail w (take_single c)) c x
  held_exact = rw (step_is, ap (held_back mail w) flew) (go (ripe mail w x) refl)
    where
      go : (b : Bool) → ripe mail w x ≡ b → (held_back mail w (some x) ≡ true) ↔ IsHeld mail w (after b) c x
      go true e = rw e ((λ q. absurd (false≢true q)), (λ h. absurd (no_more (w.held (mail.dest x.msg)) x h.held)))
      go false e = rw e ((λ q. held_there), (λ h. refl))

  pub joins_exact : (holds mail w (take_single c) ≡ false) ↔ Joins mail w (channel_step mail w (take_single c)) c x
  joins_exact = rw (step_is, ap (held_back mail w) flew) (go (ripe mail w x) refl)
    where
      go : (b : Bool) → ripe mail w x ≡ b → (held_back mail w (some x) ≡ false) ↔ Joins mail w (after b) c x
      go true e = rw e ((λ q. joined_there), (λ h. refl))
      go false e = rw e ((λ q. absurd (true≢false q)), (λ h. absurd (no_more (w.inbox (mail.dest x.msg)) x.msg h.inbox)))

module _ {M : Type 0} (mail : Mail M) (w : ChannelState M) where
  -- what is held was in flight
  pub held_flies : (c : ℕ) → holds mail w (take_single c) ≡ true → (x : Tagged M) × (w.flight c ≡ some x)
  held_flies c = go (w.flight c) refl
    where
      go : (o : Option (Tagged M)) → w.flight c ≡ o → held_back mail w o ≡ true → (x : Tagged M) × (w.flight c ≡ some x)
      go none p q = absurd (false≢true q)
      go (some x) p q = (x, p)

  pub only_single : (a : ChannelAction M) → holds mail w a ≡ true → (c : ℕ) × (x : Tagged M) × (a ≡ take_single c) × (w.flight c ≡ some x)
  only_single (dispatch i m) e = absurd (false≢true e)
  only_single (take_broadcast i) e = absurd (false≢true e)
  only_single (take_single c) e = let (x, f) = held_flies c e in (c, x, refl, f)
  only_single (deliver i) e = absurd (false≢true e)

  pub holding_meaning : HoldingMeaning mail w
  holding_meaning = record {
    held_if = λ c x f. held_exact mail w c x f;
    joins_if = λ c x f. joins_exact mail w c x f;
    only_single = only_single;
  }
