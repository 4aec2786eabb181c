-- Nothing is held longer than its tag asks: what a card holds has a tag above the number of broadcasts that the card has taken.
use lib.Dec.{eqb}
use borrow.Author.Tests.{eqb-true, leb-false}
use mathlib.Core.Path.{◌≡◌, refl, ap}
use mathlib.Core.Logic.{◌⊎◌, inl, inr}
use mathlib.Core.Bool.{Bool, true, false, cond}
use mathlib.Core.List.{List, [], ◌∷◌}
use mathlib.Core.Option.{Option, none, some}
use Prim.Native.Nat.{ℕ, suc, ◌<◌}
use native.Mathlib.Omega.{arith}
use Rattle.lists.specs.Histories.{Any, any_nil}
use Rattle.lists.specs.Queues.{push_any}
use Rattle.lists.specs.Places.{nth}
use Rattle.automaton.specs.Mail.{Mail}
use Rattle.automaton.specs.State.{Tagged, ChannelState, kept, ChannelAction, dispatch, take_broadcast, take_single, deliver, dispatching, taking, landing, arriving, channel_step, ripe}
use Rattle.automaton.specs.Calls.{Setup, done, calls}
use Rattle.automaton.proofs.Held.{Holds, kept_in}

module _ {M : Type 0} where
  abbrev pub Prompt : ChannelState M → Type 0
  Prompt w = (i : ℕ) (m : M) (t : ℕ) → Any (Holds m t) (w.held i) → w.taken i < t

module _ {M : Type 0} (mail : Mail M) where
  dispatching_prompt : (b : Bool) (w : ChannelState M) (i : ℕ) (m : M) → Prompt w → Prompt (dispatching mail b w i m)
  dispatching_prompt true w i m p = p
  dispatching_prompt false w i m p = p

  taking_prompt : (w : ChannelState M) (i : ℕ) (o : Option M) → Prompt w → Prompt (taking mail w i o)
  taking_prompt w i none p j m t h = p j m t h
  taking_prompt w i (some a) p j m t h = go (eqb j i) refl h
    where
      go : (b : Bool) → eqb j i ≡ b → Any (Holds m t) (cond b (kept (suc (w.taken i)) (w.held j)) (w.held j))
          → cond b (suc (w.taken j)) (w.taken j) < t
      go true e h =
          let k = kept_in (suc (w.taken i)) m t (w.held j) h in
          let q = p j m t k.0 in
          let r = ap w.taken (eqb-true j i e) in
          let n = k.1 in
          omega (arith, n)
      go false e h = p j m t h

  landing_prompt : (w : ChannelState M) (c : ℕ) (x : Tagged M) (b : Bool) → ripe mail w x ≡ b → Prompt w
      → Prompt (landing mail b w c x)
  landing_prompt w c x true e p i m t h = p i m t h
  landing_prompt w c x false e p i m t h = go (push_any (eqb i (mail.dest x.msg)) x (w.held i) h)
    where
      go : Any (Holds m t) (w.held i) ⊎ ((eqb i (mail.dest x.msg) ≡ true) × Holds m t x) → w.taken i < t
      go (inl y) = p i m t y
      go (inr y) =
          let k = leb-false x.mark (w.taken (mail.dest x.msg)) e in
          let r = ap w.taken (eqb-true i (mail.dest x.msg) y.0) in
          let q = y.1.1 in
          omega arith

  arriving_prompt : (w : ChannelState M) (c : ℕ) (o : Option (Tagged M)) → Prompt w → Prompt (arriving mail w c o)
  arriving_prompt w c none p = p
  arriving_prompt w c (some x) p = landing_prompt w c x (ripe mail w x) refl p

  pub step_prompt : (w : ChannelState M) (x : ChannelAction M) → Prompt w → Prompt (channel_step mail w x)
  step_prompt w (dispatch i m) p = dispatching_prompt (mail.multi m) w i m p
  step_prompt w (take_broadcast i) p = taking_prompt w i (nth w.sent (w.taken i)) p
  step_prompt w (take_single c) p = arriving_prompt w c (w.flight c) p
  step_prompt w (deliver i) p = p

module _ {M : Type 0} (C : Setup M) where
  pub calls_prompt : (xs : List (ChannelAction M)) → Prompt (calls C xs)
  calls_prompt [] i m t h = absurd (any_nil h)
  calls_prompt (x ∷ xs) i m t h = go (done C (calls C xs) x) (calls_prompt xs) i m t h
    where
      go : (b : Bool) → Prompt (calls C xs)
          → Prompt (cond b (channel_step C.mail (calls C xs) x) (calls C xs))
      go true p = step_prompt C.mail (calls C xs) x p
      go false p = p
