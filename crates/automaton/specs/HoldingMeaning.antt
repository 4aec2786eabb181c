-- What holding a message means (RULES 5.8), by what step 8 leaves and apart from the test that `holds` makes: the message goes into ppwait of
-- its destination (000 Figure 7), or into msgs there.
use Rattle.std.specs.Prelude.{ℕ, ◌≡◌, ◌↔◌, true, false, [], ◌∷◌, ◌++◌}
use Rattle.std.proofs.Math.Option.{none, some}
use Rattle.automaton.specs.Mail.{Mail}
use Rattle.automaton.specs.State.{Tagged, ChannelState, ChannelAction, take_single, channel_step}
use Rattle.automaton.specs.Holding.{holds}

-- from w to u: what becomes of message x, which task c has in flight
module _ {M : Type 0} (mail : Mail M) (w u : ChannelState M) (c : ℕ) (x : Tagged M) where
  -- it is held: no longer in flight, put into ppwait, and every inbox as it was
  pub record IsHeld : Type 0 where
    pub flew : w.flight c ≡ some x
    pub gone : u.flight c ≡ none
    pub held : u.held (mail.dest x.msg) ≡ w.held (mail.dest x.msg) ++ (x ∷ [])
    pub inboxes : (i : ℕ) → u.inbox i ≡ w.inbox i

  -- it joins the inbox: no longer in flight, at the end there, and everything held as it was
  pub record Joins : Type 0 where
    pub flew : w.flight c ≡ some x
    pub gone : u.flight c ≡ none
    pub inbox : u.inbox (mail.dest x.msg) ≡ w.inbox (mail.dest x.msg) ++ (x.msg ∷ [])
    pub held : (i : ℕ) → u.held i ≡ w.held i

module _ {M : Type 0} (mail : Mail M) (w : ChannelState M) where
  pub record HoldingMeaning : Type 0 where
    -- step 8 holds exactly if it puts the message into ppwait, and does not exactly if the message joins the inbox
    pub held_if : (c : ℕ) (x : Tagged M) → w.flight c ≡ some x → (holds mail w (take_single c) ≡ true) ↔ IsHeld mail w (channel_step mail w (take_single c)) c x
    pub joins_if : (c : ℕ) (x : Tagged M) → w.flight c ≡ some x → (holds mail w (take_single c) ≡ false) ↔ Joins mail w (channel_step mail w (take_single c)) c x
    -- and what is held is a message in flight, which a step 8 takes
    pub only_single : (a : ChannelAction M) → holds mail w a ≡ true → (c : ℕ) × (x : Tagged M) × (a ≡ take_single c) × (w.flight c ≡ some x)
