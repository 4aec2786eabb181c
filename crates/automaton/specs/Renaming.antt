-- The same channel with its messages under other names: a means of the proofs, no rule.
use Rattle.std.specs.Prelude.{◌≡◌, map, ℕ}
use Rattle.std.proofs.Math.Option
use Rattle.std.proofs.Math.Option.{some}
use Rattle.lists.specs.Places.{nth}
use Rattle.automaton.specs.Mail.{Mail}
use Rattle.automaton.specs.State.{Tagged, ChannelState, ChannelAction, dispatch, take_broadcast, take_single, deliver}

module _ {M N : Type 0} (h : M → N) where
  abbrev pub tag_map : Tagged M → Tagged N
  tag_map x = record { msg = h x.msg; mark = x.mark }

  abbrev pub channel_map : ChannelState M → ChannelState N
  channel_map w = record {
    sent = map h w.sent;
    taken = w.taken;
    flight = λ c. Option.map tag_map (w.flight c);
    held = λ i. map tag_map (w.held i);
    inbox = λ i. map h (w.inbox i);
  }

  abbrev pub action_map : ChannelAction M → ChannelAction N
  action_map (dispatch i m) = dispatch i (h m)
  action_map (take_broadcast i) = take_broadcast i
  action_map (take_single c) = take_single c
  action_map (deliver i) = deliver i

  -- the channel reads off h m what it reads off m
  pub record Alike (a : Mail M) (b : Mail N) : Type 0 where
    pub task= : (m : M) → b.task (h m) ≡ a.task m
    pub multi= : (m : M) → b.multi (h m) ≡ a.multi m
    pub dest= : (m : M) → b.dest (h m) ≡ a.dest m

  -- and has broadcast to the same cards; of another message it never asks who is a destination
  abbrev pub SentAlike : Mail M → Mail N → ChannelState M → Type 0
  SentAlike a b w = (n : ℕ) (m : M) → nth w.sent n ≡ some m → (i : ℕ) → b.to (h m) i ≡ a.to m i
