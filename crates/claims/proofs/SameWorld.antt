-- What a step makes of the ledger depends on the operations only through the step's own: two worlds that have the same operation do the same.
use Prim.Native.Nat.{ℕ}
use lib.Dec.{eqb, leb}
use mathlib.Core.Bool.{Bool, cond, false, true}
use mathlib.Core.List.{List}
use mathlib.Core.Option.{Option, get_or, none, some}
use mathlib.Core.Path.{ap, ap₂, refl, ◌∙◌, ◌≡◌}
use Rattle.automaton.specs.Mail.{Mail}
use Rattle.automaton.specs.State.{ChannelState, Tagged, arriving, channel_step, dispatching, landing, taking}
use Rattle.lists.specs.Queues.{push}
use Rattle.names.specs.Placement.{Placement, holders, home}
use Rattle.registers.specs.Layer.{Values, Msg, State, World, ask, from, next, op_of, reply, to}
use Rattle.claims.specs.Ledger.{Op, mail_of, op_at, sets_of, world_of}
use Rattle.claims.specs.Holders.{in_set}
use Rattle.registers.specs.Layer as R
use Rattle.automaton.specs.State as C

-- `landing`, by the destination
abbrev landed : {U : Values} → Bool → ChannelState (Msg U) → ℕ → Tagged (Msg U) → ℕ → ChannelState (Msg U)
landed true w c x d = record {
  sent = w.sent;
  taken = w.taken;
  flight = λ e. cond (eqb e c) none (w.flight e);
  held = w.held;
  inbox = λ j. push (eqb j d) x.msg (w.inbox j);
}
landed false w c x d = record {
  sent = w.sent;
  taken = w.taken;
  flight = λ e. cond (eqb e c) none (w.flight e);
  held = λ j. push (eqb j d) x (w.held j);
  inbox = w.inbox;
}

module _ (P : Placement) (ops ops' : List Op) (at at' : ℕ → Option ℕ) where
  -- the two worlds have the same operation k
  pub record Same (k : ℕ) : Type 0 where
    pub op : op_at ops k ≡ op_at ops' k
    pub card : at k ≡ at' k

module _ {U : Values} (P : Placement) where
  -- a world in which every operation is the same
  abbrev pub lone : Op → Option ℕ → World U
  lone o a = record {
    home = home P;
    copy = λ x. in_set (holders P x);
    task = λ k. o.task;
    reg = λ k. o.reg;
    upd = λ k. o.upd;
    fn = λ k. o.fn;
    arg = λ k. o.arg;
    chosen = λ k. get_or a 0;
    holds = λ k. in_set o.holders;
    primary = λ k. o.primary;
  }

  abbrev lone_mail : Op → Option ℕ → Mail (Msg U)
  lone_mail o a = mail_of (λ k. o.holders) (lone o a)

  module _ (ops ops' : List Op) (at at' : ℕ → Option ℕ) where
    pub next_request : (s : State U) (k : ℕ) → op_at ops k ≡ op_at ops' k → next (world_of P ops at) s (R.request k) ≡ next (world_of P ops' at') s (R.request k)
    next_request s k e = ap (λ o. next (lone o none) s (R.request k)) e

    pub next_perform : (s : State U) (k : ℕ) → op_at ops k ≡ op_at ops' k → next (world_of P ops at) s (R.perform k) ≡ next (world_of P ops' at') s (R.perform k)
    next_perform s k e = ap (λ o. next (lone o none) s (R.perform k)) e

    pub next_send : (s : State U) (k : ℕ) → op_at ops k ≡ op_at ops' k → next (world_of P ops at) s (R.send k) ≡ next (world_of P ops' at') s (R.send k)
    next_send s k e = ap (λ o. next (lone o none) s (R.send k)) e

    pub next_report : (s : State U) (k : ℕ) (w : U.Val) → op_at ops k ≡ op_at ops' k → next (world_of P ops at) s (R.report k w) ≡ next (world_of P ops' at') s (R.report k w)
    next_report s k w e = ap (λ o. next (lone o none) s (R.report k w)) e

    pub from_same : (m : Msg U) → Same P ops ops' at at' (op_of m) → from (world_of P ops at) m ≡ from (world_of P ops' at') m
    from_same (ask k) q = ap₂ (λ o a. from (lone o a) (ask k)) q.op q.card
    from_same (reply k w) q = ap₂ (λ o a. from (lone o a) (reply k w)) q.op q.card

    pub to_same : (m : Msg U) (i : ℕ) → Same P ops ops' at at' (op_of m) → to (world_of P ops at) m i ≡ to (world_of P ops' at') m i
    to_same (ask k) i q = ap₂ (λ o a. to (lone o a) (ask k) i) q.op q.card
    to_same (reply k w) i q = ap₂ (λ o a. to (lone o a) (reply k w) i) q.op q.card

    pub dest_same : (m : Msg U) → Same P ops ops' at at' (op_of m) → (mail_of (sets_of ops) (world_of P ops at)).dest m ≡ (mail_of (sets_of ops') (world_of P ops' at')).dest m
    dest_same (ask k) q = ap₂ (λ o a. (lone_mail o a).dest (ask k)) q.op q.card
    dest_same (reply k w) q = ap₂ (λ o a. (lone_mail o a).dest (reply k w)) q.op q.card

    pub next_dispatch : (s : State U) (m : Msg U) → Same P ops ops' at at' (op_of m) → next (world_of P ops at) s (R.dispatch m) ≡ next (world_of P ops' at') s (R.dispatch m)
    next_dispatch s (ask k) q = ap₂ (λ o a. next (lone o a) s (R.dispatch (ask k))) q.op q.card
    next_dispatch s (reply k w) q = ap₂ (λ o a. next (lone o a) s (R.dispatch (reply k w))) q.op q.card

    pub next_deliver : (s : State U) (m : Msg U) (i : ℕ) → Same P ops ops' at at' (op_of m) → next (world_of P ops at) s (R.deliver m i) ≡ next (world_of P ops' at') s (R.deliver m i)
    next_deliver s (ask k) i q = ap₂ (λ o a. next (lone o a) s (R.deliver (ask k) i)) q.op q.card
    next_deliver s (reply k w) i q = ap₂ (λ o a. next (lone o a) s (R.deliver (reply k w) i)) q.op q.card

    pub multi_same : (m : Msg U) → Same P ops ops' at at' (op_of m) → (mail_of (sets_of ops) (world_of P ops at)).multi m ≡ (mail_of (sets_of ops') (world_of P ops' at')).multi m
    multi_same (ask k) q = ap₂ (λ o a. (lone_mail o a).multi (ask k)) q.op q.card
    multi_same (reply k w) q = refl

    dispatching_same : (t : Bool) (w : ChannelState (Msg U)) (i : ℕ) (m : Msg U) → Same P ops ops' at at' (op_of m) → dispatching (mail_of (sets_of ops) (world_of P ops at)) t w i m ≡ dispatching (mail_of (sets_of ops') (world_of P ops' at')) t w i m
    dispatching_same true w i m q = refl
    dispatching_same false w i (ask k) q = ap₂ (λ o a. dispatching (lone_mail o a) false w i (ask k)) q.op q.card
    dispatching_same false w i (reply k v) q = ap₂ (λ o a. dispatching (lone_mail o a) false w i (reply k v)) q.op q.card

    pub dispatch_same : (w : ChannelState (Msg U)) (i : ℕ) (m : Msg U) → Same P ops ops' at at' (op_of m) → channel_step (mail_of (sets_of ops) (world_of P ops at)) w (C.dispatch i m) ≡ channel_step (mail_of (sets_of ops') (world_of P ops' at')) w (C.dispatch i m)
    dispatch_same w i m q = ap (λ t. dispatching (mail_of (sets_of ops) (world_of P ops at)) t w i m) (multi_same m q) ∙ dispatching_same ((mail_of (sets_of ops') (world_of P ops' at')).multi m) w i m q

    pub take_same : (w : ChannelState (Msg U)) (i : ℕ) (o : Option (Msg U)) → ((m : Msg U) → o ≡ some m → Same P ops ops' at at' (op_of m)) → taking (mail_of (sets_of ops) (world_of P ops at)) w i o ≡ taking (mail_of (sets_of ops') (world_of P ops' at')) w i o
    take_same w i none f = refl
    take_same w i (some (ask k)) f = ap₂ (λ o a. taking (lone_mail o a) w i (some (ask k))) (f (ask k) refl).op (f (ask k) refl).card
    take_same w i (some (reply k v)) f = ap₂ (λ o a. taking (lone_mail o a) w i (some (reply k v))) (f (reply k v) refl).op (f (reply k v) refl).card

    pub land_same : (w : ChannelState (Msg U)) (c : ℕ) (o : Option (Tagged (Msg U))) → ((x : Tagged (Msg U)) → o ≡ some x → Same P ops ops' at at' (op_of x.msg))
        → arriving (mail_of (sets_of ops) (world_of P ops at)) w c o ≡ arriving (mail_of (sets_of ops') (world_of P ops' at')) w c o
    land_same w c none f = refl
    land_same w c (some x) f =
        ap (λ d. landing (mail_of (sets_of ops) (world_of P ops at)) (leb x.mark (w.taken d)) w c x) (dest_same x.msg (f x refl))
        ∙ go (leb x.mark (w.taken ((mail_of (sets_of ops') (world_of P ops' at')).dest x.msg)))
      where
        go : (t : Bool) → landing (mail_of (sets_of ops) (world_of P ops at)) t w c x ≡ landing (mail_of (sets_of ops') (world_of P ops' at')) t w c x
        go true = ap (landed true w c x) (dest_same x.msg (f x refl))
        go false = ap (landed false w c x) (dest_same x.msg (f x refl))
