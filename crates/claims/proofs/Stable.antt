-- What is on the way keeps the form of its letter under a step: its operation and the card asked are known. So the state before a step is the
-- same under the names after it.
use Prim.Native.Nat.{suc, ℕ}
use lib.ListN.{length}
use mathlib.Core.Bool.{cond}
use mathlib.Core.List.{List, map, ◌∷◌}
use mathlib.Core.Option.{Option, some}
use mathlib.Core.Path.{ap, ap₂, refl, subst, ◌≡◌}
use Rattle.lists.specs.Places.{nth}
use Rattle.automaton.proofs.Joining.{inbox_mcast}
use Rattle.automaton.specs.Automaton.{Mcasts}
use Rattle.automaton.specs.Renaming.{tag_map}
use Rattle.automaton.specs.State.{Tagged}
use Rattle.lists.specs.Histories.{Any, In, any_map, here, there}
use Rattle.lists.specs.Maps.{map_agree, option_agree}
use Rattle.names.specs.Placement.{Placement, placement_refusal}
use Rattle.registers.proofs.Messages.{outbox}
use Rattle.registers.specs.Layer.{Msg, Status, ask, op_of, reply}
use Rattle.claims.proofs.Executions.{Execution, Holds, holds_back, trace}
use Rattle.claims.proofs.FoundShown.{ask_letter, reply_letter, seen, show_msg, show_status, shown}
use Rattle.claims.proofs.Joint.{lower, net, upper}
use Rattle.claims.proofs.LedgerRun.{Sim, asked_op, ended_requested, flows, op_same, ord, rk, same_mcast, same_sent}
use Rattle.claims.proofs.LedgerRuns.{sim}
use Rattle.claims.proofs.SameWorld.{Same}
use Rattle.claims.proofs.Shown.{numbers}
use Rattle.claims.specs.Ledger.{Action, Ledger, Op, ledger, world_of}
use Rattle.claims.specs.Found.{asking_read, asking_update, done_read, done_update}
use Rattle.registers.specs.Layer as R

pub nth_in : {A : Type 0} {a : A} {l : List A} → In a l → (n : ℕ) × (nth l n ≡ some a)
nth_in (here p) = (0, ap some p)
nth_in (there h) = let r = nth_in h in (suc r.0, r.1)

module _ (P : Placement) (ok : placement_refusal P ≡ 0) (ds : List (Action numbers)) (d : Action numbers) (f : Execution P (d ∷ ds)) where
  abbrev b : Ledger numbers
  b = ledger P ds

  abbrev b' : Ledger numbers
  b' = ledger P (d ∷ ds)

  abbrev ops' : List Op
  ops' = b'.ops

  abbrev at' : ℕ → Option ℕ
  at' = b'.chosen

  pub hold : Holds b ops' at'
  hold = holds_back P b d ops' at' (record { ops= = λ k l. refl; chosen= = λ k i e. e })

  pub S : Sim P ok ops' at' b (trace P ds)
  S = sim P ok ops' at' ds f.1 hold

  -- a message of which the operation is known
  stable : (m : Msg numbers) → Same P b.ops ops' b.chosen at' (op_of m) → show_msg P b.ops b.chosen m ≡ show_msg P ops' at' m
  stable (ask k) q = ap₂ (ask_letter P) q.op q.card
  stable (reply k v) q = ap (λ o. reply_letter P o v) q.op

  stable_out : (i : ℕ) (m : Msg numbers) → In m (b.layer.out i) → show_msg P b.ops b.chosen m ≡ show_msg P ops' at' m
  stable_out i m h = stable m
      (same_sent P ok ops' at' b (trace P ds) hold S m
      (outbox (world_of P ops' at') (rk P ok ops' at' b (trace P ds) hold S) (map upper (trace P ds)) (ord P ok ops' at' b (trace P ds) hold S) m i (subst (λ u. In m (u.out i)) S.state= h)))

  stable_mcast : (m : Msg numbers) → Any (Mcasts m) (map lower (trace P ds)) → show_msg P b.ops b.chosen m ≡ show_msg P ops' at' m
  stable_mcast m h = stable m (same_mcast P ok ops' at' b (trace P ds) hold S m h)

  stable_tagged : (x : Tagged (Msg numbers)) → Any (Mcasts x.msg) (map lower (trace P ds)) → tag_map (show_msg P b.ops b.chosen) x ≡ tag_map (show_msg P ops' at') x
  stable_tagged x h = ap (λ m. record { msg = m; mark = x.mark }) (stable_mcast x.msg h)

  stable_status : (c : ℕ) (s : Status numbers) → b.layer.status c ≡ s → show_status b.ops s ≡ show_status ops' s
  stable_status c R.quiet e = refl
  stable_status c (R.asking k) e = ap (λ o. cond o.upd (asking_update o.reg o.fn o.arg) (asking_read o.reg)) (asked_op P ok ops' at' b (trace P ds) hold S e).0
  stable_status c (R.waiting k) e = refl
  stable_status c (R.done k v) e = ap (λ o. cond o.upd (done_update v) (done_read v)) (op_same P ok ops' at' b (trace P ds) hold S (ended_requested P ok ops' at' b (trace P ds) hold S e))

  held_mcast : (i : ℕ) (x : Tagged (Msg numbers)) → In x (b.channel.held i) → Any (Mcasts x.msg) (map lower (trace P ds))
  held_mcast i x h = (S.channel=.holds i x.msg x.mark (any_map (λ y e. (ap (λ z. z.msg) e, ap (λ z. z.mark) e)) h)).0.mcast_it

  inbox_was : (i : ℕ) (m : Msg numbers) → In m (b.channel.inbox i) → Any (Mcasts m) (map lower (trace P ds))
  inbox_was i m h = inbox_mcast (net P ok ops' at') (map lower (trace P ds)) (flows P ok ops' at' b (trace P ds) hold S) m i (subst (In m) (S.channel=.inbox= i) h)

  sent_was : (m : Msg numbers) → In m b.channel.sent → Any (Mcasts m) (map lower (trace P ds))
  sent_was m h = let r = nth_in h in (S.channel=.sent= r.0 m r.1).1

  -- the state before, under the names after
  pub renamed : shown P ds ≡ seen P (length b.ops) ops' at' b.layer b.channel
  renamed = λ j. record {
    requests = length b.ops;
    status = λ c. stable_status c (b.layer.status c) refl j;
    table = b.layer.val;
    out = λ i. map_agree (show_msg P b.ops b.chosen) (show_msg P ops' at') (b.layer.out i) (stable_out i) j;
    channel = record {
      sent = map_agree (show_msg P b.ops b.chosen) (show_msg P ops' at') b.channel.sent sent_was' j;
      taken = b.channel.taken;
      flight = λ c. option_agree (tag_map (show_msg P b.ops b.chosen)) (tag_map (show_msg P ops' at')) (b.channel.flight c) (λ x e. stable_tagged x (S.channel=.flies c x e).0.mcast_it) j;
      held = λ i. map_agree (tag_map (show_msg P b.ops b.chosen)) (tag_map (show_msg P ops' at')) (b.channel.held i) (λ x h. stable_tagged x (held_mcast i x h)) j;
      inbox = λ i. map_agree (show_msg P b.ops b.chosen) (show_msg P ops' at') (b.channel.inbox i) (λ m h. stable_mcast m (inbox_was i m h)) j;
    };
  }
    where
      sent_was' : (m : Msg numbers) → In m b.channel.sent → show_msg P b.ops b.chosen m ≡ show_msg P ops' at' m
      sent_was' m h = stable_mcast m (sent_was m h)
