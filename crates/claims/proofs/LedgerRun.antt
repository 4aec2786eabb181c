-- The ledger keeps step with a run of the two layers, its trace (`Sim`), in any world that the ledger's own is a part of; and what follows of
-- the ledger's tasks and messages.
use Prim.Native.Nat.{ℕ}
use lib.ListN.{length}
use mathlib.Core.List.{List, [], map, ◌∷◌}
use mathlib.Core.Option.{Option, some}
use mathlib.Core.Path.{ap, refl, subst, sym, ◌∙◌, ◌≡◌}
use native.Mathlib.Omega.{arith}
use Rattle.automaton.proofs.Agreement.{Agrees}
use Rattle.automaton.proofs.JoinLists.{joins_inv}
use Rattle.automaton.specs.Automaton.{ChannelExecution, Mcasts}
use Rattle.automaton.specs.Network.{Network}
use Rattle.automaton.specs.State.{Tagged}
use Rattle.automaton.specs.TotalOrder.{rank}
use Rattle.automaton.specs.Trace.{joins}
use Rattle.lists.specs.Histories.{Any, any_map, now, there}
use Rattle.lists.specs.HistoryMaps.{any_into, any_out}
use Rattle.names.specs.Placement.{Placement, placement_refusal}
use Rattle.registers.proofs.Finished.{fin_requested, live_of}
use Rattle.registers.proofs.Messages.{Sent, delivered_ask, dispatched}
use Rattle.registers.proofs.Ordered.{Ordered, ordered}
use Rattle.registers.proofs.Requests.{Asked, base_of, below_count}
use Rattle.registers.proofs.Statuses.{Asks, Ended}
use Rattle.registers.specs.Events.{Posts, Requests}
use Rattle.registers.specs.Layer.{Values, Event, Msg, Valid, World, ask, asking, done, next, op_of, reply, run, site}
use Rattle.claims.proofs.Executions.{Enabled, Holds, joined}
use Rattle.claims.proofs.Joint.{Joint, JointExecution, both, join, lower, mcasts_dispatches, net, promised, upper}
use Rattle.claims.proofs.SameWorld.{Same, dest_same}
use Rattle.claims.specs.Ledger.{Ledger, Op, deliver, ledger_mail, op_at, world_of}
use Rattle.registers.specs.Layer as R

pub posts_joined : {U : Values} → {k : ℕ} (l : List (Msg U)) (E : List (Joint U)) → Any (Posts k) (map upper (joined l E)) → Any (Posts k) (map upper E)
posts_joined [] E h = h
posts_joined {k} (m ∷ l) E h = go (posts_joined l (join m ∷ E) h)
  where
    go : Any (Posts k) (R.idle ∷ map upper E) → Any (Posts k) (map upper E)
    go (Rattle.lists.specs.Histories.here x4) = elim x4 [ ]
    go (there x) = x

pub joined_posts : {U : Values} → {k : ℕ} (l : List (Msg U)) (E : List (Joint U)) → Any (Posts k) (map upper E) → Any (Posts k) (map upper (joined l E))
joined_posts [] E h = h
joined_posts (m ∷ l) E h = joined_posts l (join m ∷ E) (there h)

module _ {U : Values} (P : Placement) (ok : placement_refusal P ≡ 0) where
  -- ---- a list of joins in the trace

  module _ (ops : List Op) (chosen : ℕ → Option ℕ) where
    abbrev W : World U
    W = world_of P ops chosen

    abbrev N : Network (Msg U)
    N = net P ok ops chosen

    pub lower_joined : (l : List (Msg U)) (E : List (Joint U)) → map lower (joined l E) ≡ joins l (map lower E)
    lower_joined [] E = refl
    lower_joined (m ∷ l) E = lower_joined l (join m ∷ E)

    pub run_joined : (l : List (Msg U)) (E : List (Joint U)) → run W (map upper (joined l E)) ≡ run W (map upper E)
    run_joined [] E = refl
    run_joined (m ∷ l) E = run_joined l (join m ∷ E)

    pub works_joined : (l : List (Msg U)) (E : List (Joint U)) → JointExecution P ok ops chosen E → ChannelExecution N (joins l (map lower E)) → JointExecution P ok ops chosen (joined l E)
    works_joined [] E w f = w
    works_joined (m ∷ l) E w f = works_joined l (join m ∷ E) ((joins_inv N l (map lower (join m ∷ E)) f).0, w) f

  -- ---- the trace is a run of the two layers, in any world that the ledger's own is a part of

  module _ (ops_f : List Op) (at_f : ℕ → Option ℕ) where
    abbrev WF : World U
    WF = world_of P ops_f at_f

    abbrev NF : Network (Msg U)
    NF = net P ok ops_f at_f

    pub record Sim (b : Ledger U) (E : List (Joint U)) : Type 0 where
      pub state= : b.layer ≡ run WF (map upper E)
      pub channel= : Agrees NF b.channel (map lower E)
      pub works : JointExecution P ok ops_f at_f E
      pub count= : length b.ops ≡ (run WF (map upper E)).count
      pub at_posted : (k i : ℕ) → b.chosen k ≡ some i → Any (Posts k) (map upper E)
      pub posted_at : (k : ℕ) → Any (Posts k) (map upper E) → (i : ℕ) × (b.chosen k ≡ some i)

    module _ (b : Ledger U) (E : List (Joint U)) (h : Holds b ops_f at_f) (s : Sim b E) where
      pub valid : Valid WF (map upper E)
      valid = (both P ok ops_f at_f E s.works).0

      pub flows : ChannelExecution NF (map lower E)
      flows = (both P ok ops_f at_f E s.works).1

      pub rk : Msg U → ℕ
      rk = rank NF (map lower E)

      pub ord : Ordered WF rk (map upper E)
      unfolding rk
      ord = ordered WF rk (map upper E) (promised P ok ops_f at_f E flows)

      pub op_same : {k : ℕ} → Any (Requests k) (map upper E) → op_at b.ops k ≡ op_at ops_f k
      op_same {k} r = sym (h.ops= k (let q = below_count WF (map upper E) valid k r in let c = s.count= in omega arith))

      pub asked_of : {k c : ℕ} → b.layer.status c ≡ asking k → Asked WF (map upper E) c k
      asked_of {k} {c} e = (base_of WF (map upper E) valid).asks c k (subst (λ t. Asks t k) (sym (ap (λ u. u.status c) (sym s.state=) ∙ e)) refl)

      pub same_posted : {k : ℕ} → Any (Posts k) (map upper E) → Same P b.ops ops_f b.chosen at_f k
      same_posted {k} p =
          let a = s.posted_at k p in
          record { op = op_same ((base_of WF (map upper E) valid).posted k p); card = a.1 ∙ sym (h.chosen= k a.0 a.1) }

      pub sent_posted : (m : Msg U) → Sent WF (map upper E) m → Any (Posts (op_of m)) (map upper E)
      sent_posted (ask k) x = x
      sent_posted (reply k w) x = (delivered_ask WF rk (map upper E) valid ord k (site WF k) x.0).0

      pub same_sent : (m : Msg U) → Sent WF (map upper E) m → Same P b.ops ops_f b.chosen at_f (op_of m)
      same_sent m x = same_posted (sent_posted m x)

      pub same_mcast : (m : Msg U) → Any (Mcasts m) (map lower E) → Same P b.ops ops_f b.chosen at_f (op_of m)
      same_mcast m x = same_sent m (dispatched WF rk (map upper E) valid ord m (any_into upper (any_map (mcasts_dispatches P ok ops_f at_f m) (any_out lower E x))))

      pub flight_dest : (c : ℕ) (x : Tagged (Msg U)) → b.channel.flight c ≡ some x → (ledger_mail P b).dest x.msg ≡ NF.mail.dest x.msg
      flight_dest c x e = dest_same P b.ops ops_f b.chosen at_f x.msg (same_mcast x.msg (s.channel=.flies c x e).0.mcast_it)

      pub ended_requested : {k c : ℕ} {w : U.Val} → b.layer.status c ≡ done k w → Any (Requests k) (map upper E)
      ended_requested {k} {c} e = fin_requested WF rk (map upper E) valid ord ((live_of WF rk (map upper E) valid ord).ended c k (subst (λ t. Ended t k) (sym (ap (λ u. u.status c) (sym s.state=) ∙ e)) refl))

      pub state_on : (e : Event U) → next WF b.layer e ≡ next WF (run WF (map upper E)) e
      state_on e = ap (λ u. next WF u e) s.state=

      -- the operation of an asking task, and of a message at the head of an inbox, is the same at the end
      pub asked_op : {k c : ℕ} → b.layer.status c ≡ asking k → (op_at b.ops k ≡ op_at ops_f k) × (c ≡ (op_at ops_f k).task)
      asked_op e = (op_same (asked_of e).asked, sym (asked_of e).mine)

      pub delivered_op : (k i : ℕ) → Enabled P b (deliver (ask k) i) → op_at b.ops k ≡ op_at ops_f k
      delivered_op k i f = (same_sent (ask k) (dispatched WF rk (map upper E) valid ord (ask k)
          ((ordered WF (rank NF (map lower (Joint.deliver (ask k) i ∷ E))) (map upper (Joint.deliver (ask k) i ∷ E)) (promised P ok ops_f at_f (Joint.deliver (ask k) i ∷ E) flows')).sent (ask k) i (map upper E) (now (refl, refl))).0)).op
        where
          flows' : ChannelExecution NF (map lower (Joint.deliver (ask k) i ∷ E))
          flows' = (both P ok ops_f at_f (Joint.deliver (ask k) i ∷ E) ((f.0, sym (s.channel=.inbox= i) ∙ f.1), s.works)).1

      -- its operation has been requested
      pub delivered_known : (k i : ℕ) → Enabled P b (deliver (ask k) i) → Any (Requests k) (map upper E)
      delivered_known k i f = (base_of WF (map upper E) valid).posted k (dispatched WF rk (map upper E) valid ord (ask k)
          ((ordered WF (rank NF (map lower (Joint.deliver (ask k) i ∷ E))) (map upper (Joint.deliver (ask k) i ∷ E)) (promised P ok ops_f at_f (Joint.deliver (ask k) i ∷ E) flows')).sent (ask k) i (map upper E) (now (refl, refl))).0)
        where
          flows' : ChannelExecution NF (map lower (Joint.deliver (ask k) i ∷ E))
          flows' = (both P ok ops_f at_f (Joint.deliver (ask k) i ∷ E) ((f.0, sym (s.channel=.inbox= i) ∙ f.1), s.works)).1
