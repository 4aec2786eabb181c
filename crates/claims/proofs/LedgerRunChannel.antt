-- Steps 6 to 9 of the ledger are steps of the two layers.
use Prim.Native.Nat.{suc, ℕ}
use lib.Dec.{leb}
use lib.ListN.{length}
use mathlib.Core.Bool.{Bool, cond, false, true}
use mathlib.Core.List.{List, map, ◌∷◌}
use mathlib.Core.Option.{Option, none, some}
use mathlib.Core.Path.{ap, refl, subst, sym, ◌∙◌, ◌≡◌}
use Rattle.lists.specs.Places.{nth}
use Rattle.automaton.proofs.Agreement.{Agrees}
use Rattle.automaton.proofs.ChannelKeeps.{channel_step_keeps}
use Rattle.automaton.proofs.JoinLists.{joins_inv}
use Rattle.automaton.specs.Automaton.{ChannelExecution, ChannelPrecondition, Step}
use Rattle.automaton.specs.Network.{Network}
use Rattle.automaton.specs.State.{Tagged, arriving, channel_step, landing, released, taking}
use Rattle.automaton.specs.TotalOrder.{rank}
use Rattle.automaton.specs.Trace.{steps_deliver, steps_single, steps_take}
use Rattle.lists.specs.Histories.{Any, In, here, now, there}
use Rattle.names.specs.Placement.{Placement, placement_refusal}
use Rattle.registers.proofs.Fresh.{sender}
use Rattle.registers.proofs.Messages.{dispatched, outbox}
use Rattle.registers.proofs.Ordered.{ordered}
use Rattle.registers.specs.Events.{Posts}
use Rattle.registers.specs.Layer.{Values, Msg, Precondition, World, ask, from, next, op_of, reply, run}
use Rattle.claims.proofs.Executions.{Enabled, Holds, joined, trace_single, trace_take}
use Rattle.claims.proofs.Joint.{Joint, both, join, lower, net, promised, take, upper}
use Rattle.claims.proofs.LedgerRun.{Sim, flight_dest, flows, joined_posts, lower_joined, ord, posts_joined, rk, run_joined, same_mcast, same_sent, state_on, valid, works_joined}
use Rattle.claims.proofs.SameWorld.{Same, dispatch_same, land_same, next_deliver, next_dispatch, take_same}
use Rattle.claims.specs.Ledger.{Ledger, Op, deliver, dispatch, ledger_mail, step, take_broadcast, take_single, world_of}
use Rattle.registers.specs.Layer as R
use Rattle.automaton.specs.State as C
use Rattle.automaton.specs.Automaton as A

module _ {U : Values} (P : Placement) (ok : placement_refusal P ≡ 0) where
  module _ (ops_f : List Op) (at_f : ℕ → Option ℕ) where
    abbrev WF : World U
    WF = world_of P ops_f at_f

    abbrev NF : Network (Msg U)
    NF = net P ok ops_f at_f

    module _ (b : Ledger U) (E : List (Joint U)) (h : Holds b ops_f at_f) (s : Sim P ok ops_f at_f b E) where
      -- 6
      pub sim_dispatch : (i : ℕ) (m : Msg U) → Enabled P b (dispatch i m) → Sim P ok ops_f at_f (step P b (dispatch i m)) (Joint.dispatch m ∷ E)
      sim_dispatch i m f = record {
        state= = next_dispatch P b.ops ops_f b.chosen at_f b.layer m sm ∙ state_on P ok ops_f at_f b E h s (R.dispatch m);
        channel= = subst (λ w. Agrees NF w (Cast ∷ map lower E)) (sym (dispatch_same P b.ops ops_f b.chosen at_f b.channel i m sm))
            (channel_step_keeps NF b.channel (map lower E) s.channel= (flows P ok ops_f at_f b E h s) (C.dispatch i m) ((both P ok ops_f at_f (Joint.dispatch m ∷ E) (ready, s.works)).1.0, sent_by)).0;
        works = (ready, s.works);
        count= = s.count=;
        at_posted = λ j i e. there (s.at_posted j i e);
        posted_at = p;
      }
        where
          Cast : Step (Msg U)
          Cast = A.mcast m

          in_out : In m ((run WF (map upper E)).out i)
          in_out = subst (λ l. In m l) (sym (ap (λ u. u.out i) (sym s.state=) ∙ f.1)) (here refl)

          sent_by : from WF m ≡ i
          sent_by = sender WF (rk P ok ops_f at_f b E h s) m i (map upper E) (valid P ok ops_f at_f b E h s) (ord P ok ops_f at_f b E h s) in_out

          sm : Same P b.ops ops_f b.chosen at_f (op_of m)
          sm = same_sent P ok ops_f at_f b E h s m (outbox WF (rk P ok ops_f at_f b E h s) (map upper E) (ord P ok ops_f at_f b E h s) m i in_out)

          ready : Precondition WF (run WF (map upper E)) (R.dispatch m)
          ready = (f.0, ap (λ u. u.out (from WF m)) (sym s.state=) ∙ ap b.layer.out sent_by ∙ f.1)

          p : (j : ℕ) → Any (Posts j) (R.dispatch m ∷ map upper E) → (i : ℕ) × (b.chosen j ≡ some i)
          p j (here x3) = elim x3 [ ]
          p j (there x) = s.posted_at j x

      -- 7
      pub sim_take_broadcast : (i : ℕ) → Sim P ok ops_f at_f (step P b (take_broadcast i)) (trace_take b i (nth b.channel.sent (b.channel.taken i)) E)
      sim_take_broadcast i = go (nth b.channel.sent (b.channel.taken i)) refl (channel_step_keeps NF b.channel (map lower E) s.channel= (flows P ok ops_f at_f b E h s) (C.take_broadcast i) tt)
        where
          w= : (o : Option (Msg U)) → nth b.channel.sent (b.channel.taken i) ≡ o → taking (ledger_mail P b) b.channel i o ≡ taking NF.mail b.channel i o
          w= o e = take_same P b.ops ops_f b.chosen at_f b.channel i o (λ m q. same_mcast P ok ops_f at_f b E h s m (s.channel=.sent= (b.channel.taken i) m (e ∙ q)).1)

          go : (o : Option (Msg U)) → nth b.channel.sent (b.channel.taken i) ≡ o
              → Agrees NF (taking NF.mail b.channel i o) (steps_take b.channel i o (map lower E)) × ChannelExecution NF (steps_take b.channel i o (map lower E))
              → Sim P ok ops_f at_f (record { ops = b.ops; chosen = b.chosen; layer = b.layer; channel = taking (ledger_mail P b) b.channel i o }) (trace_take b i o E)
          go none e k = record { state= = s.state=; channel= = s.channel=; works = s.works; count= = s.count=; at_posted = s.at_posted; posted_at = s.posted_at }
          go (some m) e k = record {
            state= = s.state= ∙ sym (run_joined P ok ops_f at_f rel (take i m ∷ E));
            channel= = subst (λ w. Agrees NF w (map lower (joined rel (take i m ∷ E)))) (sym (w= (some m) e))
                (subst (Agrees NF (taking NF.mail b.channel i (some m))) (sym (lower_joined P ok ops_f at_f rel (take i m ∷ E))) k.0);
            works = works_joined P ok ops_f at_f rel (take i m ∷ E) ((joins_inv NF rel (map lower (take i m ∷ E)) k.1).0, s.works) k.1;
            count= = s.count= ∙ ap (λ u. u.count) (sym (run_joined P ok ops_f at_f rel (take i m ∷ E)));
            at_posted = λ j c q. joined_posts rel (take i m ∷ E) (there (s.at_posted j c q));
            posted_at = λ j x. p j (posts_joined rel (take i m ∷ E) x);
          }
            where
              rel : List (Msg U)
              rel = released (suc (b.channel.taken i)) (b.channel.held i)

              p : (j : ℕ) → Any (Posts j) (R.idle ∷ map upper E) → (c : ℕ) × (b.chosen j ≡ some c)
              p j (here x5) = elim x5 [ ]
              p j (there x) = s.posted_at j x

      -- 8
      pub sim_take_single : (c : ℕ) → Sim P ok ops_f at_f (step P b (take_single c)) (trace_single P b (b.channel.flight c) E)
      sim_take_single c = go (b.channel.flight c) refl (channel_step_keeps NF b.channel (map lower E) s.channel= (flows P ok ops_f at_f b E h s) (C.take_single c) tt)
        where
          go : (o : Option (Tagged (Msg U))) → b.channel.flight c ≡ o
              → Agrees NF (arriving NF.mail b.channel c o) (steps_single NF.mail b.channel o (map lower E)) × ChannelExecution NF (steps_single NF.mail b.channel o (map lower E))
              → Sim P ok ops_f at_f (record { ops = b.ops; chosen = b.chosen; layer = b.layer; channel = arriving (ledger_mail P b) b.channel c o }) (trace_single P b o E)
          go none e k = record { state= = s.state=; channel= = s.channel=; works = s.works; count= = s.count=; at_posted = s.at_posted; posted_at = s.posted_at }
          go (some x) e k =
              subst (λ w. Sim P ok ops_f at_f (record { ops = b.ops; chosen = b.chosen; layer = b.layer; channel = w }) (trace_single P b (some x) E)) (sym w=)
              (subst (λ d. Sim P ok ops_f at_f (record { ops = b.ops; chosen = b.chosen; layer = b.layer; channel = arriving NF.mail b.channel c (some x) }) (cond (leb x.mark (b.channel.taken d)) (join x.msg ∷ E) E)) (sym d=)
              (into (leb x.mark (b.channel.taken (NF.mail.dest x.msg))) k))
            where
              w= : arriving (ledger_mail P b) b.channel c (some x) ≡ arriving NF.mail b.channel c (some x)
              w= = land_same P b.ops ops_f b.chosen at_f b.channel c (some x) (λ y q. same_mcast P ok ops_f at_f b E h s y.msg (s.channel=.flies c y (e ∙ q)).0.mcast_it)

              d= : (ledger_mail P b).dest x.msg ≡ NF.mail.dest x.msg
              d= = flight_dest P ok ops_f at_f b E h s c x e

              p : (j : ℕ) → Any (Posts j) (R.idle ∷ map upper E) → (i : ℕ) × (b.chosen j ≡ some i)
              p j (here x6) = elim x6 [ ]
              p j (there y) = s.posted_at j y

              into : (t : Bool) → Agrees NF (landing NF.mail t b.channel c x) (cond t (A.join x.msg ∷ map lower E) (map lower E)) × ChannelExecution NF (cond t (A.join x.msg ∷ map lower E) (map lower E))
                  → Sim P ok ops_f at_f (record { ops = b.ops; chosen = b.chosen; layer = b.layer; channel = landing NF.mail t b.channel c x }) (cond t (join x.msg ∷ E) E)
              into true k = record { state= = s.state=; channel= = k.0; works = (k.1.0, s.works); count= = s.count=; at_posted = λ j i q. there (s.at_posted j i q); posted_at = p }
              into false k = record { state= = s.state=; channel= = k.0; works = s.works; count= = s.count=; at_posted = s.at_posted; posted_at = s.posted_at }

      -- 9
      pub sim_deliver : (m : Msg U) (i : ℕ) → Enabled P b (deliver m i) → Sim P ok ops_f at_f (step P b (deliver m i)) (Joint.deliver m i ∷ E)
      sim_deliver m i f = record {
        state= = next_deliver P b.ops ops_f b.chosen at_f b.layer m i sm ∙ state_on P ok ops_f at_f b E h s (R.deliver m i);
        channel= = subst (λ l. Agrees NF (channel_step NF.mail b.channel (C.deliver i)) (steps_deliver l i (map lower E))) f.1
            (channel_step_keeps NF b.channel (map lower E) s.channel= (flows P ok ops_f at_f b E h s) (C.deliver i) tt).0;
        works = (ready, s.works);
        count= = count_same;
        at_posted = λ j c e. there (s.at_posted j c e);
        posted_at = p;
      }
        where
          ready : ChannelPrecondition NF (map lower E) (A.receive m i)
          ready = (f.0, sym (s.channel=.inbox= i) ∙ f.1)

          flows' : ChannelExecution NF (map lower (Joint.deliver m i ∷ E))
          flows' = (both P ok ops_f at_f (Joint.deliver m i ∷ E) (ready, s.works)).1

          sm : Same P b.ops ops_f b.chosen at_f (op_of m)
          sm = same_sent P ok ops_f at_f b E h s m (dispatched WF (rk P ok ops_f at_f b E h s) (map upper E) (valid P ok ops_f at_f b E h s) (ord P ok ops_f at_f b E h s) m
              ((ordered WF (rank NF (map lower (Joint.deliver m i ∷ E))) (map upper (Joint.deliver m i ∷ E)) (promised P ok ops_f at_f (Joint.deliver m i ∷ E) flows')).sent m i (map upper E) (now (refl, refl))).0)

          count_same : length b.ops ≡ (next WF (run WF (map upper E)) (R.deliver m i)).count
          count_same = s.count= ∙ go m
            where
              go : (n : Msg U) → (run WF (map upper E)).count ≡ (next WF (run WF (map upper E)) (R.deliver n i)).count
              go (ask k) = refl
              go (reply k w) = refl

          p : (j : ℕ) → Any (Posts j) (R.deliver m i ∷ map upper E) → (c : ℕ) × (b.chosen j ≡ some c)
          p j (here x3) = elim x3 [ ]
          p j (there x) = s.posted_at j x
