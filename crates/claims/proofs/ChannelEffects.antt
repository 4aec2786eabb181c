-- Steps 6 to 9 do the same to the state of the algorithm that the store runs and to the ledger.
use Prim.Native.Nat.{ℕ}
use lib.Dec.{eqb}
use lib.ListN.{length}
use mathlib.Core.Bool.{Bool, cond, false, not, true, ◌&&◌}
use mathlib.Core.List.{List, map, ◌∷◌}
use mathlib.Core.Option
use mathlib.Core.Path.{ap, ap₂, refl, subst, sym, ◌∙◌, ◌≡◌}
use Rattle.automaton.proofs.RenamedSteps.{channel_step_map}
use Rattle.automaton.specs.Renaming.{channel_map, tag_map}
use Rattle.automaton.specs.State.{channel_step}
use Rattle.lists.specs.Histories.{In, here}
use Rattle.lists.specs.Maps.{map_pop}
use Rattle.lists.specs.Queues.{pop, push}
use Rattle.lists.specs.Tests.{and_false}
use Rattle.names.specs.CardSet.{just_of}
use Rattle.names.specs.Placement.{Placement, copy, home, placement_refusal, primary}
use Rattle.names.specs.Update.{updated}
use Rattle.names.specs.declared.Body.TheVariants.{ReadDo, ReadReply, UpdateDo, UpdateReply}
use Rattle.registers.proofs.Fresh.{sender}
use Rattle.registers.specs.Layer.{Msg, ask, from, reply, to}
use Rattle.claims.proofs.Current.{delivered_current, holds_now}
use Rattle.claims.proofs.Executions.{Execution, Holds, trace}
use Rattle.claims.proofs.FoundShown.{alike, sent_alike, show_msg, show_status, shown}
use Rattle.claims.proofs.Joint.{upper}
use Rattle.claims.proofs.LedgerRun.{Sim, ord, rk, valid}
use Rattle.claims.proofs.Shown.{numbers}
use Rattle.claims.proofs.Stable.{S, hold}
use Rattle.claims.proofs.TaskEffects.{copy_set, out_set, status_set}
use Rattle.claims.specs.Ledger.{Action, Ledger, Op, ledger, ledger_mail, op_at, world}
use Rattle.claims.specs.Holders.{in_set}
use Rattle.claims.specs.Found.{Letter, delivering, dispatching, done_read, done_update, effect, mail, post, receiving, reply_to, set_status, with_channel}
use Rattle.automaton.specs.State as C
use Rattle.registers.specs.Layer as R
use Rattle.claims.specs.Command as K

module _ (P : Placement) (ok : placement_refusal P ≡ 0) (ds : List (Action numbers)) where
  abbrev before : Ledger numbers
  before = ledger P ds

  abbrev T : ℕ → ℕ → ℕ
  T = before.layer.val

  abbrev h : Msg numbers → Letter
  h = show_msg P before.ops before.chosen

  -- 6
  pub does_dispatch : (i : ℕ) (m : Msg numbers) (f : Execution P (Action.dispatch i m ∷ ds)) → effect P (shown P ds) (K.dispatch i) ≡ shown P (Action.dispatch i m ∷ ds)
  does_dispatch i m f = ap (λ l. dispatching P (shown P ds) i (map h l)) f.0.1 ∙ (λ j. record {
    requests = length before.ops;
    status = λ c. show_status before.ops (before.layer.status c);
    table = T;
    out = λ a. outs a j;
    channel = channel_step_map h (ledger_mail P before) mail (alike P ok ds f.1) before.channel (sent_alike P ok ds f.1) (C.dispatch i m) j;
  })
    where
      from_i : from (world P before) m ≡ i
      from_i = sender (world P before) (rk P ok before.ops before.chosen before (trace P ds) H Z) m i (map upper (trace P ds))
          (valid P ok before.ops before.chosen before (trace P ds) H Z) (ord P ok before.ops before.chosen before (trace P ds) H Z)
          (subst (λ u. In m (u.out i)) Z.state= (subst (In m) (sym f.0.1) (here refl)))
        where
          H : Holds before before.ops before.chosen
          H = hold P ok ds (Action.dispatch i m) f

          Z : Sim P ok before.ops before.chosen before (trace P ds)
          Z = S P ok ds (Action.dispatch i m) f

      outs : (j : ℕ) → pop (eqb j i) (map h (before.layer.out j)) ≡ map h (pop (eqb j (from (world P before) m)) (before.layer.out j))
      outs j = sym (map_pop h (eqb j i) (before.layer.out j)) ∙ ap (λ z. map h (pop (eqb j z) (before.layer.out j))) (sym from_i)

  -- 7
  pub does_take : (i : ℕ) (f : Execution P (Action.take_broadcast i ∷ ds)) → effect P (shown P ds) (K.take_broadcast i) ≡ shown P (Action.take_broadcast i ∷ ds)
  does_take i f = ap (with_channel (shown P ds)) (channel_step_map h (ledger_mail P before) mail (alike P ok ds f.1) before.channel (sent_alike P ok ds f.1) (C.take_broadcast i))

  -- 8
  pub does_single : (c : ℕ) (f : Execution P (Action.take_single c ∷ ds)) → effect P (shown P ds) (K.take_single c) ≡ shown P (Action.take_single c ∷ ds)
  does_single c f = ap (with_channel (shown P ds)) (channel_step_map h (ledger_mail P before) mail (alike P ok ds f.1) before.channel (sent_alike P ok ds f.1) (C.take_single c))

  -- the head of an inbox
  popped : (i : ℕ) → channel_step mail (channel_map h before.channel) (C.deliver i) ≡ channel_map h (channel_step (ledger_mail P before) before.channel (C.deliver i))
  popped i = λ z. record {
    sent = map h before.channel.sent;
    taken = before.channel.taken;
    flight = λ c. Option.map (tag_map h) (before.channel.flight c);
    held = λ j. map (tag_map h) (before.channel.held j);
    inbox = λ j. sym (map_pop h (eqb j i) (before.channel.inbox j)) z;
  }

  -- 9
  does_deliver_reply : (k v i : ℕ) (f : Execution P (Action.deliver (reply k v) i ∷ ds)) → effect P (shown P ds) (K.deliver i) ≡ shown P (Action.deliver (reply k v) i ∷ ds)
  does_deliver_reply k v i f = ap (λ l. delivering P (shown P ds) i (map h l)) f.0.1 ∙ go o.upd refl
    where
      o : Op
      o = op_at before.ops k

      go : (t : Bool) → o.upd ≡ t → receiving P (shown P ds) i (h (reply k v)) (cond t (UpdateReply v) (ReadReply v)) ≡ shown P (Action.deliver (reply k v) i ∷ ds)
      go true u = λ z. record {
        requests = length before.ops;
        status = λ a. status_set before.ops o.task o.task (done_update v) (R.done k v) before.layer.status refl (ap (λ t. cond t (done_update v) (done_read v)) u) a z;
        table = T;
        out = λ a. map h (before.layer.out a);
        channel = popped i z;
      }
      go false u = λ z. record {
        requests = length before.ops;
        status = λ a. status_set before.ops o.task o.task (done_read v) (R.done k v) before.layer.status refl (ap (λ t. cond t (done_update v) (done_read v)) u) a z;
        table = T;
        out = λ a. map h (before.layer.out a);
        channel = popped i z;
      }

  does_deliver_ask : (k i : ℕ) (f : Execution P (Action.deliver (ask k) i ∷ ds)) → effect P (shown P ds) (K.deliver i) ≡ shown P (Action.deliver (ask k) i ∷ ds)
  does_deliver_ask k i f = ap (λ l. delivering P (shown P ds) i (map h l)) f.0.1 ∙ go o.upd refl
    where
      o : Op
      o = op_at before.ops k

      -- the value found
      v : ℕ
      v = T i o.reg

      and_true : (t : Bool) → (t && true) ≡ t
      and_true true = refl
      and_true false = refl

      statuses : (s : Bool) (a : ℕ) → o.upd ≡ true
          → cond s (set_status o.task (done_update v) (shown P ds).status) (shown P ds).status a ≡ show_status before.ops (cond (s && eqb o.task a) (R.done k v) (before.layer.status a))
      statuses true a u = status_set before.ops o.task o.task (done_update v) (R.done k v) before.layer.status refl (ap (λ t. cond t (done_update v) (done_read v)) u) a
      statuses false a u = refl

      outs : (p : Bool) (n : Letter) (a : ℕ) → h (reply k v) ≡ n → cond p (post i n (shown P ds).out) (shown P ds).out a ≡ map h (push (eqb a i && p) (reply k v) (before.layer.out a))
      outs true n a e = out_set h (reply k v) n i i before.layer.out refl e a ∙ ap (λ t. map h (push t (reply k v) (before.layer.out a))) (sym (and_true (eqb a i)))
      outs false n a e = ap (λ t. map h (push t (reply k v) (before.layer.out a))) (sym (and_false (eqb a i)))

      primarily : Bool
      primarily = eqb i (primary P o.reg) && not (copy P o.reg (home P o.task))

      -- the same in the operation's own terms
      its_own : Bool
      its_own = eqb i o.primary && not (in_set o.holders (home P o.task))

      same_answer : primarily ≡ its_own
      same_answer =
          let c = delivered_current P ok ds f.1 k i f.0 in
          ap₂ (λ p t. eqb i p && not t) (sym c.primary=) (sym (holds_now P ok ds f.1 k (home P o.task) c))

      go : (t : Bool) → o.upd ≡ t → receiving P (shown P ds) i (h (ask k)) (cond t (UpdateDo o.fn o.arg) ReadDo) ≡ shown P (Action.deliver (ask k) i ∷ ds)
      go true u = λ z. record {
        requests = length before.ops;
        status = λ a. (statuses (eqb i (home P o.task)) a u ∙ ap (λ t. show_status before.ops (cond (t && eqb i (home P o.task) && eqb o.task a) (R.done k v) (before.layer.status a))) (sym u)) z;
        table = λ a x. (copy_set T (updated o.fn o.arg) i o.reg a x ∙ ap (λ t. cond (t && eqb a i && eqb o.reg x) (updated o.fn o.arg (T a x)) (T a x)) (sym u)) z;
        out = λ a. (outs primarily (reply_to P (h (ask k)) (UpdateReply v)) a (ap (λ t. record { task = o.task; reg = o.reg; body = cond t (UpdateReply v) (ReadReply v); to = just_of (home P o.task) }) u)
            ∙ ap₂ (λ t p. map h (push (eqb a i && cond t p true) (reply k v) (before.layer.out a))) (sym u) same_answer) z;
        channel = popped i z;
      }
      go false u = λ z. record {
        requests = length before.ops;
        status = λ a. ap (λ t. show_status before.ops (cond (t && eqb i (home P o.task) && eqb o.task a) (R.done k v) (before.layer.status a))) (sym u) z;
        table = λ a x. ap (λ t. cond (t && eqb a i && eqb o.reg x) (updated o.fn o.arg (T a x)) (T a x)) (sym u) z;
        out = λ a. (outs true (reply_to P (h (ask k)) (ReadReply v)) a
            (ap (λ t. record { task = o.task; reg = o.reg; body = cond t (UpdateReply v) (ReadReply v); to = just_of (home P o.task) }) u)
            ∙ ap (λ t. map h (push (eqb a i && cond t its_own true) (reply k v) (before.layer.out a))) (sym u)) z;
        channel = popped i z;
      }

  pub does_deliver : (m : Msg numbers) (i : ℕ) (f : Execution P (Action.deliver m i ∷ ds)) → effect P (shown P ds) (K.deliver i) ≡ shown P (Action.deliver m i ∷ ds)
  does_deliver (ask k) i f = does_deliver_ask k i f
  does_deliver (reply k v) i f = does_deliver_reply k v i f
