-- Steps 1 to 5 and 10 of the ledger are steps of the two layers.
use Prim.Native.Nat.{suc, ℕ}
use borrow.Author.Tests.{eqb-true}
use lib.Dec.{eqb}
use lib.ListN.{length, length-append}
use lib.Seq.{get_or-append_seam}
use mathlib.Core.Bool.{Bool, cond, false, true}
use mathlib.Core.List.{List, [], map, ◌++◌, ◌∷◌}
use mathlib.Core.Logic.{inl, inr, ◌⊎◌}
use mathlib.Core.Option.{Option, get_or, none, some}
use mathlib.Core.Path.{ap, refl, subst, sym, ◌∙◌, ◌≡◌}
use native.Mathlib.Numerals.{add-one}
use native.Mathlib.Omega.{arith}
use Rattle.automaton.proofs.Agreement.{agrees_rest}
use Rattle.automaton.specs.Network.{Network}
use Rattle.lists.specs.Histories.{Any, here, there}
use Rattle.lists.specs.Tests.{cond_cases, eqb_refl}
use Rattle.names.specs.Placement.{Placement, holders, home, placement_refusal}
use Rattle.registers.proofs.Requests.{Asked, busy_task}
use Rattle.registers.proofs.Statuses.{Busy}
use Rattle.registers.specs.Events.{Posts}
use Rattle.registers.specs.Layer.{Values, Msg, Precondition, World, asking, run}
use Rattle.claims.proofs.Executions.{Enabled, Holds, first_keeps}
use Rattle.claims.proofs.Joint.{Joint, lower, net, upper}
use Rattle.claims.proofs.LedgerRun.{Sim, asked_of, ended_requested, op_same, state_on}
use Rattle.claims.proofs.SameWorld.{lone, next_perform, next_report, next_request, next_send}
use Rattle.claims.specs.Ledger.{Ledger, Op, choosing, first, no_op, op_at, perform, report, request, send, step, world, world_of}
use Rattle.claims.specs.Holders.{in_set}
use Rattle.registers.specs.Layer as R

module _ {U : Values} (P : Placement) (ok : placement_refusal P ≡ 0) where
  module _ (ops_f : List Op) (at_f : ℕ → Option ℕ) where
    abbrev WF : World U
    WF = world_of P ops_f at_f

    abbrev NF : Network (Msg U)
    NF = net P ok ops_f at_f

    module _ (b : Ledger U) (E : List (Joint U)) (h : Holds b ops_f at_f) (s : Sim P ok ops_f at_f b E) where
      -- 1, 2
      pub sim_request : (o : Op) → Holds (step P b (request o)) ops_f at_f → Enabled P b (request o) → Sim P ok ops_f at_f (step P b (request o)) (Joint.request (length b.ops) ∷ E)
      sim_request o h' f = record {
        state= = next_request P (b.ops ++ (o ∷ [])) ops_f b.chosen at_f b.layer (length b.ops) (sym there_op) ∙ state_on P ok ops_f at_f b E h s (R.request (length b.ops));
        channel= = agrees_rest NF b.channel (map lower E) s.channel=;
        works = ((s.count=, ap (λ t. (run WF (map upper E)).status t.task) it ∙ ap (λ u. u.status o.task) (sym s.state=) ∙ f.0, placing), s.works);
        count= = length-append b.ops (o ∷ []) ∙ add-one (length b.ops) ∙ ap suc s.count=;
        at_posted = λ k i e. there (s.at_posted k i e);
        posted_at = p;
      }
        where
          there_op : op_at ops_f (length b.ops) ≡ op_at (b.ops ++ (o ∷ [])) (length b.ops)
          there_op = h'.ops= (length b.ops) (let q = length-append b.ops (o ∷ []) in omega arith)

          it : op_at ops_f (length b.ops) ≡ o
          it = there_op ∙ get_or-append_seam b.ops o [] no_op

          placing : (i : ℕ) → in_set (op_at ops_f (length b.ops)).holders i ≡ in_set (holders P (op_at ops_f (length b.ops)).reg) i
          placing i = ap (λ t. in_set t.holders i) it ∙ ap (λ S. in_set S i) f.1 ∙ ap (λ t. in_set (holders P t.reg) i) (sym it)

          p : (k : ℕ) → Any (Posts k) (R.request (length b.ops) ∷ map upper E) → (i : ℕ) × (b.chosen k ≡ some i)
          p k (here x3) = elim x3 [ ]
          p k (there x) = s.posted_at k x

      -- 3
      pub sim_perform : (c k : ℕ) → Enabled P b (perform c k) → Sim P ok ops_f at_f (step P b (perform c k)) (Joint.perform k ∷ E)
      sim_perform c k f = record {
        state= = next_perform P b.ops ops_f b.chosen at_f b.layer k there_op ∙ state_on P ok ops_f at_f b E h s (R.perform k);
        channel= = agrees_rest NF b.channel (map lower E) s.channel=;
        works = (subst (λ u. Precondition WF u (R.perform k)) s.state= (subst (λ o. Precondition (lone P o none) b.layer (R.perform k)) there_op f'), s.works);
        count= = s.count=;
        at_posted = λ j i e. there (s.at_posted j i e);
        posted_at = p;
      }
        where
          there_op : op_at b.ops k ≡ op_at ops_f k
          there_op = op_same P ok ops_f at_f b E h s (asked_of P ok ops_f at_f b E h s f.0).asked

          mine : c ≡ (op_at b.ops k).task
          mine = sym (ap (λ o. o.task) there_op ∙ (asked_of P ok ops_f at_f b E h s f.0).mine)

          f' : Precondition (lone P (op_at b.ops k) none) b.layer (R.perform k)
          f' = subst (λ a. (b.layer.status a ≡ asking k) × ((world P b).holds k (home P a) ≡ true) × ((world P b).upd k ≡ true → (j : ℕ) → (world P b).holds k j ≡ true → j ≡ home P a)) mine f

          p : (j : ℕ) → Any (Posts j) (R.perform k ∷ map upper E) → (i : ℕ) × (b.chosen j ≡ some i)
          p j (here x3) = elim x3 [ ]
          p j (there x) = s.posted_at j x

      -- 4, 5
      pub sim_send : (c k i : ℕ) → Holds (step P b (send c k i)) ops_f at_f → Enabled P b (send c k i) → Sim P ok ops_f at_f (step P b (send c k i)) (Joint.send k ∷ E)
      sim_send c₀ k i h' f = record {
        state= = next_send P b.ops ops_f b.chosen at_f b.layer k there_op ∙ state_on P ok ops_f at_f b E h s (R.send k);
        channel= = agrees_rest NF b.channel (map lower E) s.channel=;
        works = (subst (λ u. Precondition WF u (R.send k)) s.state= (subst (λ o. (b.layer.status o.task ≡ asking k) × (o.upd ≡ false → in_set o.holders (get_or (at_f k) 0) ≡ true)) there_op (ap b.layer.status (sym mine) ∙ f.0, λ u. rw card (f.1 u))), s.works);
        count= = s.count=;
        at_posted = λ j c e. was j c (cond_cases (λ o. o ≡ some c) (eqb j k) (first (b.chosen j) i) (b.chosen j) e);
        posted_at = p;
      }
        where
          a : Asked WF (map upper E) c₀ k
          a = asked_of P ok ops_f at_f b E h s f.0

          mine : c₀ ≡ (op_at b.ops k).task
          mine = sym (ap (λ o. o.task) (op_same P ok ops_f at_f b E h s a.asked) ∙ a.mine)

          there_op : op_at b.ops k ≡ op_at ops_f k
          there_op = op_same P ok ops_f at_f b E h s a.asked

          was_none : (o : Option ℕ) → b.chosen k ≡ o → first o i ≡ some i
          was_none none e = refl
          was_none (some j) e = absurd (a.unsent (s.at_posted k j e))

          set_now : choosing b.chosen k i k ≡ some i
          set_now = rw (eqb_refl k) (was_none (b.chosen k) refl)

          card : at_f k ≡ some i
          card = h'.chosen= k i set_now

          was : (j c : ℕ) → ((eqb j k ≡ true) × (first (b.chosen j) i ≡ some c)) ⊎ ((eqb j k ≡ false) × (b.chosen j ≡ some c)) → Any (Posts j) (R.send k ∷ map upper E)
          was j c (inl x) = here (sym (eqb-true _ _ x.0))
          was j c (inr x) = there (s.at_posted j c x.1)

          old : (j c : ℕ) (t : Bool) → b.chosen j ≡ some c → cond t (first (b.chosen j) i) (b.chosen j) ≡ some c
          old j c true e = first_keeps (b.chosen j) i c e
          old j c false e = e

          p : (j : ℕ) → Any (Posts j) (R.send k ∷ map upper E) → (c : ℕ) × (choosing b.chosen k i j ≡ some c)
          p j (here e) = (i, subst (λ x. choosing b.chosen k i x ≡ some i) e set_now)
          p j (there x) = let r = s.posted_at j x in (r.0, old j r.0 (eqb j k) r.1)

      -- 10
      pub sim_report : (c k : ℕ) (w : U.Val) → Enabled P b (report c k w) → Sim P ok ops_f at_f (step P b (report c k w)) (Joint.report k w ∷ E)
      sim_report c k w f = record {
        state= = next_report P b.ops ops_f b.chosen at_f b.layer k w there_op ∙ state_on P ok ops_f at_f b E h s (R.report k w);
        channel= = agrees_rest NF b.channel (map lower E) s.channel=;
        works = (subst (λ u. Precondition WF u (R.report k w)) s.state= (subst (λ o. Precondition (lone P o none) b.layer (R.report k w)) there_op (ap b.layer.status (sym mine) ∙ f)), s.works);
        count= = s.count=;
        at_posted = λ j i e. there (s.at_posted j i e);
        posted_at = p;
      }
        where
          there_op : op_at b.ops k ≡ op_at ops_f k
          there_op = op_same P ok ops_f at_f b E h s (ended_requested P ok ops_f at_f b E h s f)

          mine : c ≡ (op_at b.ops k).task
          mine = sym (ap (λ o. o.task) there_op ∙ busy_task WF (map upper E) c k (subst (λ t. Busy t k) (sym (ap (λ u. u.status c) (sym s.state=) ∙ f)) refl))

          p : (j : ℕ) → Any (Posts j) (R.report k w ∷ map upper E) → (i : ℕ) × (b.chosen j ≡ some i)
          p j (here x3) = elim x3 [ ]
          p j (there x) = s.posted_at j x
