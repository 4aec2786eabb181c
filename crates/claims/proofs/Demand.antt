-- Demand 3 for the ledger with values: every list of its actions that could take place is explained by one serial order.
use Prim.Native.Nat.{suc, ℕ, ◌<◌}
use lib.Dec.{leb}
use mathlib.Core.Bool.{Bool, cond, false, true}
use mathlib.Core.List.{List, [], map, ◌++◌, ◌∷◌}
use mathlib.Core.Logic.{inl, inr, ◌⊎◌}
use mathlib.Core.Option.{Option, none, some}
use mathlib.Core.Path.{ap, refl, subst, sym, ◌∙◌, ◌≡◌}
use Rattle.lists.specs.Places.{nth}
use Rattle.automaton.specs.Automaton.{ChannelExecution}
use Rattle.automaton.specs.State.{Tagged, released}
use Rattle.automaton.specs.TotalOrder.{rank}
use Rattle.lists.specs.Filters.{Precedes, filter}
use Rattle.lists.specs.Histories.{Any, In, Suf, here, stop, suf_any, suf_map, there}
use Rattle.lists.specs.Queues.{Once}
use Rattle.lists.specs.Made.{make}
use Rattle.names.specs.Placement.{Placement, copy, placement_refusal}
use Rattle.registers.proofs.Applied.{applied_in, in_applied}
use Rattle.registers.proofs.Copies.{shown_applied}
use Rattle.registers.proofs.Values.{serial_values}
use Rattle.registers.specs.Events.{Gives, Reports}
use Rattle.registers.specs.Explains.{Explains, ExplainsValues, Included, reported, somewhere, updates_of}
use Rattle.registers.specs.Key.{order}
use Rattle.registers.specs.Layer.{Msg, Valid, Values, World, fun, run}
use Rattle.claims.proofs.Executions.{Execution, execution_suf, holds_suf, joined, trace, trace_single, trace_step_suf, trace_take}
use Rattle.claims.proofs.InSets.{copy_in_set}
use Rattle.claims.proofs.Joint.{Joint, both, join, lower, net, promised, take, upper}
use Rattle.claims.proofs.LedgerRun.{Sim}
use Rattle.claims.proofs.LedgerRuns.{sim}
use Rattle.claims.specs.Ledger.{Action, Ledger, deliver, dispatch, ledger, ledger_mail, perform, report, request, send, take_broadcast, take_single, world}
use Rattle.registers.specs.Layer as R

module _ {U : Values} (P : Placement) (ok : placement_refusal P ≡ 0) where
  -- ---- actions and events

  -- an action that reports operation k
  abbrev pub IsReport : ℕ → Action U → Type 0
  IsReport k (request o) = ⊥
  IsReport k (perform c j) = ⊥
  IsReport k (send c j i) = ⊥
  IsReport k (dispatch i m) = ⊥
  IsReport k (take_broadcast i) = ⊥
  IsReport k (take_single c) = ⊥
  IsReport k (deliver m i) = ⊥
  IsReport k (report c j w) = j ≡ k

  -- and what it tells is v
  abbrev pub Tells : ℕ → U.Val → Action U → Type 0
  Tells k v (request o) = ⊥
  Tells k v (perform c j) = ⊥
  Tells k v (send c j i) = ⊥
  Tells k v (dispatch i m) = ⊥
  Tells k v (take_broadcast i) = ⊥
  Tells k v (take_single c) = ⊥
  Tells k v (deliver m i) = ⊥
  Tells k v (report c j w) = (j ≡ k) × (w ≡ v)

  -- what the trace adds for an action other than a report reports nothing
  reports_joined : {k : ℕ} (l : List (Msg U)) (E : List (Joint U)) → Any (Reports k) (map upper (joined l E)) → Any (Reports k) (map upper E)
  reports_joined [] E h = h
  reports_joined {k} (m ∷ l) E h = go (reports_joined l (join m ∷ E) h)
    where
      go : Any (Reports k) (R.idle ∷ map upper E) → Any (Reports k) (map upper E)
      go (here x4) = elim x4 [ ]
      go (there x) = x

  reports_take : {k : ℕ} (b : Ledger U) (i : ℕ) (o : Option (Msg U)) (E : List (Joint U)) → Any (Reports k) (map upper (trace_take b i o E)) → Any (Reports k) (map upper E)
  reports_take b i none E h = h
  reports_take {k} b i (some m) E h = go (reports_joined (released (suc (b.channel.taken i)) (b.channel.held i)) (take i m ∷ E) h)
    where
      go : Any (Reports k) (R.idle ∷ map upper E) → Any (Reports k) (map upper E)
      go (here x4) = elim x4 [ ]
      go (there x) = x

  reports_land : {k : ℕ} (b : Ledger U) (o : Option (Tagged (Msg U))) (E : List (Joint U)) → Any (Reports k) (map upper (trace_single P b o E)) → Any (Reports k) (map upper E)
  reports_land b none E h = h
  reports_land {k} b (some x) E h = go (leb x.mark (b.channel.taken ((ledger_mail P b).dest x.msg))) h
    where
      go : (t : Bool) → Any (Reports k) (map upper (cond t (join x.msg ∷ E) E)) → Any (Reports k) (map upper E)
      go true (here x5) = elim x5 [ ]
      go true (there y) = y
      go false y = y

  pub trace_reports : (k : ℕ) (ds : List (Action U)) → Any (Reports k) (map upper (trace P ds)) → Any (IsReport k) ds
  trace_reports k [] h = elim h [ ]
  trace_reports k (request o ∷ ds) (here p) = elim p [ ]
  trace_reports k (perform c j ∷ ds) (here p) = elim p [ ]
  trace_reports k (send c j i ∷ ds) (here p) = elim p [ ]
  trace_reports k (dispatch i m ∷ ds) (here p) = elim p [ ]
  trace_reports k (deliver m i ∷ ds) (here p) = elim p [ ]
  trace_reports k (request o ∷ ds) (there h) = there (trace_reports k ds h)
  trace_reports k (perform c j ∷ ds) (there h) = there (trace_reports k ds h)
  trace_reports k (send c j i ∷ ds) (there h) = there (trace_reports k ds h)
  trace_reports k (dispatch i m ∷ ds) (there h) = there (trace_reports k ds h)
  trace_reports k (take_broadcast i ∷ ds) h = there (trace_reports k ds (reports_take (ledger P ds) i (nth (ledger P ds).channel.sent ((ledger P ds).channel.taken i)) (trace P ds) h))
  trace_reports k (take_single c ∷ ds) h = there (trace_reports k ds (reports_land (ledger P ds) ((ledger P ds).channel.flight c) (trace P ds) h))
  trace_reports k (deliver m i ∷ ds) (there h) = there (trace_reports k ds h)
  trace_reports k (report c j w ∷ ds) (here p) = here p
  trace_reports k (report c j w ∷ ds) (there h) = there (trace_reports k ds h)

  is_report_reports : (k : ℕ) (d : Action U) (ds : List (Action U)) → IsReport k d → Any (Reports k) (map upper (trace P (d ∷ ds)))
  is_report_reports k (request _) ds p = elim p [ ]
  is_report_reports k (perform _ _) ds p = elim p [ ]
  is_report_reports k (send _ _ _) ds p = elim p [ ]
  is_report_reports k (dispatch _ _) ds p = elim p [ ]
  is_report_reports k (take_broadcast _) ds p = elim p [ ]
  is_report_reports k (take_single _) ds p = elim p [ ]
  is_report_reports k (deliver _ _) ds p = elim p [ ]
  is_report_reports k (report c j w) ds p = here p

  trace_reported : {k : ℕ} {ds : List (Action U)} → Any (IsReport k) ds → Any (Reports k) (map upper (trace P ds))
  trace_reported {k} (here {e = d} {E = ds} p) = is_report_reports k d ds p
  trace_reported (there {e = d} {E = ds} h) = suf_any (suf_map upper (trace_step_suf P (ledger P ds) d (trace P ds))) (trace_reported h)

  tells_gives : (k : ℕ) (v : U.Val) (d : Action U) (ds : List (Action U)) → Tells k v d → Any (Gives k v) (map upper (trace P (d ∷ ds)))
  tells_gives k v (request _) ds p = elim p [ ]
  tells_gives k v (perform _ _) ds p = elim p [ ]
  tells_gives k v (send _ _ _) ds p = elim p [ ]
  tells_gives k v (dispatch _ _) ds p = elim p [ ]
  tells_gives k v (take_broadcast _) ds p = elim p [ ]
  tells_gives k v (take_single _) ds p = elim p [ ]
  tells_gives k v (deliver _ _) ds p = elim p [ ]
  tells_gives k v (report c j w) ds p = here p

  trace_gives : {k : ℕ} {v : U.Val} {ds : List (Action U)} → Any (Tells k v) ds → Any (Gives k v) (map upper (trace P ds))
  trace_gives {k} {v} (here {e = d} {E = ds} p) = tells_gives k v d ds p
  trace_gives (there {e = d} {E = ds} h) = suf_any (suf_map upper (trace_step_suf P (ledger P ds) d (trace P ds))) (trace_gives h)

  -- ---- demand 3

  pub record Demand3 (ds : List (Action U)) (order : List ℕ) : Type 0 where
    -- the order holds exactly the reported operations and the updates applied on some card, each once
    pub sound : (k : ℕ) → In k order → Any (IsReport k) ds ⊎ ((i : ℕ) × (((world P (ledger P ds)).upd k ≡ true) × In k ((ledger P ds).layer.applied i)))
    pub reports : (k : ℕ) → Any (IsReport k) ds → In k order
    pub updates : (k i : ℕ) → In k ((ledger P ds).layer.applied i) → In k order
    pub once : Once order
    -- it keeps each task's order of requests
    pub tasks : (j k : ℕ) → In j order → In k order → (world P (ledger P ds)).task j ≡ (world P (ledger P ds)).task k → j < k → Precedes j k order
    -- what each report tells is what its register's earlier updates in the order make of the register's start value
    pub tells : (k : ℕ) (v : U.Val) → Any (Tells k v) ds → (pre post : List ℕ) → order ≡ pre ++ k ∷ post
        → v ≡ make (fun (world P (ledger P ds))) (U.nought ((world P (ledger P ds)).reg k)) (filter (updates_of (world P (ledger P ds)) ((world P (ledger P ds)).reg k)) pre)
    -- each copy shows a first part of its register's updates in the order, and its value is what they make of the register's start value
    pub copies : (x i : ℕ) → copy P x i ≡ true
        → (rest : List ℕ) × (filter (updates_of (world P (ledger P ds)) x) order ≡ filter (updates_of (world P (ledger P ds)) x) ((ledger P ds).layer.applied i) ++ rest)
    pub copy_values : (x i : ℕ) → copy P x i ≡ true
        → (ledger P ds).layer.val i x ≡ make (fun (world P (ledger P ds))) (U.nought x) (filter (updates_of (world P (ledger P ds)) x) ((ledger P ds).layer.applied i))

  module _ (ds : List (Action U)) (f : Execution P ds) where
    -- the run of the two layers that a first part of the list is, in the world at the end
    part : {cs : List (Action U)} → Suf cs ds → Sim P ok (ledger P ds).ops (ledger P ds).chosen (ledger P cs) (trace P cs)
    part {cs} s = sim P ok (ledger P ds).ops (ledger P ds).chosen cs (execution_suf P s f) (holds_suf P (ledger P ds).ops (ledger P ds).chosen s (record { ops= = λ k l. refl; chosen= = λ k i e. e }))

    pub demand3 : (order : List ℕ) × Demand3 ds order
    demand3 = (
      order W r (map upper (trace P ds)),
      record {
        sound = λ k h. from_included k (X.sound k h);
        reports = λ k h. X.complete k (reported (trace_reported h));
        updates = λ k i h. let r = applied_in W (map upper (trace P ds)) k i (subst (λ u. In k (u.applied i)) S.state= h) in X.complete k (somewhere r.0 i r.1);
        once = X.once;
        tasks = X.tasks;
        tells = λ k u h. Y.reports k u (trace_gives h);
        copies = λ x i c. let r = X.copies x i (sym (copy_in_set P ok x i) ∙ c) in (r.0, r.1 ∙ ap (λ l. l ++ r.0) (shows i x));
        copy_values = λ x i c. ap (λ u. u.val i x) S.state= ∙ Y.copies x i (sym (copy_in_set P ok x i) ∙ c) ∙ ap (make (fun W) (U.nought x)) (shows i x);
      },
    )
      where
        W : World U
        W = world P (ledger P ds)

        S : Sim P ok (ledger P ds).ops (ledger P ds).chosen (ledger P ds) (trace P ds)
        S = part stop

        r : Msg U → ℕ
        r = rank (net P ok (ledger P ds).ops (ledger P ds).chosen) (map lower (trace P ds))

        v : Valid W (map upper (trace P ds)) × ChannelExecution (net P ok (ledger P ds).ops (ledger P ds).chosen) (map lower (trace P ds))
        v = both P ok (ledger P ds).ops (ledger P ds).chosen (trace P ds) S.works

        Y : ExplainsValues W (map upper (trace P ds)) (order W r (map upper (trace P ds)))
        Y = serial_values W r (map upper (trace P ds)) v.0 (promised P ok (ledger P ds).ops (ledger P ds).chosen (trace P ds) v.1)

        X : Explains W (map upper (trace P ds)) (order W r (map upper (trace P ds)))
        X = Y.explains

        -- what a copy shows are the updates of its register applied on its card
        shows : (i x : ℕ) → (run W (map upper (trace P ds))).shown i x ≡ filter (updates_of W x) ((ledger P ds).layer.applied i)
        shows i x = shown_applied W (map upper (trace P ds)) i x ∙ ap (λ u. filter (updates_of W x) (u.applied i)) (sym S.state=)

        from_included : (k : ℕ) → Included W (map upper (trace P ds)) k → Any (IsReport k) ds ⊎ ((i : ℕ) × ((W.upd k ≡ true) × In k ((ledger P ds).layer.applied i)))
        from_included k (reported h) = inl (trace_reports k ds h)
        from_included k (somewhere u i h) = inr (i, (u, subst (λ v. In k (v.applied i)) (sym S.state=) (in_applied W u h)))
