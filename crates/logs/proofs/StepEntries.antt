-- What a step adds to the log, read off the memories before it, is what it adds on the ledger.
use Prim.Native.Nat.{ℕ}
use mathlib.Core.Path.{◌≡◌, refl, sym, ap, subst, ◌∙◌}
use mathlib.Core.Bool.{Bool, true, false, cond}
use mathlib.Core.List.{List, [], ◌∷◌, ◌++◌, map}
use mathlib.Core.Option.{some, none-ne-some, some-injective}
use native.Mathlib.Decide.{ℕ_discrete}
use lib.Dec.{eqb}
use Rattle.lists.specs.Tests.{eqb_of, eqb_not}
use Rattle.names.specs.declared.Body.TheVariants.{ReadDo, ReadReply, UpdateDo, UpdateReply}
use Rattle.names.specs.declared.Letter.{Letter}
use Rattle.names.specs.Placement.{Placement, placement_refusal, home}
use Rattle.names.specs.Results.{is_taken}
use Rattle.registers.specs.Layer.{Msg, Status, ask, reply}
use Rattle.registers.specs.Layer as R
use Rattle.channel.specs.Inbox.{receive_answer}
use Rattle.channel.specs.Layout.{cards_of, tasks_of, registers_of}
use Rattle.channel.specs.MemoryCalls.{handed_up}
use Rattle.channel.proofs.Offered.{hands}
use Rattle.claims.specs.Command.{Command}
use Rattle.claims.specs.Command as K
use Rattle.claims.specs.Steps.{RawStep, decode, good, bad}
use Rattle.claims.specs.Ledger.{Op, Ledger, Action, op_at, ledger, notes, about, headed, telling, plan, ledger_refusal}
use Rattle.claims.specs.Found.{Found, quiet, asking_read, asking_update, waiting, done_read, done_update}
use Rattle.claims.specs.Found as F
use Rattle.claims.specs.FoundRun.{answer_decoded}
use Rattle.claims.proofs.Executions.{Enabled, Execution, trace}
use Rattle.claims.proofs.FoundShown.{shown, show_status, show_msg, same_result}
use Rattle.claims.proofs.LedgerRun.{asked_op}
use Rattle.claims.proofs.LedgerRuns.{final}
use Rattle.claims.proofs.Results.{ledger_taken}
use Rattle.claims.proofs.Shown.{numbers}
use Rattle.claims.proofs.Taken.{taken, notes_taken, notes_refused}
use Rattle.commands.specs.Decode.{decode_of}
use Rattle.commands.specs.declared.Command as D
use Rattle.commands.specs.declared.Command.TheVariants.{RequestRead, RequestUpdate, Perform, SendRead, SendUpdate, Dispatch, TakeBroadcast, TakeSingle, Deliver, Report}
use Rattle.commands.proofs.DecodeLaw.{command_shown, decoded_shown, InRange, DecodedInRange, decode_is, decode_range}
use Rattle.tables.specs.Doings.{doing_at}
use Rattle.tables.specs.Shows.{status_of, plain}
use Rattle.tables.specs.declared.Doing.{Doing}
use Rattle.tables.specs.declared.Doing.TheVariants.{Quiet, AskingRead, AskingUpdate, Waiting, DoneRead, DoneUpdate}
use Rattle.store.specs.SideBySide.{Stands, advanced}
use Rattle.store.proofs.SideBySide.{channel_fit, advance_follows}
use Rattle.logs.specs.declared.Entry.{Entry}
use Rattle.std.specs.Prelude.{Option, None, Result, Ok, Err}
use Rattle.names.specs.declared.refusals.Refusal.{Refusal}
use Rattle.names.specs.Refusals.{refusal_number}
use Rattle.logs.specs.Entries.{entries, update_entry, doing_entry, body_entry, received_entry, command_entry, decoded_entry, step_entry}
use Rattle.logs.proofs.LedgerLog.{log_of, act_entry, grows, nothing_more}

module _ (P : Placement) (x : ℕ) where
  -- ---- of a task and of an inbox, as the algorithm has them

  found_entry : ℕ → F.Doing → Option Entry
  found_entry t quiet = None
  found_entry t (asking_read y) = None
  found_entry t (asking_update y f w) = update_entry P x (home P t) t y f w
  found_entry t waiting = None
  found_entry t (done_read v) = None
  found_entry t (done_update v) = None

  doing_found : (t : ℕ) (d : Doing) → doing_entry P x t d ≡ found_entry t (status_of d)
  unfolding doing_entry found_entry status_of
  doing_found t Quiet = refl
  doing_found t (AskingRead y) = refl
  doing_found t (AskingUpdate y f w) = refl
  doing_found t Waiting = refl
  doing_found t (DoneRead v) = refl
  doing_found t (DoneUpdate v) = refl

  inbox_entry : ℕ → List F.Letter → Option Entry
  inbox_entry i [] = None
  inbox_entry i (m ∷ l) = body_entry P x i m.task m.reg m.body

  received_inbox : (i : ℕ) (l : List Letter) → received_entry P x i (handed_up l) ≡ inbox_entry i (map plain l)
  unfolding received_entry inbox_entry
  received_inbox i [] = refl
  received_inbox i (m ∷ l) = refl

  -- ---- on the ledger

  module _ (b : Ledger numbers) where
    performs : (t k : ℕ) → (op_at b.ops k).task ≡ t → found_entry t (show_status b.ops (R.asking k)) ≡ act_entry P x b (Action.perform t k)
    unfolding found_entry
    performs t k e = go (op_at b.ops k) (op_at b.ops k).upd e
      where
        go : (o : Op) (u : Bool) → o.task ≡ t
            → found_entry t (cond u (asking_update o.reg o.fn o.arg) (asking_read o.reg)) ≡ cond u (update_entry P x (home P o.task) o.task o.reg o.fn o.arg) None
        go o true q = ap (λ c. update_entry P x (home P c) c o.reg o.fn o.arg) (sym q)
        go o false q = refl

    delivers : (i : ℕ) (m : Msg numbers) (r : List (Msg numbers)) → inbox_entry i (map (show_msg P b.ops b.chosen) (m ∷ r)) ≡ act_entry P x b (Action.deliver m i)
    unfolding inbox_entry body_entry
    delivers i (ask k) r = go (op_at b.ops k) (op_at b.ops k).upd
      where
        go : (o : Op) (u : Bool) → body_entry P x i o.task o.reg (cond u (UpdateDo o.fn o.arg) ReadDo) ≡ cond u (update_entry P x i o.task o.reg o.fn o.arg) None
        go o true = refl
        go o false = refl
    delivers i (reply k v) r = go (op_at b.ops k) (op_at b.ops k).upd
      where
        go : (o : Op) (u : Bool) → body_entry P x i o.task o.reg (cond u (UpdateReply v) (ReadReply v)) ≡ None
        go o true = refl
        go o false = refl

    -- a planned action, from what it is made of
    abbrev Adds : Option Entry → Action numbers → Type 0
    Adds e g = Enabled P b g → act_entry P x b g ≡ e

    is_planned : (e : Option Entry) (a g : Action numbers) → some a ≡ some g → Adds e a → Adds e g
    is_planned e a g p h = subst (Adds e) (some-injective a g p) h

    about_planned : (e : Option Entry) (s : Status numbers) (h : ℕ → Action numbers) (g : Action numbers) → about s h ≡ some g → ((k : ℕ) → Adds e (h k)) → Adds e g
    about_planned e R.quiet h g p q = absurd (none-ne-some g p)
    about_planned e (R.asking k) h g p q = is_planned e (h k) g p (q k)
    about_planned e (R.waiting k) h g p q = is_planned e (h k) g p (q k)
    about_planned e (R.done k v) h g p q = is_planned e (h k) g p (q k)

    head_planned : (e : Option Entry) (l : List (Msg numbers)) (h : Msg numbers → Action numbers) (g : Action numbers) → headed l h ≡ some g → ((m : Msg numbers) → Adds e (h m)) → Adds e g
    head_planned e [] h g p q = absurd (none-ne-some g p)
    head_planned e (m ∷ l) h g p q = is_planned e (h m) g p (q m)

    told_planned : (e : Option Entry) (s : Status numbers) (h : ℕ → ℕ → Action numbers) (g : Action numbers) → telling s h ≡ some g → ((k v : ℕ) → Adds e (h k v)) → Adds e g
    told_planned e R.quiet h g p q = absurd (none-ne-some g p)
    told_planned e (R.asking k) h g p q = absurd (none-ne-some g p)
    told_planned e (R.waiting k) h g p q = absurd (none-ne-some g p)
    told_planned e (R.done k v) h g p q = is_planned e (h k v) g p (q k v)

module _ (P : Placement) (ok : placement_refusal P ≡ 0) (x : ℕ) (ds : List (Action numbers)) (f : Execution P ds) where
  abbrev b : Ledger numbers
  b = ledger P ds

  abbrev s : Found
  s = shown P ds

  -- the operation that a task asks for is its own
  own : (t k : ℕ) → b.layer.status t ≡ R.asking k → (op_at b.ops k).task ≡ t
  own t k e = sym (asked_op P ok b.ops b.chosen b (trace P ds) (record { ops= = λ j l. refl; chosen= = λ j i q. q }) (final P ok ds f) e).1

  module _ (rs cs : List ℕ) (z : Stands rs cs P s) (a : RawStep) where
    -- the step is taken, by its result
    abbrev is_done : Bool
    is_done = is_taken (advanced rs cs a.code a.argument).answer.result

    done_is : (c : Command) → decode P a ≡ good c → is_done ≡ eqb (ledger_refusal P b c) 0
    done_is c e =
        ap (λ r. is_taken r.result) ((advance_follows rs cs P s z a).answer= ∙ ap (answer_decoded P s) e)
        ∙ ap is_taken (same_result P ok ds f c)
        ∙ ledger_taken P b c

    -- a step that is a command, and adds e where it is taken
    by_command : (c : Command) (e : Option Entry) → decode P a ≡ good c → ((g : Action numbers) → plan P b c ≡ some g → Adds P x b e g)
        → log_of P x (ledger P (notes P ds (good c))) ≡ log_of P x b ++ entries (cond is_done e None)
    by_command c e q h = go (ℕ_discrete (ledger_refusal P b c) 0)
      where
        go : Dec (ledger_refusal P b c ≡ 0) → log_of P x (ledger P (notes P ds (good c))) ≡ log_of P x b ++ entries (cond is_done e None)
        go (yes r) =
            let t = taken P ok ds f c r in
            ap (λ l. log_of P x (ledger P l)) (notes_taken P ok ds f c r)
            ∙ grows P x ok ds f t.0
            ∙ ap (λ n. log_of P x b ++ entries n) (h t.0 t.1 t.2 ∙ sym (ap (λ d. cond d e None) (done_is c q ∙ eqb_of r)))
        go (no n) =
            ap (λ l. log_of P x (ledger P l)) (notes_refused P ok ds c n)
            ∙ nothing_more (log_of P x b)
            ∙ ap (λ n. log_of P x b ++ entries n) (sym (ap (λ d. cond d e None) (done_is c q ∙ eqb_not n)))

    refused_adds : (n : ℕ) → log_of P x (ledger P (notes P ds (bad n))) ≡ log_of P x b ++ entries (cond is_done None None)
    refused_adds n = nothing_more (log_of P x b) ∙ ap (λ e. log_of P x b ++ entries e) (go is_done)
      where
        go : (t : Bool) → ◌≡◌ {A = Option Entry} None (cond t None None)
        go true = refl
        go false = refl

    by_step : (d : D.Command) → InRange (cards_of cs) (registers_of cs) (tasks_of cs) d → decode P a ≡ good (command_shown d)
        → log_of P x (ledger P (notes P ds (good (command_shown d)))) ≡ log_of P x b ++ entries (cond is_done (command_entry P x rs cs d) None)
    unfolding command_entry
    by_step (RequestRead t v) r e = by_command (K.request_read t.0 v.0) None e (λ g p. is_planned P x b None _ g p (λ n. refl))
    by_step (RequestUpdate t v j w) r e = by_command (K.request_update t.0 v.0 j w) None e (λ g p. is_planned P x b None _ g p (λ n. refl))
    by_step (Perform t) r e = by_command (K.perform t.0) (doing_entry P x t.0 (doing_at rs t.0)) e (λ g p.
        about_planned P x b _ (b.layer.status t.0) (Action.perform t.0) g p (λ k n.
        sym
        (doing_found P x t.0 (doing_at rs t.0)
        ∙ ap (found_entry P x t.0) (sym (z.shows.registers_show.status= t.0 r))
        ∙ ap (λ u. found_entry P x t.0 (show_status b.ops u)) n.0
        ∙ performs P x b t.0 k (own t.0 k n.0))))
    by_step (SendRead t j) r e = by_command (K.send_read t.0 j.0) None e (λ g p. about_planned P x b None (b.layer.status t.0) _ g p (λ k n. refl))
    by_step (SendUpdate t) r e = by_command (K.send_update t.0) None e (λ g p. about_planned P x b None (b.layer.status t.0) _ g p (λ k n. refl))
    by_step (Dispatch i) r e = by_command (K.dispatch i.0) None e (λ g p. head_planned P x b None (b.layer.out i.0) _ g p (λ m n. refl))
    by_step (TakeBroadcast i) r e = by_command (K.take_broadcast i.0) None e (λ g p. is_planned P x b None _ g p (λ n. refl))
    by_step (TakeSingle t) r e = by_command (K.take_single t.0) None e (λ g p. is_planned P x b None _ g p (λ n. refl))
    by_step (Deliver i) r e = by_command (K.deliver i.0) (received_entry P x i.0 (receive_answer cs i)) e (λ g p.
        head_planned P x b _ (b.channel.inbox i.0) (λ m. Action.deliver m i.0) g p (λ m n.
        let w = z.shows.channel_shows in
        sym
        (ap (received_entry P x i.0) (hands cs w.letters z.channel_long (channel_fit rs cs P s z) w.shows i r)
        ∙ received_inbox P x i.0 (w.letters.inbox i.0)
        ∙ ap (λ c. inbox_entry P x i.0 (c.inbox i.0)) (sym w.plain=)
        ∙ ap (λ l. inbox_entry P x i.0 (map (show_msg P b.ops b.chosen) l)) n.1
        ∙ delivers P x b i.0 m n.0)))
    by_step (Report t) r e = by_command (K.report t.0) None e (λ g p. told_planned P x b None (b.layer.status t.0) _ g p (λ k v n. refl))

    decoded_adds : (d : Result D.Command Refusal) → DecodedInRange (cards_of cs) (registers_of cs) (tasks_of cs) d → decode P a ≡ decoded_shown d
        → log_of P x (ledger P (notes P ds (decoded_shown d))) ≡ log_of P x b ++ entries (cond is_done (decoded_entry P x rs cs d) None)
    decoded_adds (Ok c) r e = by_step c r e
    decoded_adds (Err f) r e = refused_adds (refusal_number f)

    pub step_adds : log_of P x (ledger P (notes P ds (decode P a))) ≡ log_of P x b ++ entries (step_entry P x rs cs a.code a.argument)
    unfolding step_entry
    step_adds = ap (λ q. log_of P x (ledger P (notes P ds q))) (sym same) ∙ decoded_adds d (decode_range (cards_of cs) (registers_of cs) (tasks_of cs) a.code a.argument) (sym same)
      where
        d : Result D.Command Refusal
        d = decode_of a.code a.argument (cards_of cs) (registers_of cs) (tasks_of cs)

        same : decoded_shown d ≡ decode P a
        same = rw (← z.shows.cards=, ← z.shows.registers=, ← z.shows.tasks=) (decode_is P a.argument a.code)
