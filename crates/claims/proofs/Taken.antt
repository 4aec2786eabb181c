-- A step that is not refused is an action of the ledger that could take place; and the list on paper is such a list.
use Prim.Native.Nat.{suc, ℕ, ◌<◌}
use borrow.Author.Tests.{ltb-true}
use lib.Dec.{eqb, ltb}
use lib.ListN.{length}
use mathlib.Core.Bool.{Bool, cond, false, false≢true, not, true, ◌&&◌}
use mathlib.Core.List.{List, [], ◌++◌, ◌∷◌}
use mathlib.Core.Option.{Option, none, some}
use mathlib.Core.Path.{ap, refl, subst, sym, ◌∙◌, ◌≡◌}
use native.Mathlib.Decide.{ℕ_discrete}
use native.Mathlib.Omega.{arith}
use Rattle.automaton.specs.Refusals.{otherwise}
use Rattle.lists.specs.Histories.{Suf, back, stop, suf_trans}
use Rattle.lists.specs.Tests.{and_fst, and_snd, clash, eqb_not, eqb_of}
use Rattle.names.specs.Placement.{Placement, copy, home, placement_refusal}
use Rattle.registers.specs.Layer.{Values, Msg, Status}
use Rattle.claims.proofs.CardSets.{alone_exact, some_card}
use Rattle.claims.proofs.Current.{asked_current, holds_now}
use Rattle.claims.proofs.Executions.{Enabled, Execution}
use Rattle.claims.specs.Command.{Command}
use Rattle.claims.specs.Ledger.{Action, Ledger, Op, about, answered_of, headed, ledger, ledger_mail, ledger_refusal, noted, notes, op_at, paper, paper_from, plan, stage_of, world, telling}
use Rattle.claims.specs.Published.{post}
use Rattle.claims.specs.Refusals.{alone, deliver_refusal, head_refusal, outbox_room, perform_refusal, report_refusal, request_refusal, send_read_refusal, send_update_refusal}
use Rattle.claims.specs.Steps.{Decoded, RawStep, bad, decode, good}
use Rattle.registers.specs.Layer as R
use Rattle.claims.specs.Command as K
use Rattle.claims.specs.Refusals as S

passes : (n : ℕ) (t : Bool) → otherwise (suc n) t ≡ 0 → t ≡ true
passes n true e = refl
passes n false e = absurd (omega arith)

pub room : (t : Bool) (m n : ℕ) → cond t m (suc n) ≡ 0 → t ≡ true
room true m n e = refl
room false m n e = absurd (omega arith)

module _ {U : Values} (P : Placement) (ok : placement_refusal P ≡ 0) where
  -- the action that a command is, if it is taken
  abbrev pub Taken : Ledger U → Command → Type 0
  Taken b c = (d : Action U) × (plan P b c ≡ some d) × Enabled P b d

  request_taken : (b : Ledger U) (c n : ℕ) (s : Status U) → b.layer.status c ≡ s → request_refusal n (stage_of b.ops s) ≡ 0 → b.layer.status c ≡ R.quiet
  request_taken b c n R.quiet q e = q
  request_taken b c n (R.asking k) q e = absurd (go (op_at b.ops k) (op_at b.ops k).upd e)
    where
      go : (a : Op) (t : Bool) → request_refusal n (cond t (S.asks_update a.reg) (S.asks_read a.reg)) ≡ 0 → ⊥
      go a true z = omega arith
      go a false z = omega arith
  request_taken b c n (R.waiting k) q e = absurd (omega arith)
  request_taken b c n (R.done k w) q e = absurd (omega arith)

  module _ (ds : List (Action U)) (f : Execution P ds) where
    abbrev b : Ledger U
    b = ledger P ds

    -- the copies of the register of an operation that a task asks for
    lies : (c k : ℕ) → b.layer.status c ≡ R.asking k → (i : ℕ) → (world P b).holds k i ≡ copy P (op_at b.ops k).reg i
    lies c k q i = holds_now P ok ds f k i (asked_current P ok ds f c k q)

    perform_taken : (c : ℕ) (s : Status U) → b.layer.status c ≡ s → perform_refusal P (home P c) (stage_of b.ops s) ≡ 0
        → (d : Action U) × (about s (Action.perform c) ≡ some d) × Enabled P b d
    perform_taken c R.quiet q e = absurd (omega arith)
    perform_taken c (R.asking k) q e =
        let r = go (op_at b.ops k) (op_at b.ops k).upd e in
        (Action.perform c k, refl, (q, lies c k q (home P c) ∙ r.0, λ u j h. r.1 u j (sym (lies c k q j) ∙ h)))
      where
        go : (o : Op) (t : Bool) → perform_refusal P (home P c) (cond t (S.asks_update o.reg) (S.asks_read o.reg)) ≡ 0
            → (copy P o.reg (home P c) ≡ true) × (t ≡ true → (j : ℕ) → copy P o.reg j ≡ true → j ≡ home P c)
        go o true z = let a = passes 21 (alone P o.reg (home P c)) z in (and_fst (copy P o.reg (home P c)) _ a, λ u. ((alone_exact P ok o.reg (home P c)).0 a).1)
        go o false z = (passes 21 (copy P o.reg (home P c)) z, λ u. absurd (false≢true u))
    perform_taken c (R.waiting k) q e = absurd (omega arith)
    perform_taken c (R.done k w) q e = absurd (omega arith)

    send_read_taken : (c i : ℕ) (s : Status U) → b.layer.status c ≡ s → send_read_refusal P (home P c) i (b.layer.out (home P c)) (stage_of b.ops s) ≡ 0
        → (d : Action U) × (about s (λ k. Action.send c k i) ≡ some d) × Enabled P b d
    send_read_taken c i R.quiet q e = absurd (omega arith)
    send_read_taken c i (R.asking k) q e = let r = go (op_at b.ops k) (op_at b.ops k).upd e in (Action.send c k i, refl, (q, (λ u. lies c k q i ∙ r.0 u), r.1))
      where
        go : (o : Op) (t : Bool) → send_read_refusal P (home P c) i (b.layer.out (home P c)) (cond t (S.asks_update o.reg) (S.asks_read o.reg)) ≡ 0
            → (t ≡ false → copy P o.reg i ≡ true) × (i < P.cards)
        go o true z = absurd (omega arith)
        go o false z =
            let a = and_snd (not (copy P o.reg (home P c))) _ (room (not (copy P o.reg (home P c)) && copy P o.reg i) (outbox_room (b.layer.out (home P c))) 21 z) in
            ((λ u. a), ltb-true i P.cards (and_fst (ltb i P.cards) _ a))
    send_read_taken c i (R.waiting k) q e = absurd (omega arith)
    send_read_taken c i (R.done k w) q e = absurd (omega arith)

    send_update_taken : (c : ℕ) (s : Status U) → b.layer.status c ≡ s → send_update_refusal P (home P c) (b.layer.out (home P c)) (stage_of b.ops s) ≡ 0
        → (d : Action U) × (about s (λ k. Action.send c k 0) ≡ some d) × Enabled P b d
    send_update_taken c R.quiet q e = absurd (omega arith)
    send_update_taken c (R.asking k) q e =
        (Action.send c k 0, refl, (q, (λ u. absurd (clash (go (op_at b.ops k) (op_at b.ops k).upd e) u)), omega (arith, some_card P ok)))
      where
        go : (o : Op) (t : Bool) → send_update_refusal P (home P c) (b.layer.out (home P c)) (cond t (S.asks_update o.reg) (S.asks_read o.reg)) ≡ 0 → t ≡ true
        go o true z = refl
        go o false z = absurd (omega arith)
    send_update_taken c (R.waiting k) q e = absurd (omega arith)
    send_update_taken c (R.done k w) q e = absurd (omega arith)

    dispatch_taken : (i : ℕ) (l : List (Msg U)) → b.layer.out i ≡ l → head_refusal P (ledger_mail P b) (answered_of (world P b)) b.channel l ≡ 0
        → (d : Action U) × (headed l (Action.dispatch i) ≡ some d) × Enabled P b d
    dispatch_taken i [] q e = absurd (omega arith)
    dispatch_taken i (m ∷ l) q e = (Action.dispatch i m, refl, (l, q))

    deliver_taken : (i : ℕ) (l : List (Msg U)) → b.channel.inbox i ≡ l → deliver_refusal P (ledger_mail P b) (answered_of (world P b)) i (b.layer.out i) l ≡ 0
        → (d : Action U) × (headed l (λ m. Action.deliver m i) ≡ some d) × Enabled P b d
    deliver_taken i [] q e = absurd (omega arith)
    deliver_taken i (m ∷ l) q e = (Action.deliver m i, refl, (l, q))

    report_taken : (c : ℕ) (s : Status U) → b.layer.status c ≡ s → report_refusal (stage_of b.ops s) ≡ 0
        → (d : Action U) × (telling s (Action.report c) ≡ some d) × Enabled P b d
    report_taken c R.quiet q e = absurd (omega arith)
    report_taken c (R.asking k) q e = absurd (go (op_at b.ops k) (op_at b.ops k).upd e)
      where
        go : (o : Op) (t : Bool) → report_refusal (cond t (S.asks_update o.reg) (S.asks_read o.reg)) ≡ 0 → ⊥
        go o true z = omega arith
        go o false z = omega arith
    report_taken c (R.waiting k) q e = absurd (omega arith)
    report_taken c (R.done k w) q e = (Action.report c k w, refl, q)

    pub taken : (c : Command) → ledger_refusal P b c ≡ 0 → Taken b c
    taken (K.request_read c x) e = (_, refl, (request_taken b c (length b.ops) (b.layer.status c) refl e, refl, refl))
    taken (K.request_update c x g w) e = (_, refl, (request_taken b c (length b.ops) (b.layer.status c) refl e, refl, refl))
    taken (K.perform c) e = perform_taken c (b.layer.status c) refl e
    taken (K.send_read c i) e = send_read_taken c i (b.layer.status c) refl e
    taken (K.send_update c) e = send_update_taken c (b.layer.status c) refl e
    taken (K.dispatch i) e = dispatch_taken i (b.layer.out i) refl e
    taken (K.take_broadcast i) e = (_, refl, tt)
    taken (K.take_single c) e = (_, refl, tt)
    taken (K.deliver i) e = deliver_taken i (b.channel.inbox i) refl e
    taken (K.report c) e = report_taken c (b.layer.status c) refl e

  -- ---- the list on paper

  -- a step that is not refused is noted; a refused one is not
  pub notes_taken : (ds : List (Action U)) (f : Execution P ds) (c : Command) (e : ledger_refusal P (ledger P ds) c ≡ 0) → notes P ds (good c) ≡ (taken ds f c e).0 ∷ ds
  notes_taken ds f c e =
      ap (λ t. noted (cond t (plan P (ledger P ds) c) none) ds) (eqb_of e) ∙ ap (λ o. noted o ds) (taken ds f c e).1

  pub notes_refused : (ds : List (Action U)) (c : Command) → ¬ (ledger_refusal P (ledger P ds) c ≡ 0) → notes P ds (good c) ≡ ds
  notes_refused ds c n = ap (λ t. noted (cond t (plan P (ledger P ds) c) none) ds) (eqb_not n)

  pub executes_notes : (ds : List (Action U)) → Execution P ds → (d : Decoded) → Execution P (notes P ds d)
  executes_notes ds f (bad n) = f
  executes_notes ds f (good c) = go (ℕ_discrete (ledger_refusal P (ledger P ds) c) 0)
    where
      go : Dec (ledger_refusal P (ledger P ds) c ≡ 0) → Execution P (notes P ds (good c))
      go (yes e) = subst (Execution P) (sym (notes_taken ds f c e)) ((taken ds f c e).2, f)
      go (no n) = subst (Execution P) (sym (notes_refused ds c n)) f

  executes_from : (ds : List (Action U)) → Execution P ds → (l : List RawStep) → Execution P (paper_from P ds l)
  executes_from ds f [] = f
  executes_from ds f (s ∷ l) = executes_from (notes P ds (decode P s)) (executes_notes ds f (decode P s)) l

  -- one more step at the end; and a list in two parts
  pub paper_snoc : (ds : List (Action U)) (l : List RawStep) (s : RawStep) → paper_from P ds (l ++ (s ∷ [])) ≡ notes P (paper_from P ds l) (decode P s)
  paper_snoc ds [] s = refl
  paper_snoc ds (a ∷ l) s = paper_snoc (notes P ds (decode P a)) l s

  pub paper_append : (ds : List (Action U)) (pre post : List RawStep) → paper_from P ds (pre ++ post) ≡ paper_from P (paper_from P ds pre) post
  paper_append ds [] post = refl
  paper_append ds (s ∷ pre) post = paper_append (notes P ds (decode P s)) pre post

  notes_suf : (ds : List (Action U)) (d : Decoded) → Suf ds (notes P ds d)
  notes_suf ds (bad n) = stop
  notes_suf ds (good c) = go (cond (eqb (ledger_refusal P (ledger P ds) c) 0) (plan P (ledger P ds) c) none)
    where
      go : (o : Option (Action U)) → Suf ds (noted o ds)
      go none = stop
      go (some d) = back stop

  pub paper_suf : (ds : List (Action U)) (l : List RawStep) → Suf ds (paper_from P ds l)
  paper_suf ds [] = stop
  paper_suf ds (s ∷ l) = suf_trans (notes_suf ds (decode P s)) (paper_suf (notes P ds (decode P s)) l)

module _ (U : Values) (P : Placement) (ok : placement_refusal P ≡ 0) where
  pub executes : (l : List RawStep) → Execution P (paper {U = U} P l)
  executes l = executes_from P ok [] tt l
