-- In every list of actions that could take place, of present tasks, there is room for what the next step adds: the limits hold one step on.
use Prim.Native.Nat.{suc, ℕ, ◌<◌, ◌≤◌}
use lib.ListN.{length, length-append, length-map}
use mathlib.Core.Bool.{Bool, cond, false, false≢true, true}
use mathlib.Core.List.{List, [], ◌++◌, ◌∷◌}
use mathlib.Core.Path.{ap, refl, ◌≡◌}
use native.Mathlib.Omega.{arith}
use Rattle.automaton.specs.Renaming.{tag_map}
use Rattle.lists.specs.Counting.{filter_split}
use Rattle.lists.specs.Maps.{length_filter_map}
use Rattle.lists.specs.Queues.{push}
use Rattle.lists.specs.Tests.{and_intro, eqb_of, eqb_refl}
use Rattle.names.specs.Placement.{Placement, home, placement_refusal, tasks}
use Rattle.registers.specs.Layer.{Msg, Status, ask, reply}
use Rattle.claims.proofs.CardSets.{tasks_low}
use Rattle.claims.proofs.ChannelLimits.{Modest}
use Rattle.claims.proofs.Executions.{Execution, trace}
use Rattle.claims.proofs.LedgerRun.{asked_op}
use Rattle.claims.proofs.OnTheWay.{broadcasts_few, held_short, outbox_short, singles_short}
use Rattle.claims.proofs.Range.{Small}
use Rattle.claims.proofs.Shown.{alike, numbers, show_msg, show_status, shown}
use Rattle.claims.proofs.Stable.{S, hold}
use Rattle.claims.proofs.Steady.{update_on}
use Rattle.claims.specs.Ledger.{Action, Ledger, Op, answered_of, ledger, ledger_mail, op_at, sets_of, wide, world}
use Rattle.claims.specs.Published.{Doing, Letter, asking_read, asking_update, done_read, done_update, mail, quiet, waiting}
use Rattle.registers.specs.Layer as R
use Rattle.automaton.specs.State as C

-- ---- what a task asks, read off the published status

abbrev read_on : Doing → ℕ
read_on quiet = 0
read_on (asking_read x) = suc x
read_on (asking_update x f w) = 0
read_on waiting = 0
read_on (done_read v) = 0
read_on done_update = 0

-- the ledger's status behind it: it asks, for a read or an update of that register
module _ (ops : List Op) where
  pub asks_read : (s : Status numbers) (x : ℕ) → show_status ops s ≡ asking_read x → (k : ℕ) × (s ≡ R.asking k) × ((op_at ops k).upd ≡ false) × ((op_at ops k).reg ≡ x)
  asks_read R.quiet x e = let z = ap read_on e in absurd (omega arith)
  asks_read (R.asking k) x e = let r = go (op_at ops k) (op_at ops k).upd e in (k, refl, r.0, r.1)
    where
      go : (o : Op) (t : Bool) → cond t (asking_update o.reg o.fn o.arg) (asking_read o.reg) ≡ asking_read x → (t ≡ false) × (o.reg ≡ x)
      go o true q = let z = ap read_on q in absurd (omega arith)
      go o false q = let z = ap read_on q in (refl, omega arith)
  asks_read (R.waiting k) x e = let z = ap read_on e in absurd (omega arith)
  asks_read (R.done k w) x e = absurd (go (op_at ops k).upd e)
    where
      go : (t : Bool) → cond t done_update (done_read w) ≡ asking_read x → ⊥
      go true q = let z = ap read_on q in omega arith
      go false q = let z = ap read_on q in omega arith

  pub asks_update_lem : (s : Status numbers) (x n v : ℕ) → show_status ops s ≡ asking_update x n v → (k : ℕ) × (s ≡ R.asking k) × ((op_at ops k).upd ≡ true)
  asks_update_lem R.quiet x n v e = let z = ap update_on e in absurd (omega arith)
  asks_update_lem (R.asking k) x n v e = (k, refl, go (op_at ops k) (op_at ops k).upd e)
    where
      go : (o : Op) (t : Bool) → cond t (asking_update o.reg o.fn o.arg) (asking_read o.reg) ≡ asking_update x n v → t ≡ true
      go o true q = refl
      go o false q = let z = ap update_on q in absurd (omega arith)
  asks_update_lem (R.waiting k) x n v e = let z = ap update_on e in absurd (omega arith)
  asks_update_lem (R.done k w) x n v e = absurd (go (op_at ops k).upd e)
    where
      go : (t : Bool) → cond t done_update (done_read w) ≡ asking_update x n v → ⊥
      go true q = let z = ap update_on q in omega arith
      go false q = let z = ap update_on q in omega arith

module _ (P : Placement) (ok : placement_refusal P ≡ 0) where
  -- ---- a list of actions that could take place, of present tasks

  module _ (ds : List (Action numbers)) (f : Execution P ds) (small : Small P ds) where
    abbrev b : Ledger numbers
    b = ledger P ds

    abbrev h : Msg numbers → Letter
    h = show_msg P b.ops b.chosen

    pub outbox_16 : (i : ℕ) → length (b.layer.out i) ≤ 16
    outbox_16 i = let l = outbox_short P ok ds f (tasks P) small i in omega (arith, tasks_low P ok)

    pub held_16 : (i : ℕ) → length ((shown P ds).channel.held i) ≤ 16
    held_16 i =
        let l = held_short P ok ds f (tasks P) small i in
        let e = length-map (b.channel.held i) (tag_map h) in
        omega (arith, tasks_low P ok)

    -- 32 broadcasts and 16 others
    pub inbox_48 : Modest mail P.cards (shown P ds).channel → (i : ℕ) → length ((shown P ds).channel.inbox i) ≤ 48
    inbox_48 m i =
        let s = filter_split (wide (sets_of b.ops) (world P b)) (b.channel.inbox i) in
        let l = singles_short P ok ds f (tasks P) small i in
        let x = m.few i in
        let y = length_filter_map h (wide (sets_of b.ops) (world P b)) mail.multi (alike P ok ds f).multi= (b.channel.inbox i) in
        let z = length-map (b.channel.inbox i) h in
        omega (arith, tasks_low P ok)

    -- steps 4 and 5: the message is not the 17th
    pub send_room : (c k j : ℕ) → b.layer.status c ≡ R.asking k → ((op_at b.ops k).upd ≡ false → (world P b).holds k j ≡ true) → j < P.cards → length (b.layer.out (home P c)) < 16
    send_room c k j e g l =
        let o = outbox_short P ok (Action.send c k j ∷ ds) x (tasks P) small (home P c) in
        let p = ap length grown in
        let q = length-append (b.layer.out (home P c)) (ask k ∷ []) in
        omega (arith, tasks_low P ok)
      where
        x : Execution P (Action.send c k j ∷ ds)
        x = ((e, g, l), f)

        mine : c ≡ (op_at b.ops k).task
        mine = (asked_op P ok b.ops (ledger P (Action.send c k j ∷ ds)).chosen b (trace P ds) (hold P ok ds (Action.send c k j) x) (S P ok ds (Action.send c k j) x) e).1

        grown : (ledger P (Action.send c k j ∷ ds)).layer.out (home P c) ≡ b.layer.out (home P c) ++ (ask k ∷ [])
        grown = ap (λ t. push t (ask k) (b.layer.out (home P c))) (eqb_of (ap (home P) mine))

    -- step 9: nor is a reply
    pub reply_room : (m : Msg numbers) (i : ℕ) (r : List (Msg numbers)) → b.channel.inbox i ≡ m ∷ r → answered_of (world P b) m i ≡ true → length (b.layer.out i) < 16
    reply_room (reply k w) i r e q = absurd (false≢true q)
    reply_room (ask k) i r e q =
        let o = outbox_short P ok (Action.deliver (ask k) i ∷ ds) ((r, e), f) (tasks P) small i in
        let p = ap length grown in
        let n = length-append (b.layer.out i) (reply k (b.layer.val i (op_at b.ops k).reg) ∷ []) in
        omega (arith, tasks_low P ok)
      where
        grown : (ledger P (Action.deliver (ask k) i ∷ ds)).layer.out i ≡ b.layer.out i ++ (reply k (b.layer.val i (op_at b.ops k).reg) ∷ [])
        grown = ap (λ t. push t (reply k (b.layer.val i (op_at b.ops k).reg)) (b.layer.out i)) (and_intro (eqb_refl i) q)

    -- step 6: there is a number left
    pub number_left : (m : Msg numbers) (i : ℕ) (r : List (Msg numbers)) → b.layer.out i ≡ m ∷ r → wide (sets_of b.ops) (world P b) m ≡ true → length b.channel.sent < length b.ops
    number_left m i r e u =
        let o = broadcasts_few P ok (Action.dispatch i m ∷ ds) ((r, e), f) in
        let p = ap (λ t. length (C.dispatching (ledger_mail P b) t b.channel i m).sent) u in
        let q = length-append b.channel.sent (m ∷ []) in
        omega arith
