-- Steps 1 to 5 and 10 do the same to the state of the algorithm that the store runs and to the ledger.
use Prim.Native.Nat.{suc, ℕ}
use borrow.Author.Tests.{eqb-true}
use lib.Dec.{eqb}
use lib.ListN.{length, length-append}
use lib.Seq.{get_or-append_seam}
use mathlib.Core.Bool.{Bool, cond, false, true, ◌&&◌}
use mathlib.Core.List.{List, [], map, ◌++◌, ◌∷◌}
use mathlib.Core.Option.{Option, none, some}
use mathlib.Core.Path.{ap, ap₂, refl, subst, sym, ◌∙◌, ◌≡◌}
use native.Mathlib.Omega.{arith}
use Rattle.automaton.specs.Renaming.{channel_map}
use Rattle.lists.specs.Maps.{map_push}
use Rattle.lists.specs.Queues.{push}
use Rattle.lists.specs.Tests.{and_fst, and_snd, eqb_refl}
use Rattle.names.specs.CardSet.{just_of}
use Rattle.names.specs.Placement.{Placement, home, placement_refusal}
use Rattle.names.specs.Update.{updated}
use Rattle.names.specs.declared.Body.{Body}
use Rattle.names.specs.declared.Body.TheVariants.{ReadDo, UpdateDo}
use Rattle.registers.proofs.Requests.{Asked, busy_task}
use Rattle.registers.proofs.Statuses.{Busy}
use Rattle.registers.specs.Layer.{Msg, Status, ask, to}
use Rattle.claims.proofs.Executions.{Execution, trace}
use Rattle.claims.proofs.FoundShown.{ask_letter, show_msg, show_status, shown}
use Rattle.claims.proofs.Joint.{upper}
use Rattle.claims.proofs.LedgerRun.{asked_of, asked_op}
use Rattle.claims.proofs.Shown.{numbers}
use Rattle.claims.proofs.Stable.{S, hold, renamed}
use Rattle.claims.specs.Ledger.{Action, Ledger, Op, first, ledger, no_op, op_at, world, world_of}
use Rattle.claims.specs.Found.{Doing, Letter, asking_read, asking_update, done_read, done_update, effect, performing, quiet, requesting, sending, waiting}
use Rattle.registers.specs.Layer as R
use Rattle.claims.specs.Command as K

pub status_set : (ops : List Op) (c t : ℕ) (v : Doing) (s : Status numbers) (F : ℕ → Status numbers) → t ≡ c → show_status ops s ≡ v
    → (d : ℕ) → cond (eqb c d) v (show_status ops (F d)) ≡ show_status ops (cond (eqb t d) s (F d))
status_set ops c t v s F e q d = ap (λ z. cond (eqb z d) v (show_status ops (F d))) (sym e) ∙ go (eqb t d)
  where
    go : (y : Bool) → cond y v (show_status ops (F d)) ≡ show_status ops (cond y s (F d))
    go true = sym q
    go false = refl

pub copy_set : (T : ℕ → ℕ → ℕ) (F : ℕ → ℕ) (i x j y : ℕ) → cond (eqb j i && eqb x y) (F (T i x)) (T j y) ≡ cond (eqb j i && eqb x y) (F (T j y)) (T j y)
copy_set T F i x j y = go (eqb j i && eqb x y) refl
  where
    go : (t : Bool) → (eqb j i && eqb x y) ≡ t → cond t (F (T i x)) (T j y) ≡ cond t (F (T j y)) (T j y)
    go true e = ap₂ (λ a c. F (T a c)) (sym (eqb-true _ _ (and_fst (eqb j i) _ e))) (eqb-true _ _ (and_snd (eqb j i) _ e))
    go false e = refl

pub out_set : (h : Msg numbers → Letter) (m : Msg numbers) (n : Letter) (i t : ℕ) (F : ℕ → List (Msg numbers)) → t ≡ i → h m ≡ n → (j : ℕ) → push (eqb j i) n (map h (F j)) ≡ map h (push (eqb j t) m (F j))
out_set h m n i t F e q j = ap₂ (λ z a. push (eqb j z) a (map h (F j))) (sym e) (sym q) ∙ sym (map_push h (eqb j t) m (F j))

module _ (P : Placement) (ok : placement_refusal P ≡ 0) (ds : List (Action numbers)) where
  abbrev before : Ledger numbers
  before = ledger P ds

  abbrev T : ℕ → ℕ → ℕ
  T = before.layer.val

  -- 1, 2
  pub does_request : (o : Op) (v : Doing) (f : Execution P (Action.request o ∷ ds)) → cond o.upd (asking_update o.reg o.fn o.arg) (asking_read o.reg) ≡ v
      → requesting (shown P ds) o.task v ≡ shown P (Action.request o ∷ ds)
  does_request o v f e = ap (λ s. requesting s o.task v) (renamed P ok ds (Action.request o) f) ∙ (λ j. record {
    requests = count j;
    status = λ c. status_set ops o.task (op_at ops k).task v (R.asking k) before.layer.status (ap (λ a. a.task) seam)
        (ap (λ a. cond a.upd (asking_update a.reg a.fn a.arg) (asking_read a.reg)) seam ∙ e) c j;
    table = T;
    out = λ i. map (show_msg P ops before.chosen) (before.layer.out i);
    channel = channel_map (show_msg P ops before.chosen) before.channel;
  })
    where
      ops : List Op
      ops = before.ops ++ (o ∷ [])

      k : ℕ
      k = length before.ops

      seam : op_at ops k ≡ o
      seam = get_or-append_seam before.ops o [] no_op

      count : suc (length before.ops) ≡ length ops
      count = let q = length-append before.ops (o ∷ []) in omega arith

  -- 3
  pub does_perform : (c k : ℕ) (f : Execution P (Action.perform c k ∷ ds)) → effect P (shown P ds) (K.perform c) ≡ shown P (Action.perform c k ∷ ds)
  does_perform c k f = ap (λ s. performing (shown P ds) c (home P c) (show_status before.ops s)) f.0.0 ∙ go o.upd refl
    where
      o : Op
      o = op_at before.ops k

      i : ℕ
      i = home P c

      h : Msg numbers → Letter
      h = show_msg P before.ops before.chosen

      mine : o.task ≡ c
      mine = sym (asked_op P ok before.ops before.chosen before (trace P ds) (hold P ok ds (Action.perform c k) f) (S P ok ds (Action.perform c k) f) f.0.0).1

      -- the value found, on the operation's own card
      found : T (home P o.task) o.reg ≡ T i o.reg
      found = ap (λ t. T (home P t) o.reg) mine

      go : (t : Bool) → o.upd ≡ t → performing (shown P ds) c i (cond t (asking_update o.reg o.fn o.arg) (asking_read o.reg)) ≡ shown P (Action.perform c k ∷ ds)
      go true u = λ j. record {
        requests = length before.ops;
        status = λ a. status_set before.ops c o.task (done_update (T i o.reg)) (R.done k (T (home P o.task) o.reg)) before.layer.status mine (ap₂ (λ t v. cond t (done_update v) (done_read v)) u found) a j;
        table = λ a x. (copy_set T (updated o.fn o.arg) i o.reg a x
            ∙ ap₂ (λ t n. cond (t && eqb a (home P n) && eqb o.reg x) (updated o.fn o.arg (T a x)) (T a x)) (sym u) (sym mine)) j;
        out = λ a. map h (before.layer.out a);
        channel = channel_map h before.channel;
      }
      go false u = λ j. record {
        requests = length before.ops;
        status = λ a. status_set before.ops c o.task (done_read (T i o.reg)) (R.done k (T (home P o.task) o.reg)) before.layer.status mine
            (ap₂ (λ t v. cond t (done_update v) (done_read v)) u found) a j;
        table = λ a x. ap (λ t. cond (t && eqb a (home P o.task) && eqb o.reg x) (updated o.fn o.arg (T a x)) (T a x)) (sym u) j;
        out = λ a. map h (before.layer.out a);
        channel = channel_map h before.channel;
      }

  -- 4, 5: the letter of the message
  pub does_send : (c k i : ℕ) (body : Body) (to : ℕ) (f : Execution P (Action.send c k i ∷ ds))
      → cond (op_at before.ops k).upd (UpdateDo (op_at before.ops k).fn (op_at before.ops k).arg) ReadDo ≡ body
      → cond (op_at before.ops k).upd (op_at before.ops k).holders (just_of i) ≡ to
      → sending P (shown P ds) c (op_at before.ops k).reg body to ≡ shown P (Action.send c k i ∷ ds)
  does_send c k i body to f e e' = ap (λ s. sending P s c o.reg body to) (renamed P ok ds (Action.send c k i) f) ∙ (λ j. record {
    requests = length before.ops;
    status = λ a. status_set before.ops c o.task waiting (R.waiting k) before.layer.status mine refl a j;
    table = T;
    out = λ a. out_set (show_msg P before.ops at) (ask k) (record { task = c; reg = o.reg; body = body; to = to }) (home P c) (home P o.task) before.layer.out (ap (home P) mine) shape a j;
    channel = channel_map (show_msg P before.ops at) before.channel;
  })
    where
      o : Op
      o = op_at before.ops k

      at : ℕ → Option ℕ
      at = (ledger P (Action.send c k i ∷ ds)).chosen

      asked : Asked (world_of P before.ops at) (map upper (trace P ds)) c k
      asked = asked_of P ok before.ops at before (trace P ds) (hold P ok ds (Action.send c k i) f) (S P ok ds (Action.send c k i) f) f.0.0

      mine : o.task ≡ c
      mine = asked.mine

      -- nothing was asked for it before
      unasked : (a : Option ℕ) → before.chosen k ≡ a → first a i ≡ some i
      unasked none q = refl
      unasked (some z) q = absurd (asked.unsent ((S P ok ds (Action.send c k i) f).at_posted k z q))

      chosen : at k ≡ some i
      chosen = ap (λ t. cond t (first (before.chosen k) i) (before.chosen k)) (eqb_refl k) ∙ unasked (before.chosen k) refl

      shape : show_msg P before.ops at (ask k) ≡ record { task = c; reg = o.reg; body = body; to = to }
      shape = ap (ask_letter P o) chosen ∙ (λ j. record { task = mine j; reg = o.reg; body = e j; to = e' j })

  -- 10
  pub does_report : (c k w : ℕ) (f : Execution P (Action.report c k w ∷ ds)) → effect P (shown P ds) (K.report c) ≡ shown P (Action.report c k w ∷ ds)
  does_report c k w f = λ j. record {
    requests = length before.ops;
    status = λ a. status_set before.ops c (op_at before.ops k).task quiet R.quiet before.layer.status mine refl a j;
    table = T;
    out = λ a. map (show_msg P before.ops before.chosen) (before.layer.out a);
    channel = channel_map (show_msg P before.ops before.chosen) before.channel;
  }
    where
      mine : (op_at before.ops k).task ≡ c
      mine = busy_task (world P before) (map upper (trace P ds)) c k
          (subst (λ t. Busy t k) (sym (ap (λ u. u.status c) (sym (S P ok ds (Action.report c k w) f).state=) ∙ f.0)) refl)
