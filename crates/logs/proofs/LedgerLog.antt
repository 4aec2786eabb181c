-- The log on a ledger, action by action: what each adds.
use Prim.Native.Nat.{ℕ, ◌<◌}
use mathlib.Core.Path.{◌≡◌, refl, sym, ap, ap₂, ◌∙◌}
use mathlib.Core.Logic.{◌⊎◌, inl, inr}
use mathlib.Core.Bool.{Bool, true, false, cond, ◌&&◌}
use mathlib.Core.List.{List, [], ◌∷◌, ◌++◌, map, append-nil}
use native.Mathlib.Decide.{ℕ_discrete}
use native.Mathlib.Omega.{arith}
use lib.Dec.{eqb}
use lib.ListN.{length, length-append, get_or-append}
use Rattle.lists.specs.Filters.{keep, filter, filter_push}
use Rattle.lists.specs.Histories.{In, here, there, any_nil}
use Rattle.lists.specs.Maps.{map_push}
use Rattle.lists.specs.Queues.{push, push_cases}
use Rattle.lists.specs.Tests.{eqb_of, eqb_not}
use Rattle.names.specs.Placement.{Placement, placement_refusal, home, primary}
use Rattle.registers.specs.Layer.{Values, ask, reply}
use Rattle.claims.specs.Ledger.{Op, Ledger, Action, op_at, no_op, ledger, request, perform, send, dispatch, take_broadcast, take_single, deliver, report}
use Rattle.claims.proofs.Current.{asked_listed, delivered_listed}
use Rattle.claims.proofs.Executions.{Execution}
use Rattle.logs.specs.Log.{is_sum}
use Rattle.logs.specs.declared.Entry.{Entry}
use Rattle.std.specs.Prelude.{Option, None}
use Rattle.logs.specs.Entries.{added, entries, update_entry}

-- nothing more
pub nothing_more : (l : List (ℕ × ℕ)) → l ≡ l ++ entries None
unfolding entries
nothing_more l = sym (append-nil l)

one_more : (t : Bool) (c w : ℕ) (l : List (ℕ × ℕ)) → push t (c, w) l ≡ l ++ entries (cond t (added c w) None)
unfolding entries
one_more true c w l = refl
one_more false c w l = sym (append-nil l)

eqb_swap : (a b : ℕ) → eqb a b ≡ eqb b a
eqb_swap a b = go (ℕ_discrete a b)
  where
    go : Dec (a ≡ b) → eqb a b ≡ eqb b a
    go (yes e) = eqb_of e ∙ sym (eqb_of (sym e))
    go (no n) = eqb_not n ∙ sym (eqb_not (λ e. n (sym e)))

module _ (P : Placement) (x : ℕ) where
  module _ (ops : List Op) where
    -- operation k is an update of register x that is logged
    abbrev pub adds_in : ℕ → Bool
    adds_in k = (op_at ops k).upd && eqb (op_at ops k).reg x && is_sum (op_at ops k).fn

    -- the home card of its task, and its operand
    abbrev pub pair_in : ℕ → ℕ × ℕ
    pair_in k = (home P (op_at ops k).task, (op_at ops k).arg)

    -- the log of the updates applied on a card
    abbrev pub log_in : List ℕ → List (ℕ × ℕ)
    log_in l = map pair_in (filter adds_in l)

    log_push : (t : Bool) (k : ℕ) (l : List ℕ) → log_in (push t k l) ≡ log_in l ++ entries (cond (t && adds_in k) (added (home P (op_at ops k).task) (op_at ops k).arg) None)
    log_push t k l =
        ap (map pair_in) (filter_push adds_in t k l)
        ∙ map_push pair_in (t && adds_in k) k (filter adds_in l)
        ∙ one_more (t && adds_in k) (home P (op_at ops k).task) (op_at ops k).arg (log_in l)

  -- operations that are the same
  logs_alike : (ops ups : List Op) (l : List ℕ) → ((k : ℕ) → In k l → op_at ops k ≡ op_at ups k) → log_in ops l ≡ log_in ups l
  logs_alike ops ups [] h = refl
  logs_alike ops ups (k ∷ l) h =
      kept ops (adds_in ops k) (filter (adds_in ops) l)
      ∙ ap₂ (λ (o : Op) (r : List (ℕ × ℕ)). keep (o.upd && eqb o.reg x && is_sum o.fn) (home P o.task, o.arg) r) (h k (here refl)) (logs_alike ops ups l (λ j i. h j (there i)))
      ∙ sym (kept ups (adds_in ups k) (filter (adds_in ups) l))
    where
      kept : (qs : List Op) (t : Bool) (r : List ℕ) → map (pair_in qs) (keep t k r) ≡ keep t (pair_in qs k) (map (pair_in qs) r)
      kept qs true r = refl
      kept qs false r = refl

  -- what operation o adds, applied on card i
  abbrev pub op_entry : ℕ → Op → Option Entry
  op_entry i o = cond o.upd (update_entry P x i o.task o.reg o.fn o.arg) None

  op_entry_lem : (i : ℕ) (o : Op) → cond ((o.upd && eqb (primary P x) i) && (o.upd && eqb o.reg x && is_sum o.fn)) (added (home P o.task) o.arg) None ≡ op_entry i o
  unfolding update_entry
  op_entry_lem i o =
      ap (λ q. cond ((o.upd && q) && (o.upd && eqb o.reg x && is_sum o.fn)) (added (home P o.task) o.arg) None) (eqb_swap (primary P x) i)
      ∙ go o.upd (eqb i (primary P x)) (eqb o.reg x) (is_sum o.fn)
    where
      go : (u q r f : Bool) → cond ((u && q) && (u && r && f)) (added (home P o.task) o.arg) None ≡ cond u (cond (r && f && q) (added (home P o.task) o.arg) None) None
      go false q r f = refl
      go true true true true = refl
      go true true true false = refl
      go true true false f = refl
      go true false true true = refl
      go true false true false = refl
      go true false false f = refl

  module _ {U : Values} where
    -- the log on a ledger
    abbrev pub log_of : Ledger U → List (ℕ × ℕ)
    log_of b = log_in b.ops (b.layer.applied (primary P x))

    -- what an action adds
    abbrev pub act_entry : Ledger U → Action U → Option Entry
    act_entry b (request o) = None
    act_entry b (perform c k) = op_entry (home P (op_at b.ops k).task) (op_at b.ops k)
    act_entry b (send c k i) = None
    act_entry b (dispatch i m) = None
    act_entry b (take_broadcast i) = None
    act_entry b (take_single c) = None
    act_entry b (deliver (ask k) i) = op_entry i (op_at b.ops k)
    act_entry b (deliver (reply k v) i) = None
    act_entry b (report c k v) = None

    module _ (ok : placement_refusal P ≡ 0) where
      -- what a card has applied is in the list of operations
      applied_listed : (ds : List (Action U)) → Execution P ds → (k i : ℕ) → In k ((ledger P ds).layer.applied i) → k < length (ledger P ds).ops
      applied_listed [] f k i h = absurd (any_nil h)
      applied_listed (request o ∷ ds) f k i h =
          let n = applied_listed ds f.1 k i h in
          let e = length-append (ledger P ds).ops (o ∷ []) in
          omega arith
      applied_listed (perform c j ∷ ds) f k i h = go test (push_cases test ((ledger P ds).layer.applied i) h) (λ q. applied_listed ds f.1 k i q)
        where
          test : Bool
          test = (op_at (ledger P ds).ops j).upd && eqb i (home P (op_at (ledger P ds).ops j).task)

          go : (t : Bool) → In k ((ledger P ds).layer.applied i) ⊎ ((j ≡ k) × (t ≡ true)) → (In k ((ledger P ds).layer.applied i) → k < length (ledger P ds).ops) → k < length (ledger P ds).ops
          go t (inl q) r = r q
          go t (inr q) r = let n = asked_listed P ok ds f.1 c j f.0.0 in let e = q.0 in omega arith
      applied_listed (send c j a ∷ ds) f k i h = applied_listed ds f.1 k i h
      applied_listed (dispatch a m ∷ ds) f k i h = applied_listed ds f.1 k i h
      applied_listed (take_broadcast a ∷ ds) f k i h = applied_listed ds f.1 k i h
      applied_listed (take_single c ∷ ds) f k i h = applied_listed ds f.1 k i h
      applied_listed (deliver (ask j) a ∷ ds) f k i h = go test (push_cases test ((ledger P ds).layer.applied i) h) (λ q. applied_listed ds f.1 k i q)
        where
          test : Bool
          test = (op_at (ledger P ds).ops j).upd && eqb i a

          go : (t : Bool) → In k ((ledger P ds).layer.applied i) ⊎ ((j ≡ k) × (t ≡ true)) → (In k ((ledger P ds).layer.applied i) → k < length (ledger P ds).ops) → k < length (ledger P ds).ops
          go t (inl q) r = r q
          go t (inr q) r = let n = delivered_listed P ok ds f.1 j a f.0 in let e = q.0 in omega arith
      applied_listed (deliver (reply j v) a ∷ ds) f k i h = applied_listed ds f.1 k i h
      applied_listed (report c j v ∷ ds) f k i h = applied_listed ds f.1 k i h

      pub grows : (ds : List (Action U)) → Execution P ds → (d : Action U) → log_of (ledger P (d ∷ ds)) ≡ log_of (ledger P ds) ++ entries (act_entry (ledger P ds) d)
      grows ds f (request o) =
          let b = ledger P ds in
          logs_alike (b.ops ++ (o ∷ [])) b.ops (b.layer.applied (primary P x)) (λ k i. get_or-append b.ops (o ∷ []) no_op k (applied_listed ds f k (primary P x) i))
          ∙ nothing_more (log_of b)
      grows ds f (perform c k) =
          let b = ledger P ds in
          let o = op_at b.ops k in
          log_push b.ops (o.upd && eqb (primary P x) (home P o.task)) k (b.layer.applied (primary P x))
          ∙ ap (λ e. log_of b ++ entries e) (op_entry_lem (home P o.task) o)
      grows ds f (send c k i) = nothing_more (log_of (ledger P ds))
      grows ds f (dispatch i m) = nothing_more (log_of (ledger P ds))
      grows ds f (take_broadcast i) = nothing_more (log_of (ledger P ds))
      grows ds f (take_single c) = nothing_more (log_of (ledger P ds))
      grows ds f (deliver (ask k) i) =
          let b = ledger P ds in
          let o = op_at b.ops k in
          log_push b.ops (o.upd && eqb (primary P x) i) k (b.layer.applied (primary P x))
          ∙ ap (λ e. log_of b ++ entries e) (op_entry_lem i o)
      grows ds f (deliver (reply k v) i) = nothing_more (log_of (ledger P ds))
      grows ds f (report c k v) = nothing_more (log_of (ledger P ds))
