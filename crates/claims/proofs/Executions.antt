-- Lists of the ledger's actions that could take place (`Execution`), and the run of the two layers that such a list is (`trace`).
use Prim.Native.Nat.{suc, ℕ, ◌<◌}
use lib.Dec.{eqb, leb}
use lib.ListN.{get_or-append, length, length-append}
use mathlib.Core.Bool.{Bool, cond, false, true}
use mathlib.Core.List.{List, [], ◌∷◌}
use mathlib.Core.Option.{Option, none-ne-some, none, some}
use mathlib.Core.Path.{◌∙◌, ◌≡◌}
use native.Mathlib.Omega.{arith}
use Rattle.lists.specs.Places.{nth}
use Rattle.automaton.specs.State.{Tagged, released}
use Rattle.lists.specs.Histories.{Suf, back, stop, suf_trans}
use Rattle.names.specs.Placement.{Placement, holders, home, primary}
use Rattle.registers.specs.Layer.{Values, Msg, asking, done, quiet}
use Rattle.claims.proofs.Joint.{Joint, join, take}
use Rattle.claims.specs.Ledger.{Action, Ledger, Op, deliver, dispatch, first, ledger, ledger_mail, no_op, op_at, perform, report, request, send, step, take_broadcast, take_single, world}

-- ---- the run of the two layers that a list of actions is

abbrev pub joined : {U : Values} → List (Msg U) → List (Joint U) → List (Joint U)
joined [] E = E
joined (m ∷ l) E = joined l (join m ∷ E)

abbrev pub trace_take : {U : Values} → Ledger U → ℕ → Option (Msg U) → List (Joint U) → List (Joint U)
trace_take b i none E = E
trace_take b i (some m) E = joined (released (suc (b.channel.taken i)) (b.channel.held i)) (take i m ∷ E)

joined_suf : {U : Values} → (l : List (Msg U)) (E : List (Joint U)) → Suf E (joined l E)
joined_suf [] E = stop
joined_suf (m ∷ l) E = suf_trans (back stop) (joined_suf l (join m ∷ E))

-- the operations and chosen cards of b are those at the end
pub record Holds {U : Values} (b : Ledger U) (ops : List Op) (at : ℕ → Option ℕ) : Type 0 where
  pub ops= : (k : ℕ) → k < length b.ops → op_at ops k ≡ op_at b.ops k
  pub chosen= : (k i : ℕ) → b.chosen k ≡ some i → at k ≡ some i

pub first_keeps : (o : Option ℕ) (i j : ℕ) → o ≡ some j → first o i ≡ some j
first_keeps none i j e = absurd (none-ne-some j e)
first_keeps (some a) i j e = e

module _ {U : Values} (P : Placement) where
  -- when it may be done
  abbrev pub Enabled : Ledger U → Action U → Type 0
  Enabled b (request o) = (b.layer.status o.task ≡ quiet) × (o.holders ≡ holders P o.reg) × (o.primary ≡ primary P o.reg)
  Enabled b (perform c k) = (b.layer.status c ≡ asking k) × ((world P b).holds k (home P c) ≡ true)
      × ((world P b).upd k ≡ true → (j : ℕ) → (world P b).holds k j ≡ true → j ≡ home P c)
  Enabled b (send c k i) = (b.layer.status c ≡ asking k) × ((world P b).upd k ≡ false → (world P b).holds k i ≡ true) × (i < P.cards)
  Enabled b (dispatch i m) = (r : List (Msg U)) × (b.layer.out i ≡ m ∷ r)
  Enabled b (take_broadcast i) = Unit {0}
  Enabled b (take_single c) = Unit {0}
  Enabled b (deliver m i) = (r : List (Msg U)) × (b.channel.inbox i ≡ m ∷ r)
  Enabled b (report c k w) = b.layer.status c ≡ done k w

  abbrev pub Execution : List (Action U) → Type 0
  Execution [] = Unit {0}
  Execution (d ∷ ds) = Enabled (ledger P ds) d × Execution ds

  abbrev pub trace_single : Ledger U → Option (Tagged (Msg U)) → List (Joint U) → List (Joint U)
  trace_single b none E = E
  trace_single b (some x) E = cond (leb x.mark (b.channel.taken ((ledger_mail P b).dest x.msg))) (join x.msg ∷ E) E

  abbrev pub trace_step : Ledger U → Action U → List (Joint U) → List (Joint U)
  trace_step b (request o) E = Joint.request (length b.ops) ∷ E
  trace_step b (perform c k) E = Joint.perform k ∷ E
  trace_step b (send c k i) E = Joint.send k ∷ E
  trace_step b (dispatch i m) E = Joint.dispatch m ∷ E
  trace_step b (take_broadcast i) E = trace_take b i (nth b.channel.sent (b.channel.taken i)) E
  trace_step b (take_single c) E = trace_single b (b.channel.flight c) E
  trace_step b (deliver m i) E = Joint.deliver m i ∷ E
  trace_step b (report c k w) E = Joint.report k w ∷ E

  abbrev pub trace : List (Action U) → List (Joint U)
  trace [] = []
  trace (d ∷ ds) = trace_step (ledger P ds) d (trace ds)

  -- ---- the world at the end holds at every earlier time

  pub holds_back : (b : Ledger U) (d : Action U) (ops : List Op) (at : ℕ → Option ℕ) → Holds (step P b d) ops at → Holds b ops at
  holds_back b (request o) ops at h = record {
    ops= = λ k l. h.ops= k (let e = length-append b.ops (o ∷ []) in omega arith) ∙ get_or-append b.ops (o ∷ []) no_op k l;
    chosen= = h.chosen=;
  }
  holds_back b (perform c k) ops at h = record { ops= = h.ops=; chosen= = h.chosen= }
  holds_back b (send a k i) ops at h = record { ops= = h.ops=; chosen= = λ j c e. h.chosen= j c (go j c (eqb j k) e) }
    where
      go : (j c : ℕ) (t : Bool) → b.chosen j ≡ some c → cond t (first (b.chosen j) i) (b.chosen j) ≡ some c
      go j c true e = first_keeps (b.chosen j) i c e
      go j c false e = e
  holds_back b (dispatch i m) ops at h = record { ops= = h.ops=; chosen= = h.chosen= }
  holds_back b (take_broadcast i) ops at h = record { ops= = h.ops=; chosen= = h.chosen= }
  holds_back b (take_single c) ops at h = record { ops= = h.ops=; chosen= = h.chosen= }
  holds_back b (deliver m i) ops at h = record { ops= = h.ops=; chosen= = h.chosen= }
  holds_back b (report c k w) ops at h = record { ops= = h.ops=; chosen= = h.chosen= }

  pub trace_step_suf : (b : Ledger U) (d : Action U) (E : List (Joint U)) → Suf E (trace_step b d E)
  trace_step_suf b (request o) E = back stop
  trace_step_suf b (perform c k) E = back stop
  trace_step_suf b (send c k i) E = back stop
  trace_step_suf b (dispatch i m) E = back stop
  trace_step_suf b (take_broadcast i) E = go (nth b.channel.sent (b.channel.taken i))
    where
      go : (o : Option (Msg U)) → Suf E (trace_take b i o E)
      go none = stop
      go (some m) = suf_trans (back stop) (joined_suf (released (suc (b.channel.taken i)) (b.channel.held i)) (take i m ∷ E))
  trace_step_suf b (take_single c) E = go (b.channel.flight c)
    where
      pick : (x : Tagged (Msg U)) (t : Bool) → Suf E (cond t (join x.msg ∷ E) E)
      pick x true = back stop
      pick x false = stop

      go : (o : Option (Tagged (Msg U))) → Suf E (trace_single b o E)
      go none = stop
      go (some x) = pick x (leb x.mark (b.channel.taken ((ledger_mail P b).dest x.msg)))
  trace_step_suf b (deliver m i) E = back stop
  trace_step_suf b (report c k w) E = back stop

  pub trace_suf : {cs ds : List (Action U)} → Suf cs ds → Suf (trace cs) (trace ds)
  trace_suf stop = stop
  trace_suf (back {e = d} {E = ds} s) = suf_trans (trace_suf s) (trace_step_suf (ledger P ds) d (trace ds))

  pub execution_suf : {cs ds : List (Action U)} → Suf cs ds → Execution ds → Execution cs
  execution_suf stop f = f
  execution_suf (back s) f = execution_suf s f.1

  pub holds_suf : {cs ds : List (Action U)} (ops : List Op) (at : ℕ → Option ℕ) → Suf cs ds → Holds (ledger P ds) ops at → Holds (ledger P cs) ops at
  holds_suf ops at stop h = h
  holds_suf ops at (back {e = d} {E = ds} s) h = holds_suf ops at s (holds_back (ledger P ds) d ops at h)
