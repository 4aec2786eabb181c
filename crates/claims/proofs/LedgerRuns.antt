-- Every list of the ledger's actions that could take place is a run of the two layers.
use Prim.Native.Nat.{ℕ}
use mathlib.Core.List.{List, [], ◌∷◌}
use mathlib.Core.Option.{Option, none-ne-some}
use mathlib.Core.Path.{refl, ◌≡◌}
use Rattle.automaton.proofs.Agreement.{agrees_start}
use Rattle.automaton.specs.Network.{Network}
use Rattle.lists.specs.Histories.{any_nil}
use Rattle.names.specs.Placement.{Placement, placement_refusal}
use Rattle.registers.specs.Layer.{Values, Msg}
use Rattle.claims.proofs.Executions.{Enabled, Execution, Holds, holds_back, trace, trace_step}
use Rattle.claims.proofs.Joint.{Joint, net}
use Rattle.claims.proofs.LedgerRun.{Sim}
use Rattle.claims.proofs.LedgerRunChannel.{sim_deliver, sim_dispatch, sim_take_broadcast, sim_take_single}
use Rattle.claims.proofs.LedgerRunTasks.{sim_perform, sim_report, sim_request, sim_send}
use Rattle.claims.specs.Ledger.{Action, Ledger, Op, deliver, dispatch, ledger, perform, report, request, send, step, take_broadcast, take_single}

module _ {U : Values} (P : Placement) (ok : placement_refusal P ≡ 0) where
  module _ (ops_f : List Op) (at_f : ℕ → Option ℕ) where
    abbrev NF : Network (Msg U)
    NF = net P ok ops_f at_f

    sim_step : (b : Ledger U) (E : List (Joint U)) (d : Action U) → Holds (step P b d) ops_f at_f → Holds b ops_f at_f → Sim P ok ops_f at_f b E → Enabled P b d → Sim P ok ops_f at_f (step P b d) (trace_step P b d E)
    sim_step b E (request o) h' h s f = sim_request P ok ops_f at_f b E h s o h' f
    sim_step b E (perform c k) h' h s f = sim_perform P ok ops_f at_f b E h s c k f
    sim_step b E (send c k i) h' h s f = sim_send P ok ops_f at_f b E h s c k i h' f
    sim_step b E (dispatch i m) h' h s f = sim_dispatch P ok ops_f at_f b E h s i m f
    sim_step b E (take_broadcast i) h' h s f = sim_take_broadcast P ok ops_f at_f b E h s i
    sim_step b E (take_single c) h' h s f = sim_take_single P ok ops_f at_f b E h s c
    sim_step b E (deliver m i) h' h s f = sim_deliver P ok ops_f at_f b E h s m i f
    sim_step b E (report c k w) h' h s f = sim_report P ok ops_f at_f b E h s c k w f

    pub sim : (ds : List (Action U)) → Execution P ds → Holds (ledger P ds) ops_f at_f → Sim P ok ops_f at_f (ledger P ds) (trace P ds)
    sim [] f h = record {
      state= = refl;
      channel= = agrees_start NF;
      works = tt;
      count= = refl;
      at_posted = λ k i e. absurd (none-ne-some i e);
      posted_at = λ k x. absurd (any_nil x);
    }
    sim (d ∷ ds) f h =
        let h' = holds_back P (ledger P ds) d ops_f at_f h in
        sim_step (ledger P ds) (trace P ds) d h h' (sim ds f.1 h') f.0

  pub final : (ds : List (Action U)) → Execution P ds → Sim P ok (ledger P ds).ops (ledger P ds).chosen (ledger P ds) (trace P ds)
  final ds f = sim (ledger P ds).ops (ledger P ds).chosen ds f (record { ops= = λ k l. refl; chosen= = λ k i e. e })
