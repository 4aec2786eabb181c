-- No state reached by calls from a start gives 6: the store stays well sized, and answers as its algorithm does, which never answers 6 either.
use mathlib.Core.Path.{◌≡◌, sym, ap, ◌∙◌}
use mathlib.Core.List.{List}
use Rattle.names.specs.Placement.{Placement, placement_refusal}
use Rattle.claims.specs.Steps.{RawStep}
use Rattle.claims.specs.Found.{begin}
use Rattle.claims.specs.FoundRun.{final_from}
use Rattle.claims.proofs.NeverSix.{never_6_answer}
use Rattle.store.specs.Run.{Store, started, store_after}
use Rattle.store.specs.Starts.{NeverSix}
use Rattle.store.proofs.StepLaw.{step_follows}
use Rattle.store.proofs.StartLaw.{start_stands}
use Rattle.store.proofs.Demand3.{At, after_shows}

-- the state that the store shows after a list of steps from a start
reached : (P : Placement) → placement_refusal P ≡ 0 → (m : Store) (steps : List RawStep) → At P (store_after (started P m) steps) (final_from P begin steps)
reached P ok m steps = after_shows P (started P m) begin steps (start_stands P ok m)

pub never_six : NeverSix
never_six = record {
  state = λ P ok m steps. (reached P ok m steps).sized;
  outcome = λ P ok m steps a e.
      let z = reached P ok m steps in
      let k = step_follows (store_after (started P m) steps).registers (store_after (started P m) steps).channel P (final_from P begin steps) z a in
      never_6_answer P ok steps a (sym (ap (λ r. r.result) k.answer=) ∙ e);
}
