-- Refusal 6 for the state, and the limits met exactly, with the copies side by side: as card after card.
use Prim.Native.Nat.{ℕ}
use mathlib.Core.Path.{◌≡◌, sym, ap, ◌∙◌}
use mathlib.Core.List.{List, map}
use Rattle.claims.specs.Steps.{RawStep}
use Rattle.claims.specs.Found.{begin}
use Rattle.tables.specs.Layout.{side_by_side}
use Rattle.store.specs.Run.{Store, started}
use Rattle.store.specs.IllStates.{IllStatesAt}
use Rattle.store.specs.LimitRuns.{crowd, k11, k12, results_of, results_of_at, LimitsMetAt}
use Rattle.store.proofs.IllStates.{ill_states}
use Rattle.store.proofs.LimitRuns.{crowd_accepted, limits_met}
use Rattle.store.proofs.SideBySide.{ill_sized, start_stands, answers_on, after_shows}

pub ill_states_side_by_side : (us cs : List ℕ) → IllStatesAt side_by_side us cs
ill_states_side_by_side us cs =
    let k = (ill_states us cs).exact in
    record { exact = k; six = λ h. ill_sized us cs (k.1 h) }

results_on : (m : Store) (l : List RawStep) → results_of m l ≡ results_of_at side_by_side m l
results_on m l = ap (map (λ a. a.result)) (answers_on crowd crowd_accepted m l)

pub limits_met_side_by_side : LimitsMetAt side_by_side
limits_met_side_by_side = record {
  shows = λ m l. after_shows crowd (started crowd m) begin l (start_stands crowd crowd_accepted m);
  outbox = limits_met.outbox;
  held = limits_met.held;
  inbox = limits_met.inbox;
  behind = λ m. sym (results_on m k11) ∙ limits_met.behind m;
  crowded = λ m. sym (results_on m k12) ∙ limits_met.crowded m;
}
