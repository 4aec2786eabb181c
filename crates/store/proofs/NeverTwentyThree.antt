-- A list of at most 65,535 steps from a start never meets 23: the store's answers are those of the algorithm that it runs, and that does not.
use mathlib.Core.Path.{subst}
use native.Mathlib.Omega.{arith}
use Rattle.lists.specs.Histories.{In}
use Rattle.claims.specs.Found.{begin}
use Rattle.claims.proofs.FewRequests.{never_23}
use Rattle.store.specs.Run.{started}
use Rattle.store.specs.Starts.{NeverTwentyThree}
use Rattle.store.proofs.StartLaw.{start_stands}
use Rattle.store.proofs.Demand3.{answers_same}

pub never_twenty_three : NeverTwentyThree
never_twenty_three P ok m steps few r h = never_23 P begin steps (omega arith) r (subst (In r) (answers_same P (started P m) begin steps (start_stands P ok m)) h)
