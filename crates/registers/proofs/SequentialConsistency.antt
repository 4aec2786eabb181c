-- The two halves of 000 put together: what §4 says of a complete run is the promise, the promise holds of every first part of the run, and
-- over the promise one serial order explains it.
use Rattle.multicast.proofs.PaperWording.{paper_promise}
use Rattle.multicast.proofs.PromiseLaws.{promise_suf}
use Rattle.registers.proofs.Applied.{valid_suf}
use Rattle.registers.proofs.Values.{serial_values}
use Rattle.registers.specs.Key.{order}
use Rattle.registers.specs.Layer.{Values, World, view}
use Rattle.registers.specs.SequentialConsistency.{Theorem5-1}

module _ {U : Values} (W : World U) where
  pub theorem_5_1 : Theorem5-1 W
  theorem_5_1 T whole run part s =
      let height = run.channel.well_founded.0 in
      (order W height part, serial_values W height part (valid_suf W s run.sites) (promise_suf (view W) height s (paper_promise (view W) T whole run.channel)))
