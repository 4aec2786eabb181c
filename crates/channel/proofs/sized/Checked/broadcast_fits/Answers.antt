use Prim.Native.Nat.{◌%◌}
use mathlib.Core.Path.{◌≡◌}
use native.Mathlib.Omega.{arith}
use Rattle.automaton.specs.MostBehind.{most_behind}
use Rattle.channel.specs.Sized.{broadcast_fits}
use Rattle.channel.proofs.sized.Checked.broadcast_fits.Goals as goal

pub returns : goal.returns
unfolding broadcast_fits
returns c = let e : c.args.place % most_behind ≡ c.args.place = omega arith in rw (e, ← c.to_at.ensures, ← c.block_fits.ensures, ← c.several.ensures)
