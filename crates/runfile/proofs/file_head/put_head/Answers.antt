use mathlib.Core.Path.{ap, ◌∙◌}
use native.Mathlib.Omega.{arith}
use lib.ListN.{length}
use lib.Seq.{sets}
use Rattle.names.specs.Placement.{placement}
use Rattle.runfile.specs.RunFile.{placement_bytes}
use Rattle.runfile.specs.Head.{head_bytes}
use Rattle.runfile.proofs.HeadLaws.{fits, fits_seen, head_in_turn}
use Rattle.runfile.proofs.file_head.put_head.Goals as goal

pub put_sizes-requires : goal.put_sizes-requires
put_sizes-requires c = fits_seen c.args.steps c.placement.view_is c.requires.0 (length c.args.out.now) c.requires.1

pub put_tables-requires : goal.put_tables-requires
put_tables-requires c =
    let a = c.args in
    let i = c.placement.inside in
    let f = rw (← c.placement.view_is) at (fits a.placement.now a.steps (length a.out.now) c.requires.0 c.requires.1).3 in
    omega (arith, f, c.put_sizes.auto.out)

pub returns : goal.returns
unfolding placement_bytes
returns c =
    let a = c.args in
    let i = c.placement.inside in
    rw (c.put_tables.ensures.output, c.put_sizes.ensures)
    (head_in_turn (placement i.cards i.homes.now i.copies.now i.primaries.now) a.steps a.out.now ∙ ap (λ p. sets a.out.now 0 (head_bytes p a.steps)) c.placement.view_is)
