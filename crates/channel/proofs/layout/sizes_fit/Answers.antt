use Rattle.std.proofs.Common.{◌≡◌, Bool, true, false, ◌&&◌, refl, ◌∙◌, leb}
use Rattle.names.specs.Placement.{sizes_in_range}
use Rattle.channel.specs.Begin.{sizes_fit}
use Rattle.channel.proofs.layout.sizes_fit.Goals as goal

-- tasks before registers, and registers before tasks
swapped : (p r s t u : Bool) → (p && r && s && t && u) ≡ (p && t && u && r && s)
swapped false r s t u = refl
swapped true false s false u = refl
swapped true false s true false = refl
swapped true false s true true = refl
swapped true true false false u = refl
swapped true true false true false = refl
swapped true true false true true = refl
swapped true true true false u = refl
swapped true true true true false = refl
swapped true true true true true = refl

pub returns : goal.returns
unfolding sizes_in_range sizes_fit
returns c = let a = c.args in
    c.sizes_in_range.ensures ∙ swapped (leb 1 a.cards && leb a.cards 8) (leb 1 a.registers) (leb a.registers 32) (leb 1 a.tasks) (leb a.tasks 16)
