-- Memories whose only word is the number of broadcasts made, and card 0 has taken none: at 24 it is not too far behind, at 25 it is. The numbers
-- stand for themselves.
use Rattle.std.specs.Prelude.{◌≡◌, refl, true, false, [], ◌∷◌}
use Rattle.channel.specs.Sized.{counts_fit}

pub behind_24 : counts_fit (0 ∷ 0 ∷ 0 ∷ 24 ∷ []) 0 ≡ true
unfolding counts_fit
behind_24 = refl

pub behind_25 : counts_fit (0 ∷ 0 ∷ 0 ∷ 25 ∷ []) 0 ≡ false
unfolding counts_fit
behind_25 = refl
