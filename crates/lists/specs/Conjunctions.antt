-- Several tests joined by `&&`: where they pass together, each passes.
use Rattle.std.specs.Prelude.{◌≡◌, refl, Bool, true, false, ◌&&◌}
use Rattle.lists.specs.Tests.{and_fst, and_snd}

pub and_three : (a b c : Bool) → (a && b && c) ≡ true → (a ≡ true) × (b ≡ true) × (c ≡ true)
and_three a b c h = let p = and_fst (a && b) c h in (and_fst a b p, and_snd a b p, and_snd (a && b) c h)

pub and_four : (a b c d : Bool) → (a && b && c && d) ≡ true → (a ≡ true) × (b ≡ true) × (c ≡ true) × (d ≡ true)
and_four a b c d h =
    let p = and_three a b c (and_fst (a && b && c) d h) in
    (p.0, p.1, p.2, and_snd (a && b && c) d h)

pub and_five : (a b c d e : Bool) → (a && b && c && d && e) ≡ true → (a ≡ true) × (b ≡ true) × (c ≡ true) × (d ≡ true) × (e ≡ true)
and_five a b c d e h =
    let p = and_four a b c d (and_fst (a && b && c && d) e h) in
    (p.0, p.1, p.2, p.3, and_snd (a && b && c && d) e h)

-- and where two do not pass together, one fails
pub and_fails : {A : Type 0} (a b : Bool) → (a && b) ≡ false → (a ≡ false → A) → (b ≡ false → A) → A
and_fails true b e p q = q e
and_fails false b e p q = p refl
