-- What an accepted placement is.
use Prim.Native.Nat.{ℕ, ◌<◌, ◌≤◌, ◌^◌}
use mathlib.Core.Path.{◌≡◌, refl}
use mathlib.Core.Bool.{Bool, true, false, cond, ◌&&◌}
use native.Mathlib.Omega.{arith}
use borrow.Author.Tests.{ltb-true, leb-true}
use lib.Dec.{eqb, ltb, leb}
use lib.ListN.{length}
use Rattle.lists.specs.Tests.{and_fst, and_snd}
use Rattle.lists.specs.Conjunctions.{and_three, and_five}
use Rattle.lists.specs.Every.{each_at}
use Rattle.names.specs.CardSet.{member_of}
use Rattle.names.specs.Placement.{Placement, tasks, registers, home, holders, primary, sizes_in_range, home_placed, homes_placed, register_placed, registers_placed, sized, placed, placement_refusal}
use Rattle.channel.specs.Begin.{sizes_fit}
use Rattle.channel.proofs.Offered.{sizes_fit_lem, member_present}

module _ (P : Placement) (ok : placement_refusal P ≡ 0) where
  passed : (sized P ≡ true) × (placed P ≡ true)
  unfolding placement_refusal
  passed = go (sized P) (placed P) ok
    where
      go : (a b : Bool) → ◌≡◌ {A = ℕ} (cond a (cond b 0 4) 3) 0 → (a ≡ true) × (b ≡ true)
      go true true e = (refl, refl)
      go true false e = absurd (omega arith)
      go false b e = absurd (omega arith)

  sizes : (leb 1 P.cards && leb P.cards 8 && leb 1 (registers P) && leb (registers P) 32 && leb 1 (tasks P) && leb (tasks P) 16) ≡ true
  unfolding sized sizes_in_range
  sizes = and_fst (sizes_in_range P.cards (registers P) (tasks P)) (eqb (length P.primaries) (registers P)) passed.0

  five : (leb 1 P.cards ≡ true) × (leb P.cards 8 ≡ true) × (leb 1 (registers P) ≡ true) × (leb (registers P) 32 ≡ true) × (leb 1 (tasks P) ≡ true)
  five =
      and_five (leb 1 P.cards) (leb P.cards 8) (leb 1 (registers P)) (leb (registers P) 32) (leb 1 (tasks P))
      (and_fst (leb 1 P.cards && leb P.cards 8 && leb 1 (registers P) && leb (registers P) 32 && leb 1 (tasks P)) (leb (tasks P) 16) sizes)

  -- the sizes of RULES 1.3, as the channel has them
  pub channel_sizes : sizes_fit P.cards (tasks P) (registers P) ≡ true
  channel_sizes =
      let u = five in
      let t = and_snd (leb 1 P.cards && leb P.cards 8 && leb 1 (registers P) && leb (registers P) 32 && leb 1 (tasks P)) (leb (tasks P) 16) sizes in
      sizes_fit_lem P.cards (tasks P) (registers P) u.0 u.1 u.4 t u.2 u.3

  pub tasks_low : tasks P ≤ 16
  tasks_low = leb-true _ _ (and_snd (leb 1 P.cards && leb P.cards 8 && leb 1 (registers P) && leb (registers P) 32 && leb 1 (tasks P)) (leb (tasks P) 16) sizes)

  pub registers_low : registers P ≤ 32
  registers_low = leb-true _ _ five.3

  pub cards_low : P.cards ≤ 8
  cards_low = leb-true _ _ five.1

  pub home_placed_lem : (c : ℕ) → c < tasks P → home P c < P.cards
  unfolding placed homes_placed home_placed
  home_placed_lem c h = ltb-true _ _ (each_at (tasks P) (λ d. home_placed P.cards (home P d)) (and_fst (homes_placed P.cards P.homes) _ passed.1) c h)

  placed_at : (x : ℕ) → x < registers P → (leb 1 (holders P x) && ltb (holders P x) (2 ^ P.cards) && member_of (holders P x) (primary P x)) ≡ true
  unfolding placed registers_placed register_placed
  placed_at x h = each_at (registers P) (λ y. register_placed P.cards (holders P y) (primary P y)) (and_snd (homes_placed P.cards P.homes) _ passed.1) x h

  pub holders_placed : (x : ℕ) → x < registers P → holders P x < 2 ^ P.cards
  holders_placed x h = ltb-true _ _ (and_three (leb 1 (holders P x)) (ltb (holders P x) (2 ^ P.cards)) (member_of (holders P x) (primary P x)) (placed_at x h)).1

  pub primary_placed : (x : ℕ) → x < registers P → primary P x < P.cards
  primary_placed x h =
      member_present (holders P x) P.cards (primary P x) (holders_placed x h)
      (and_three (leb 1 (holders P x)) (ltb (holders P x) (2 ^ P.cards)) (member_of (holders P x) (primary P x)) (placed_at x h)).2
