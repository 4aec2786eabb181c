use Prim.Native.Nat.{ℕ, ◌+◌, ◌<◌}
use mathlib.Core.Path.{◌≡◌, refl, sym, ◌∙◌}
use mathlib.Core.Bool.{Bool, true, false, cond, ◌&&◌}
use mathlib.Core.List.{List}
use native.Mathlib.Omega.{arith}
use lib.Dec.{ltb}
use lib.ListN.{get_or, length-replicate}
use Rattle.lists.specs.Filling.{filled_none, filled_more, filled_whole}
use Rattle.lists.specs.Listings.{listing_cong}
use Rattle.names.specs.declared.Register.{Register}
use Rattle.names.specs.CardSet.{member_of}
use Rattle.channel.specs.Layout.{cards_of, registers_of}
use Rattle.tables.specs.Layout.{side_by_side, holds}
use Rattle.tables.specs.Panel.{value_shown_at, copies_shown_at}
use Rattle.tables.proofs.panel.copies.Goals as goal

-- three tests at once, or one after the other
in_turn : (t c h : Bool) (v : ℕ) → cond (t && c && h) v 0 ≡ cond h (cond (c && t) v 0) 0
in_turn true true true v = refl
in_turn true true false v = refl
in_turn true false true v = refl
in_turn true false false v = refl
in_turn false true true v = refl
in_turn false true false v = refl
in_turn false false true v = refl
in_turn false false false v = refl

-- what the loop writes for card k, where s is the set of holders
held_is : (rs cs : List ℕ) (x : Register) (s k : ℕ) → k < 8
    → cond (ltb x.0 (registers_of cs) && ltb k (cards_of cs) && member_of s k) (get_or rs (side_by_side 0 x.0 + k) 0) 0
    ≡ cond (member_of s k) (value_shown_at side_by_side rs cs (record { 0 = k }) x) 0
held_is rs cs x s k h =
    let e : side_by_side 0 x.0 + k ≡ side_by_side k x.0 = omega arith in
    rw e (in_turn (ltb x.0 (registers_of cs)) (ltb k (cards_of cs)) (member_of s k) (get_or rs (side_by_side k x.0) 0))

pub loop-i-init : goal.loop-i-init
loop-i-init c = filled_none _ _

pub loop-i-preserved : goal.loop-i-preserved
loop-i-preserved c = rw (c.loop-i.invariant, c.picked.ensures, c.member.ensures) (sym (filled_more _ _ c.loop-i.i))

pub returns : goal.returns
unfolding copies_shown_at holds
returns c =
    let a = c.args in
    let e : c.loop-i.i ≡ 8 = omega arith in
    let place = c.copy_place-first.ensures.0 in
    let holding = c.holders-holding.ensures in
    let there = c.registers.ensures.0 in
    let cards = c.cards-cards.ensures.0 in
    rw (e, place, holding, there, cards) at c.loop-i.invariant ∙ filled_whole _ _ 8 (length-replicate {A = ℕ} 8 0)
    ∙ listing_cong _ _ 8 (λ k h. held_is a.registers.now a.channel.now a.register _ k h)
