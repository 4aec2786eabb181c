-- What a panel shows where the copies lie side by side: what it shows of the like memory card after card; and the copies of a register at once.
use Prim.Native.Nat.{ℕ, ◌+◌, ◌*◌, ◌<◌, ◌≤◌, ◌^◌}
use mathlib.Core.Path.{◌≡◌, refl, sym, ap, ap₂, ◌∙◌}
use mathlib.Core.Logic.{inl, inr}
use mathlib.Core.Bool.{Bool, true, false, cond, ◌&&◌}
use mathlib.Core.List.{List}
use native.Mathlib.Decide.{dec_lt}
use native.Mathlib.Omega.{arith}
use borrow.Author.Tests.{lt-ltb, le-ltb}
use lib.Dec.{ltb}
use lib.ListN.{get_or, get_or-eq_default}
use Rattle.lists.specs.Listings.{listing, listing_length, listing_at}
use Rattle.lists.specs.Tests.{false_of}
use Rattle.names.specs.declared.Card.{Card}
use Rattle.names.specs.declared.Register.{Register}
use Rattle.names.specs.CardSet.{member_of}
use Rattle.names.specs.Placement.{Placement, registers, holders, copy}
use Rattle.channel.specs.Layout.{cards_of, registers_of}
use Rattle.channel.proofs.Offered.{cards_most, member_present}
use Rattle.claims.specs.Found.{Found}
use Rattle.tables.specs.Layout.{Place, side_by_side, card_after_card, holds}
use Rattle.tables.specs.Panel.{value_shown_at, held_shown_at, copies_shown_at, doing_shown}
use Rattle.tables.specs.Shows.{StoreShowsAt}
use Rattle.tables.specs.PanelMeaning.{PanelMeaningAt, CopiesMeaning, RegisterAfterRegister}
use Rattle.tables.specs.Match.{ReadAlike}
use Rattle.tables.proofs.Layouts.{side_by_side_lem, card_after_card_lem}
use Rattle.tables.proofs.Match.{turned_alike, relaid, relaid_alike}
use Rattle.tables.proofs.MatchReads.{requests=, doing=, shows_match}
use Rattle.tables.proofs.PanelMeaning.{panel_meaning}

pub register_after_register : RegisterAfterRegister
register_after_register rs i x p q = let e : side_by_side i x ≡ 65 + 8 * x + i = omega arith in ap (λ k. get_or rs k 0) e

-- memories that read alike show a panel the same
module _ (p q : Place) (rs us : List ℕ) (z : ReadAlike p q rs us) (cs : List ℕ) where
  value= : (i : Card) (x : Register) → value_shown_at p rs cs i x ≡ value_shown_at q us cs i x
  value= i x = ap (λ v. cond (ltb i.0 (cards_of cs) && ltb x.0 (registers_of cs)) v 0) (z.copy= i.0 x.0)

  panel_match : (P : Placement) (s : Found) → PanelMeaningAt p rs cs P s → PanelMeaningAt q us cs P s
  unfolding doing_shown
  panel_match P s m = record {
    value = λ i x a b. sym (value= i x) ∙ m.value i x a b;
    no_value = λ i x h. sym (value= i x) ∙ m.no_value i x h;
    doing = λ t a. rw (← doing= p q rs us z t.0) (m.doing t a);
    no_doing = λ t a. rw (← doing= p q rs us z t.0) (m.no_doing t a);
    requests = sym (requests= p q rs us z) ∙ m.requests;
  }

pub panel_side_by_side : (us cs : List ℕ) (P : Placement) (s : Found) → StoreShowsAt side_by_side us cs P s → PanelMeaningAt side_by_side us cs P s
panel_side_by_side us cs P s v =
    let rs = relaid card_after_card side_by_side card_after_card_lem side_by_side_lem us in
    let z = relaid_alike card_after_card side_by_side card_after_card_lem side_by_side_lem us in
    panel_match card_after_card side_by_side rs us z cs P s (panel_meaning rs cs P s (shows_match side_by_side card_after_card us rs (turned_alike z) cs P s v))

-- ---- the copies of a register at once

module _ (place : Place) (rs cs : List ℕ) (P : Placement) (s : Found) (v : StoreShowsAt place rs cs P s) (m : PanelMeaningAt place rs cs P s) where
  abbrev shown : Register → ℕ → ℕ
  shown x = held_shown_at place rs cs x

  nothing : (b : Bool) (n : ℕ) → n ≡ 0 → cond b n 0 ≡ 0
  nothing true n e = e
  nothing false n e = refl

  none_held : (i : ℕ) → member_of 0 i ≡ false
  none_held i = false_of (member_of 0 i) (λ h. let z : 0 < 2 ^ 0 = omega arith in omega (arith, member_present 0 0 i z h))

  one : (i : ℕ) (x : Register) → shown x i ≡ cond (copy P x.0 i) (s.table i x.0) 0
  unfolding holds
  one i x = go (dec_lt i P.cards) (dec_lt x.0 (registers P))
    where
      go : Dec (i < P.cards) → Dec (x.0 < registers P) → shown x i ≡ cond (copy P x.0 i) (s.table i x.0) 0
      go (yes a) (yes b) =
          let h = v.registers_show.holders= x.0 (rw (← v.registers=) b) in
          ap₂ (λ c n. cond c n 0) (ap (λ l. member_of l i) (sym h)) (m.value (record { 0 = i }) x a b) ∙ rw (lt-ltb i P.cards a)
      go (no a) b = nothing (holds rs x.0 i) (value_shown_at place rs cs (record { 0 = i }) x) (m.no_value (record { 0 = i }) x (inl (omega arith))) ∙ rw (le-ltb i P.cards (omega arith))
      go (yes a) (no b) =
          let e : holders P x.0 ≡ 0 = get_or-eq_default P.copies 0 {n = x.0} (omega arith) in
          nothing (holds rs x.0 i) (value_shown_at place rs cs (record { 0 = i }) x) (m.no_value (record { 0 = i }) x (inr (omega arith))) ∙ rw (e, none_held i, lt-ltb i P.cards a)

  pub copies_meaning : CopiesMeaning place rs cs P s
  unfolding copies_shown_at
  copies_meaning = record {
    eight = λ x. listing_length (shown x) 8;
    copies = λ i x. go i x (dec_lt i 8);
  }
    where
      go : (i : ℕ) (x : Register) → Dec (i < 8) → get_or (listing (shown x) 8) i 0 ≡ cond (copy P x.0 i) (s.table i x.0) 0
      go i x (yes h) = listing_at (shown x) 8 i 0 h ∙ one i x
      go i x (no n) =
          let c : P.cards ≤ i = omega (arith, v.cards=, cards_most cs) in
          get_or-eq_default (listing (shown x) 8) 0 {n = i} (rw (listing_length (shown x) 8) (omega arith)) ∙ rw (le-ltb i P.cards c)

pub copies_side_by_side : (us cs : List ℕ) (P : Placement) (s : Found) → StoreShowsAt side_by_side us cs P s → CopiesMeaning side_by_side us cs P s
copies_side_by_side us cs P s v = copies_meaning side_by_side us cs P s v (panel_side_by_side us cs P s v)
