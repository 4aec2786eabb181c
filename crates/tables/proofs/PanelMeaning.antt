-- The panel's definitions read the words that the memories show (specs/Shows).
use Prim.Native.Nat.{ℕ, ◌+◌, ◌*◌, ◌/◌, ◌%◌, ◌<◌, ◌≤◌}
use mathlib.Core.Path.{◌≡◌, refl, sym, ap, ◌∙◌}
use mathlib.Core.Bool.{Bool, true, false, cond, ◌&&◌}
use mathlib.Core.Logic.{◌⊎◌, inl, inr}
use mathlib.Core.List.{List}
use native.Mathlib.Omega.{arith}
use borrow.Author.Tests.{lt-ltb, le-ltb}
use lib.Dec.{ltb}
use lib.ListN.{get_or}
use Rattle.names.specs.declared.Card.{Card}
use Rattle.names.specs.declared.Task.{Task}
use Rattle.names.specs.declared.Register.{Register}
use Rattle.names.specs.Placement.{Placement, registers}
use Rattle.channel.specs.Layout.{cards_of, tasks_of, registers_of}
use Rattle.claims.specs.Found.{Found, quiet}
use Rattle.tables.specs.Layout.{copy_word, home_in, primary_in, holders_in, copy_of}
use Rattle.tables.specs.Doings.{doing_of, doing_kind, doing_register, doing_function, doing_value, doing_kind_in, asked_in, doing_function_in, task_word_of, doing_in, doing_at}
use Rattle.tables.specs.Panel.{value_shown, doing_shown}
use Rattle.tables.specs.Shows.{status_of, StoreShows}
use Rattle.tables.specs.PanelMeaning.{PanelMeaning, CardAfterCard, FieldsMean, FieldsComputed}

and_false : (b : Bool) → (b && false) ≡ false
and_false true = refl
and_false false = refl

module _ (rs cs : List ℕ) where
  value_there : (i : Card) (x : Register) → i.0 < cards_of cs → x.0 < registers_of cs → value_shown rs cs i x ≡ copy_of rs i.0 x.0
  value_there i x p q = rw (lt-ltb _ _ p, lt-ltb _ _ q)

  value_absent : (i : Card) (x : Register) → (cards_of cs ≤ i.0) ⊎ (registers_of cs ≤ x.0) → value_shown rs cs i x ≡ 0
  value_absent i x (inl p) = rw (le-ltb _ _ p)
  value_absent i x (inr q) = rw (le-ltb _ _ q) (ap (λ b. cond b (copy_of rs i.0 x.0) 0) (and_false (ltb i.0 (cards_of cs))))

  doing_there : (t : Task) → t.0 < tasks_of cs → status_of (doing_shown rs cs t) ≡ status_of (doing_at rs t.0)
  unfolding doing_shown
  doing_there t p = rw (lt-ltb _ _ p)

  doing_absent : (t : Task) → tasks_of cs ≤ t.0 → status_of (doing_shown rs cs t) ≡ quiet
  unfolding doing_shown status_of
  doing_absent t p = rw (le-ltb _ _ p)

pub panel_meaning : (rs cs : List ℕ) (P : Placement) (s : Found) → StoreShows rs cs P s → PanelMeaning rs cs P s
panel_meaning rs cs P s v = record {
  value = λ i x p q. let a : i.0 < cards_of cs = rw (← v.cards=) p in let b : x.0 < registers_of cs = rw (← v.registers=) q in
      value_there rs cs i x a b ∙ sym (v.registers_show.table= i.0 x.0 a b);
  no_value = λ i x h. value_absent rs cs i x (past i x h);
  doing = λ t p. let a : t.0 < tasks_of cs = rw (← v.tasks=) p in doing_there rs cs t a ∙ sym (v.registers_show.status= t.0 a);
  no_doing = λ t p. let a : tasks_of cs ≤ t.0 = rw (← v.tasks=) p in doing_absent rs cs t a;
  requests = sym v.registers_show.requests=;
}
  where
    past : (i : Card) (x : Register) → (P.cards ≤ i.0) ⊎ (registers P ≤ x.0) → (cards_of cs ≤ i.0) ⊎ (registers_of cs ≤ x.0)
    past i x (inl p) = inl (rw (← v.cards=) p)
    past i x (inr q) = inr (rw (← v.registers=) q)

pub card_after_card_lem : CardAfterCard
card_after_card_lem rs i x p q = let e : copy_word i x ≡ 65 + 32 * i + x = omega arith in ap (λ k. get_or rs k 0) e

-- ---- the digits of a word

module _ (w : ℕ) where
  after_kind : w ≡ w % 8 + 8 * (w / 8)
  after_kind = omega arith

  after_asked : w / 8 ≡ w / 8 % 32 + 32 * (w / 256)
  after_asked = omega arith

  after_function : w / 256 ≡ w / 256 % 8 + 8 * (w / 2048)
  after_function = omega arith

all_digits : (w a b h k x f : ℕ) → w ≡ k + 8 * a → a ≡ x + 32 * b → b ≡ f + 8 * h → w ≡ k + 8 * x + 256 * f + 2048 * h
all_digits w a b h k x f p q r = omega arith

pub fields_mean : FieldsMean
unfolding doing_kind_in asked_in doing_function_in home_in primary_in holders_in
fields_mean = record {
  task = λ w. all_digits w (w / 8) (w / 256) (w / 2048) _ _ _ (after_kind w) (after_asked w) (after_function w);
  kind = λ w. omega arith;
  asked = λ w. omega arith;
  function = λ w. omega arith;
  register = after_kind;
  primary = λ w. omega arith;
}

pub fields_computed : FieldsComputed
unfolding task_word_of doing_kind doing_register doing_function doing_value doing_in doing_of doing_kind_in asked_in doing_function_in home_in primary_in holders_in
fields_computed = record { asks = refl; quiet_at_home = refl; found = (refl, refl, refl); home_in_asks = refl; primary_in_placed = refl; holders_in_placed = refl }
