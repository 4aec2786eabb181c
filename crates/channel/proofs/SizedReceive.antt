-- `receive` keeps the memory well sized.
use Prim.Native.Nat.{ℕ, zero, suc, ◌<◌, ◌≤◌}
use mathlib.Core.Path.{◌≡◌, refl}
use mathlib.Core.Bool.{Bool, true, false, cond}
use mathlib.Core.List.{List}
use native.Mathlib.Omega.{arith}
use borrow.Author.Tests.{ltb-true}
use lib.Dec.{ltb}
use lib.ListN.{length}
use Rattle.names.specs.declared.Card.{Card}
use Rattle.channel.specs.Layout.{channel_words, taken_word, held_word, cards_of, taken_of, count_of, held_count_of}
use Rattle.channel.specs.Inbox.{popped, receive_memory}
use Rattle.channel.proofs.InboxRing.{popped_word, popped_long, popped_count, popped_head}
use Rattle.channel.proofs.SizedFacts.{cards_most}
use Rattle.channel.proofs.Receiving.{popped_outside}
use Rattle.channel.proofs.WellSizedParts.{Fit}
use Rattle.channel.proofs.FitQueues.{pop_sizes, pop_box, held_same}
use Rattle.channel.proofs.FitKept.{Kept, unchanged, card_keeps}

module _ (ws : List ℕ) (long : length ws ≡ channel_words) (f : Fit ws) (card : Card) where
  abbrev i : ℕ
  i = card.0

  popped_fit : i < cards_of ws → (n : ℕ) → count_of ws i ≡ suc n → Fit (popped ws i)
  popped_fit c n e =
      let c8 : i < 8 = omega (arith, cards_most ws) in
      let p = popped_word ws i long c8 n e in
      let x = f.card i c in
      let et : taken_of (popped ws i) i ≡ taken_of ws i = p (taken_word i) (omega arith) (omega arith) in
      let ed : held_count_of (popped ws i) i ≡ held_count_of ws i = p (held_word i) (omega arith) (omega arith) in
      let few : held_count_of ws i ≤ 16 = x.held in
      card_keeps (popped ws i) ws i c (popped_outside ws i n long c8 e) f (record {
        behind = rw et x.behind;
        near = rw et x.near;
        head = rw (popped_head ws i long c8 n e) (omega arith);
        count = rw (popped_count ws i long c8 n e) (omega (arith, x.count));
        held = rw ed few;
        inbox = pop_box ws i long c8 n e x.inbox;
        helds = rw ed (held_same (popped ws i) ws i (held_count_of ws i) (pop_sizes ws i long c8 n e) (λ a u v. p a (omega arith) (omega arith)) x.helds);
      })

  pub receive_keeps : Kept (receive_memory ws card) ws
  unfolding receive_memory popped
  receive_keeps = go (ltb i (cards_of ws)) refl
    where
      some_or_none : i < cards_of ws → (n : ℕ) → count_of ws i ≡ n → Kept (popped ws i) ws
      some_or_none c zero e = rw e (unchanged ws long f)
      some_or_none c (suc n) e = let c8 : i < 8 = omega (arith, cards_most ws) in
          record { fit = popped_fit c n e; long = popped_long ws i long c8 n e; sizes = pop_sizes ws i long c8 n e }

      go : (b : Bool) → ltb i (cards_of ws) ≡ b → Kept (cond b (popped ws i) ws) ws
      go true e = some_or_none (ltb-true i (cards_of ws) e) (count_of ws i) refl
      go false e = unchanged ws long f
