-- The head of an inbox leaves it (step 9): on the words and on the idealised state.
use Prim.Native.Nat.{ℕ, zero, suc, ◌%◌, ◌<◌, ◌≤◌}
use mathlib.Core.Path.{◌≡◌, refl, sym, ◌∙◌}
use mathlib.Core.Bool.{Bool, true, false, cond}
use mathlib.Core.List.{List, [], ◌∷◌}
use native.Mathlib.Omega.{arith}
use borrow.Author.Tests.{ltb-true, ne_eqb}
use lib.Dec.{eqb, ltb}
use lib.ListN.{length}
use Rattle.lists.specs.Tests.{eqb_refl, eqb_not}
use Rattle.lists.specs.Listings.{listing}
use Rattle.names.specs.declared.Letter.{Letter}
use Rattle.std.specs.Prelude.{Ok, Err}
use Rattle.names.specs.declared.refusals.Refusal.TheVariants.{NoCard}
use Rattle.automaton.specs.State.{ChannelState, delivering}
use Rattle.automaton.specs.Refusals.{receive_refusal}
use Rattle.channel.specs.Layout.{channel_words, inbox_block, taken_word, held_word, cards_of, head_of, count_of, held_count_of}
use Rattle.names.specs.Letters.{letter_at}
use Rattle.names.specs.Refusals.{number_of}
use Rattle.channel.specs.Inbox.{popped, got_of, receive_answer, receive_memory}
use Rattle.channel.specs.MemoryCalls.{handed_up}
use Rattle.names.specs.declared.Card.{Card}
use Rattle.channel.specs.Shows.{letter_mail, inbox_of, held_of, Shows}
use Rattle.channel.proofs.InboxRing.{held_cong, popped_word, popped_long, pop_drops}
use Rattle.channel.proofs.SizedFacts.{Sized, cards_most}
use Rattle.channel.proofs.Frame.{Outside, card_shows}

inbox_none : (ws : List ℕ) (i : ℕ) → count_of ws i ≡ 0 → inbox_of ws i ≡ []
unfolding inbox_of listing
inbox_none ws i e = rw e

-- a popped inbox: only card i's words change
pub popped_outside : (ws : List ℕ) (i n : ℕ) → length ws ≡ channel_words → i < 8 → count_of ws i ≡ suc n → Outside i (popped ws i) ws
popped_outside ws i n l c e =
    let p = popped_word ws i l c n e in
    record { long = popped_long ws i l c n e; low = λ a h. p a (omega arith) (omega arith); high = λ a h. p a (omega arith) (omega arith) }

module _ (ws : List ℕ) (w : ChannelState Letter) (z : Sized ws) (v : Shows ws w) (i : ℕ) (card : i < cards_of ws) where
  c8 : i < 8
  c8 = omega (arith, cards_most ws)

  module _ (n : ℕ) (e : count_of ws i ≡ suc n) where
    popped_shows : Shows (popped ws i) (delivering letter_mail w i)
    unfolding held_of
    popped_shows =
        let p = popped_word ws i z.long c8 n e in
        let m : held_count_of ws i ≤ 16 = z.helds i card in
        let y : eqb i i ≡ true = eqb_refl i in
        card_shows ws (popped ws i) w (delivering letter_mail w i) i card z.helds v (popped_outside ws i n z.long c8 e)
        refl (λ t. refl)
        (λ j q. (refl, refl, rw (eqb_not q)))
        (v.taken= i card ∙ sym (p (taken_word i) (omega arith) (omega arith)))
        (v.held= i card ∙ sym (rw (p (held_word i) (omega arith) (omega arith))
        (held_cong (popped ws i) ws i (held_count_of ws i) (λ a g h. p a (omega arith) (omega arith)))))
        (rw (y, v.inbox= i card, pop_drops ws i z.long c8 n e))

    -- what is handed up is the head's message
    got_head : (l : Letter) × (got_of ws i ≡ Ok l.message) × (w.inbox i ≡ l ∷ inbox_of (popped ws i) i)
    unfolding got_of
    got_head =
        (letter_at ws (inbox_block i (head_of ws i % 48)), rw (ne_eqb (count_of ws i) 0 (omega arith)), v.inbox= i card ∙ pop_drops ws i z.long c8 n e)

  -- what is handed up is the head's message
  got_is : got_of ws i ≡ handed_up (w.inbox i)
  unfolding got_of
  got_is = go (count_of ws i) refl
    where
      go : (n : ℕ) → count_of ws i ≡ n → got_of ws i ≡ handed_up (w.inbox i)
      go zero e = rw (v.inbox= i card, inbox_none ws i e, e)
      go (suc n) e = let h = got_head n e in rw (h.2, h.1)

  -- the memory left, whether or not there was a message
  popped_left : Shows (popped ws i) (cond (eqb (receive_refusal letter_mail (cards_of ws) (w.inbox i)) 0) (delivering letter_mail w i) w)
  unfolding popped
  popped_left = go (count_of ws i) refl
    where
      go : (n : ℕ) → count_of ws i ≡ n → Shows (popped ws i) (cond (eqb (receive_refusal letter_mail (cards_of ws) (w.inbox i)) 0) (delivering letter_mail w i) w)
      go zero e = rw (v.inbox= i card, inbox_none ws i e, e) v
      go (suc n) e = rw (got_head n e).2 (popped_shows n e)

module _ (ws : List ℕ) (w : ChannelState Letter) (z : Sized ws) (v : Shows ws w) (card : Card) where
  -- 14, or the head's message, or 33
  pub receive_answer_lem : receive_answer ws card ≡ cond (ltb card.0 (cards_of ws)) (handed_up (w.inbox card.0)) (Err NoCard)
  unfolding receive_answer
  receive_answer_lem = go (ltb card.0 (cards_of ws)) refl
    where
      go : (b : Bool) → ltb card.0 (cards_of ws) ≡ b → cond b (got_of ws card.0) (Err NoCard) ≡ cond b (handed_up (w.inbox card.0)) (Err NoCard)
      go true e = got_is ws w z v card.0 (ltb-true _ _ e)
      go false e = refl

  pub receive_number : number_of (receive_answer ws card) ≡ cond (ltb card.0 (cards_of ws)) (receive_refusal letter_mail (cards_of ws) (w.inbox card.0)) 14
  receive_number = rw receive_answer_lem (go (ltb card.0 (cards_of ws)) (w.inbox card.0))
    where
      go : (b : Bool) (s : List Letter) → number_of (cond b (handed_up s) (Err NoCard)) ≡ cond b (receive_refusal letter_mail (cards_of ws) s) 14
      go true [] = refl
      go true (l ∷ s) = refl
      go false s = refl

  pub receive_left : Shows (receive_memory ws card)
      (cond (eqb (cond (ltb card.0 (cards_of ws)) (receive_refusal letter_mail (cards_of ws) (w.inbox card.0)) 14) 0) (delivering letter_mail w card.0) w)
  unfolding receive_memory
  receive_left = go (ltb card.0 (cards_of ws)) refl
    where
      go : (b : Bool) → ltb card.0 (cards_of ws) ≡ b → Shows (cond b (popped ws card.0) ws)
          (cond (eqb (cond b (receive_refusal letter_mail (cards_of ws) (w.inbox card.0)) 14) 0) (delivering letter_mail w card.0) w)
      go true e = popped_left ws w z v card.0 (ltb-true _ _ e)
      go false e = v
