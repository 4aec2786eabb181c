-- Words that agree where a part of the state is read show the same of it.
use Prim.Native.Nat.{ℕ, ◌+◌, ◌%◌, ◌<◌, ◌≤◌}
use mathlib.Core.Path.{◌≡◌, sym, ap, ◌∙◌, subst}
use mathlib.Core.Logic.{◌≢◌}
use mathlib.Core.List.{List}
use mathlib.Core.Option.{some}
use native.Mathlib.Omega.{arith}
use native.Mathlib.Decide.{dec_lt, ℕ_discrete}
use lib.ListN.{length, get_or}
use Rattle.lists.specs.Places.{nth}
use Rattle.names.specs.declared.Letter.{Letter}
use Rattle.automaton.specs.State.{ChannelState}
use Rattle.names.specs.Letters.{letter_at}
use Rattle.channel.specs.Layout.{channel_words, taken_word, head_word, count_word, held_word, flight_block, broadcast_block, cards_of, tasks_of, made_of, taken_of, head_of, count_of, held_count_of}
use Rattle.channel.specs.TakeSingle.{no_flight}
use Rattle.channel.specs.Shows.{inbox_of, held_of, flight_of, Shows}
use Rattle.names.proofs.Blocks.{letter_cong}
use Rattle.channel.proofs.InboxRing.{tagged_cong, held_cong, ring_cong}
use Rattle.channel.proofs.SizedFacts.{cards_most, cards_words, tasks_words}

-- card j's part
module _ (us ws : List ℕ) (j : ℕ) (e : (a : ℕ) → taken_word j ≤ a → a < taken_word (j + 1) → get_or us a 0 ≡ get_or ws a 0) where
  pub inbox_words : inbox_of us j ≡ inbox_of ws j
  unfolding inbox_of
  inbox_words =
      rw (e (head_word j) (omega arith) (omega arith), e (count_word j) (omega arith) (omega arith))
      (ring_cong us ws j (head_of ws j % 48) (count_of ws j) (λ a p q. e a (omega arith) (omega arith)))

  pub held_words : held_count_of ws j ≤ 16 → held_of us j ≡ held_of ws j
  unfolding held_of
  held_words h =
      rw (e (held_word j) (omega arith) (omega arith))
      (held_cong us ws j (held_count_of ws j) (λ a p q. e a (omega arith) (omega arith)))

pub flight_words : (us ws : List ℕ) (t : ℕ) → ((a : ℕ) → flight_block t ≤ a → a < flight_block (t + 1) → get_or us a 0 ≡ get_or ws a 0)
    → flight_of us t ≡ flight_of ws t
unfolding flight_of no_flight
flight_words us ws t e = rw (tagged_cong us ws (flight_block t) (λ k g. e (flight_block t + k) (omega arith) (omega arith)), e (flight_block t) (omega arith) (omega arith))

pub sent_words : (us ws : List ℕ) (n : ℕ) → ((a : ℕ) → broadcast_block n ≤ a → a < broadcast_block n + 2 → get_or us a 0 ≡ get_or ws a 0)
    → letter_at us (broadcast_block n) ≡ letter_at ws (broadcast_block n)
sent_words us ws n e = letter_cong us ws (broadcast_block n) (λ k g. e _ (omega arith) (omega arith))

-- ---- only card i's part changed

pub record Outside (i : ℕ) (us ws : List ℕ) : Type 0 where
  pub long : length us ≡ channel_words
  pub low : (a : ℕ) → a < taken_word i → get_or us a 0 ≡ get_or ws a 0
  pub high : (a : ℕ) → taken_word (i + 1) ≤ a → get_or us a 0 ≡ get_or ws a 0

-- a word of another card
pub outside_word : (i : ℕ) (us ws : List ℕ) → Outside i us ws → (j a : ℕ) → j ≢ i → taken_word j ≤ a → a < taken_word (j + 1) → get_or us a 0 ≡ get_or ws a 0
outside_word i us ws o j a n p q = go (dec_lt j i)
  where
    go : Dec (j < i) → get_or us a 0 ≡ get_or ws a 0
    go (yes l) = o.low a (omega arith)
    go (no g) = o.high a (omega arith)

-- only card i's part of the words and of the state changed
pub card_shows : (ws us : List ℕ) (w x : ChannelState Letter) (i : ℕ) → i < cards_of ws → ((j : ℕ) → j < cards_of ws → held_count_of ws j ≤ 16)
    → Shows ws w → Outside i us ws
    → x.sent ≡ w.sent → ((t : ℕ) → x.flight t ≡ w.flight t)
    → ((j : ℕ) → j ≢ i → (x.taken j ≡ w.taken j) × (x.held j ≡ w.held j) × (x.inbox j ≡ w.inbox j))
    → x.taken i ≡ taken_of us i → x.held i ≡ held_of us i → x.inbox i ≡ inbox_of us i → Shows us x
card_shows ws us w x i card z v o s f g t h b =
    let i8 : i < 8 = omega (arith, cards_most ws) in
    let c0 : cards_of us ≡ cards_of ws = cards_words us ws (o.low 0 (omega arith)) in
    let t0 : tasks_of us ≡ tasks_of ws = tasks_words us ws (o.low 1 (omega arith)) in
    let d : made_of us ≡ made_of ws = o.low 3 (omega arith) in
    record {
      made= = ap length s ∙ v.made= ∙ sym d;
      sent= = λ k p q. ap (λ l. nth l k) s ∙ v.sent= k (omega arith) (omega arith) ∙ ap some (sym (sent_words us ws (k + 1) (λ a m n. o.high a (omega arith))));
      taken= = λ j c. either j (λ k. x.taken k ≡ taken_of us k) t
          (λ q. (g j q).0 ∙ v.taken= j (rw (← c0) c) ∙ sym (outside_word i us ws o j (taken_word j) q (omega arith) (omega arith)));
      flight= = λ k p. f k ∙ v.flight= k (rw (← t0) p) ∙ sym (flight_words us ws k (λ a m n. o.high a (omega arith)));
      held= = λ j c. either j (λ k. x.held k ≡ held_of us k) h
          (λ q. (g j q).1 ∙ v.held= j (rw (← c0) c) ∙ sym (held_words us ws j (λ a m n. outside_word i us ws o j a q m n) (z j (rw (← c0) c))));
      inbox= = λ j c. either j (λ k. x.inbox k ≡ inbox_of us k) b
          (λ q. (g j q).2 ∙ v.inbox= j (rw (← c0) c) ∙ sym (inbox_words us ws j (λ a m n. outside_word i us ws o j a q m n)));
    }
  where
    either : (j : ℕ) (P : ℕ → Type 0) → P i → (j ≢ i → P j) → P j
    either j P p q = go (ℕ_discrete j i)
      where
        go : Dec (j ≡ i) → P j
        go (yes e) = subst P (sym e) p
        go (no n) = q n
