-- A message is dispatched (step 6): what the words show afterwards.
use Prim.Native.Nat.{ℕ, ◌+◌, ◌<◌, ◌≤◌}
use mathlib.Core.Path.{◌≡◌, sym, ap, ◌∙◌}
use mathlib.Core.Bool.{true, false, cond}
use mathlib.Core.Logic.{◌≢◌}
use mathlib.Core.List.{List, [], ◌∷◌, ◌++◌}
use mathlib.Core.Option.{some}
use native.Mathlib.Omega.{arith}
use native.Mathlib.Decide.{dec_lt, ℕ_discrete}
use borrow.Author.Tests.{ne_eqb}
use lib.Dec.{eqb}
use lib.ListN.{length, get_or, set, length-append}
use lib.Seq.{get_or-set_same, get_or-set_other}
use Rattle.lists.specs.Tests.{eqb_refl, eqb_not}
use Rattle.lists.specs.Places.{nth, nth_last, nth_old}
use Rattle.names.specs.declared.Letter.{Letter}
use Rattle.automaton.specs.State.{ChannelState, dispatching}
use Rattle.automaton.specs.MostBehind.{most_behind}
use Rattle.channel.specs.Layout.{taken_word, made_word, flight_block, broadcast_block, cards_of, tasks_of, made_of, taken_of}
use Rattle.names.specs.Letters.{kind_in, kind_of, packet_of, Packs, letter_at, kind_at, stored, marked}
use Rattle.channel.specs.TakeSingle.{no_flight}
use Rattle.channel.specs.Shows.{letter_mail, flight_of, Shows}
use Rattle.channel.specs.BroadcastRing.{Apart}
use Rattle.names.proofs.Blocks.{kind_some, kind_carried, letter_back, word_other, letter_cong, letter_same, marked_other, marked_word, marked_letter, mark_same, length_stored}
use Rattle.channel.proofs.SizedFacts.{Sized, cards_most, tasks_most, cards_words, tasks_words}
use Rattle.channel.proofs.Frame.{inbox_words, held_words, sent_words, flight_words}
use Rattle.channel.proofs.BroadcastRing.{ring_apart}

-- ---- one destination: in flight

module _ (ws : List ℕ) (w : ChannelState Letter) (z : Sized ws) (v : Shows ws w) (i : ℕ) (l : Letter) (card : i < cards_of ws)
    (task : l.message.task.0 < tasks_of ws) (packs : Packs l) where
  abbrev pub flown : List ℕ
  flown = marked ws (flight_block l.message.task.0) (packet_of l) (taken_of ws i)

  t16 : l.message.task.0 < 16
  t16 = omega (arith, tasks_most ws)

  pub flown_word : (a : ℕ) → ((k : ℕ) → k < 3 → a ≢ flight_block l.message.task.0 + k) → get_or flown a 0 ≡ get_or ws a 0
  flown_word = marked_other ws (flight_block l.message.task.0) (packet_of l) (taken_of ws i)

  pub flown_card : (j a : ℕ) → j < cards_of ws → a < taken_word (j + 1) → get_or flown a 0 ≡ get_or ws a 0
  flown_card j a c q = let g = cards_most ws in flown_word a (λ k h. omega arith)

  pub flown_cards : cards_of flown ≡ cards_of ws
  flown_cards = cards_words flown ws (flown_word 0 (λ k h. omega arith))

  pub flown_tasks : tasks_of flown ≡ tasks_of ws
  flown_tasks = tasks_words flown ws (flown_word 1 (λ k h. omega arith))

  slots : (d : ℕ) → d < tasks_of ws → cond (eqb d l.message.task.0) (some (record { msg = l; mark = taken_of ws i })) (w.flight d) ≡ flight_of flown d
  unfolding flight_of no_flight
  slots d h = go (ℕ_discrete d l.message.task.0)
    where
      go : Dec (d ≡ l.message.task.0)
          → cond (eqb d l.message.task.0) (some (record { msg = l; mark = taken_of ws i })) (w.flight d) ≡ flight_of flown d
      go (yes e) =
          let f : flight_block l.message.task.0 + 3 ≤ length ws = omega (arith, z.long, t16) in
          let k = kind_some l.message.body in
          let q : kind_at flown (flight_block l.message.task.0) ≡ kind_of l.message.body =
          ap kind_in (marked_word ws (flight_block l.message.task.0) (packet_of l) (taken_of ws i) f) ∙ kind_carried l in
          let n : kind_at flown (flight_block l.message.task.0) ≢ 0 = omega arith in
          rw (
            e,
            eqb_refl l.message.task.0,
            ne_eqb _ 0 n,
            marked_letter ws (flight_block l.message.task.0) (packet_of l) (taken_of ws i) f,
            mark_same ws (flight_block l.message.task.0) (packet_of l) (taken_of ws i) f,
            letter_back l packs,
          )
      go (no n) = rw (eqb_not n) (v.flight= d h ∙ sym (flight_words flown ws d (λ a p q. flown_word a (λ k g. omega arith))))

  pub fly_shows : Shows flown (dispatching letter_mail false w i l)
  fly_shows =
      let c = flown_cards in
      let d : made_of flown ≡ made_of ws = flown_word 3 (λ k g. omega arith) in
      record {
        made= = v.made= ∙ sym d;
        sent= = λ k m q. v.sent= k (omega arith) (omega arith) ∙ ap some (sym (sent_words flown ws (k + 1) (λ a p r. flown_word a (λ b u. omega (arith, t16)))));
        taken= = λ j h. v.taken= j (rw (← c) h) ∙ sym (flown_card j (taken_word j) (rw (← c) h) (omega arith));
        flight= = λ k h. rw (v.taken= i card) (slots k (rw (← flown_tasks) h));
        held= = λ j h. v.held= j (rw (← c) h) ∙ sym (held_words flown ws j (λ a m q. flown_card j a (rw (← c) h) q) (z.helds j (rw (← c) h)));
        inbox= = λ j h. v.inbox= j (rw (← c) h) ∙ sym (inbox_words flown ws j (λ a m q. flown_card j a (rw (← c) h) q));
      }

-- ---- more destinations: the next broadcast

module _ (ws : List ℕ) (w : ChannelState Letter) (z : Sized ws) (v : Shows ws w) (i : ℕ) (l : Letter) (packs : Packs l) where
  abbrev pub n : ℕ
  n = made_of ws + 1

  abbrev pub slot : ℕ
  slot = broadcast_block n

  abbrev pub written : List ℕ
  written = stored ws slot (packet_of l)

  abbrev pub cast : List ℕ
  cast = set written made_word n

  pub cast_word : (a : ℕ) → a ≢ 3 → ((k : ℕ) → k < 2 → a ≢ slot + k) → get_or cast a 0 ≡ get_or ws a 0
  cast_word a h g = get_or-set_other written 3 a n 0 h ∙ word_other ws slot (packet_of l) a g

  pub cast_block : (k : ℕ) → k < 2 → get_or cast (slot + k) 0 ≡ get_or written (slot + k) 0
  cast_block k g = get_or-set_other written 3 (slot + k) n 0 (omega arith)

  pub cast_made : made_of cast ≡ n
  cast_made = get_or-set_same written 3 n 0 (omega (arith, length_stored ws slot (packet_of l), z.long))

  pub cast_cards : cards_of cast ≡ cards_of ws
  cast_cards = cards_words cast ws (cast_word 0 (omega arith) (λ k h. omega arith))

  pub cast_tasks : tasks_of cast ≡ tasks_of ws
  cast_tasks = tasks_words cast ws (cast_word 1 (omega arith) (λ k h. omega arith))

  pub cast_card : (j a : ℕ) → j < cards_of ws → taken_word j ≤ a → a < taken_word (j + 1) → get_or cast a 0 ≡ get_or ws a 0
  cast_card j a c p q = let g = cards_most ws in cast_word a (omega arith) (λ k h. omega arith)

  pub cast_flight : (t a : ℕ) → t < tasks_of ws → flight_block t ≤ a → a < flight_block (t + 1) → get_or cast a 0 ≡ get_or ws a 0
  cast_flight t a c p q = let g = tasks_most ws in cast_word a (omega arith) (λ k h. omega arith)

  pub cast_letter : letter_at cast slot ≡ l
  cast_letter = letter_cong cast written slot cast_block ∙ letter_same ws slot (packet_of l) (omega (arith, z.long)) ∙ letter_back l packs

  -- the other broadcasts that are kept
  pub cast_others : (k : ℕ) → Apart (broadcast_block (k + 1)) slot → letter_at cast (broadcast_block (k + 1)) ≡ letter_at ws (broadcast_block (k + 1))
  cast_others k h = sent_words cast ws (k + 1) (λ a p q. cast_word a (omega arith) (h a p q))

  sents : (k : ℕ) → k < n → n ≤ k + most_behind → nth (w.sent ++ (l ∷ [])) k ≡ some (letter_at cast (broadcast_block (k + 1)))
  sents k m q = go (dec_lt k (made_of ws))
    where
      go : Dec (k < made_of ws) → nth (w.sent ++ (l ∷ [])) k ≡ some (letter_at cast (broadcast_block (k + 1)))
      go (yes h) = nth_old w.sent l k (omega (arith, v.made=)) ∙ v.sent= k h (omega arith) ∙ ap some (sym (cast_others k (ring_apart (k + 1) n (omega arith) (omega arith))))
      go (no h) =
          let e : k ≡ made_of ws = omega arith in
          rw (e, cast_letter, ← v.made=) (nth_last w.sent l)

  pub cast_shows : Shows cast (dispatching letter_mail true w i l)
  cast_shows =
      let c = cast_cards in
      let d = cast_made in
      record {
        made= = length-append w.sent (l ∷ []) ∙ omega (arith, v.made=);
        sent= = λ k m q. sents k (omega arith) (omega arith);
        taken= = λ j h. v.taken= j (rw (← c) h) ∙ sym (cast_card j (taken_word j) (rw (← c) h) (omega arith) (omega arith));
        flight= = λ t h. v.flight= t (rw (← cast_tasks) h) ∙ sym (flight_words cast ws t (λ a m q. cast_flight t a (rw (← cast_tasks) h) m q));
        held= = λ j h. v.held= j (rw (← c) h) ∙ sym (held_words cast ws j (λ a m q. cast_card j a (rw (← c) h) m q) (z.helds j (rw (← c) h)));
        inbox= = λ j h. v.inbox= j (rw (← c) h) ∙ sym (inbox_words cast ws j (λ a m q. cast_card j a (rw (← c) h) m q));
      }
