-- A message in flight reaches its destination (step 8): what the words show afterwards.
use Prim.Native.Nat.{ℕ, ◌+◌, ◌<◌, ◌≤◌}
use mathlib.Core.Path.{◌≡◌, refl, sym, ap, ◌∙◌}
use mathlib.Core.Bool.{Bool, true, false, cond}
use mathlib.Core.Logic.{◌≢◌}
use mathlib.Core.List.{List}
use mathlib.Core.Option.{none, some}
use native.Mathlib.Omega.{arith}
use native.Mathlib.Decide.{ℕ_discrete}
use lib.Dec.{eqb}
use lib.ListN.{length, get_or, set, length-set}
use lib.Seq.{get_or-set_same, get_or-set_other}
use Rattle.lists.specs.Tests.{eqb_refl, eqb_not}
use Rattle.names.specs.declared.Letter.{Letter}
use Rattle.names.specs.declared.Packet.{Packet}
use Rattle.names.specs.Letters.{kind_in}
use Rattle.automaton.specs.State.{Tagged, ChannelState, landing}
use Rattle.channel.specs.Layout.{channel_words, taken_word, count_word, held_word, flight_block, cards_of, tasks_of, made_of, count_of, held_count_of}
use Rattle.channel.specs.Inbox.{pushed}
use Rattle.channel.specs.TakeSingle.{no_flight, flight_packet, flight_to, held_more, landed}
use Rattle.channel.specs.Shows.{letter_mail, tagged_at, held_of, flight_of, Shows}
use Rattle.channel.proofs.InboxRing.{pushed_long, pushed_word, push_appends, push_held}
use Rattle.channel.proofs.SizedFacts.{Sized, cards_most, tasks_most, cards_words, tasks_words}
use Rattle.channel.proofs.HeldMore.{more_word, more_long, more_held, more_inbox}
use Rattle.channel.proofs.Frame.{Outside, card_shows, inbox_words, held_words, sent_words, flight_words}

-- ---- task t's slot made empty

module _ (ws : List ℕ) (t : ℕ) (small : t < 16) where
  abbrev pub vacated : List ℕ
  vacated = set ws (flight_block t) 0

  pub vacated_word : (a : ℕ) → a ≢ flight_block t → get_or vacated a 0 ≡ get_or ws a 0
  vacated_word a h = get_or-set_other ws (flight_block t) a 0 0 h

  pub vacated_cards : cards_of vacated ≡ cards_of ws
  vacated_cards = cards_words vacated ws (vacated_word 0 (omega arith))

  pub vacated_tasks : tasks_of vacated ≡ tasks_of ws
  vacated_tasks = tasks_words vacated ws (vacated_word 1 (omega arith))

  -- the slot itself, and another task's
  pub vacated_slot : flight_block t < length ws → no_flight vacated t ≡ true
  unfolding no_flight kind_in
  vacated_slot h = rw (get_or-set_same ws (flight_block t) 0 0 h)

  pub vacated_apart : (d : ℕ) → d ≢ t → flight_of vacated d ≡ flight_of ws d
  vacated_apart d n = flight_words vacated ws d (λ a p q. vacated_word a (omega arith))

-- only the slot of task t changed, on both sides
module _ (ws : List ℕ) (w : ChannelState Letter) (z : Sized ws) (v : Shows ws w) (t : ℕ) (task : t < tasks_of ws) where
  pub t16 : t < 16
  t16 = omega (arith, tasks_most ws)

  abbrev pub us : List ℕ
  us = vacated ws t t16

  pub same : (a : ℕ) → a ≢ flight_block t → get_or us a 0 ≡ get_or ws a 0
  same = vacated_word ws t t16

  same_card : (i a : ℕ) → i < cards_of us → taken_word i ≤ a → a < taken_word (i + 1) → get_or us a 0 ≡ get_or ws a 0
  same_card i a c p q = let g = cards_most us in same a (omega arith)

  there : (i : ℕ) → i < cards_of us → i < cards_of ws
  there i c = rw (← vacated_cards ws t t16) c

  helds : (i : ℕ) → i < cards_of us → held_count_of us i ≤ 16
  helds i c = rw (same_card i (held_word i) c (omega arith) (omega arith)) (z.helds i (there i c))

  abbrev pub emptied : ChannelState Letter
  emptied = record { sent = w.sent; taken = w.taken; flight = λ d. cond (eqb d t) none (w.flight d); held = w.held; inbox = w.inbox }

  vacated_shows : Shows us emptied
  unfolding flight_of
  vacated_shows =
      let d : made_of us ≡ made_of ws = same 3 (omega arith) in
      record {
        made= = v.made= ∙ sym d;
        sent= = λ k p q. v.sent= k (omega arith) (omega arith) ∙ ap some (sym (sent_words us ws (k + 1) (λ a m n. same a (omega (arith, t16)))));
        taken= = λ i c. v.taken= i (there i c) ∙ sym (same_card i (taken_word i) c (omega arith) (omega arith));
        flight= = slots;
        held= = λ i c. v.held= i (there i c) ∙ sym (held_words us ws i (λ a p q. same_card i a c p q) (z.helds i (there i c)));
        inbox= = λ i c. v.inbox= i (there i c) ∙ sym (inbox_words us ws i (λ a p q. same_card i a c p q));
      }
    where
      slots : (d : ℕ) → d < tasks_of us → cond (eqb d t) none (w.flight d) ≡ flight_of us d
      slots d h = go (ℕ_discrete d t)
        where
          go : Dec (d ≡ t) → cond (eqb d t) none (w.flight d) ≡ flight_of us d
          go (yes e) = rw (e, eqb_refl t, vacated_slot ws t t16 (omega (arith, z.long, t16)))
          go (no n) = rw (eqb_not n) (v.flight= d (rw (← vacated_tasks ws t t16) h) ∙ sym (vacated_apart ws t t16 d n))

  -- ---- and then it joins the inbox of its destination, or is held there

  abbrev pub x : Tagged Letter
  x = tagged_at ws (flight_block t)

  abbrev pub packet : Packet
  packet = flight_packet ws t

  abbrev pub i : ℕ
  i = flight_to ws t

  module _ (card : i < cards_of ws) where
    c8 : i < 8
    c8 = omega (arith, cards_most ws)

    here : i < cards_of us
    here = rw (vacated_cards ws t t16) card

    long : length us ≡ channel_words
    long = length-set ws (flight_block t) 0 ∙ z.long

    pub join_room : count_of ws i < 48 → count_of us i < 48
    join_room r = rw (same (count_word i) (omega (arith, c8))) r

    pub wait_room : held_count_of ws i < 16 → held_count_of us i < 16
    wait_room r = rw (same (held_word i) (omega (arith, c8))) r

    pub join_outside : count_of ws i < 48 → Outside i (pushed us i packet) us
    join_outside room =
        let p = pushed_word us i packet long c8 (join_room room) in
        record { long = pushed_long us i packet long c8 (join_room room); low = λ a h. p a (omega arith) (λ k g. omega arith); high = λ a h. p a (omega arith) (λ k g. omega arith) }

    pub wait_outside : held_count_of ws i < 16 → Outside i (held_more us i packet x.mark) us
    wait_outside room =
        let r = wait_room room in
        let p = more_word us i packet x.mark c8 long r in
        record { long = more_long us i packet x.mark c8 long (wait_room room); low = λ a h. p a (omega arith) (λ k g. omega arith); high = λ a h. p a (omega arith) (λ k g. omega arith) }

    joins : count_of ws i < 48 → Shows (pushed us i packet) (landing letter_mail true w t x)
    unfolding held_of
    joins room =
        let r = join_room room in
        let p = pushed_word us i packet long c8 r in
        let s = vacated_shows in
        let m = helds i here in
        card_shows us (pushed us i packet) emptied (landing letter_mail true w t x) i here helds s (join_outside room)
        refl (λ c. refl)
        (λ j q. (refl, refl, rw (eqb_not q)))
        (s.taken= i here ∙ sym (p (taken_word i) (omega arith) (λ k g. omega arith)))
        (s.held= i here ∙ sym (rw (p (held_word i) (omega arith) (λ k g. omega arith)) (push_held us i packet long c8 r (held_count_of us i) m)))
        (rw (eqb_refl i, s.inbox= i here) (sym (push_appends us i packet long c8 r)))

    waits : held_count_of ws i < 16 → Shows (held_more us i packet x.mark) (landing letter_mail false w t x)
    waits room =
        let r = wait_room room in
        let p = more_word us i packet x.mark c8 long r in
        let s = vacated_shows in
        card_shows us (held_more us i packet x.mark) emptied (landing letter_mail false w t x) i here helds s (wait_outside room)
        refl (λ c. refl)
        (λ j q. (refl, rw (eqb_not q), refl))
        (s.taken= i here ∙ sym (p (taken_word i) (omega arith) (λ k g. omega arith)))
        (rw (eqb_refl i, s.held= i here) (sym (more_held us i packet x.mark c8 long r)))
        (s.inbox= i here ∙ sym (more_inbox us i packet x.mark c8 long r))

    pub land_shows : (b : Bool) → cond b (count_of ws i) 0 < 48 → cond b 0 (held_count_of ws i) < 16
        → Shows (landed ws t i packet x.mark b) (landing letter_mail b w t x)
    unfolding landed
    land_shows true p q = joins p
    land_shows false p q = waits q
