-- A card takes a broadcast (step 7): what its words show afterwards.
use Prim.Native.Nat.{ℕ, suc, ◌+◌, ◌%◌, ◌<◌, ◌≤◌}
use mathlib.Core.Path.{◌≡◌, refl, sym, ap, ap₂, ◌∙◌}
use mathlib.Core.Bool.{Bool, true, false, cond}
use mathlib.Core.Logic.{◌≢◌}
use mathlib.Core.List.{List, [], ◌∷◌, ◌++◌}
use mathlib.Core.Option.{some}
use native.Mathlib.Numerals.{add-one}
use native.Mathlib.Omega.{arith}
use lib.Dec.{eqb}
use lib.ListN.{length, get_or, set, length-set}
use lib.Seq.{get_or-set_same, get_or-set_other}
use Rattle.lists.specs.Tests.{eqb_refl, eqb_not}
use Rattle.lists.specs.Queues.{push}
use Rattle.lists.specs.Places.{nth}
use Rattle.names.specs.declared.Letter.{Letter}
use Rattle.names.specs.declared.Packet.{Packet}
use Rattle.names.specs.Letters.{letter_of}
use Rattle.automaton.specs.State.{ChannelState, kept, released, taking}
use Rattle.channel.specs.Layout.{channel_words, taken_word, head_word, count_word, held_word, cards_of, made_of, taken_of, head_of, count_of, held_count_of, place_of}
use Rattle.channel.specs.Inbox.{pushed}
use Rattle.channel.specs.TakeBroadcast.{released_words, joined, next_packet, next_letter, next_there}
use Rattle.channel.specs.Shows.{letter_mail, inbox_of, held_of, Shows}
use Rattle.channel.proofs.InboxRing.{held_cong, ring_cong, pushed_long, pushed_word, pushed_count, push_appends, push_held}
use Rattle.channel.proofs.Release.{release_long, release_low, release_high, release_held, release_inbox}
use Rattle.channel.proofs.SizedFacts.{Sized, cards_most}
use Rattle.channel.proofs.Frame.{Outside, card_shows}

module _ (ws : List ℕ) (i n : ℕ) (l : Packet) (card : i < 8) (whole : length ws ≡ channel_words) (small : held_count_of ws i ≤ 16) where
  -- the number taken, first
  abbrev pub numbered : List ℕ
  numbered = set ws (taken_word i) n

  pub one_word : (a : ℕ) → a ≢ taken_word i → get_or numbered a 0 ≡ get_or ws a 0
  one_word a h = get_or-set_other ws (taken_word i) a n 0 h

  pub one_long : length numbered ≡ channel_words
  one_long = length-set ws (taken_word i) n ∙ whole

  one_inbox : inbox_of numbered i ≡ inbox_of ws i
  unfolding inbox_of
  one_inbox =
      rw (one_word (head_word i) (omega arith), one_word (count_word i) (omega arith))
      (ring_cong numbered ws i (head_of ws i % 48) (count_of ws i) (λ a p q. one_word a (omega arith)))

  one_held : held_of numbered i ≡ held_of ws i
  unfolding held_of
  one_held =
      rw (one_word (held_word i) (omega arith))
      (held_cong numbered ws i (held_count_of ws i) (λ a p q. one_word a (omega arith)))

  -- what card i's words show after the step, and that no other word changed
  pub record Joined (there : Bool) (us : List ℕ) : Type 0 where
    pub out : Outside i us ws
    pub taken : taken_of us i ≡ n
    pub held : held_of us i ≡ kept n (held_of ws i)
    pub inbox : inbox_of us i ≡ push there (letter_of l) (inbox_of ws i) ++ released n (held_of ws i)

  -- before the release
  pub record Begun (there : Bool) (us : List ℕ) : Type 0 where
    pub long : length us ≡ channel_words
    pub low : (a : ℕ) → a < taken_word i → get_or us a 0 ≡ get_or ws a 0
    pub high : (a : ℕ) → taken_word (i + 1) ≤ a → get_or us a 0 ≡ get_or ws a 0
    pub taken : taken_of us i ≡ n
    pub few : held_count_of us i ≡ held_count_of ws i
    pub held : held_of us i ≡ held_of ws i
    pub inbox : inbox_of us i ≡ push there (letter_of l) (inbox_of ws i)

  finish : (there : Bool) (us : List ℕ) → Begun there us → count_of us i + length (released n (held_of ws i)) ≤ 48 → Joined there (released_words us i n)
  finish there us b room =
      let f : held_count_of us i ≤ 16 = omega (arith, b.few) in
      let r : count_of us i + length (released n (held_of us i)) ≤ 48 = rw b.held room in
      record {
        out = record {
          long = release_long us i n card b.long f r;
          low = λ a h. release_low us i n card b.long f r a (omega arith) ∙ b.low a h;
          high = λ a h. release_high us i n card b.long f r a h ∙ b.high a h;
        };
        taken = release_low us i n card b.long f r (taken_word i) (omega arith) ∙ b.taken;
        held = release_held us i n card b.long f r ∙ ap (kept n) b.held;
        inbox = release_inbox us i n card b.long f r ∙ ap₂ (λ p q. p ++ released n q) b.inbox b.held;
      }

  pub begun_out : Begun false numbered
  begun_out = record {
    long = one_long;
    low = λ a h. one_word a (omega arith);
    high = λ a h. one_word a (omega arith);
    taken = get_or-set_same ws (taken_word i) n 0 (omega arith);
    few = one_word (held_word i) (omega arith);
    held = one_held;
    inbox = one_inbox;
  }

  module _ (room : count_of ws i < 48) where
    pub one_room : count_of numbered i < 48
    one_room = rw (one_word (count_word i) (omega arith)) room

    two_word : (a : ℕ) → a ≢ count_word i → ((k : ℕ) → k < 2 → a ≢ place_of numbered i (count_of numbered i) + k)
        → get_or (pushed numbered i l) a 0 ≡ get_or numbered a 0
    two_word = pushed_word numbered i l one_long card one_room

    pub begun_in : Begun true (pushed numbered i l)
    unfolding held_of
    begun_in =
        let f : held_count_of (pushed numbered i l) i ≡ held_count_of numbered i = two_word (held_word i) (omega arith) (λ k g. omega arith) in
        let m : held_count_of numbered i ≤ 16 = omega (arith, one_word (held_word i) (omega arith)) in
        record {
          long = pushed_long numbered i l one_long card one_room;
          low = λ a h. two_word a (omega arith) (λ k g. omega arith) ∙ one_word a (omega arith);
          high = λ a h. two_word a (omega arith) (λ k g. omega arith) ∙ one_word a (omega arith);
          taken = two_word (taken_word i) (omega arith) (λ k g. omega arith) ∙ get_or-set_same ws (taken_word i) n 0 (omega arith);
          few = f ∙ one_word (held_word i) (omega arith);
          held = rw f (push_held numbered i l one_long card one_room (held_count_of numbered i) m) ∙ one_held;
          inbox = push_appends numbered i l one_long card one_room ∙ ap (◌++ (letter_of l ∷ [])) one_inbox;
        }

  pub joined_shows : (there : Bool) → count_of ws i + length (released n (held_of ws i)) + cond there 1 0 ≤ 48 → Joined there (joined ws i n l there)
  unfolding joined
  joined_shows true room =
      let c = pushed_count numbered i l one_long card (one_room (omega arith)) in
      let d = one_word (count_word i) (omega arith) in
      finish true (pushed numbered i l) (begun_in (omega arith)) (omega arith)
  joined_shows false room = let d = one_word (count_word i) (omega arith) in finish false numbered begun_out (omega arith)

-- where there is a next broadcast and room, the words left show the idealised step
module _ (ws : List ℕ) (w : ChannelState Letter) (z : Sized ws) (v : Shows ws w) (i : ℕ) (card : i < cards_of ws) (more : taken_of ws i < made_of ws) where
  -- the next broadcast
  pub next_is : nth w.sent (w.taken i) ≡ some (next_letter ws i)
  next_is = rw (v.taken= i card) (v.sent= (taken_of ws i) more (z.near i card).1)

  pub take_shows : count_of ws i + length (released (taken_of ws i + 1) (held_of ws i)) + cond (next_there ws i) 1 0 ≤ 48
      → Shows (joined ws i (taken_of ws i + 1) (next_packet ws i) (next_there ws i)) (taking letter_mail w i (some (next_letter ws i)))
  take_shows room =
      let n : ℕ = taken_of ws i + 1 in
      let l : Packet = next_packet ws i in
      let c8 : i < 8 = omega (arith, cards_most ws) in
      let j = joined_shows ws i n l c8 z.long (z.helds i card) (next_there ws i) room in
      let e : suc (w.taken i) ≡ n = ap suc (v.taken= i card) ∙ sym (add-one (taken_of ws i)) in
      let y : eqb i i ≡ true = eqb_refl i in
      card_shows ws (joined ws i n l (next_there ws i)) w (taking letter_mail w i (some (letter_of l))) i card z.helds v j.out
      refl (λ t. refl)
      (λ k q. (rw (eqb_not q), rw (eqb_not q), rw (eqb_not q)))
      (rw y (e ∙ sym j.taken))
      (rw (y, e, v.held= i card) (sym j.held))
      (rw (y, e, v.inbox= i card, v.held= i card) (sym j.inbox))
