-- `begin` leaves a well-sized memory that shows the initial state.
use Prim.Native.Nat.{ℕ, zero, suc, ◌≤◌}
use mathlib.Core.Path.{◌≡◌, refl, sym, ◌∙◌}
use mathlib.Core.Bool.{true}
use mathlib.Core.List.{List}
use native.Mathlib.Omega.{arith}
use lib.ListN.{replicate, length-replicate, length, get_or, set, length-set}
use lib.Seq.{get_or-set_same, get_or-set_other}
use Rattle.lists.specs.Tests.{and_intro}
use Rattle.lists.specs.Listings.{listing}
use Rattle.automaton.specs.State.{initial_channel}
use Rattle.names.specs.Letters.{kind_in}
use Rattle.channel.specs.Layout.{channel_words, taken_word, head_word, count_word, held_word, flight_block}
use Rattle.channel.specs.Begin.{sizes_fit, begun}
use Rattle.channel.specs.TakeSingle.{no_flight}
use Rattle.channel.specs.Sized.{flight_fits, head_fits}
use Rattle.channel.specs.Shows.{inbox_of, held_of, flight_of, Shows}
use Rattle.channel.proofs.WellSizedParts.{Fit}

abbrev blank : List ℕ
blank = replicate channel_words 0

zeros : (n a : ℕ) → get_or (replicate {A = ℕ} n 0) a 0 ≡ 0
zeros zero a = refl
zeros (suc n) zero = refl
zeros (suc n) (suc a) = zeros n a

blank_long : length blank ≡ channel_words
blank_long = length-replicate {A = ℕ} channel_words 0

module _ (cards tasks registers : ℕ) (ok : sizes_fit cards tasks registers ≡ true) where
  abbrev ws : List ℕ
  ws = begun cards tasks registers

  pub begun_long : length ws ≡ channel_words
  unfolding begun
  begun_long = simp (length-set, blank_long)

  -- every other word is zero
  nothing : (a : ℕ) → 3 ≤ a → get_or ws a 0 ≡ 0
  unfolding begun
  nothing a h =
      get_or-set_other (set (set blank 0 cards) 1 tasks) 2 a registers 0 (omega arith)
      ∙ get_or-set_other (set blank 0 cards) 1 a tasks 0 (omega arith)
      ∙ get_or-set_other blank 0 a cards 0 (omega arith) ∙ zeros channel_words a

  pub cards_is : get_or ws 0 0 ≡ cards
  unfolding begun
  cards_is =
      get_or-set_other (set (set blank 0 cards) 1 tasks) 2 0 registers 0 (omega arith)
      ∙ get_or-set_other (set blank 0 cards) 1 0 tasks 0 (omega arith)
      ∙ get_or-set_same blank 0 cards 0 (omega (arith, blank_long))

  pub tasks_is : get_or ws 1 0 ≡ tasks
  unfolding begun
  tasks_is =
      get_or-set_other (set (set blank 0 cards) 1 tasks) 2 1 registers 0 (omega arith)
      ∙ get_or-set_same (set blank 0 cards) 1 tasks 0 (omega (arith, blank_long, length-set blank 0 cards))

  pub registers_is : get_or ws 2 0 ≡ registers
  unfolding begun
  registers_is =
      get_or-set_same (set (set blank 0 cards) 1 tasks) 2 registers 0
      (omega (arith, blank_long, length-set blank 0 cards, length-set (set blank 0 cards) 1 tasks))

  pub begun_shows : Shows ws initial_channel
  unfolding inbox_of held_of flight_of no_flight kind_in listing
  begun_shows =
      let m = nothing 3 (omega arith) in
      record {
        made= = sym m;
        sent= = λ n p q. absurd (omega arith);
        taken= = λ i c. sym (nothing (taken_word i) (omega arith));
        flight= = λ t h. rw (nothing (flight_block t) (omega arith));
        held= = λ i c. rw (nothing (held_word i) (omega arith));
        inbox= = λ i c. rw (nothing (count_word i) (omega arith));
      }

  pub begun_fit : Fit ws
  unfolding head_fits flight_fits no_flight kind_in
  begun_fit =
      let m = nothing 3 (omega arith) in
      record {
        sizes = rw (cards_is, tasks_is, registers_is, m) (and_intro ok refl);
        card = λ i c.
            let et = nothing (taken_word i) (omega arith) in
            let eh = nothing (head_word i) (omega arith) in
            let ec = nothing (count_word i) (omega arith) in
            let ed = nothing (held_word i) (omega arith) in
            record {
              behind = omega arith;
              near = omega arith;
              head = omega arith;
              count = omega arith;
              held = omega arith;
              inbox = λ k h. absurd (omega arith);
              helds = λ k h. absurd (omega arith);
            };
        flight = λ t h. rw (nothing (flight_block t) (omega arith));
        recent = λ k p h. absurd (omega arith);
      }
