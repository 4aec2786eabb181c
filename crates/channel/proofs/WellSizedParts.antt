-- Well-sizedness, place by place, and where only some words change.
use Prim.Native.Nat.{ℕ, ◌+◌, ◌-◌, ◌%◌, ◌<◌, ◌≤◌, min}
use mathlib.Core.Path.{◌≡◌, ap, ◌∙◌}
use mathlib.Core.Bool.{true}
use mathlib.Core.List.{List}
use native.Mathlib.Decide.{dec_lt}
use native.Mathlib.Omega.{arith}
use borrow.Author.Tests.{ltb-true, leb-true, lt-ltb, le-ltb, le-leb}
use lib.Dec.{ltb, leb}
use lib.ListN.{get_or}
use Rattle.lists.specs.Tests.{and_intro}
use Rattle.lists.specs.Conjunctions.{and_three, and_four, and_five}
use Rattle.lists.specs.Every.{each, each_at, each_of}
use Rattle.names.specs.declared.Letter.{Letter}
use Rattle.names.specs.declared.Packet.{Packet}
use Rattle.automaton.specs.MostBehind.{most_behind, keeps_up}
use Rattle.automaton.proofs.KeepsUp.{keeps_up_lem, kept_up}
use Rattle.channel.specs.Layout.{taken_word, head_word, count_word, held_word, held_block, flight_block, broadcast_block, cards_of, tasks_of, made_of, taken_of, head_of, count_of, held_count_of, place_of}
use Rattle.names.specs.Letters.{letter_of, packet_at}
use Rattle.channel.specs.Letters.{addressed, fits}
use Rattle.channel.specs.TakeSingle.{no_flight}
use Rattle.channel.specs.Sized.{packet_fits, block_fits, tagged_fits, inbox_fits, held_fits, flight_fits, broadcast_fits, counts_fit, card_fits, first_recent, recent_fits, head_fits, well_sized}
use Rattle.channel.specs.MemoryCalls.{SameSizes}
use Rattle.names.proofs.Blocks.{packet_cong, letter_cong}
use Rattle.channel.proofs.SizedFacts.{cards_words, tasks_words, registers_words}

-- card i's part, where m broadcasts are made
pub record CardFit (ws : List ℕ) (m i : ℕ) : Type 0 where
  pub behind : taken_of ws i ≤ m
  pub near : m ≤ taken_of ws i + most_behind
  pub head : head_of ws i < 48
  pub count : count_of ws i ≤ 48
  pub held : held_count_of ws i ≤ 16
  pub inbox : (k : ℕ) → k < count_of ws i → inbox_fits ws i k ≡ true
  pub helds : (k : ℕ) → k < held_count_of ws i → held_fits ws i k ≡ true

pub record Fit (ws : List ℕ) : Type 0 where
  pub sizes : head_fits ws ≡ true
  pub card : (i : ℕ) → i < cards_of ws → CardFit ws (made_of ws) i
  pub flight : (t : ℕ) → t < tasks_of ws → flight_fits ws t ≡ true
  pub recent : (k : ℕ) → k < made_of ws → k < most_behind → broadcast_fits ws (made_of ws - k) ≡ true

card_fit : (ws : List ℕ) (i : ℕ) → card_fits ws i ≡ true → CardFit ws (made_of ws) i
unfolding card_fits counts_fit
card_fit ws i e =
    let u = and_three (counts_fit ws i) (each (min (count_of ws i) 48) (inbox_fits ws i)) (each (min (held_count_of ws i) 16) (held_fits ws i)) e in
    let a =
    and_five (leb (taken_of ws i) (made_of ws)) (keeps_up (made_of ws) (taken_of ws i)) (ltb (head_of ws i) 48) (leb (count_of ws i) 48) (leb (held_count_of ws i) 16)
    u.0 in
    let c : count_of ws i ≤ 48 = leb-true _ _ a.3 in
    let h : held_count_of ws i ≤ 16 = leb-true _ _ a.4 in
    let mc : min (count_of ws i) 48 ≡ count_of ws i = omega arith in
    let mh : min (held_count_of ws i) 16 ≡ held_count_of ws i = omega arith in
    record {
      behind = leb-true _ _ a.0;
      near = kept_up _ _ a.1;
      head = ltb-true _ _ a.2;
      count = c;
      held = h;
      inbox = each_at (count_of ws i) (inbox_fits ws i) (rw mc at u.1);
      helds = each_at (held_count_of ws i) (held_fits ws i) (rw mh at u.2);
    }

fit_card : (ws : List ℕ) (i : ℕ) → CardFit ws (made_of ws) i → card_fits ws i ≡ true
unfolding card_fits counts_fit
fit_card ws i f =
    let mc : min (count_of ws i) 48 ≡ count_of ws i = omega (arith, f.count) in
    let mh : min (held_count_of ws i) 16 ≡ held_count_of ws i = omega (arith, f.held) in
    and_intro (and_intro
    (and_intro (and_intro (and_intro (and_intro (le-leb _ _ f.behind) (keeps_up_lem _ _ f.near)) (lt-ltb _ _ f.head)) (le-leb _ _ f.count)) (le-leb _ _ f.held))
    (rw mc (each_of (count_of ws i) (inbox_fits ws i) f.inbox)))
    (rw mh (each_of (held_count_of ws i) (held_fits ws i) f.helds))

-- the place of the last k-th broadcast, and which broadcast is at a place
pub recent_place : (ws : List ℕ) (k : ℕ) → k < made_of ws → k < most_behind
    → (j : ℕ) × (j < min (made_of ws) most_behind) × (broadcast_block (made_of ws - k) ≡ broadcast_block (first_recent ws + j))
recent_place ws k m h = go (dec_lt (made_of ws) most_behind)
  where
    go : Dec (made_of ws < most_behind) → (j : ℕ) × (j < min (made_of ws) most_behind) × (broadcast_block (made_of ws - k) ≡ broadcast_block (first_recent ws + j))
    go (yes l) = (made_of ws - k - 1, omega arith, rw (lt-ltb (made_of ws) most_behind l) (omega arith))
    go (no g) = ((made_of ws - k) % most_behind, omega arith, rw (le-ltb (made_of ws) most_behind (omega arith)) (omega arith))

pub recent_number : (ws : List ℕ) (j : ℕ) → j < min (made_of ws) most_behind
    → (k : ℕ) × (k < made_of ws) × (k < most_behind) × (broadcast_block (first_recent ws + j) ≡ broadcast_block (made_of ws - k))
recent_number ws j h = go (dec_lt (made_of ws) most_behind)
  where
    go : Dec (made_of ws < most_behind) → (k : ℕ) × (k < made_of ws) × (k < most_behind) × (broadcast_block (first_recent ws + j) ≡ broadcast_block (made_of ws - k))
    go (yes l) = (made_of ws - (j + 1), omega arith, omega arith, rw (lt-ltb (made_of ws) most_behind l) (omega arith))
    go (no g) = ((made_of ws - j) % most_behind, omega arith, omega arith, rw (le-ltb (made_of ws) most_behind (omega arith)) (omega arith))

pub fit_of : (ws : List ℕ) → well_sized ws ≡ true → Fit ws
unfolding well_sized recent_fits broadcast_fits
fit_of ws e =
    let u = and_four (head_fits ws) (each (cards_of ws) (card_fits ws)) (each (tasks_of ws) (flight_fits ws)) (each (min (made_of ws) most_behind) (recent_fits ws)) e in
    record {
      sizes = u.0;
      card = λ i c. card_fit ws i (each_at (cards_of ws) (card_fits ws) u.1 i c);
      flight = each_at (tasks_of ws) (flight_fits ws) u.2;
      recent = λ k m h.
          let x = recent_place ws k m h in
          rw x.2 (each_at (min (made_of ws) most_behind) (recent_fits ws) u.3 x.0 x.1);
    }

pub of_fit : (ws : List ℕ) → Fit ws → well_sized ws ≡ true
unfolding well_sized recent_fits broadcast_fits
of_fit ws f =
    and_intro (and_intro (and_intro f.sizes
    (each_of (cards_of ws) (card_fits ws) (λ i c. fit_card ws i (f.card i c))))
    (each_of (tasks_of ws) (flight_fits ws) f.flight))
    (each_of (min (made_of ws) most_behind) (recent_fits ws) (λ k h. let x = recent_number ws k h in rw x.3 (f.recent x.0 x.1 x.2)))

-- ---- words that agree

-- of a block
pub block_words : (cs us ws : List ℕ) (b : ℕ) → ((k : ℕ) → k < 2 → get_or us (b + k) 0 ≡ get_or ws (b + k) 0) → block_fits cs us b ≡ block_fits cs ws b
block_words cs us ws b e = ap (packet_fits cs) (packet_cong us ws b e)

module _ (us ws : List ℕ) (s : SameSizes us ws) where
  pub same_cards : cards_of us ≡ cards_of ws
  same_cards = cards_words us ws s.cards

  pub same_tasks : tasks_of us ≡ tasks_of ws
  same_tasks = tasks_words us ws s.tasks

  pub fits_same : (l : Letter) → fits us l ≡ fits ws l
  unfolding fits addressed
  fits_same l = rw (same_cards, same_tasks, registers_words us ws s.registers)

  -- where only the sizes' memory is another
  pub packet_sizes : (p : Packet) → packet_fits us p ≡ packet_fits ws p
  unfolding packet_fits
  packet_sizes p = rw (fits_same (letter_of p))

  -- block b
  pub block_same : (b : ℕ) → ((k : ℕ) → k < 2 → get_or us (b + k) 0 ≡ get_or ws (b + k) 0) → block_fits us us b ≡ block_fits ws ws b
  block_same b e = block_words us us ws b e ∙ packet_sizes (packet_at ws b)

  -- and its tag
  pub tagged_same : (b : ℕ) → ((k : ℕ) → k < 3 → get_or us (b + k) 0 ≡ get_or ws (b + k) 0) → tagged_fits us b ≡ tagged_fits ws b
  unfolding tagged_fits
  tagged_same b e = rw (block_same b (λ k h. e k (omega arith)), e 2 (omega arith))

  pub flight_same : (t : ℕ) → ((a : ℕ) → flight_block t ≤ a → a < flight_block (t + 1) → get_or us a 0 ≡ get_or ws a 0) → flight_fits us t ≡ flight_fits ws t
  unfolding flight_fits no_flight
  flight_same t e =
      let g : (k : ℕ) → k < 3 → get_or us (flight_block t + k) 0 ≡ get_or ws (flight_block t + k) 0 = λ k h. e _ (omega arith) (omega arith) in
      rw (tagged_same (flight_block t) g, letter_cong us ws (flight_block t) (λ k h. g k (omega arith)), e (flight_block t) (omega arith) (omega arith))

  pub broadcast_same : (n : ℕ) → ((a : ℕ) → broadcast_block n ≤ a → a < broadcast_block n + 2 → get_or us a 0 ≡ get_or ws a 0)
      → broadcast_fits us n ≡ broadcast_fits ws n
  unfolding broadcast_fits
  broadcast_same n e =
      let g : (k : ℕ) → k < 2 → get_or us (broadcast_block n + k) 0 ≡ get_or ws (broadcast_block n + k) 0 = λ k h. e _ (omega arith) (omega arith) in
      rw (block_same (broadcast_block n) g, letter_cong us ws (broadcast_block n) g)

  -- card j's part
  pub card_same : (m j : ℕ) → ((a : ℕ) → taken_word j ≤ a → a < taken_word (j + 1) → get_or us a 0 ≡ get_or ws a 0) → CardFit ws m j → CardFit us m j
  unfolding inbox_fits held_fits
  card_same m j e f =
      let et : taken_of us j ≡ taken_of ws j = e (taken_word j) (omega arith) (omega arith) in
      let eh : head_of us j ≡ head_of ws j = e (head_word j) (omega arith) (omega arith) in
      let ec : count_of us j ≡ count_of ws j = e (count_word j) (omega arith) (omega arith) in
      let ed : held_count_of us j ≡ held_count_of ws j = e (held_word j) (omega arith) (omega arith) in
      record {
        behind = rw et f.behind;
        near = rw et f.near;
        head = rw eh f.head;
        count = rw ec f.count;
        held = rw ed f.held;
        inbox = λ k h.
            let g : (q : ℕ) → q < 2 → get_or us (place_of ws j k + q) 0 ≡ get_or ws (place_of ws j k + q) 0 = λ q r. e _ (omega arith) (omega arith) in
            rw (eh, block_same (place_of ws j k) g) (f.inbox k (rw (← ec) h));
        helds = λ k h.
            let d : k < 16 = omega (arith, f.held) in
            let g : (q : ℕ) → q < 3 → get_or us (held_block j k + q) 0 ≡ get_or ws (held_block j k + q) 0 = λ q r. e _ (omega arith) (omega arith) in
            rw (tagged_same (held_block j k) g) (f.helds k (rw (← ed) h));
      }
