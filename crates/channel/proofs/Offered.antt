-- What a layer above may rely on, in the words of the definitions that the functions' contracts cite. With OfferedCalls, the only laws of
-- this crate that it may cite; so laws from inside are offered here by name.
use Prim.Native.Nat.{ℕ, zero, suc, ◌+◌, ◌<◌}
use mathlib.Core.Path.{◌≡◌, refl, ◌∙◌}
use mathlib.Core.Bool.{true}
use mathlib.Core.List.{List, [], ◌∷◌}
use mathlib.Core.Option.{some}
use native.Mathlib.Omega.{arith}
use borrow.Author.Tests.{lt-ltb}
use lib.Dec.{leb}
use lib.ListN.{length}
use Rattle.lists.specs.Tests.{and_intro}
use Rattle.lists.specs.Listings.{listing, listing_zero, listing_cons, listing_length}
use Rattle.lists.specs.Places.{nth}
use Rattle.names.specs.declared.Card.{Card}
use Rattle.names.specs.declared.Letter.{Letter}
use Rattle.names.specs.Letters.{packet_at, letter_at}
use Rattle.automaton.specs.State.{ChannelState}
use Rattle.channel.specs.Layout.{channel_words, broadcast_block, cards_of, registers_of, made_of, taken_of, count_of, place_of}
use Rattle.channel.specs.Letters.{fits}
use Rattle.channel.specs.Begin.{sizes_fit, begin_memory}
use Rattle.channel.specs.Inbox.{receive_answer}
use Rattle.channel.specs.Sized.{inbox_fits, well_sized}
use Rattle.channel.specs.Shows.{inbox_of, held_of, flight_of, Shows}
use Rattle.channel.specs.MemoryCalls.{SameSizes, memory_after, handed_up}
use Rattle.channel.proofs.SizedFacts.{registers_words}
pub use Rattle.channel.proofs.SizedFacts.{cards_most, tasks_most, registers_most}
use Rattle.channel.proofs.WellSizedParts.{Fit, fit_of}
pub use Rattle.channel.proofs.WellSizedParts.{same_cards, same_tasks, fits_same, block_words, packet_sizes}
pub use Rattle.channel.proofs.Destinations.{member_present}
use Rattle.channel.proofs.FitKept.{sized_of}
pub use Rattle.channel.proofs.FitQueues.{put_packet, put_fits}
pub use Rattle.channel.proofs.LetterFits.{Fits, fits_is, fits_of, fits_packs, carried_fits, packet_letter, word_fits_at, limits_are}
pub use Rattle.channel.proofs.IllSized.{block_exact, channel_exact}
use Rattle.channel.proofs.Receiving.{receive_answer_lem}
use Rattle.channel.proofs.ChannelLaw.{channel_follows}
pub use Rattle.channel.proofs.ChannelLaw.{begin_follows}

pub same_registers : (us ws : List ℕ) → SameSizes us ws → registers_of us ≡ registers_of ws
same_registers us ws s = registers_words us ws s.registers

-- the sizes of RULES 1.3
pub sizes_fit_lem : (cards tasks registers : ℕ) → leb 1 cards ≡ true → leb cards 8 ≡ true → leb 1 tasks ≡ true → leb tasks 16 ≡ true → leb 1 registers ≡ true
    → leb registers 32 ≡ true → sizes_fit cards tasks registers ≡ true
unfolding sizes_fit
sizes_fit_lem cards tasks registers a b c d e f = and_intro (and_intro (and_intro (and_intro (and_intro a b) c) d) e) f

-- ---- a well-sized memory

module _ (ws : List ℕ) (w : ChannelState Letter) (long : length ws ≡ channel_words) (ok : well_sized ws ≡ true) (v : Shows ws w) where
  -- what receiving finds
  pub hands : (card : Card) → card.0 < cards_of ws → receive_answer ws card ≡ handed_up (w.inbox card.0)
  hands card h = receive_answer_lem ws w (sized_of ws long (fit_of ws ok)) v card ∙ rw (lt-ltb card.0 (cards_of ws) h)

  -- the head of an inbox fits
  pub head_fits_lem : (i : ℕ) → i < cards_of ws → (l : Letter) (r : List Letter) → w.inbox i ≡ l ∷ r → fits ws l ≡ true
  unfolding inbox_of inbox_fits
  head_fits_lem i h l r e = go (count_of ws i) refl
    where
      f : Fit ws
      f = fit_of ws ok

      go : (n : ℕ) → count_of ws i ≡ n → fits ws l ≡ true
      go zero c =
          let z : inbox_of ws i ≡ [] = rw c (listing_zero _) in
          let q : ◌≡◌ {A = ℕ} 0 1 = cc (v.inbox= i h, e, z) in
          absurd (omega arith)
      go (suc n) c =
          let s : inbox_of ws i ≡ letter_at ws (place_of ws i 0) ∷ listing (λ k. letter_at ws (place_of ws i (suc k))) n = rw c (listing_cons _ n) in
          let q : l ≡ letter_at ws (place_of ws i 0) = cc (v.inbox= i h, e, s) in
          rw q (packet_letter ws (packet_at ws (place_of ws i 0)) ((f.card i h).inbox 0 (omega arith)))

-- ---- any memory shows a state

nth_listing : (f : ℕ → Letter) (n k : ℕ) → k < n → nth (listing f n) k ≡ some (f k)
nth_listing f zero k h = absurd (omega arith)
nth_listing f (suc n) zero h = rw (listing_cons f n)
nth_listing f (suc n) (suc k) h = rw (listing_cons f n) (nth_listing (λ m. f (suc m)) n k (omega arith))

pub shown : (ws : List ℕ) → (w : ChannelState Letter) × Shows ws w
shown ws = (
  record {
    sent = listing (λ n. letter_at ws (broadcast_block (n + 1))) (made_of ws);
    taken = taken_of ws;
    flight = flight_of ws;
    held = held_of ws;
    inbox = inbox_of ws;
  },
  record {
    made= = listing_length (λ n. letter_at ws (broadcast_block (n + 1))) (made_of ws);
    sent= = λ n h g. nth_listing (λ n. letter_at ws (broadcast_block (n + 1))) (made_of ws) n h;
    taken= = λ i h. refl;
    flight= = λ t h. refl;
    held= = λ i h. refl;
    inbox= = λ i h. refl;
  },
)

-- ---- a memory just begun

module _ (ws : List ℕ) (cards tasks registers : ℕ) (ok : sizes_fit cards tasks registers ≡ true) where
  pub begun_sized : well_sized (begin_memory ws cards tasks registers) ≡ true
  unfolding memory_after
  begun_sized = (channel_follows ws cards tasks registers ok []).sized

  pub begun_length : length (begin_memory ws cards tasks registers) ≡ channel_words
  unfolding memory_after
  begun_length = (channel_follows ws cards tasks registers ok []).long

-- whatever was there before
pub begun_same : (ws us : List ℕ) (cards tasks registers : ℕ) → sizes_fit cards tasks registers ≡ true → begin_memory ws cards tasks registers ≡ begin_memory us cards tasks registers
unfolding begin_memory
begun_same ws us cards tasks registers ok = rw ok
