-- What follows from well-sizedness, and that it is kept where only one card's part changes.
use Prim.Native.Nat.{ℕ, ◌-◌, ◌<◌, ◌≤◌}
use mathlib.Core.Path.{◌≡◌, refl, sym, ◌∙◌, subst}
use mathlib.Core.Bool.{Bool, true, false, ◌&&◌, ◌||◌}
use mathlib.Core.List.{List}
use native.Mathlib.Decide.{ℕ_discrete}
use native.Mathlib.Omega.{arith}
use lib.ListN.{length}
use Rattle.lists.specs.Tests.{clash, and_fst, and_snd}
use Rattle.names.specs.CardSet.{single, sole_of}
use Rattle.names.specs.declared.Letter.{Letter}
use Rattle.names.specs.declared.Packet.{Packet}
use Rattle.channel.specs.Layout.{channel_words, made_word, flight_block, cards_of, made_of}
use Rattle.names.specs.Letters.{letter_of, packet_at, letter_at}
use Rattle.channel.specs.TakeSingle.{no_flight, flight_tag}
use Rattle.channel.specs.Sized.{packet_fits, tagged_fits, flight_fits, head_fits}
use Rattle.channel.proofs.Destinations.{sole_present}
use Rattle.channel.proofs.SizedFacts.{Sized, cards_most}
use Rattle.channel.proofs.Frame.{Outside, outside_word}
use Rattle.channel.specs.MemoryCalls.{SameSizes}
use Rattle.channel.proofs.WellSizedParts.{CardFit, Fit, same_cards, same_tasks, flight_same, broadcast_same, card_same}
use Rattle.channel.proofs.LetterFits.{fits_to, fits_small, packet_letter, tagged_packet, tagged_small}

-- a message in flight
pub record FlightPacket (ws : List ℕ) (t : ℕ) (p : Packet) : Type 0 where
  pub fit : packet_fits ws p ≡ true
  pub one : single (letter_of p).to ≡ true
  pub present : sole_of (letter_of p).to < cards_of ws
  pub small : flight_tag ws t ≤ 65535

or_right : (a b : Bool) → (a || b) ≡ true → a ≡ false → b ≡ true
or_right true b e f = absurd (clash refl f)
or_right false b e f = e

pub flight_packet_lem : (ws : List ℕ) (t : ℕ) → flight_fits ws t ≡ true → no_flight ws t ≡ false → FlightPacket ws t (packet_at ws (flight_block t))
unfolding flight_fits
flight_packet_lem ws t e n =
    let l : Letter = letter_at ws (flight_block t) in
    let u = or_right (no_flight ws t) (tagged_fits ws (flight_block t) && single l.to) e n in
    let b = and_fst (tagged_fits ws (flight_block t)) (single l.to) u in
    let o = and_snd (tagged_fits ws (flight_block t)) (single l.to) u in
    let p = tagged_packet ws (flight_block t) b in
    let f = packet_letter ws (packet_at ws (flight_block t)) p in
    record {
      fit = p;
      one = o;
      present = sole_present l.to (fits_small ws l f) o (cards_of ws) (fits_to ws l f);
      small = tagged_small ws (flight_block t) b;
    }

pub sized_of : (ws : List ℕ) → length ws ≡ channel_words → Fit ws → Sized ws
sized_of ws long f = record {
  long = long;
  counts = λ i c. (f.card i c).count;
  helds = λ i c. (f.card i c).held;
  near = λ i c. ((f.card i c).behind, (f.card i c).near);
  flights = λ t h n. let x = flight_packet_lem ws t (f.flight t h) n in (x.one, x.present);
}

-- ---- words that agree

pub head_same : (us ws : List ℕ) → SameSizes us ws → made_of us ≡ made_of ws → head_fits us ≡ head_fits ws
unfolding head_fits
head_same us ws s e = rw (s.cards, s.tasks, s.registers, e)

pub outside_sizes : (i : ℕ) (us ws : List ℕ) → Outside i us ws → SameSizes us ws
outside_sizes i us ws o = record { cards = o.low 0 (omega arith); tasks = o.low 1 (omega arith); registers = o.low 2 (omega arith) }

-- only card i's part changed
pub card_keeps : (us ws : List ℕ) (i : ℕ) → i < cards_of ws → Outside i us ws → Fit ws → CardFit us (made_of ws) i → Fit us
card_keeps us ws i card o f g =
    let s = outside_sizes i us ws o in
    let i8 : i < 8 = omega (arith, cards_most ws) in
    let m : made_of us ≡ made_of ws = o.low made_word (omega arith) in
    record {
      sizes = head_same us ws s m ∙ f.sizes;
      card = λ j c. rw m (one s j (rw (← same_cards us ws s) c));
      flight = λ t h. flight_same us ws s t (λ a p q. o.high a (omega arith)) ∙ f.flight t (rw (← same_tasks us ws s) h);
      recent = λ k p h. rw m (broadcast_same us ws s (made_of ws - k) (λ a u v. o.high a (omega arith)) ∙ f.recent k (rw (← m) p) h);
    }
  where
    one : SameSizes us ws → (j : ℕ) → j < cards_of ws → CardFit us (made_of ws) j
    one s j c = go (ℕ_discrete j i)
      where
        go : Dec (j ≡ i) → CardFit us (made_of ws) j
        go (yes e) = subst (CardFit us (made_of ws)) (sym e) g
        go (no n) = card_same us ws s (made_of ws) j (λ a p q. outside_word i us ws o j a n p q) (f.card j c)

-- ---- what a call keeps of a memory: it is well sized, of the same length and of the same sizes

pub record Kept (us ws : List ℕ) : Type 0 where
  pub fit : Fit us
  pub long : length us ≡ channel_words
  pub sizes : SameSizes us ws

pub unchanged : (ws : List ℕ) → length ws ≡ channel_words → Fit ws → Kept ws ws
unchanged ws l f = record { fit = f; long = l; sizes = record { cards = refl; tasks = refl; registers = refl } }
