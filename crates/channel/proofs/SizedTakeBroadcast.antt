-- `take_broadcast` keeps the memory well sized.
use Prim.Native.Nat.{ℕ, ◌+◌, ◌-◌, ◌<◌, ◌≤◌}
use mathlib.Core.Path.{◌≡◌, refl, sym, ap, ◌∙◌}
use mathlib.Core.Bool.{Bool, true, false, cond}
use mathlib.Core.Logic.{◌≢◌}
use mathlib.Core.List.{List}
use native.Mathlib.Omega.{arith}
use lib.ListN.{length, get_or, length-append}
use Rattle.lists.specs.Tests.{and_fst}
use Rattle.lists.specs.Queues.{push}
use Rattle.names.specs.CardSet.{several}
use Rattle.names.specs.declared.Card.{Card}
use Rattle.names.specs.declared.Packet.{Packet}
use Rattle.names.specs.Letters.{letter_of}
use Rattle.automaton.specs.State.{released}
use Rattle.automaton.specs.MostBehind.{most_behind}
use Rattle.channel.specs.Layout.{channel_words, taken_word, head_word, count_word, held_word, cards_of, made_of, taken_of, head_of, count_of, held_count_of}
use Rattle.channel.specs.Inbox.{pushed}
use Rattle.channel.specs.Answers.{is_done}
use Rattle.channel.specs.TakeBroadcast.{released_words, joined, next_packet, next_letter, next_there, take_answer, take_memory}
use Rattle.channel.specs.Sized.{packet_fits, broadcast_fits}
use Rattle.channel.specs.Shows.{inbox_of, held_of}
use Rattle.channel.proofs.InboxRing.{pushed_word, pushed_count, pushed_head}
use Rattle.channel.proofs.Release.{release_low}
use Rattle.channel.proofs.SizedFacts.{cards_most}
use Rattle.channel.proofs.Taking.{numbered, one_word, one_long, one_room, begun_out, begun_in, joined_shows}
use Rattle.channel.proofs.TakeBroadcastLaw.{inbox_length, push_length, Took, took}
use Rattle.channel.specs.MemoryCalls.{SameSizes}
use Rattle.channel.proofs.WellSizedParts.{Fit, packet_sizes}
use Rattle.channel.proofs.FitQueues.{BoxFit, HeldFit, box_same, push_sizes, push_box, held_same}
use Rattle.channel.proofs.FitRelease.{sizes_trans, release_few, release_box, release_fit}
use Rattle.channel.proofs.FitKept.{Kept, unchanged, outside_sizes, sized_of, card_keeps}

-- the next broadcast that a card takes fits
pub next_fits : (ws : List ℕ) → Fit ws → (i : ℕ) → i < cards_of ws → taken_of ws i < made_of ws → packet_fits ws (next_packet ws i) ≡ true
unfolding broadcast_fits
next_fits ws f i c more =
    let x = f.card i c in
    let near : made_of ws ≤ taken_of ws i + most_behind = x.near in
    let e : made_of ws - (made_of ws - (taken_of ws i + 1)) ≡ taken_of ws i + 1 = omega arith in
    let b = rw e at (f.recent (made_of ws - (taken_of ws i + 1)) (omega arith) (omega arith)) in
    and_fst (packet_fits ws (next_packet ws i)) (several (next_letter ws i).to) b

module _ (ws : List ℕ) (i n : ℕ) (l : Packet) (card : i < 8) (whole : length ws ≡ channel_words) (small : held_count_of ws i ≤ 16)
    (b : BoxFit ws i) (h : HeldFit ws i (held_count_of ws i)) (f : packet_fits ws l ≡ true) where
  abbrev vs : List ℕ
  vs = numbered ws i n l card whole small

  word : (a : ℕ) → a ≢ taken_word i → get_or vs a 0 ≡ get_or ws a 0
  word = one_word ws i n l card whole small

  one_sizes : SameSizes vs ws
  one_sizes = record { cards = word 0 (omega arith); tasks = word 1 (omega arith); registers = word 2 (omega arith) }

  one_box : BoxFit vs i
  one_box = box_same vs ws i one_sizes (word (head_word i) (omega arith)) (word (count_word i) (omega arith)) (λ a p q. word a (omega arith)) b

  one_fit : HeldFit vs i (held_count_of vs i)
  one_fit = rw (word (held_word i) (omega arith)) (held_same vs ws i (held_count_of ws i) one_sizes (λ a p q. word a (omega arith)) h)

  -- the inbox and what is held, after the broadcast and the release
  pub record After (us : List ℕ) : Type 0 where
    pub box : BoxFit us i
    pub few : held_count_of us i ≤ 16
    pub fit : HeldFit us i (held_count_of us i)
    pub head : head_of us i ≡ head_of ws i

  finish : (us : List ℕ) → length us ≡ channel_words → held_count_of us i ≡ held_count_of ws i → held_of us i ≡ held_of ws i → head_of us i ≡ head_of ws i
      → count_of us i + length (released n (held_of ws i)) ≤ 48 → BoxFit us i → HeldFit us i (held_count_of us i) → After (released_words us i n)
  finish us long few held head room x y =
      let g : held_count_of us i ≤ 16 = omega arith in
      let r : count_of us i + length (released n (held_of us i)) ≤ 48 = rw held room in
      record {
        box = release_box us i n card long g r x y;
        few = release_few us i n card long g r x y;
        fit = release_fit us i n card long g r x y;
        head = release_low us i n card long g r (head_word i) (omega arith) ∙ head;
      }

  after : (there : Bool) → count_of ws i + length (released n (held_of ws i)) + cond there 1 0 ≤ 48
      → After (joined ws i n l there)
  unfolding joined
  after true room =
      let r = one_room ws i n l card whole small (omega arith) in
      let long = one_long ws i n l card whole small in
      let p = pushed_word vs i l long card r in
      let g = begun_in ws i n l card whole small (omega arith) in
      let c = pushed_count vs i l long card r in
      let e = word (count_word i) (omega arith) in
      let z = push_sizes vs i l long card r in
      let y : SameSizes (pushed vs i l) ws = sizes_trans (pushed vs i l) vs ws z one_sizes in
      let few : held_count_of vs i ≤ 16 = omega (arith, word (held_word i) (omega arith)) in
      let k : held_count_of (pushed vs i l) i ≡ held_count_of vs i = p (held_word i) (omega arith) (λ q w. omega arith) in
      finish (pushed vs i l) g.long g.few g.held (pushed_head vs i l long card r ∙ word (head_word i) (omega arith)) (omega arith)
      (push_box vs i l long card r (packet_sizes (pushed vs i l) ws y l ∙ f) one_box)
      (rw k (held_same (pushed vs i l) vs i (held_count_of vs i) z (λ a u v. p a (omega arith) (λ q w. omega arith)) one_fit))
  after false room =
      let g = begun_out ws i n l card whole small in
      let e = word (count_word i) (omega arith) in
      finish vs g.long g.few g.held (word (head_word i) (omega arith)) (omega arith) one_box one_fit

module _ (ws : List ℕ) (long : length ws ≡ channel_words) (f : Fit ws) (card : Card) where
  abbrev i : ℕ
  i = card.0

  taken_fit : Took ws card → Kept (joined ws i (taken_of ws i + 1) (next_packet ws i) (next_there ws i)) ws
  taken_fit k =
      let n : ℕ = taken_of ws i + 1 in
      let l : Packet = next_packet ws i in
      let us : List ℕ = joined ws i n l (next_there ws i) in
      let c8 : i < 8 = omega (arith, cards_most ws, k.there) in
      let x = f.card i k.there in
      let near : made_of ws ≤ taken_of ws i + most_behind = x.near in
      let more : taken_of ws i < made_of ws = k.more in
      let j = joined_shows ws i n l c8 long x.held (next_there ws i) k.room in
      let g = after ws i n l c8 long x.held x.inbox x.helds (next_fits ws f i k.there k.more) (next_there ws i) k.room in
      let t : taken_of us i ≡ taken_of ws i + 1 = j.taken in
      let c : count_of us i ≡ count_of ws i + cond (next_there ws i) 1 0 + length (released n (held_of ws i)) =
      sym (inbox_length us i) ∙ ap length j.inbox ∙ length-append (push (next_there ws i) (letter_of l) (inbox_of ws i)) (released n (held_of ws i))
      ∙ ap (λ (q : ℕ). q + length (released n (held_of ws i)))
      (push_length (next_there ws i) (letter_of l) (inbox_of ws i) ∙ ap (λ (q : ℕ). q + cond (next_there ws i) 1 0) (inbox_length ws i)) in
      record {
        fit = card_keeps us ws i k.there j.out f (record {
          behind = rw t (omega arith);
          near = rw t (omega arith);
          head = rw g.head x.head;
          count = omega (arith, k.room);
          held = g.few;
          inbox = g.box;
          helds = g.fit;
        });
        long = j.out.long;
        sizes = outside_sizes i us ws j.out;
      }

  pub take_keeps : Kept (take_memory ws card) ws
  unfolding take_memory
  take_keeps = go (is_done (take_answer ws card)) refl
    where
      go : (b : Bool) → is_done (take_answer ws card) ≡ b
          → Kept (cond b (joined ws i (taken_of ws i + 1) (next_packet ws i) (next_there ws i)) ws) ws
      go true e = taken_fit (took ws (sized_of ws long f) card e)
      go false e = unchanged ws long f
