-- `take_single` keeps the memory well sized.
use Prim.Native.Nat.{ℕ, ◌+◌, ◌-◌, ◌<◌, ◌≤◌}
use mathlib.Core.Path.{◌≡◌, refl, ◌∙◌}
use mathlib.Core.Bool.{Bool, true, false, cond}
use mathlib.Core.Logic.{◌≢◌}
use mathlib.Core.List.{List}
use native.Mathlib.Decide.{ℕ_discrete}
use native.Mathlib.Numerals.{add-one}
use native.Mathlib.Omega.{arith}
use lib.ListN.{length, get_or, length-set}
use Rattle.names.specs.declared.Task.{Task}
use Rattle.names.specs.declared.Packet.{Packet}
use Rattle.channel.specs.Layout.{channel_words, taken_word, head_word, count_word, held_word, flight_block, cards_of, tasks_of, made_of, taken_of, head_of, count_of, held_count_of}
use Rattle.channel.specs.Inbox.{pushed}
use Rattle.channel.specs.Answers.{is_done}
use Rattle.channel.specs.TakeSingle.{flight_packet, flight_tag, flight_to, joins_at, held_more, landed, single_answer, single_memory}
use Rattle.channel.specs.Sized.{flight_fits}
use Rattle.channel.proofs.InboxRing.{pushed_word, pushed_long, pushed_count, pushed_head}
use Rattle.channel.proofs.HeldMore.{more_word, more_long, more_count, more_block}
use Rattle.channel.proofs.SizedFacts.{cards_most, tasks_most}
use Rattle.channel.proofs.Frame.{Outside}
use Rattle.channel.proofs.Landing.{vacated, vacated_word, vacated_slot}
use Rattle.channel.proofs.TakeSingleLaw.{Landed, landed_knew}
use Rattle.channel.specs.MemoryCalls.{SameSizes}
use Rattle.channel.proofs.WellSizedParts.{Fit, same_cards, same_tasks, packet_sizes, flight_same, broadcast_same, card_same}
use Rattle.channel.proofs.FitQueues.{push_sizes, push_box, box_same, held_same, held_put}
use Rattle.channel.proofs.FitRelease.{sizes_trans}
use Rattle.channel.proofs.FitKept.{Kept, unchanged, FlightPacket, flight_packet_lem, head_same, outside_sizes, card_keeps}

-- ---- task t's slot made empty

module _ (ws : List ℕ) (long : length ws ≡ channel_words) (f : Fit ws) (t : ℕ) (small : t < 16) where
  abbrev vs : List ℕ
  vs = vacated ws t small

  word : (a : ℕ) → a ≢ flight_block t → get_or vs a 0 ≡ get_or ws a 0
  word = vacated_word ws t small

  pub vacated_sizes : SameSizes vs ws
  vacated_sizes = record { cards = word 0 (omega arith); tasks = word 1 (omega arith); registers = word 2 (omega arith) }

  pub vacated_long : length vs ≡ channel_words
  vacated_long = length-set ws (flight_block t) 0 ∙ long

  slot_fit : (d : ℕ) → d < tasks_of ws → flight_fits vs d ≡ true
  unfolding flight_fits
  slot_fit d h = go (ℕ_discrete d t)
    where
      go : Dec (d ≡ t) → flight_fits vs d ≡ true
      go (yes e) = rw (e, vacated_slot ws t small (omega arith))
      go (no n) = flight_same vs ws vacated_sizes d (λ a p q. word a (omega arith)) ∙ f.flight d h

  pub vacated_fit : Fit vs
  vacated_fit =
      let s = vacated_sizes in
      let m : made_of vs ≡ made_of ws = word 3 (omega arith) in
      record {
        sizes = head_same vs ws s m ∙ f.sizes;
        card = λ j c. let g = cards_most vs in rw m (card_same vs ws s (made_of ws) j (λ a p q. word a (omega arith)) (f.card j (rw (← same_cards vs ws s) c)));
        flight = λ d h. slot_fit d (rw (← same_tasks vs ws s) h);
        recent = λ k p h. rw m (broadcast_same vs ws s (made_of ws - k) (λ a u v. word a (omega arith)) ∙ f.recent k (rw (← m) p) h);
      }

-- ---- then the message joins card i's inbox, or is held there

module _ (ws : List ℕ) (long : length ws ≡ channel_words) (f : Fit ws) (t : ℕ) (k : Landed ws t) where
  t16 : t < 16
  t16 = omega (arith, tasks_most ws, k.present)

  abbrev us : List ℕ
  us = vacated ws t t16

  abbrev l : Packet
  l = flight_packet ws t

  abbrev i : ℕ
  i = flight_to ws t

  letter : FlightPacket ws t l
  letter = flight_packet_lem ws t (f.flight t k.present) k.flying

  c8 : i < 8
  c8 = omega (arith, cards_most ws, letter.present)

  whole : length us ≡ channel_words
  whole = vacated_long ws long f t t16

  fit : Fit us
  fit = vacated_fit ws long f t t16

  here : i < cards_of us
  here = rw (same_cards us ws (vacated_sizes ws long f t t16)) letter.present

  joins_fit : count_of ws i < 48 → Kept (pushed us i l) ws
  joins_fit room =
      let r : count_of us i < 48 = rw (vacated_word ws t t16 (count_word i) (omega (arith, c8))) room in
      let p = pushed_word us i l whole c8 r in
      let x = fit.card i here in
      let few : held_count_of us i ≤ 16 = x.held in
      let z = push_sizes us i l whole c8 r in
      let y : SameSizes (pushed us i l) ws = sizes_trans (pushed us i l) us ws z (vacated_sizes ws long f t t16) in
      let et : taken_of (pushed us i l) i ≡ taken_of us i = p (taken_word i) (omega arith) (λ q w. omega arith) in
      let ed : held_count_of (pushed us i l) i ≡ held_count_of us i = p (held_word i) (omega arith) (λ q w. omega arith) in
      let o : Outside i (pushed us i l) us =
      record { long = pushed_long us i l whole c8 r; low = λ a h. p a (omega arith) (λ q g. omega arith); high = λ a h. p a (omega arith) (λ q g. omega arith) } in
      record {
        fit = card_keeps (pushed us i l) us i here o fit (record {
          behind = rw et x.behind;
          near = rw et x.near;
          head = rw (pushed_head us i l whole c8 r) x.head;
          count = rw (pushed_count us i l whole c8 r) (omega arith);
          held = rw ed few;
          inbox = push_box us i l whole c8 r (packet_sizes (pushed us i l) ws y l ∙ letter.fit) x.inbox;
          helds = rw ed (held_same (pushed us i l) us i (held_count_of us i) z (λ a u v. p a (omega arith) (λ q w. omega arith)) x.helds);
        });
        long = o.long;
        sizes = y;
      }

  waits_fit : held_count_of ws i < 16 → Kept (held_more us i l (flight_tag ws t)) ws
  waits_fit room =
      let tag : ℕ = flight_tag ws t in
      let vs : List ℕ = held_more us i l tag in
      let r : held_count_of us i < 16 = rw (vacated_word ws t t16 (held_word i) (omega (arith, c8))) room in
      let p = more_word us i l tag c8 whole r in
      let x = fit.card i here in
      let o : Outside i vs us =
      record { long = more_long us i l tag c8 whole r; low = λ a h. p a (omega arith) (λ q g. omega arith); high = λ a h. p a (omega arith) (λ q g. omega arith) } in
      let z = outside_sizes i vs us o in
      let y : SameSizes vs ws = sizes_trans vs us ws z (vacated_sizes ws long f t t16) in
      let et : taken_of vs i ≡ taken_of us i = p (taken_word i) (omega arith) (λ q w. omega arith) in
      let eh : head_of vs i ≡ head_of us i = p (head_word i) (omega arith) (λ q w. omega arith) in
      let ec : count_of vs i ≡ count_of us i = p (count_word i) (omega arith) (λ q w. omega arith) in
      let ed : held_count_of vs i ≡ held_count_of us i + 1 = more_count us i l tag c8 whole r in
      record {
        fit = card_keeps vs us i here o fit (record {
          behind = rw et x.behind;
          near = rw et x.near;
          head = rw eh x.head;
          count = rw ec x.count;
          held = rw ed (omega arith);
          inbox = box_same vs us i z eh ec (λ a u v. p a (omega arith) (λ q w. omega arith)) x.inbox;
          helds = rw (ed, add-one (held_count_of us i)) (held_put vs us i (held_count_of us i) l tag z r c8 whole (λ a u v. p a (omega arith) (λ q w. omega arith))
              (more_block us i l tag c8 whole r) letter.small (packet_sizes vs ws y l ∙ letter.fit) x.helds);
        });
        long = o.long;
        sizes = y;
      }

  pub landed_fit : (b : Bool) → cond b (count_of ws i) 0 < 48 → cond b 0 (held_count_of ws i) < 16
      → Kept (landed ws t i l (flight_tag ws t) b) ws
  unfolding landed
  landed_fit true p q = joins_fit p
  landed_fit false p q = waits_fit q

module _ (ws : List ℕ) (long : length ws ≡ channel_words) (f : Fit ws) (task : Task) where
  pub single_keeps : Kept (single_memory ws task) ws
  unfolding single_memory
  single_keeps = go (is_done (single_answer ws task)) refl
    where
      us : List ℕ
      us =
          landed ws task.0 (flight_to ws task.0) (flight_packet ws task.0) (flight_tag ws task.0)
          (joins_at ws (flight_to ws task.0) (flight_tag ws task.0))

      go : (b : Bool) → is_done (single_answer ws task) ≡ b → Kept (cond b us ws) ws
      go true e =
          let k = landed_knew ws task e in landed_fit ws long f task.0 k (joins_at ws (flight_to ws task.0) (flight_tag ws task.0)) k.room_in k.room_held
      go false e = unchanged ws long f
