-- `dispatch` keeps the memory well sized.
use Prim.Native.Nat.{ℕ, zero, suc, ◌+◌, ◌-◌, ◌<◌, ◌≤◌}
use mathlib.Core.Path.{◌≡◌, refl, ◌∙◌}
use mathlib.Core.Bool.{Bool, true, false, cond, ◌||◌}
use mathlib.Core.Logic.{◌≢◌}
use mathlib.Core.List.{List}
use native.Mathlib.Decide.{ℕ_discrete}
use native.Mathlib.Omega.{arith}
use borrow.Author.Tests.{ltb-true, leb-true, le-leb}
use lib.Dec.{ltb, leb}
use lib.ListN.{length, get_or, set, length-set}
use lib.Seq.{get_or-set_same, get_or-set_other}
use Rattle.lists.specs.Tests.{and_fst, and_snd, and_intro}
use Rattle.lists.specs.Every.{each_at}
use Rattle.names.specs.declared.Card.{Card}
use Rattle.names.specs.declared.Message.{Message}
use Rattle.names.specs.declared.Letter.{Letter}
use Rattle.automaton.specs.MostBehind.{most_behind}
use Rattle.std.specs.Prelude.{Ok, Err}
use Rattle.names.specs.declared.refusals.Refusal.TheVariants.{FarBehind, IllSized}
use Rattle.names.specs.declared.refusals.Taken.TheVariants.{Done}
use Rattle.channel.specs.Layout.{channel_words, cards_word, tasks_word, registers_word, made_word, taken_word, flight_block, broadcast_block, cards_of, tasks_of, made_of, taken_of}
use Rattle.names.specs.CardSet.{several}
use Rattle.names.specs.Letters.{packet_of, letter_at, stored, marked}
use Rattle.channel.specs.Letters.{fits}
use Rattle.channel.specs.Answers.{is_done}
use Rattle.channel.specs.Begin.{sizes_fit}
use Rattle.channel.specs.TakeSingle.{no_flight}
use Rattle.channel.specs.Dispatch.{near_at, near, cast_answer, cast_memory, fly_answer, fly_memory, letter_to, dispatch_memory}
use Rattle.channel.specs.Sized.{packet_fits, flight_fits, broadcast_fits, head_fits}
use Rattle.names.proofs.Blocks.{letter_back, letter_cong, letter_same, word_other, marked_other, marked_letter, length_stored, length_marked}
use Rattle.channel.proofs.SizedFacts.{cards_most, tasks_most}
use Rattle.channel.proofs.AnswerNumbers.{picked}
use Rattle.names.proofs.CardSets.{single_of}
use Rattle.channel.proofs.LetterFits.{fits_is, fits_packs, carried_fits}
use Rattle.channel.specs.MemoryCalls.{SameSizes}
use Rattle.channel.proofs.BroadcastRing.{ring_apart}
use Rattle.channel.proofs.WellSizedParts.{CardFit, Fit, same_cards, same_tasks, packet_sizes, flight_same, broadcast_same, card_same}
use Rattle.channel.proofs.FitQueues.{put_fits, put_tagged}
use Rattle.channel.proofs.FitKept.{Kept, unchanged, head_same}

or_intro : (a : Bool) {b : Bool} → b ≡ true → (a || b) ≡ true
or_intro true e = refl
or_intro false e = e

-- ---- in flight

module _ (ws : List ℕ) (long : length ws ≡ channel_words) (f : Fit ws) (l : Letter) (tag : ℕ) (small : tag ≤ 65535) (g : fits ws l ≡ true)
    (alone : several l.to ≡ false) where
  abbrev t : ℕ
  t = l.message.task.0

  abbrev us : List ℕ
  us = marked ws (flight_block t) (packet_of l) tag

  t16 : t < 16
  t16 = omega (arith, (fits_is ws l g).task, tasks_most ws)

  word : (a : ℕ) → ((k : ℕ) → k < 3 → a ≢ flight_block t + k) → get_or us a 0 ≡ get_or ws a 0
  word = marked_other ws (flight_block t) (packet_of l) tag

  sizes : SameSizes us ws
  sizes = record { cards = word 0 (λ k h. omega arith); tasks = word 1 (λ k h. omega arith); registers = word 2 (λ k h. omega arith) }

  slot_fit : (d : ℕ) → d < tasks_of ws → flight_fits us d ≡ true
  unfolding flight_fits
  slot_fit d h = go (ℕ_discrete d t)
    where
      go : Dec (d ≡ t) → flight_fits us d ≡ true
      go (yes e) =
          let w : flight_block t + 3 ≤ length ws = omega (arith, t16) in
          let fu : packet_fits us (packet_of l) ≡ true = packet_sizes us ws sizes (packet_of l) ∙ carried_fits ws l g in
          let y = marked_letter ws (flight_block t) (packet_of l) tag w ∙ letter_back l (fits_packs ws l g) in
          let b = put_tagged us ws (flight_block t) (packet_of l) tag fu small w (λ k r. refl) in
          let o = single_of l.to alone in
          rw e (or_intro (no_flight us t) (and_intro b (rw y o)))
      go (no n) = flight_same us ws sizes d (λ a p q. word a (λ k r. omega arith)) ∙ f.flight d h

  pub flown_fit : Kept us ws
  flown_fit =
      let m : made_of us ≡ made_of ws = word 3 (λ k h. omega arith) in
      record {
        fit = record {
          sizes = head_same us ws sizes m ∙ f.sizes;
          card =
              λ j c. let q =
              cards_most us in rw m (card_same us ws sizes (made_of ws) j (λ a p r. word a (λ k h. omega arith)) (f.card j (rw (← same_cards us ws sizes) c)));
          flight = λ d h. slot_fit d (rw (← same_tasks us ws sizes) h);
          recent = λ k p h. rw m (broadcast_same us ws sizes (made_of ws - k) (λ a u v. word a (λ b r. omega (arith, t16))) ∙ f.recent k (rw (← m) p) h);
        };
        long = length_marked ws (flight_block t) (packet_of l) tag ∙ long;
        sizes = sizes;
      }

-- ---- a broadcast more

module _ (ws : List ℕ) (long : length ws ≡ channel_words) (f : Fit ws) (l : Letter) (g : fits ws l ≡ true) (many : several l.to ≡ true)
    (close : near ws ≡ true) (few : made_of ws < 65535) where
  abbrev n : ℕ
  n = made_of ws + 1

  abbrev slot : ℕ
  slot = broadcast_block n

  abbrev vs : List ℕ
  vs = stored ws slot (packet_of l)

  abbrev cs : List ℕ
  cs = set vs made_word n

  cword : (a : ℕ) → a ≢ 3 → ((k : ℕ) → k < 2 → a ≢ slot + k) → get_or cs a 0 ≡ get_or ws a 0
  cword a h e = get_or-set_other vs 3 a n 0 h ∙ word_other ws slot (packet_of l) a e

  csizes : SameSizes cs ws
  csizes =
      record { cards = cword 0 (omega arith) (λ k h. omega arith); tasks = cword 1 (omega arith) (λ k h. omega arith); registers = cword 2 (omega arith) (λ k h. omega arith) }

  made : made_of cs ≡ n
  made = get_or-set_same vs 3 n 0 (omega (arith, length_stored ws slot (packet_of l)))

  head_fit : head_fits cs ≡ true
  unfolding head_fits
  head_fit =
      let a = and_fst (sizes_fit (get_or ws cards_word 0) (get_or ws tasks_word 0) (get_or ws registers_word 0)) (leb (made_of ws) 65535) f.sizes in
      rw (csizes.cards, csizes.tasks, csizes.registers, made) (and_intro a (le-leb n 65535 (omega arith)))

  card_fit : (j : ℕ) → j < cards_of ws → CardFit cs n j
  unfolding near near_at
  card_fit j c =
      let e : (a : ℕ) → taken_word j ≤ a → a < taken_word (j + 1) → get_or cs a 0 ≡ get_or ws a 0 =
      λ a p q. let b = cards_most ws in cword a (omega arith) (λ k h. omega arith) in
      let x = card_same cs ws csizes (made_of ws) j e (f.card j c) in
      let t : taken_of cs j ≡ taken_of ws j = e (taken_word j) (omega arith) (omega arith) in
      let o : near_at ws j ≡ true = each_at (cards_of ws) (near_at ws) close j c in
      record {
        behind = omega (arith, x.behind);
        near = omega (arith, leb-true);
        head = x.head;
        count = x.count;
        held = x.held;
        inbox = x.inbox;
        helds = x.helds;
      }

  recent_fit : (k : ℕ) → k < n → k < most_behind → broadcast_fits cs (n - k) ≡ true
  unfolding broadcast_fits
  recent_fit zero p h =
      let w : slot + 2 ≤ length ws = omega arith in
      let fu : packet_fits cs (packet_of l) ≡ true = packet_sizes cs ws csizes (packet_of l) ∙ carried_fits ws l g in
      let v : (k : ℕ) → k < 2 → get_or cs (slot + k) 0 ≡ get_or vs (slot + k) 0 = λ k r. get_or-set_other vs 3 (slot + k) n 0 (omega arith) in
      let e : n - 0 ≡ n = omega arith in
      let y : letter_at cs slot ≡ l = letter_cong cs vs slot v ∙ letter_same ws slot (packet_of l) w ∙ letter_back l (fits_packs ws l g) in
      rw e (and_intro (put_fits cs cs ws slot (packet_of l) fu w v) (rw y many))
  recent_fit (suc k) p h =
      let e : n - suc k ≡ made_of ws - k = omega arith in
      rw e (broadcast_same cs ws csizes (made_of ws - k) (λ a u v. cword a (omega arith) (ring_apart (made_of ws - k) n (omega arith) (omega arith) a u v)) ∙ f.recent k (omega arith) (omega arith))

  pub cast_fit : Kept cs ws
  cast_fit = record {
    fit = record {
      sizes = head_fit;
      card = λ j c. rw made (card_fit j (rw (← same_cards cs ws csizes) c));
      flight = λ t h. let b = tasks_most cs in
          flight_same cs ws csizes t (λ a p q. cword a (omega arith) (λ k r. omega arith)) ∙ f.flight t (rw (← same_tasks cs ws csizes) h);
      recent = λ k p h. rw made (recent_fit k (rw (← made) p) h);
    };
    long = length-set vs made_word n ∙ length_stored ws slot (packet_of l) ∙ long;
    sizes = csizes;
  }

-- ---- step 6

module _ (ws : List ℕ) (long : length ws ≡ channel_words) (f : Fit ws) where
  -- a card's number of broadcasts taken, which becomes a tag
  taken_small : (i : ℕ) → i < cards_of ws → taken_of ws i ≤ 65535
  unfolding head_fits
  taken_small i c =
      let m = leb-true (made_of ws) 65535 (and_snd (sizes_fit (get_or ws cards_word 0) (get_or ws tasks_word 0) (get_or ws registers_word 0)) (leb (made_of ws) 65535) f.sizes) in
      omega (arith, (f.card i c).behind)

  fly_keeps : (i : ℕ) → i < cards_of ws → (l : Letter) → several l.to ≡ false → Kept (fly_memory ws i l) ws
  unfolding fly_memory fly_answer is_done
  fly_keeps i c l alone = go (is_done (fly_answer ws l)) refl
    where
      us : List ℕ
      us = marked ws (flight_block l.message.task.0) (packet_of l) (taken_of ws i)

      go : (b : Bool) → is_done (fly_answer ws l) ≡ b → Kept (cond b us ws) ws
      go true e = flown_fit ws long f l (taken_of ws i) (taken_small i c) (picked (fits ws l) _ (Err IllSized) refl e).0 alone
      go false e = unchanged ws long f

  cast_keeps : (l : Letter) → several l.to ≡ true → Kept (cast_memory ws l) ws
  unfolding cast_memory cast_answer is_done
  cast_keeps l many = go (is_done (cast_answer ws l)) refl
    where
      us : List ℕ
      us = set (stored ws (broadcast_block (made_of ws + 1)) (packet_of l)) made_word (made_of ws + 1)

      go : (b : Bool) → is_done (cast_answer ws l) ≡ b → Kept (cond b us ws) ws
      go true e =
          let a = picked (near ws) _ (Err FarBehind) refl e in
          let b = picked (fits ws l) _ (Err IllSized) refl a.1 in
          let c = picked (ltb (made_of ws) 65535) (Ok Done) (Err IllSized) refl b.1 in
          cast_fit ws long f l b.0 many a.0 (ltb-true (made_of ws) 65535 c.0)
      go false e = unchanged ws long f

  pub dispatch_keeps : (card : Card) (m : Message) (to : ℕ) → Kept (dispatch_memory ws card m to) ws
  unfolding dispatch_memory
  dispatch_keeps card m to = go (ltb card.0 (cards_of ws)) (several to) refl refl
    where
      l : Letter
      l = letter_to m to

      go : (b c : Bool) → ltb card.0 (cards_of ws) ≡ b → several to ≡ c → Kept (cond b (cond c (cast_memory ws l) (fly_memory ws card.0 l)) ws) ws
      go true true p e = cast_keeps l e
      go true false p e = fly_keeps card.0 (ltb-true card.0 (cards_of ws) p) l e
      go false c p e = unchanged ws long f
