-- A memory is ill sized exactly if one of the listed kinds holds: each test that fails is one of them, and a well-sized memory has none.
use Prim.Native.Nat.{ℕ, ◌-◌, ◌<◌, ◌≤◌, ◌^◌, min}
use mathlib.Core.Path.{◌≡◌, refl}
use mathlib.Core.Logic.{◌↔◌, ◌⊎◌, inl, inr}
use mathlib.Core.Bool.{Bool, true, false, ◌&&◌, ◌||◌}
use mathlib.Core.List.{List}
use native.Mathlib.Omega.{arith}
use borrow.Author.Tests.{leb-true, ltb-false, leb-false}
use lib.Dec.{ltb, leb}
use lib.ListN.{get_or}
use Rattle.lists.specs.Tests.{clash, false_of, and_fst, and_snd}
use Rattle.lists.specs.Conjunctions.{and_three, and_five, and_fails}
use Rattle.lists.specs.Every.{each, each_failing}
use Rattle.names.specs.declared.Body.{Body}
use Rattle.names.specs.declared.Body.TheVariants.{ReadDo, ReadReply, UpdateDo, UpdateReply}
use Rattle.names.specs.declared.Letter.{Letter}
use Rattle.names.specs.CardSet.{several, single}
use Rattle.names.specs.Letters.{letter_at, kind_at, tag_at, known}
use Rattle.names.proofs.KnownFunctions.{functions_unknown}
use Rattle.automaton.specs.MostBehind.{most_behind, keeps_up}
use Rattle.automaton.proofs.KeepsUp.{fell_behind}
use Rattle.channel.specs.Layout.{cards_word, tasks_word, registers_word, cards_of, tasks_of, registers_of, made_of, taken_of, head_of, count_of, held_count_of, place_of, held_block, flight_block, broadcast_block}
use Rattle.channel.specs.Letters.{addressed, fits}
use Rattle.channel.specs.Begin.{sizes_fit}
use Rattle.channel.specs.TakeSingle.{no_flight}
use Rattle.channel.specs.Sized.{packet_fits, block_fits, tagged_fits, inbox_fits, held_fits, flight_fits, broadcast_fits, counts_fit, card_fits, recent_fits, head_fits, well_sized}
use Rattle.channel.specs.IllSized.{PastLimit, absent_task, absent_register, no_function, unknown_function, absent_destination, no_destination, PastBlock, past_field, no_kind, unknown_kind, IllChannel, no_card, cards, no_register, registers, no_task, tasks, broadcasts, inbox, held, inbox_message, held_message, flight_message, broadcast_message, held_tag, flight_tag_lem, above, below, inbox_head, flight_destination, broadcast_destination, ChannelExact}
use Rattle.channel.proofs.WellSizedParts.{Fit, recent_number, fit_of}
use Rattle.channel.proofs.LetterFits.{fits_is, tagged_packet, tagged_small}

-- a number that is not at least 1
none : (n : ℕ) → leb 1 n ≡ false → n ≡ 0
none n e = let h = leb-false 1 n e in omega arith

-- ---- a message

module _ (cs : List ℕ) (l : Letter) where
  abbrev a : Bool
  a = ltb l.message.task.0 (tasks_of cs)

  abbrev b : Bool
  b = ltb l.message.register.0 (registers_of cs)

  abbrev c : Bool
  c = known l.message.body

  body_fails : (b : Body) → l.message.body ≡ b → known b ≡ false → PastLimit cs l
  unfolding known
  body_fails ReadDo q e = absurd (clash refl e)
  body_fails (ReadReply v) q e = absurd (clash refl e)
  body_fails (UpdateDo f v) q e = go ((functions_unknown f).0 e)
    where
      go : (f ≡ 0) ⊎ (5 < f) → PastLimit cs l
      go (inl z) = no_function v (rw z at q)
      go (inr h) = unknown_function f v q h
  body_fails (UpdateReply v) q e = absurd (clash refl e)

  fits_fails : fits cs l ≡ false → PastLimit cs l
  unfolding fits addressed
  fits_fails e =
      and_fails (a && b && c) (leb 1 l.to && ltb l.to (2 ^ cards_of cs)) e
      (λ e. and_fails (a && b) c e
      (λ e. and_fails a b e
      (λ h. absent_task (ltb-false _ _ h)) (λ h. absent_register (ltb-false _ _ h)))
      (λ h. body_fails l.message.body refl h))
      (λ e. and_fails (leb 1 l.to) (ltb l.to (2 ^ cards_of cs)) e (λ h. no_destination (none _ h)) (λ h. absent_destination (ltb-false _ _ h)))

  fits_none : fits cs l ≡ true → PastLimit cs l → ⊥
  unfolding known
  fits_none e (absent_task h) = omega (arith, (fits_is cs l e).task)
  fits_none e (absent_register h) = omega (arith, (fits_is cs l e).register)
  fits_none e (no_function v q) = clash (rw q at (fits_is cs l e).body) ((functions_unknown 0).1 (inl refl))
  fits_none e (unknown_function f v q h) = clash (rw q at (fits_is cs l e).body) ((functions_unknown f).1 (inr h))
  fits_none e (absent_destination h) = omega (arith, (fits_is cs l e).present)
  fits_none e (no_destination h) = omega (arith, (fits_is cs l e).someone)

module _ (cs ws : List ℕ) (b : ℕ) where
  pub block_fails : block_fits cs ws b ≡ false → PastBlock cs ws b
  unfolding packet_fits
  block_fails e =
      and_fails (leb 1 (kind_at ws b) && leb (kind_at ws b) 4) (fits cs (letter_at ws b)) e
      (λ e. and_fails (leb 1 (kind_at ws b)) (leb (kind_at ws b) 4) e (λ h. no_kind (none _ h)) (λ h. unknown_kind (leb-false _ _ h)))
      (λ h. past_field (fits_fails cs (letter_at ws b) h))

  block_none : block_fits cs ws b ≡ true → PastBlock cs ws b → ⊥
  unfolding packet_fits
  block_none e p = none_of (and_three (leb 1 (kind_at ws b)) (leb (kind_at ws b) 4) (fits cs (letter_at ws b)) e) p
    where
      none_of : (leb 1 (kind_at ws b) ≡ true) × (leb (kind_at ws b) 4 ≡ true) × (fits cs (letter_at ws b) ≡ true) → PastBlock cs ws b → ⊥
      none_of u (past_field p) = fits_none cs (letter_at ws b) u.2 p
      none_of u (no_kind h) = let m = leb-true 1 (kind_at ws b) u.0 in omega arith
      none_of u (unknown_kind h) = let m = leb-true (kind_at ws b) 4 u.1 in omega arith

  -- of any block, in whichever memory it lies
  pub block_exact : (block_fits cs ws b ≡ false) ↔ PastBlock cs ws b
  block_exact = (block_fails, λ p. false_of (block_fits cs ws b) (λ e. block_none e p))

-- ---- a memory

module _ (ws : List ℕ) where
  abbrev c_word : ℕ
  c_word = get_or ws cards_word 0

  abbrev t_word : ℕ
  t_word = get_or ws tasks_word 0

  abbrev r_word : ℕ
  r_word = get_or ws registers_word 0

  head_fails : head_fits ws ≡ false → IllChannel ws
  unfolding head_fits sizes_fit
  head_fails e =
      and_fails (leb 1 c_word && leb c_word 8 && leb 1 t_word && leb t_word 16 && leb 1 r_word && leb r_word 32) (leb (made_of ws) 65535) e
      (λ e. and_fails (leb 1 c_word && leb c_word 8 && leb 1 t_word && leb t_word 16 && leb 1 r_word) (leb r_word 32) e
      (λ e. and_fails (leb 1 c_word && leb c_word 8 && leb 1 t_word && leb t_word 16) (leb 1 r_word) e
      (λ e. and_fails (leb 1 c_word && leb c_word 8 && leb 1 t_word) (leb t_word 16) e
      (λ e. and_fails (leb 1 c_word && leb c_word 8) (leb 1 t_word) e
      (λ e. and_fails (leb 1 c_word) (leb c_word 8) e (λ h. no_card (none c_word h)) (λ h. cards (leb-false c_word 8 h)))
      (λ h. no_task (none t_word h)))
      (λ h. tasks (leb-false t_word 16 h)))
      (λ h. no_register (none r_word h)))
      (λ h. registers (leb-false r_word 32 h)))
      (λ h. broadcasts (leb-false (made_of ws) 65535 h))

  sizes_in_lem : head_fits ws ≡ true
      → (1 ≤ c_word) × (c_word ≤ 8) × (1 ≤ t_word) × (t_word ≤ 16) × (1 ≤ r_word) × (r_word ≤ 32) × (made_of ws ≤ 65535)
  unfolding head_fits sizes_fit
  sizes_in_lem h =
      let s = and_fst (sizes_fit c_word t_word r_word) (leb (made_of ws) 65535) h in
      let a = and_five (leb 1 c_word) (leb c_word 8) (leb 1 t_word) (leb t_word 16) (leb 1 r_word)
      (and_fst (leb 1 c_word && leb c_word 8 && leb 1 t_word && leb t_word 16 && leb 1 r_word) (leb r_word 32) s) in
      let b = and_snd (leb 1 c_word && leb c_word 8 && leb 1 t_word && leb t_word 16 && leb 1 r_word) (leb r_word 32) s in (
        leb-true _ _ a.0,
        leb-true _ _ a.1,
        leb-true _ _ a.2,
        leb-true _ _ a.3,
        leb-true _ _ a.4,
        leb-true _ _ b,
        leb-true _ _ (and_snd (sizes_fit c_word t_word r_word) (leb (made_of ws) 65535) h),
      )

  counts_fail : (i : ℕ) → i < cards_of ws → counts_fit ws i ≡ false → IllChannel ws
  unfolding counts_fit
  counts_fail i c e =
      let m : Bool = leb (taken_of ws i) (made_of ws) in
      let n : Bool = keeps_up (made_of ws) (taken_of ws i) in
      let h : Bool = ltb (head_of ws i) 48 in
      let k : Bool = leb (count_of ws i) 48 in
      and_fails (m && n && h && k) (leb (held_count_of ws i) 16) e
      (λ e. and_fails (m && n && h) k e
      (λ e. and_fails (m && n) h e
      (λ e. and_fails m n e (λ h. above i c (leb-false _ _ h)) (λ h. below i c (fell_behind _ _ h)))
      (λ h. inbox_head i c (ltb-false _ _ h)))
      (λ h. inbox i c (leb-false _ _ h)))
      (λ h. held i c (leb-false _ _ h))

  -- of a message with a tag
  tagged_fails : (b : ℕ) → tagged_fits ws b ≡ false → (PastBlock ws ws b → IllChannel ws) → (65535 < tag_at ws b → IllChannel ws) → IllChannel ws
  unfolding tagged_fits
  tagged_fails b e p q =
      and_fails (block_fits ws ws b) (leb (tag_at ws b) 65535) e (λ h. p (block_fails ws ws b h)) (λ h. q (leb-false _ _ h))

  card_fails : (i : ℕ) → i < cards_of ws → card_fits ws i ≡ false → IllChannel ws
  unfolding card_fits inbox_fits held_fits
  card_fails i c e =
      let n : ℕ = min (count_of ws i) 48 in
      let m : ℕ = min (held_count_of ws i) 16 in
      and_fails (counts_fit ws i && each n (inbox_fits ws i)) (each m (held_fits ws i)) e
      (λ e. and_fails (counts_fit ws i) (each n (inbox_fits ws i)) e (counts_fail i c)
      (λ h. let x = each_failing n (inbox_fits ws i) h in inbox_message i x.0 c (omega (arith, x.1)) (block_fails ws ws (place_of ws i x.0) x.2)))
      (λ h. let x = each_failing m (held_fits ws i) h in
      tagged_fails (held_block i x.0) x.2 (held_message i x.0 c (omega (arith, x.1))) (held_tag i x.0 c (omega (arith, x.1))))

  flight_fails : (t : ℕ) → t < tasks_of ws → flight_fits ws t ≡ false → IllChannel ws
  unfolding flight_fits
  flight_fails t h e = go (no_flight ws t) refl e
    where
      go : (b : Bool) → no_flight ws t ≡ b → (b || (tagged_fits ws (flight_block t) && single (letter_at ws (flight_block t)).to)) ≡ false → IllChannel ws
      go true q e = absurd (clash refl e)
      go false q e =
          and_fails (tagged_fits ws (flight_block t)) (single (letter_at ws (flight_block t)).to) e
          (λ p. tagged_fails (flight_block t) p (flight_message t h q) (flight_tag_lem t h q)) (flight_destination t h q)

  recent_fails : (k : ℕ) → k < made_of ws → k < most_behind → broadcast_fits ws (made_of ws - k) ≡ false → IllChannel ws
  unfolding broadcast_fits
  recent_fails k m h e =
      let b : ℕ = broadcast_block (made_of ws - k) in
      and_fails (block_fits ws ws b) (several (letter_at ws b).to) e
      (λ p. broadcast_message k m h (block_fails ws ws b p)) (broadcast_destination k m h)

  ill_found : well_sized ws ≡ false → IllChannel ws
  unfolding well_sized recent_fits broadcast_fits
  ill_found e =
      let a : Bool = each (cards_of ws) (card_fits ws) in
      let b : Bool = each (tasks_of ws) (flight_fits ws) in
      let c : Bool = each (min (made_of ws) most_behind) (recent_fits ws) in
      and_fails (head_fits ws && a && b) c e
      (λ e. and_fails (head_fits ws && a) b e
      (λ e. and_fails (head_fits ws) a e head_fails
      (λ h. let x = each_failing (cards_of ws) (card_fits ws) h in card_fails x.0 x.1 x.2))
      (λ h. let x = each_failing (tasks_of ws) (flight_fits ws) h in flight_fails x.0 x.1 x.2))
      (λ h. let x = each_failing (min (made_of ws) most_behind) (recent_fits ws) h in
      let y = recent_number ws x.0 x.1 in
      recent_fails y.0 y.1 y.2 (rw y.3 at x.2))

  flight_in : (t : ℕ) → no_flight ws t ≡ false → flight_fits ws t ≡ true
      → (tagged_fits ws (flight_block t) ≡ true) × (single (letter_at ws (flight_block t)).to ≡ true)
  unfolding flight_fits
  flight_in t q e = go (no_flight ws t) q e
    where
      go : (b : Bool) → b ≡ false → (b || (tagged_fits ws (flight_block t) && single (letter_at ws (flight_block t)).to)) ≡ true
          → (tagged_fits ws (flight_block t) ≡ true) × (single (letter_at ws (flight_block t)).to ≡ true)
      go true z f = absurd (clash refl z)
      go false z f = (and_fst _ (single (letter_at ws (flight_block t)).to) f, and_snd (tagged_fits ws (flight_block t)) _ f)

  ill_none : Fit ws → IllChannel ws → ⊥
  unfolding inbox_fits held_fits broadcast_fits
  ill_none f (no_card h) = omega (arith, (sizes_in_lem f.sizes).0)
  ill_none f (cards h) = omega (arith, (sizes_in_lem f.sizes).1)
  ill_none f (no_register h) = omega (arith, (sizes_in_lem f.sizes).4)
  ill_none f (registers h) = omega (arith, (sizes_in_lem f.sizes).5)
  ill_none f (no_task h) = omega (arith, (sizes_in_lem f.sizes).2)
  ill_none f (tasks h) = omega (arith, (sizes_in_lem f.sizes).3)
  ill_none f (broadcasts h) = omega (arith, (sizes_in_lem f.sizes).6)
  ill_none f (inbox i c h) = omega (arith, (f.card i c).count)
  ill_none f (held i c h) = omega (arith, (f.card i c).held)
  ill_none f (inbox_message i k c g p) = block_none ws ws (place_of ws i k) ((f.card i c).inbox k g) p
  ill_none f (held_message i k c g p) = block_none ws ws (held_block i k) (tagged_packet ws (held_block i k) ((f.card i c).helds k g)) p
  ill_none f (flight_message t c q p) = block_none ws ws (flight_block t) (tagged_packet ws (flight_block t) (flight_in t q (f.flight t c)).0) p
  ill_none f (broadcast_message k m h p) =
      block_none ws ws (broadcast_block (made_of ws - k)) (and_fst _ (several (letter_at ws (broadcast_block (made_of ws - k))).to) (f.recent k m h)) p
  ill_none f (held_tag i k c g h) = omega (arith, tagged_small ws (held_block i k) ((f.card i c).helds k g))
  ill_none f (flight_tag_lem t c q h) = omega (arith, tagged_small ws (flight_block t) (flight_in t q (f.flight t c)).0)
  ill_none f (above i c h) = omega (arith, (f.card i c).behind)
  ill_none f (below i c h) = omega (arith, (f.card i c).near)
  ill_none f (inbox_head i c h) = omega (arith, (f.card i c).head)
  ill_none f (flight_destination t c q p) = clash (flight_in t q (f.flight t c)).1 p
  ill_none f (broadcast_destination k m h p) = clash (and_snd (block_fits ws ws (broadcast_block (made_of ws - k))) _ (f.recent k m h)) p

  pub channel_exact : ChannelExact ws
  channel_exact = (ill_found, λ i. false_of (well_sized ws) (λ e. ill_none (fit_of ws e) i))
