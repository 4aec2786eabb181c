-- Registers' memories that agree where a part is read show the same of it; and which words each change leaves.
use Prim.Native.Nat.{ℕ, suc, ◌+◌, ◌%◌, ◌<◌, ◌≤◌}
use mathlib.Core.Path.{◌≡◌, refl, sym, ap, ap₂, ◌∙◌}
use mathlib.Core.Logic.{◌≢◌}
use mathlib.Core.List.{List, [], ◌∷◌, ◌++◌}
use native.Mathlib.Numerals.{add-one}
use native.Mathlib.Decide.{ℕ_discrete}
use native.Mathlib.Omega.{arith}
use lib.ListN.{length, get_or, set, length-set}
use lib.Seq.{get_or-set_same, get_or-set_other}
use Rattle.lists.specs.Listings.{listing_snoc, listing_cons, listing_cong}
use Rattle.names.specs.declared.Letter.{Letter}
use Rattle.names.specs.Letters.{packet_of, Packs, letter_at, stored}
use Rattle.names.proofs.Blocks.{letter_back, letter_cong}
use Rattle.names.proofs.Rings.{joined_long, joined_word, joined_count, joined_block, joined_last, gone_long, gone_word, gone_count, gone_head}
use Rattle.tables.specs.declared.Doing.{Doing}
use Rattle.tables.specs.declared.Doing.TheVariants.{Quiet, AskingRead, AskingUpdate, Waiting, DoneRead, DoneUpdate}
use Rattle.tables.specs.Layout.{task_word, value_word, home_in, home_of, out_head_word, out_count_word, out_block}
use Rattle.tables.specs.Doings.{doing_of, doing_kind, doing_register, doing_function, doing_value, doing_kind_in, asked_in, doing_function_in, task_word_of, DoingPacks, doing_in, doing_at, doing_stored}
use Rattle.tables.specs.Outbox.{out_head_of, out_count_of, out_place, posted, first_packet, first_out, unposted}
use Rattle.tables.specs.Shows.{plain, outbox_of}

-- ---- what a task is doing

pub doing_cong : (us ws : List ℕ) (t : ℕ) → ((k : ℕ) → k < 2 → get_or us (task_word t + k) 0 ≡ get_or ws (task_word t + k) 0) → doing_at us t ≡ doing_at ws t
doing_cong us ws t e =
    let z : task_word t + 0 ≡ task_word t = omega arith in
    rw (rw z at (e 0 (omega arith)), e 1 (omega arith))

doing_back : (d : Doing) → doing_of (doing_kind d) (record { 0 = doing_register d }) (doing_function d) (doing_value d) ≡ d
unfolding doing_of doing_kind doing_register doing_function doing_value
doing_back Quiet = refl
doing_back (AskingRead x) = refl
doing_back (AskingUpdate x f w) = refl
doing_back Waiting = refl
doing_back (DoneRead v) = refl
doing_back (DoneUpdate v) = refl

pub kind_most : (d : Doing) → doing_kind d ≤ 5
unfolding doing_kind
kind_most Quiet = omega arith
kind_most (AskingRead x) = omega arith
kind_most (AskingUpdate x f w) = omega arith
kind_most Waiting = omega arith
kind_most (DoneRead v) = omega arith
kind_most (DoneUpdate v) = omega arith

-- the fields of a task's word made of fields
module _ (h : ℕ) (d : Doing) where
  home_back : home_in (task_word_of h d) ≡ h
  unfolding home_in task_word_of
  home_back = omega arith

  kind_back : doing_kind_in (task_word_of h d) ≡ doing_kind d
  unfolding doing_kind_in task_word_of
  kind_back = let m = kind_most d in omega arith

  asked_back : doing_register d < 32 → asked_in (task_word_of h d) ≡ doing_register d
  unfolding asked_in task_word_of
  asked_back p = omega arith

  function_back : doing_function d < 8 → doing_function_in (task_word_of h d) ≡ doing_function d
  unfolding doing_function_in task_word_of
  function_back p = omega arith

  word_back : DoingPacks d → doing_in (task_word_of h d) (doing_value d) ≡ d
  unfolding doing_in
  word_back p = rw (kind_back, asked_back p.register, function_back p.function) (doing_back d)

module _ (ws : List ℕ) (t : ℕ) (d : Doing) where
  abbrev first : ℕ
  first = task_word_of (home_of ws t) d

  abbrev worded : List ℕ
  worded = set ws (task_word t) first

  pub doing_long : length (doing_stored ws t d) ≡ length ws
  unfolding doing_stored
  doing_long = simp length-set

  -- the words that it leaves
  pub doing_word : (a : ℕ) → ((k : ℕ) → k < 2 → a ≢ task_word t + k) → get_or (doing_stored ws t d) a 0 ≡ get_or ws a 0
  unfolding doing_stored
  doing_word a h =
      let h0 : a ≢ task_word t = omega (arith, h 0 (omega arith)) in
      get_or-set_other worded (value_word t) a (doing_value d) 0 (h 1 (omega arith)) ∙ get_or-set_other ws (task_word t) a first 0 h0

  module _ (long : length ws ≡ 593) where
    first_same : get_or (doing_stored ws t d) (task_word t) 0 ≡ first
    unfolding doing_stored
    first_same =
        get_or-set_other worded (value_word t) (task_word t) (doing_value d) 0 (omega arith)
        ∙ get_or-set_same ws (task_word t) first 0 (omega arith)

    value_same : get_or (doing_stored ws t d) (value_word t) 0 ≡ doing_value d
    unfolding doing_stored
    value_same = get_or-set_same worded (value_word t) (doing_value d) 0 (omega (arith, length-set ws (task_word t) first))

    pub doing_kind_lem : doing_kind_in (get_or (doing_stored ws t d) (task_word t) 0) ≡ doing_kind d
    doing_kind_lem = ap doing_kind_in first_same ∙ kind_back (home_of ws t) d

    -- what is stored is read
    pub doing_same : DoingPacks d → doing_at (doing_stored ws t d) t ≡ d
    doing_same p = rw (first_same, value_same) (word_back (home_of ws t) d p)

    -- a task's home stays
    pub doing_home : (u : ℕ) → home_of (doing_stored ws t d) u ≡ home_of ws u
    doing_home u = go (ℕ_discrete (u % 16) (t % 16))
      where
        go : Dec (u % 16 ≡ t % 16) → home_of (doing_stored ws t d) u ≡ home_of ws u
        go (yes e) = rw e (ap home_in first_same ∙ home_back (home_of ws t) d)
        go (no n) = ap home_in (doing_word (task_word u) (λ k p. omega arith))

  -- another task
  pub doing_other : (u : ℕ) → u % 16 ≢ t % 16 → doing_at (doing_stored ws t d) u ≡ doing_at ws u
  doing_other u n = doing_cong (doing_stored ws t d) ws u (λ k p. doing_word (task_word u + k) (λ m g. omega arith))

-- ---- outboxes

-- the words of card i's outbox
pub outbox_cong : (us ws : List ℕ) (i : ℕ) → ((a : ℕ) → out_head_word i ≤ a → a < out_head_word i + 34 → get_or us a 0 ≡ get_or ws a 0) → outbox_of us i ≡ outbox_of ws i
unfolding outbox_of
outbox_cong us ws i e =
    rw (e (out_head_word i) (omega arith) (omega arith), e (out_count_word i) (omega arith) (omega arith))
    (listing_cong _ _ (out_count_of ws i) (λ k h. ap plain (letter_cong us ws (out_place ws i k) (λ q g. e (out_place ws i k + q) (omega arith) (omega arith)))))

module _ (ws : List ℕ) (i : ℕ) (l : Letter) (long : length ws ≡ 593) (room : out_count_of ws i < 16) where
  abbrev pub last : ℕ
  last = out_place ws i (out_count_of ws i)

  pub posted_long : length (posted ws i l) ≡ 593
  unfolding posted
  posted_long = joined_long ws (out_count_word i) last 16 (packet_of l) room ∙ long

  -- the words that it leaves
  pub posted_word : (a : ℕ) → a ≢ out_count_word i → ((k : ℕ) → k < 2 → a ≢ last + k) → get_or (posted ws i l) a 0 ≡ get_or ws a 0
  unfolding posted
  posted_word = joined_word ws (out_count_word i) last 16 (packet_of l) room

  pub posted_count : out_count_of (posted ws i l) i ≡ out_count_of ws i + 1
  unfolding posted
  posted_count = joined_count ws (out_count_word i) last 16 (packet_of l) room (omega arith)

  pub posted_head : out_head_of (posted ws i l) i ≡ out_head_of ws i
  posted_head = posted_word (out_head_word i) (omega arith) (λ k g. omega arith)

  pub posted_block : (k : ℕ) → k < 2 → get_or (posted ws i l) (last + k) 0 ≡ get_or (stored ws last (packet_of l)) (last + k) 0
  unfolding posted
  posted_block k g = joined_block ws (out_count_word i) last 16 (packet_of l) room k (omega arith)

  pub posted_last : Packs l → letter_at (posted ws i l) last ≡ l
  unfolding posted
  posted_last p = joined_last ws (out_count_word i) last 16 (packet_of l) room (λ k g. omega arith) (omega arith) ∙ letter_back l p

  -- another place of the outbox
  pub posted_apart : (k : ℕ) → k < out_count_of ws i → letter_at (posted ws i l) (out_place ws i k) ≡ letter_at ws (out_place ws i k)
  posted_apart k h = letter_cong (posted ws i l) ws (out_place ws i k) (λ m g. posted_word (out_place ws i k + m) (omega arith) (λ q r. omega arith))

  -- it joins at the end
  pub post_appends : Packs l → outbox_of (posted ws i l) i ≡ outbox_of ws i ++ (plain l ∷ [])
  unfolding outbox_of
  post_appends p =
      rw (posted_head, posted_count, add-one (out_count_of ws i), listing_snoc)
      (ap₂ (λ x y. x ++ (y ∷ [])) (listing_cong _ _ (out_count_of ws i) (λ k h. ap plain (posted_apart k h))) (ap plain (posted_last p)))

module _ (ws : List ℕ) (i : ℕ) (long : length ws ≡ 593) (n : ℕ) (some_in : out_count_of ws i ≡ suc n) where
  pub unposted_long : length (unposted ws i) ≡ 593
  unfolding unposted
  unposted_long = gone_long ws (out_head_word i) (out_count_word i) 16 n some_in ∙ long

  pub unposted_word : (a : ℕ) → a ≢ out_head_word i → a ≢ out_count_word i → get_or (unposted ws i) a 0 ≡ get_or ws a 0
  unfolding unposted
  unposted_word = gone_word ws (out_head_word i) (out_count_word i) 16 n some_in

  pub unposted_count : out_count_of (unposted ws i) i ≡ n
  unfolding unposted
  unposted_count = gone_count ws (out_head_word i) (out_count_word i) 16 n some_in (omega arith)

  pub unposted_head : out_head_of (unposted ws i) i ≡ (out_head_of ws i % 16 + 1) % 16
  unfolding unposted
  unposted_head = gone_head ws (out_head_word i) (out_count_word i) 16 n some_in (omega arith) (omega arith)

  -- place k after it was the next place before
  pub unposted_place : (k : ℕ) → out_place (unposted ws i) i k ≡ out_place ws i (suc k)
  unposted_place k =
      rw unposted_head
      (let e : ((out_head_of ws i % 16 + 1) % 16 % 16 + k) % 16 ≡ (out_head_of ws i % 16 + suc k) % 16 = omega arith in rw e)

  -- the head leaves
  pub unpost_drops : outbox_of ws i ≡ plain (first_out ws i) ∷ outbox_of (unposted ws i) i
  unfolding outbox_of first_packet
  unpost_drops =
      let m : (out_head_of ws i % 16 + 0) % 16 ≡ out_head_of ws i % 16 = omega arith in
      rw (unposted_count, some_in, listing_cons, m)
      (ap (λ y. plain (letter_at ws (out_block i (out_head_of ws i))) ∷ y)
      (listing_cong _ _ n (λ k h. ap plain (next k))))
    where
      next : (k : ℕ) → letter_at ws (out_place ws i (suc k)) ≡ letter_at (unposted ws i) (out_place (unposted ws i) i k)
      next k = rw (unposted_place k) (sym (letter_cong (unposted ws i) ws (out_place ws i (suc k)) (λ q r. unposted_word (out_place ws i (suc k) + q) (omega arith) (omega arith))))
