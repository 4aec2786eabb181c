-- Well-sizedness of the registers' memory, place by place, and that each change of it keeps it.
use Prim.Native.Nat.{ℕ, suc, ◌+◌, ◌%◌, ◌<◌, ◌≤◌, ◌^◌, min}
use mathlib.Core.Path.{◌≡◌, ap, ◌∙◌}
use mathlib.Core.Logic.{◌≢◌}
use mathlib.Core.Bool.{true, ◌&&◌}
use mathlib.Core.List.{List}
use native.Mathlib.Decide.{dec_lt, ℕ_discrete}
use native.Mathlib.Omega.{arith}
use borrow.Author.Tests.{ltb-true, leb-true, lt-ltb, le-leb}
use lib.Dec.{ltb, leb}
use lib.ListN.{length, get_or, set}
use lib.Seq.{get_or-set_same, get_or-set_other}
use Rattle.lists.specs.Tests.{and_intro, and_fst, and_snd}
use Rattle.lists.specs.Conjunctions.{and_three, and_four}
use Rattle.lists.specs.Every.{each, each_at, each_of}
use Rattle.names.specs.declared.Letter.{Letter}
use Rattle.names.specs.Letters.{packet_of}
use Rattle.channel.specs.Layout.{cards_of, tasks_of, registers_of}
use Rattle.channel.specs.Letters.{fits}
use Rattle.channel.proofs.Offered.{block_words, put_fits, carried_fits}
use Rattle.tables.specs.declared.Doing.{Doing}
use Rattle.tables.specs.Layout.{requests_word, task_word, register_word, copy_word, out_head_word, out_count_word, requests_of, home_in, home_of, holders_in, primary_in, holders_of, primary_of}
use Rattle.tables.specs.Doings.{doing_at, doing_stored}
use Rattle.tables.specs.Outbox.{out_head_of, out_count_of, out_place, posted, unposted}
use Rattle.tables.specs.Sized.{doing_kind_at, doing_fits, task_fits, register_fits, out_fits, outbox_fits, registers_sized}
use Rattle.tables.proofs.AskedFits.{doing_packs}
use Rattle.tables.proofs.Words.{last, kind_most, doing_cong, doing_word, doing_kind_lem, doing_home, doing_same, doing_other, posted_word, posted_count, posted_head, posted_block, unposted_word, unposted_count, unposted_head, unposted_place}

pub record RegistersFit (rs cs : List ℕ) : Type 0 where
  pub requests : requests_of rs ≤ 65535
  pub home : (t : ℕ) → t < tasks_of cs → home_of rs t < cards_of cs
  pub kind : (t : ℕ) → t < tasks_of cs → doing_kind_at rs t ≤ 5
  pub doing : (t : ℕ) → t < tasks_of cs → doing_fits cs (doing_at rs t) ≡ true
  pub holders : (x : ℕ) → x < registers_of cs → holders_of rs x < 2 ^ cards_of cs
  pub primary : (x : ℕ) → x < registers_of cs → primary_of rs x < cards_of cs
  pub head : (i : ℕ) → i < cards_of cs → out_head_of rs i < 16
  pub count : (i : ℕ) → i < cards_of cs → out_count_of rs i ≤ 16
  pub out : (i k : ℕ) → i < cards_of cs → k < out_count_of rs i → out_fits rs cs i k ≡ true

pub fit_of : (rs cs : List ℕ) → registers_sized rs cs ≡ true → RegistersFit rs cs
unfolding registers_sized task_fits register_fits outbox_fits
fit_of rs cs e =
    let u = and_four (leb (requests_of rs) 65535) (each (tasks_of cs) (task_fits rs cs)) (each (registers_of cs) (register_fits rs cs)) (each (cards_of cs) (outbox_fits rs cs)) e in
    let t : (t : ℕ) → t < tasks_of cs → (ltb (home_of rs t) (cards_of cs) ≡ true) × (leb (doing_kind_at rs t) 5 ≡ true) × (doing_fits cs (doing_at rs t) ≡ true) =
    λ t h. and_three (ltb (home_of rs t) (cards_of cs)) (leb (doing_kind_at rs t) 5) (doing_fits cs (doing_at rs t)) (each_at (tasks_of cs) (task_fits rs cs) u.1 t h) in
    let r : (x : ℕ) → x < registers_of cs → (ltb (holders_of rs x) (2 ^ cards_of cs) && ltb (primary_of rs x) (cards_of cs)) ≡ true =
    λ x h. each_at (registers_of cs) (register_fits rs cs) u.2 x h in
    let o : (i : ℕ) → i < cards_of cs → (ltb (out_head_of rs i) 16 ≡ true) × (leb (out_count_of rs i) 16 ≡ true) × (each (min (out_count_of rs i) 16) (out_fits rs cs i) ≡ true) =
    λ i h. and_three (ltb (out_head_of rs i) 16) (leb (out_count_of rs i) 16) (each (min (out_count_of rs i) 16) (out_fits rs cs i)) (each_at (cards_of cs) (outbox_fits rs cs) u.3 i h) in
    record {
      requests = leb-true _ _ u.0;
      home = λ a h. ltb-true _ _ (t a h).0;
      kind = λ a h. leb-true _ _ (t a h).1;
      doing = λ a h. (t a h).2;
      holders = λ x h. ltb-true _ _ (and_fst (ltb (holders_of rs x) (2 ^ cards_of cs)) _ (r x h));
      primary = λ x h. ltb-true _ _ (and_snd (ltb (holders_of rs x) (2 ^ cards_of cs)) _ (r x h));
      head = λ i h. ltb-true _ _ (o i h).0;
      count = λ i h. leb-true _ _ (o i h).1;
      out = λ i k h g.
          let c : out_count_of rs i ≤ 16 = leb-true _ _ (o i h).1 in
          each_at (min (out_count_of rs i) 16) (out_fits rs cs i) (o i h).2 k (omega arith);
    }

pub of_fit : (rs cs : List ℕ) → RegistersFit rs cs → registers_sized rs cs ≡ true
unfolding registers_sized task_fits register_fits outbox_fits
of_fit rs cs f =
    and_intro (and_intro (and_intro (le-leb _ _ f.requests)
    (each_of (tasks_of cs) (task_fits rs cs) (λ t h. and_intro (and_intro (lt-ltb _ _ (f.home t h)) (le-leb _ _ (f.kind t h))) (f.doing t h))))
    (each_of (registers_of cs) (register_fits rs cs) (λ x h. and_intro (lt-ltb _ _ (f.holders x h)) (lt-ltb _ _ (f.primary x h)))))
    (each_of (cards_of cs) (outbox_fits rs cs)
    (λ i h. and_intro (and_intro (lt-ltb _ _ (f.head i h)) (le-leb _ _ (f.count i h)))
    (each_of (min (out_count_of rs i) 16) (out_fits rs cs i) (λ k g. f.out i k h (omega arith)))))

-- ---- changes

-- the words of card i's outbox agree
module _ (us ws cs : List ℕ) (i : ℕ) (e : (a : ℕ) → out_head_word i ≤ a → a < out_head_word i + 34 → get_or us a 0 ≡ get_or ws a 0) where
  out_words : (k : ℕ) → out_fits us cs i k ≡ out_fits ws cs i k
  unfolding out_fits
  out_words k =
      let h : out_head_of us i ≡ out_head_of ws i = e (out_head_word i) (omega arith) (omega arith) in
      rw h (block_words cs us ws (out_place ws i k) (λ q g. e _ (omega arith) (omega arith)))

  head_words : out_head_of us i ≡ out_head_of ws i
  head_words = e (out_head_word i) (omega arith) (omega arith)

  count_words : out_count_of us i ≡ out_count_of ws i
  count_words = e (out_count_word i) (omega arith) (omega arith)

module _ (ws cs : List ℕ) (c8 : cards_of cs ≤ 8) (t16 : tasks_of cs ≤ 16) (r32 : registers_of cs ≤ 32) (long : length ws ≡ 593) (f : RegistersFit ws cs) where
  -- only words below the outboxes changed
  below : (us : List ℕ) → requests_of us ≤ 65535
      → ((t : ℕ) → t < tasks_of cs → home_of us t ≡ home_of ws t)
      → ((t : ℕ) → t < tasks_of cs → doing_kind_at us t ≤ 5)
      → ((t : ℕ) → t < tasks_of cs → doing_fits cs (doing_at us t) ≡ true)
      → ((x : ℕ) → x < registers_of cs → holders_of us x ≡ holders_of ws x)
      → ((x : ℕ) → x < registers_of cs → primary_of us x ≡ primary_of ws x)
      → ((a : ℕ) → 321 ≤ a → get_or us a 0 ≡ get_or ws a 0) → RegistersFit us cs
  below us n h k d s p o = record {
    requests = n;
    home = λ t g. rw (h t g) (f.home t g);
    kind = k;
    doing = d;
    holders = λ x g. rw (s x g) (f.holders x g);
    primary = λ x g. rw (p x g) (f.primary x g);
    head = λ i g. rw (head_words us ws cs i (λ a m r. o a (omega arith))) (f.head i g);
    count = λ i g. rw (count_words us ws cs i (λ a m r. o a (omega arith))) (f.count i g);
    out = λ i q g m. rw (out_words us ws cs i (λ a m r. o a (omega arith)) q) (f.out i q g (rw (count_words us ws cs i (λ a m r. o a (omega arith))) at m));
  }

  pub requests_fit : (n : ℕ) → n ≤ 65535 → RegistersFit (set ws requests_word n) cs
  requests_fit n m =
      below (set ws 0 n) (rw (get_or-set_same ws 0 n 0 (omega arith)) m)
      (λ t h. ap home_in (get_or-set_other ws 0 (task_word t) n 0 (omega arith)))
      (λ t h. rw (get_or-set_other ws 0 (task_word t) n 0 (omega arith)) (f.kind t h))
      (λ t h. rw (doing_cong (set ws 0 n) ws t (λ k p. get_or-set_other ws 0 (task_word t + k) n 0 (omega arith))) (f.doing t h))
      (λ x h. ap holders_in (get_or-set_other ws 0 (register_word x) n 0 (omega arith)))
      (λ x h. ap primary_in (get_or-set_other ws 0 (register_word x) n 0 (omega arith)))
      (λ a h. get_or-set_other ws 0 a n 0 (omega arith))

  pub doing_fit : (t : ℕ) → t < tasks_of cs → (d : Doing) → doing_fits cs d ≡ true → RegistersFit (doing_stored ws t d) cs
  doing_fit t b d e =
      below (doing_stored ws t d) (rw (doing_word ws t d 0 (λ k p. omega arith)) f.requests)
      (λ u h. doing_home ws t d long u)
      (λ u h. kinds u h (ℕ_discrete u t))
      (λ u h. doings u h (ℕ_discrete u t))
      (λ x h. ap holders_in (doing_word ws t d (register_word x) (λ k p. omega arith)))
      (λ x h. ap primary_in (doing_word ws t d (register_word x) (λ k p. omega arith)))
      (λ a h. doing_word ws t d a (λ k p. omega arith))
    where
      kinds : (u : ℕ) → u < tasks_of cs → Dec (u ≡ t) → doing_kind_at (doing_stored ws t d) u ≤ 5
      kinds u h (yes q) = rw (q, doing_kind_lem ws t d long) (kind_most d)
      kinds u h (no n) = rw (doing_word ws t d (task_word u) (λ k p. omega arith)) (f.kind u h)

      doings : (u : ℕ) → u < tasks_of cs → Dec (u ≡ t) → doing_fits cs (doing_at (doing_stored ws t d) u) ≡ true
      doings u h (yes q) = rw (q, doing_same ws t d long (doing_packs cs d e)) e
      doings u h (no n) = rw (doing_other ws t d u (omega arith)) (f.doing u h)

  pub copy_fit : (i x n : ℕ) → RegistersFit (set ws (copy_word i x) n) cs
  copy_fit i x n =
      below (set ws (copy_word i x) n) (rw (left 0 (omega arith)) f.requests)
      (λ t h. ap home_in (left (task_word t) (omega arith)))
      (λ t h. rw (left (task_word t) (omega arith)) (f.kind t h))
      (λ t h. rw (doing_cong (set ws (copy_word i x) n) ws t (λ k p. left (task_word t + k) (omega arith))) (f.doing t h))
      (λ y h. ap holders_in (left (register_word y) (omega arith)))
      (λ y h. ap primary_in (left (register_word y) (omega arith)))
      (λ a h. get_or-set_other ws (copy_word i x) a n 0 (omega arith))
    where
      left : (a : ℕ) → a < 65 → get_or (set ws (copy_word i x) n) a 0 ≡ get_or ws a 0
      left a h = get_or-set_other ws (copy_word i x) a n 0 (omega arith)

  -- only card i's outbox changed
  outbox : (us : List ℕ) (i : ℕ) → i < cards_of cs → ((a : ℕ) → a < 321 → get_or us a 0 ≡ get_or ws a 0)
      → ((j a : ℕ) → j < cards_of cs → j ≢ i → out_head_word j ≤ a → a < out_head_word j + 34 → get_or us a 0 ≡ get_or ws a 0)
      → out_head_of us i < 16 → out_count_of us i ≤ 16 → ((k : ℕ) → k < out_count_of us i → out_fits us cs i k ≡ true) → RegistersFit us cs
  outbox us i b l o hd ct fs = record {
    requests = rw (l 0 (omega arith)) f.requests;
    home = λ t h. rw (l (task_word t) (omega arith)) (f.home t h);
    kind = λ t h. rw (l (task_word t) (omega arith)) (f.kind t h);
    doing = λ t h. rw (doing_cong us ws t (λ k p. l (task_word t + k) (omega arith))) (f.doing t h);
    holders = λ x h. rw (l (register_word x) (omega arith)) (f.holders x h);
    primary = λ x h. rw (l (register_word x) (omega arith)) (f.primary x h);
    head = λ j h. heads j h (ℕ_discrete j i);
    count = λ j h. counts j h (ℕ_discrete j i);
    out = λ j k h g. outs j k h g (ℕ_discrete j i);
  }
    where
      heads : (j : ℕ) → j < cards_of cs → Dec (j ≡ i) → out_head_of us j < 16
      heads j h (yes e) = rw e hd
      heads j h (no n) = rw (head_words us ws cs j (λ a m r. o j a h n m r)) (f.head j h)

      counts : (j : ℕ) → j < cards_of cs → Dec (j ≡ i) → out_count_of us j ≤ 16
      counts j h (yes e) = rw e ct
      counts j h (no n) = rw (count_words us ws cs j (λ a m r. o j a h n m r)) (f.count j h)

      outs : (j k : ℕ) → j < cards_of cs → k < out_count_of us j → Dec (j ≡ i) → out_fits us cs j k ≡ true
      outs j k h g (yes e) = rw e (fs k (rw e at g))
      outs j k h g (no n) = rw (out_words us ws cs j (λ a m r. o j a h n m r) k) (f.out j k h (rw (count_words us ws cs j (λ a m r. o j a h n m r)) at g))

  -- one fitting letter more
  module _ (i : ℕ) (b : i < cards_of cs) (l : Letter) (room : out_count_of ws i < 16) (good : fits cs l ≡ true) where
    new_fits : out_fits (posted ws i l) cs i (out_count_of ws i) ≡ true
    unfolding out_fits
    new_fits =
        rw (posted_head ws i l long room)
        (put_fits cs (posted ws i l) ws (last ws i l long room) (packet_of l) (carried_fits cs l good) (omega arith) (posted_block ws i l long room))

    old_fits : (k : ℕ) → k < out_count_of ws i → out_fits (posted ws i l) cs i k ≡ true
    unfolding out_fits
    old_fits k h =
        rw (posted_head ws i l long room)
        (block_words cs (posted ws i l) ws (out_place ws i k) (λ q g. posted_word ws i l long room _ (omega arith) (λ m r. omega arith)) ∙ f.out i k b h)

    pub post_fit : RegistersFit (posted ws i l) cs
    post_fit =
        outbox (posted ws i l) i b (λ a h. posted_word ws i l long room a (omega arith) (λ k g. omega arith))
        (λ j a h n m r. apart j a h n m r (dec_lt j i))
        (rw (posted_head ws i l long room) (f.head i b))
        (rw (posted_count ws i l long room) (omega arith))
        (λ k h. places k (rw (posted_count ws i l long room) at h) (ℕ_discrete k (out_count_of ws i)))
      where
        apart : (j a : ℕ) → j < cards_of cs → j ≢ i → out_head_word j ≤ a → a < out_head_word j + 34 → Dec (j < i) → get_or (posted ws i l) a 0 ≡ get_or ws a 0
        apart j a h n m r (yes z) =
            let ei : i % 8 ≡ i = omega arith in
            let ej : j % 8 ≡ j = omega arith in
            posted_word ws i l long room a (omega arith) (λ k g. omega arith)
        apart j a h n m r (no z) =
            let ei : i % 8 ≡ i = omega arith in
            let ej : j % 8 ≡ j = omega arith in
            posted_word ws i l long room a (omega arith) (λ k g. omega arith)

        places : (k : ℕ) → k < out_count_of ws i + 1 → Dec (k ≡ out_count_of ws i) → out_fits (posted ws i l) cs i k ≡ true
        places k h (yes e) = rw e new_fits
        places k h (no n) = old_fits k (omega arith)

  -- the head gone
  module _ (i : ℕ) (b : i < cards_of cs) (n : ℕ) (some_in : out_count_of ws i ≡ suc n) where
    next_fits : (k : ℕ) → k < n → out_fits (unposted ws i) cs i k ≡ true
    unfolding out_fits
    next_fits k h =
        rw (unposted_place ws i long n some_in k)
        (block_words cs (unposted ws i) ws (out_place ws i (suc k)) (λ q g. unposted_word ws i long n some_in _ (omega arith) (omega arith))
        ∙ f.out i (suc k) b (omega arith))

    pub unpost_fit : RegistersFit (unposted ws i) cs
    unpost_fit =
        outbox (unposted ws i) i b (λ a h. unposted_word ws i long n some_in a (omega arith) (omega arith))
        (λ j a h m p q. unposted_word ws i long n some_in a (omega arith) (omega arith))
        (rw (unposted_head ws i long n some_in) (omega arith))
        (rw (unposted_count ws i long n some_in) (omega (arith, f.count i b)))
        (λ k h. next_fits k (rw (unposted_count ws i long n some_in) at h))
