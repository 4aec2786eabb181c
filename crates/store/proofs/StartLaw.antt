-- The start: the words of the registers' memory, that they are well sized, and that both memories show the placement and the beginning.
use Prim.Native.Nat.{ℕ, zero, suc, ◌+◌, ◌*◌, ◌%◌, ◌<◌, ◌≤◌}
use mathlib.Core.Path.{◌≡◌, refl, sym, ap, ◌∙◌}
use mathlib.Core.Logic.{◌≢◌}
use mathlib.Core.List.{List}
use native.Mathlib.Decide.{ℕ_discrete}
use native.Mathlib.Omega.{arith}
use borrow.Author.Tests.{eq-eqb, ne_eqb}
use lib.ListN.{length, get_or, set, replicate, length-set, length-replicate}
use lib.Seq.{get_or-set_same, get_or-set_other}
use Rattle.lists.specs.Loops.{turns, turns_zero, turns_suc}
use Rattle.lists.specs.Listings.{listing_zero}
use Rattle.names.specs.Placement.{Placement, tasks, registers, home, holders, primary, placement_refusal}
use Rattle.automaton.specs.State.{initial_channel}
use Rattle.channel.specs.Layout.{cards_of, tasks_of, registers_of}
use Rattle.channel.specs.Begin.{begin_memory}
use Rattle.channel.proofs.Offered.{begin_follows, begun_sized, begun_length}
use Rattle.claims.specs.Found.{begin}
use Rattle.tables.specs.Layout.{task_word, register_word, copy_word, out_head_word, out_count_word, home_in, home_of, holders_in, holders_of, primary_in, primary_of}
use Rattle.tables.specs.Doings.{doing_of, doing_kind_in, doing_in, doing_at}
use Rattle.tables.specs.declared.Doing.TheVariants.{Quiet}
use Rattle.tables.specs.Outbox.{out_count_of}
use Rattle.tables.specs.Sized.{doing_kind_at, doing_fits}
use Rattle.tables.specs.Start.{home_set, register_set, start_words, start_registers, start_channel}
use Rattle.tables.specs.Shows.{status_of, outbox_of, RegistersShow}
use Rattle.store.specs.Demand2.{Stands}
use Rattle.store.specs.Run.{Store, started}
use Rattle.store.specs.Starts.{Starts}
use Rattle.tables.proofs.Sizing.{RegistersFit}
use Rattle.store.proofs.Standing.{Ready, stands}
use Rattle.store.proofs.Placed.{channel_sizes, tasks_low, registers_low, cards_low, home_placed_lem, holders_placed, primary_placed}

zeros : (n a : ℕ) → get_or (replicate {A = ℕ} n 0) a 0 ≡ 0
zeros zero a = refl
zeros (suc n) zero = refl
zeros (suc n) (suc a) = zeros n a

-- ---- the homes, one task after another

module _ (homes : List ℕ) where
  abbrev housed : ℕ → List ℕ
  housed n = turns (home_set homes) n (replicate 593 0)

  housed_more : (n : ℕ) → housed (suc n) ≡ set (housed n) (task_word n) (get_or homes n 0 * 2048)
  unfolding home_set
  housed_more n = turns_suc (home_set homes) n (replicate 593 0)

  housed_long : (n : ℕ) → length (housed n) ≡ 593
  housed_long zero = rw (turns_zero (home_set homes) (replicate {A = ℕ} 593 0)) (length-replicate {A = ℕ} 593 0)
  housed_long (suc n) = rw (housed_more n) (length-set (housed n) (task_word n) (get_or homes n 0 * 2048) ∙ housed_long n)

  housed_at : (n : ℕ) → n ≤ 16 → (t : ℕ) → t < n → get_or (housed n) (task_word t) 0 ≡ get_or homes t 0 * 2048
  housed_at zero l t h = absurd (omega arith)
  housed_at (suc n) l t h = rw (housed_more n) (go (ℕ_discrete t n) (λ g. housed_at n (omega arith) t g))
    where
      go : Dec (t ≡ n) → (t < n → get_or (housed n) (task_word t) 0 ≡ get_or homes t 0 * 2048)
          → get_or (set (housed n) (task_word n) (get_or homes n 0 * 2048)) (task_word t) 0 ≡ get_or homes t 0 * 2048
      go (yes e) earlier = rw e (get_or-set_same (housed n) (task_word n) (get_or homes n 0 * 2048) 0 (omega (arith, housed_long n)))
      go (no e) earlier =
          let below : t < n = omega arith in
          let et : t % 16 ≡ t = omega arith in
          let en : n % 16 ≡ n = omega arith in
          get_or-set_other (housed n) (task_word n) (task_word t) (get_or homes n 0 * 2048) 0 (omega arith) ∙ earlier below

  -- every other word is zero
  housed_other : (n a : ℕ) → ((t : ℕ) → t < 16 → a ≢ 1 + t * 2) → get_or (housed n) a 0 ≡ 0
  housed_other zero a h = rw (turns_zero (home_set homes) (replicate {A = ℕ} 593 0)) (zeros 593 a)
  housed_other (suc n) a h = rw (housed_more n) (get_or-set_other (housed n) (task_word n) a (get_or homes n 0 * 2048) 0 (h (n % 16) (omega arith)) ∙ housed_other n a h)

-- ---- the registers, one after another

module _ (copies primaries ws : List ℕ) (long : length ws ≡ 593) where
  abbrev lain : ℕ → List ℕ
  lain n = turns (register_set copies primaries) n ws

  abbrev packed : ℕ → ℕ
  packed n = get_or primaries n 0 % 8 + get_or copies n 0 * 8

  lain_more : (n : ℕ) → lain (suc n) ≡ set (lain n) (register_word n) (packed n)
  unfolding register_set
  lain_more n = turns_suc (register_set copies primaries) n ws

  lain_long : (n : ℕ) → length (lain n) ≡ 593
  lain_long zero = rw (turns_zero (register_set copies primaries) ws) long
  lain_long (suc n) = rw (lain_more n) (length-set (lain n) (register_word n) (packed n) ∙ lain_long n)

  lain_other : (n a : ℕ) → ((x : ℕ) → x < 32 → a ≢ 33 + x) → get_or (lain n) a 0 ≡ get_or ws a 0
  lain_other zero a h = rw (turns_zero (register_set copies primaries) ws)
  lain_other (suc n) a h = rw (lain_more n) (get_or-set_other (lain n) (register_word n) a (packed n) 0 (h (n % 32) (omega arith)) ∙ lain_other n a h)

  lain_at : (n : ℕ) → n ≤ 32 → (x : ℕ) → x < n → get_or (lain n) (register_word x) 0 ≡ packed x
  lain_at zero l x h = absurd (omega arith)
  lain_at (suc n) l x h = rw (lain_more n) (go (ℕ_discrete x n) (λ g. lain_at n (omega arith) x g))
    where
      go : Dec (x ≡ n) → (x < n → get_or (lain n) (register_word x) 0 ≡ packed x) → get_or (set (lain n) (register_word n) (packed n)) (register_word x) 0 ≡ packed x
      go (yes e) earlier = rw e (get_or-set_same (lain n) (register_word n) (packed n) 0 (omega (arith, lain_long n)))
      go (no e) earlier = get_or-set_other (lain n) (register_word n) (register_word x) (packed n) 0 (omega arith) ∙ earlier (omega arith)

-- ---- the registers' memory of an accepted placement

module _ (P : Placement) (ok : placement_refusal P ≡ 0) where
  abbrev ws : List ℕ
  ws = start_words P

  start_long : length ws ≡ 593
  unfolding start_words
  start_long = lain_long P.copies P.primaries (housed P.homes (tasks P)) (housed_long P.homes (tasks P)) (registers P)

  start_other : (a : ℕ) → ((t : ℕ) → t < 16 → a ≢ 1 + t * 2) → ((x : ℕ) → x < 32 → a ≢ 33 + x) → get_or ws a 0 ≡ 0
  unfolding start_words
  start_other a h g =
      lain_other P.copies P.primaries (housed P.homes (tasks P)) (housed_long P.homes (tasks P)) (registers P) a g ∙ housed_other P.homes (tasks P) a h

  -- a task's word, and a register's
  start_task : (t : ℕ) → t < tasks P → get_or ws (task_word t) 0 ≡ home P t * 2048
  unfolding start_words
  start_task t h =
      lain_other P.copies P.primaries (housed P.homes (tasks P)) (housed_long P.homes (tasks P)) (registers P) (task_word t) (λ x l. omega arith)
      ∙ housed_at P.homes (tasks P) (tasks_low P ok) t h

  start_register : (x : ℕ) → x < registers P → get_or ws (register_word x) 0 ≡ primary P x % 8 + holders P x * 8
  unfolding start_words
  start_register x h = lain_at P.copies P.primaries (housed P.homes (tasks P)) (housed_long P.homes (tasks P)) (registers P) (registers_low P ok) x h

  start_home : (t : ℕ) → t < tasks P → home_of ws t ≡ home P t
  unfolding home_in
  start_home t h = rw (start_task t h) (omega arith)

  start_holders : (x : ℕ) → x < registers P → holders_of ws x ≡ holders P x
  unfolding holders_in
  start_holders x h = rw (start_register x h) (omega arith)

  start_primary : (x : ℕ) → x < registers P → primary_of ws x ≡ primary P x
  unfolding primary_in
  start_primary x h = let m : primary P x < 8 = omega (arith, primary_placed P ok x h, cards_low P ok) in rw (start_register x h) (omega arith)

  start_kind : (t : ℕ) → t < tasks P → doing_kind_at ws t ≡ 0
  unfolding doing_kind_in
  start_kind t h = rw (start_task t h) (omega arith)

  start_quiet : (t : ℕ) → t < tasks P → doing_at ws t ≡ Quiet
  unfolding doing_in doing_of
  start_quiet t h = rw (start_kind t h)

  start_count : (i : ℕ) → out_count_of ws i ≡ 0
  start_count i = start_other (out_count_word i) (λ u h. omega arith) (λ x h. omega arith)

  start_shows : (cards : ℕ) → RegistersShow ws cards (tasks P) (registers P) P begin
  unfolding status_of outbox_of
  start_shows cards = record {
    home= = λ c h. sym (start_home c h);
    holders= = λ x h. sym (start_holders x h);
    primary= = λ x h. sym (start_primary x h);
    requests= = sym (start_other 0 (λ u h. omega arith) (λ x h. omega arith));
    status= = λ c h. ap status_of (sym (start_quiet c h));
    table= = λ i x h g. sym (start_other (copy_word i x) (λ u h. omega arith) (λ y h. omega arith));
    out= = λ i h. sym (rw (start_count i) (listing_zero _));
  }

  start_fit : (cs : List ℕ) → cards_of cs ≡ P.cards → tasks_of cs ≡ tasks P → registers_of cs ≡ registers P → RegistersFit ws cs
  unfolding doing_fits
  start_fit cs c t r = record {
    requests = rw (start_other 0 (λ u h. omega arith) (λ x h. omega arith)) (omega arith);
    home = λ a h. let l : a < tasks P = rw t at h in rw (c, start_home a l) (home_placed_lem P ok a l);
    kind = λ a h. rw (start_kind a (rw t at h)) (omega arith);
    doing = λ a h. rw (start_quiet a (rw t at h));
    holders = λ x h. let l : x < registers P = rw r at h in rw (c, start_holders x l) (holders_placed P ok x l);
    primary = λ x h. let l : x < registers P = rw r at h in rw (c, start_primary x l) (primary_placed P ok x l);
    head = λ i h. rw (start_other (out_head_word i) (λ u h. omega arith) (λ x h. omega arith)) (omega arith);
    count = λ i h. rw (start_count i) (omega arith);
    out = λ i k h g. let l : k < 0 = rw (start_count i) at g in absurd (omega arith);
  }

  start_ready : (cs : List ℕ) → Ready ws (begin_memory cs P.cards (tasks P) (registers P)) P begin
  start_ready cs =
      let b = begin_follows cs P.cards (tasks P) (registers P) in
      let f = channel_sizes P ok in
      let e = b.sizes f in
      record {
        long = start_long;
        channel_long = begun_length cs P.cards (tasks P) (registers P) f;
        fit = start_fit (begin_memory cs P.cards (tasks P) (registers P)) e.0 e.1 e.2;
        channel_fit = begun_sized cs P.cards (tasks P) (registers P) f;
        cards= = sym e.0;
        tasks= = sym e.1;
        registers= = sym e.2;
        show = rw (e.1, e.2) (start_shows (cards_of (begin_memory cs P.cards (tasks P) (registers P))));
        channel_shows = record { letters = initial_channel; shows = b.shows f; plain= = refl };
      }

  pub start_stands : (m : Store) → Stands (started P m).registers (started P m).channel P begin
  unfolding start_registers start_channel
  start_stands m = rw (eq-eqb (placement_refusal P) 0 ok) (stands ws (begin_memory m.channel P.cards (tasks P) (registers P)) P begin (start_ready m.channel))

pub start_refused : (P : Placement) → placement_refusal P ≢ 0 → (m : Store) → started P m ≡ m
unfolding start_registers start_channel
start_refused P n m = rw (ne_eqb (placement_refusal P) 0 n)

pub starts : Starts
starts = record { accepted = start_stands; refused = start_refused }
