-- What is read of two registers' memories that read alike but for where the copies lie is the same, and so is what they show.
use Prim.Native.Nat.{ℕ, ◌+◌, ◌%◌, min}
use mathlib.Core.Path.{◌≡◌, ap, ap₂, ◌∙◌}
use mathlib.Core.Logic.{inl, inr}
use mathlib.Core.List.{List}
use native.Mathlib.Omega.{arith}
use lib.Dec.{ltb}
use lib.ListN.{get_or}
use Rattle.lists.specs.Every.{each_cong}
use Rattle.lists.specs.Listings.{listing, listing_cong}
use Rattle.names.specs.CardSet.{member_of}
use Rattle.names.specs.Letters.{packet_at, letter_at, letter_of}
use Rattle.names.specs.Placement.{Placement}
use Rattle.channel.specs.Layout.{cards_of, tasks_of, registers_of}
use Rattle.claims.specs.Found.{Found}
use Rattle.tables.specs.Layout.{Place, task_word, value_word, register_word, out_head_word, out_count_word, out_block, home_in, primary_in, holders_in, requests_of, home_of, holders_of, primary_of, holds}
use Rattle.tables.specs.Doings.{doing_in, doing_at}
use Rattle.tables.specs.Outbox.{out_head_of, out_count_of, out_place, roomy, first_packet, first_out}
use Rattle.tables.specs.Sized.{task_fits, register_fits, out_fits, outbox_fits, registers_sized, store_sized}
use Rattle.tables.specs.Shows.{status_of, plain, outbox_of, StoreShowsAt}
use Rattle.tables.specs.Match.{ReadAlike}

module _ (p q : Place) (rs us : List ℕ) (z : ReadAlike p q rs us) where
  pub requests= : requests_of rs ≡ requests_of us
  requests= = z.word= 0 (inl (omega arith))

  task= : (t : ℕ) → get_or rs (task_word t) 0 ≡ get_or us (task_word t) 0
  task= t = z.word= (task_word t) (inl (omega arith))

  register= : (x : ℕ) → get_or rs (register_word x) 0 ≡ get_or us (register_word x) 0
  register= x = z.word= (register_word x) (inl (omega arith))

  pub home= : (t : ℕ) → home_of rs t ≡ home_of us t
  home= t = ap home_in (task= t)

  pub doing= : (t : ℕ) → doing_at rs t ≡ doing_at us t
  doing= t = ap₂ doing_in (task= t) (z.word= (value_word t) (inl (omega arith)))

  pub holders= : (x : ℕ) → holders_of rs x ≡ holders_of us x
  holders= x = ap holders_in (register= x)

  pub primary= : (x : ℕ) → primary_of rs x ≡ primary_of us x
  primary= x = ap primary_in (register= x)

  pub holds= : (x i : ℕ) → holds rs x i ≡ holds us x i
  unfolding holds
  holds= x i = ap (λ h. member_of h i) (holders= x)

  -- ---- outboxes

  pub out_head= : (i : ℕ) → out_head_of rs i ≡ out_head_of us i
  out_head= i = z.word= (out_head_word i) (inr (omega arith))

  pub out_count= : (i : ℕ) → out_count_of rs i ≡ out_count_of us i
  out_count= i = z.word= (out_count_word i) (inr (omega arith))

  packet= : (i k : ℕ) → packet_at rs (out_block i k) ≡ packet_at us (out_block i k)
  packet= i k = ap₂ (λ w v. record { word = w; value = v }) (z.word= (out_block i k) (inr (omega arith))) (z.word= (out_block i k + 1) (inr (omega arith)))

  -- place k of card i's outbox
  placed= : (i k : ℕ) → packet_at rs (out_place rs i k) ≡ packet_at us (out_place us i k)
  placed= i k = rw (out_head= i) (packet= i _)

  pub roomy= : (i : ℕ) → roomy rs i ≡ roomy us i
  unfolding roomy
  roomy= i = ap (λ n. ltb n 16) (out_count= i)

  pub first= : (i : ℕ) → first_out rs i ≡ first_out us i
  unfolding first_packet
  first= i = ap letter_of (rw (out_head= i) (packet= i _))

  -- ---- well-sizedness

  module _ (cs : List ℕ) where
    task_fits= : (t : ℕ) → task_fits rs cs t ≡ task_fits us cs t
    unfolding task_fits
    task_fits= t = rw (task= t, z.word= (value_word t) (inl (omega arith)))

    register_fits= : (x : ℕ) → register_fits rs cs x ≡ register_fits us cs x
    unfolding register_fits
    register_fits= x = rw (register= x)

    out_fits= : (i k : ℕ) → out_fits rs cs i k ≡ out_fits us cs i k
    unfolding out_fits
    out_fits= i k =
        let b : ℕ = out_block i (out_head_of us i % 16 + k) in
        rw (out_head= i, z.word= b (inr (omega arith)), z.word= (b + 1) (inr (omega arith)))

    outbox_fits= : (i : ℕ) → outbox_fits rs cs i ≡ outbox_fits us cs i
    unfolding outbox_fits
    outbox_fits= i = rw (out_head= i, out_count= i, each_cong (min (out_count_of us i) 16) (out_fits rs cs i) (out_fits us cs i) (λ k h. out_fits= i k))

    pub sized= : store_sized rs cs ≡ store_sized us cs
    unfolding store_sized registers_sized
    sized= =
        rw (
          requests=,
          each_cong (tasks_of cs) (task_fits rs cs) (task_fits us cs) (λ t h. task_fits= t),
          each_cong (registers_of cs) (register_fits rs cs) (register_fits us cs) (λ x h. register_fits= x),
          each_cong (cards_of cs) (outbox_fits rs cs) (outbox_fits us cs) (λ i h. outbox_fits= i),
        )

  -- ---- what is shown

  outbox= : (i : ℕ) → outbox_of rs i ≡ outbox_of us i
  unfolding outbox_of
  outbox= i =
      listing_cong (λ k. plain (letter_at rs (out_place rs i k))) (λ k. plain (letter_at us (out_place us i k))) (out_count_of rs i) (λ k h. ap (λ b. plain (letter_of b)) (placed= i k))
      ∙ ap (listing (λ k. plain (letter_at us (out_place us i k)))) (out_count= i)

  pub shows_match : (cs : List ℕ) (P : Placement) (s : Found) → StoreShowsAt p rs cs P s → StoreShowsAt q us cs P s
  shows_match cs P s v =
      let r = v.registers_show in
      record {
        cards= = v.cards=;
        tasks= = v.tasks=;
        registers= = v.registers=;
        registers_show = record {
          home= = λ c h. r.home= c h ∙ home= c;
          holders= = λ x h. r.holders= x h ∙ holders= x;
          primary= = λ x h. r.primary= x h ∙ primary= x;
          requests= = r.requests= ∙ requests=;
          status= = λ c h. r.status= c h ∙ ap status_of (doing= c);
          table= = λ i x h g. r.table= i x h g ∙ z.copy= i x;
          out= = λ i h. r.out= i h ∙ outbox= i;
        };
        channel_shows = v.channel_shows;
      }
