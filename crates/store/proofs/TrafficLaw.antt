-- Steps 6, 7 and 8.
use Prim.Native.Nat.{ℕ, zero, suc, ◌+◌, ◌%◌, ◌<◌}
use mathlib.Core.Path.{◌≡◌, refl, sym, ap, ◌∙◌}
use mathlib.Core.Bool.{true, false}
use mathlib.Core.List.{List, [], ◌∷◌}
use native.Mathlib.Omega.{arith}
use borrow.Author.Tests.{ne_eqb}
use lib.Dec.{eqb}
use lib.ListN.{length}
use Rattle.lists.specs.Listings.{listing_zero}
use Rattle.lists.specs.Tests.{clash}
use Rattle.names.specs.declared.Card.{Card}
use Rattle.names.specs.declared.Task.{Task}
use Rattle.names.specs.declared.Letter.{Letter}
use Rattle.names.specs.Letters.{packet_at}
use Rattle.names.specs.Placement.{Placement}
use Rattle.names.specs.Results.{is_taken}
use Rattle.names.proofs.Results.{not_zero_refused, result_plain}
use Rattle.automaton.specs.State.{ChannelState, ChannelAction, dispatch, take_broadcast, take_single, channel_step}
use Rattle.channel.specs.Layout.{channel_words, cards_of, tasks_of, registers_of}
use Rattle.channel.specs.Letters.{fits}
use Rattle.names.specs.Refusals.{result_number}
use Rattle.channel.specs.Dispatch.{dispatch_answer, dispatch_memory}
use Rattle.channel.specs.TakeBroadcast.{take_answer, take_memory}
use Rattle.channel.specs.TakeSingle.{single_answer, single_memory}
use Rattle.channel.specs.Sized.{well_sized}
use Rattle.channel.specs.MemoryCalls.{SameSizes}
use Rattle.channel.proofs.Offered.{cards_most, tasks_most, registers_most, same_cards, same_tasks, same_registers, packet_sizes, packet_letter}
use Rattle.channel.proofs.OfferedCalls.{dispatch_passes, take_broadcast_passes, take_single_passes, dispatch_result, take_broadcast_result, take_single_result}
use Rattle.claims.specs.Command as Step
use Rattle.claims.specs.Steps.{good}
use Rattle.claims.specs.Found.{Found, mail, with_channel, dispatching}
use Rattle.claims.specs.Found as F
use Rattle.tables.specs.declared.Doing.{Doing}
use Rattle.tables.specs.declared.Doing.TheVariants.{Quiet, AskingRead, AskingUpdate, Waiting, DoneRead, DoneUpdate}
use Rattle.tables.specs.Doings.{doing_at}
use Rattle.tables.specs.Outbox.{out_head_of, out_count_of, out_place, first_packet, first_out, unposted}
use Rattle.store.specs.Traffic.{dispatch_number, dispatch_registers, dispatch_channel}
use Rattle.tables.specs.Sized.{doing_fits, out_fits}
use Rattle.store.specs.Step.{outcome}
use Rattle.tables.specs.Shows.{plain, outbox_of, RegistersShow, ChannelShows}
use Rattle.store.specs.Demand2.{StepFollows}
use Rattle.tables.proofs.Words.{unposted_long, unpost_drops}
use Rattle.tables.proofs.Showing.{unpost_show}
use Rattle.tables.proofs.Sizing.{RegistersFit, unpost_fit}
use Rattle.store.proofs.OverChannel.{Goes, goes}
use Rattle.store.proofs.Standing.{Ready, follows_any}

-- ---- another channel's memory of the same sizes

doing_same : (ds cs : List ℕ) → SameSizes ds cs → (d : Doing) → doing_fits ds d ≡ doing_fits cs d
unfolding doing_fits
doing_same ds cs e Quiet = refl
doing_same ds cs e (AskingRead x) = rw (same_registers ds cs e)
doing_same ds cs e (AskingUpdate x f w) = rw (same_registers ds cs e)
doing_same ds cs e Waiting = refl
doing_same ds cs e (DoneRead v) = refl
doing_same ds cs e (DoneUpdate v) = refl

out_same : (rs ds cs : List ℕ) → SameSizes ds cs → (i k : ℕ) → out_fits rs ds i k ≡ out_fits rs cs i k
unfolding out_fits
out_same rs ds cs e i k = packet_sizes ds cs e (packet_at rs (out_place rs i k))

pub fit_sizes : (rs ds cs : List ℕ) → SameSizes ds cs → RegistersFit rs cs → RegistersFit rs ds
fit_sizes rs ds cs e f =
    let c = same_cards ds cs e in
    let t = same_tasks ds cs e in
    let r = same_registers ds cs e in
    record {
      requests = f.requests;
      home = λ a h. rw c (f.home a (rw t at h));
      kind = λ a h. f.kind a (rw t at h);
      doing = λ a h. doing_same ds cs e (doing_at rs a) ∙ f.doing a (rw t at h);
      holders = λ x h. rw c (f.holders x (rw r at h));
      primary = λ x h. rw c (f.primary x (rw r at h));
      head = λ i h. f.head i (rw c at h);
      count = λ i h. f.count i (rw c at h);
      out = λ i k h g. out_same rs ds cs e i k ∙ f.out i k (rw c at h) g;
    }

-- memories whose channel is another of the same sizes
pub channel_ready : (rs us cs ds : List ℕ) (P : Placement) (s u : Found) → Ready rs cs P s → length us ≡ 593 → RegistersFit us cs
    → RegistersShow us (cards_of cs) (tasks_of cs) (registers_of cs) P u
    → well_sized ds ≡ true → length ds ≡ channel_words → SameSizes ds cs → ChannelShows ds u.channel → Ready us ds P u
channel_ready rs us cs ds P s u z l f v ok dl e w =
    let c = same_cards ds cs e in
    let t = same_tasks ds cs e in
    let r = same_registers ds cs e in
    record {
      long = l;
      channel_long = dl;
      fit = fit_sizes us ds cs e f;
      channel_fit = ok;
      cards= = z.cards= ∙ sym c;
      tasks= = z.tasks= ∙ sym t;
      registers= = z.registers= ∙ sym r;
      show = rw (c, t, r) v;
      channel_shows = w;
    }

module _ (rs cs : List ℕ) (P : Placement) (s : Found) (z : Ready rs cs P s) where
  -- the registers as they were, and a channel's call taken
  called_ready : (x : ChannelAction F.Letter) (n : ℕ) (ds : List ℕ) → Goes cs s.channel x n ds → (w : ChannelState F.Letter) → ChannelShows ds w
      → Ready rs ds P (with_channel s w)
  called_ready x n ds k w v =
      channel_ready rs rs cs ds P s (with_channel s w) z z.long z.fit
      (record {
        home= = z.show.home=;
        holders= = z.show.holders=;
        primary= = z.show.primary=;
        requests= = z.show.requests=;
        status= = z.show.status=;
        table= = z.show.table=;
        out= = z.show.out=;
      })
      k.sized k.long k.sizes v

  -- ---- steps 7 and 8

  pub take_broadcast_follows : (i : Card) → i.0 < cards_of cs → StepFollows rs cs P s (outcome (result_number (take_answer cs i)) rs (take_memory cs i)) (good (Step.take_broadcast i.0))
  take_broadcast_follows i h =
      let k = goes cs s.channel z.channel_shows (take_broadcast i.0) (result_number (take_answer cs i)) (take_memory cs i)
      (take_broadcast_passes cs z.channel_shows.letters z.channel_long z.channel_fit z.channel_shows.shows i h) in
      follows_any rs cs P s z (result_number (take_answer cs i)) rs (take_memory cs i) (Step.take_broadcast i.0) refl
      (rw z.cards= (k.number ∙ take_broadcast_result mail (cards_of cs) s.channel i.0))
      (λ n. called_ready (take_broadcast i.0) (result_number (take_answer cs i)) (take_memory cs i) k _ (k.shows n))
      (λ n. (refl, k.untouched n))

  pub take_single_follows : (t : Task) → t.0 < tasks_of cs → StepFollows rs cs P s (outcome (result_number (single_answer cs t)) rs (single_memory cs t)) (good (Step.take_single t.0))
  take_single_follows t h =
      let k = goes cs s.channel z.channel_shows (take_single t.0) (result_number (single_answer cs t)) (single_memory cs t)
      (take_single_passes cs z.channel_shows.letters z.channel_long z.channel_fit z.channel_shows.shows t h) in
      follows_any rs cs P s z (result_number (single_answer cs t)) rs (single_memory cs t) (Step.take_single t.0) refl
      (rw z.cards= (k.number ∙ take_single_result mail (cards_of cs) s.channel t.0))
      (λ n. called_ready (take_single t.0) (result_number (single_answer cs t)) (single_memory cs t) k _ (k.shows n))
      (λ n. (refl, k.untouched n))

  -- ---- step 6

  module _ (i : Card) (card : i.0 < cards_of cs) where
    -- an empty outbox
    out_none : out_count_of rs i.0 ≡ 0 → s.out i.0 ≡ []
    unfolding outbox_of
    out_none e = z.show.out= i.0 card ∙ rw e (listing_zero _)

    -- its head
    out_head : (n : ℕ) → out_count_of rs i.0 ≡ suc n → s.out i.0 ≡ plain (first_out rs i.0) ∷ outbox_of (unposted rs i.0) i.0
    out_head n e = z.show.out= i.0 card ∙ unpost_drops rs i.0 z.long n e

    -- which fits
    head_goes : (n : ℕ) → out_count_of rs i.0 ≡ suc n → fits cs (first_out rs i.0) ≡ true
    unfolding out_fits first_packet
    head_goes n e =
        let m : (out_head_of rs i.0 % 16 + 0) % 16 ≡ out_head_of rs i.0 % 16 = omega arith in
        rw m at (packet_letter cs (packet_at rs (out_place rs i.0 0)) (z.fit.out i.0 0 card (omega arith)))

    abbrev first : Letter
    first = first_out rs i.0

    -- what the channel answers of it, and leaves
    abbrev number : ℕ
    number = result_number (dispatch_answer cs i first.message first.to)

    abbrev left : List ℕ
    left = dispatch_memory cs i first.message first.to

    head_called : (n : ℕ) → out_count_of rs i.0 ≡ suc n → Goes cs s.channel (dispatch i.0 (plain first)) number left
    head_called n e =
        goes cs s.channel z.channel_shows (dispatch i.0 first) number left
        (dispatch_passes cs z.channel_shows.letters z.channel_long z.channel_fit z.channel_shows.shows i first.message first.to card (head_goes n e))

    -- the head gone, and dispatched
    dispatched : (n : ℕ) (e : out_count_of rs i.0 ≡ suc n) → is_taken number ≡ true
        → Ready (unposted rs i.0) left P (dispatching P s i.0 (plain first ∷ outbox_of (unposted rs i.0) i.0))
    dispatched n e q =
        let k = head_called n e in
        channel_ready rs (unposted rs i.0) cs left P s (dispatching P s i.0 (plain first ∷ outbox_of (unposted rs i.0) i.0)) z
        (unposted_long rs i.0 z.long n e)
        (unpost_fit rs cs (cards_most cs) (tasks_most cs) (registers_most cs) z.long z.fit i.0 card n e)
        (unpost_show rs (cards_of cs) (tasks_of cs) (registers_of cs) (cards_most cs) (tasks_most cs) (registers_most cs) P s z.long z.show (channel_step mail s.channel (dispatch i.0 (plain first))) i.0 card n e)
        k.sized k.long k.sizes (k.shows q)

    pub dispatch_follows : StepFollows rs cs P s (outcome (dispatch_number rs cs i) (dispatch_registers rs cs i) (dispatch_channel rs cs i)) (good (Step.dispatch i.0))
    unfolding dispatch_number dispatch_registers dispatch_channel
    dispatch_follows = go (out_count_of rs i.0) refl
      where
        go : (n : ℕ) → out_count_of rs i.0 ≡ n → StepFollows rs cs P s (outcome (dispatch_number rs cs i) (dispatch_registers rs cs i) (dispatch_channel rs cs i)) (good (Step.dispatch i.0))
        go zero e =
            follows_any rs cs P s z (dispatch_number rs cs i) (dispatch_registers rs cs i) (dispatch_channel rs cs i) (Step.dispatch i.0) refl
            (thirty ∙ sym (result_plain 30) ∙ rw (out_none e)) (λ q. absurd (clash q none)) (λ q. rw (q, e) (refl, refl))
          where
            thirty : dispatch_number rs cs i ≡ 30
            thirty = rw e

            none : is_taken (dispatch_number rs cs i) ≡ false
            none = ap is_taken thirty ∙ not_zero_refused 30 (omega arith) (λ q. omega arith)
        go (suc n) e =
            let k = head_called n e in
            let f : eqb (out_count_of rs i.0) 0 ≡ false = ne_eqb (out_count_of rs i.0) 0 (omega arith) in
            let same : dispatch_number rs cs i ≡ number = rw f in
            follows_any rs cs P s z (dispatch_number rs cs i) (dispatch_registers rs cs i) (dispatch_channel rs cs i) (Step.dispatch i.0) refl
            (rw (f, out_head n e, z.cards=) (k.number ∙ dispatch_result mail (cards_of cs) s.channel i.0 (plain first)))
            (λ q. rw (q, f, out_head n e) (dispatched n e (ap is_taken (sym same) ∙ q)))
            (λ q. rw (q, f) (refl, k.untouched (ap is_taken (sym same) ∙ q)))
