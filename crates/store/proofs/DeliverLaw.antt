-- Step 9.
use Prim.Native.Nat.{ℕ, ◌<◌}
use mathlib.Core.Path.{◌≡◌, refl, sym, ap, ◌∙◌}
use mathlib.Core.Logic.{◌≢◌}
use mathlib.Core.Bool.{Bool, true, false, cond, ◌&&◌, not}
use mathlib.Core.List.{List, [], ◌∷◌, map}
use native.Mathlib.Omega.{arith}
use borrow.Author.Tests.{ne_eqb}
use lib.Dec.{eqb, ltb}
use lib.ListN.{length}
use Rattle.names.specs.declared.Card.{Card}
use Rattle.names.specs.declared.Letter.{Letter}
use Rattle.names.specs.declared.Body.{Body}
use Rattle.names.specs.declared.Body.TheVariants.{ReadDo, ReadReply, UpdateDo, UpdateReply}
use Rattle.names.specs.CardSet.{just_of}
use Rattle.names.specs.Letters.{known}
use Rattle.names.specs.Update.{updated}
use Rattle.names.specs.Results.{is_taken}
use Rattle.names.proofs.Results.{taken_zero}
use Rattle.names.specs.Placement.{Placement, home, primary, copy}
use Rattle.automaton.specs.State.{ChannelState, deliver, channel_step}
use Rattle.channel.specs.Layout.{cards_of, tasks_of, registers_of}
use Rattle.std.specs.Prelude.{Ok, Err}
use Rattle.names.specs.declared.refusals.Refusal.TheVariants.{NothingToDeliver}
use Rattle.channel.specs.Inbox.{receive_answer, receive_memory}
use Rattle.names.specs.Refusals.{number_of}
use Rattle.channel.specs.MemoryCalls.{handed_up}
use Rattle.channel.proofs.Offered.{cards_most, Fits, fits_is, hands, head_fits_lem}
use Rattle.channel.proofs.OfferedCalls.{receive_passes}
use Rattle.claims.specs.Command as Step
use Rattle.claims.specs.Steps.{good}
use Rattle.claims.specs.Refusals.{outbox_room}
use Rattle.claims.specs.Found.{Found, mail, set_status, set_copy, post, with_channel, replies, reply_to, receiving, done_update}
use Rattle.claims.specs.Found as F
use Rattle.tables.specs.declared.Doing.TheVariants.{DoneRead, DoneUpdate}
use Rattle.tables.specs.Layout.{home_of, copy_of, only_card}
use Rattle.tables.specs.Doings.{doing_stored}
use Rattle.tables.specs.Outbox.{out_count_of, roomy}
use Rattle.store.specs.Perform.{copy_updated}
use Rattle.store.specs.Deliver.{replied, replies_here, applied_at, applied, body_number, body_words, found_number, found_words, deliver_number, deliver_registers, deliver_channel}
use Rattle.tables.specs.Sized.{doing_fits}
use Rattle.store.specs.Step.{outcome}
use Rattle.tables.specs.Shows.{status_of, plain, ChannelShows}
use Rattle.store.specs.Demand2.{StepFollows}
use Rattle.store.proofs.OverChannel.{Goes, goes}
use Rattle.store.proofs.Standing.{Ready, home_there, holds_is, count_is, follows}
use Rattle.store.proofs.RequestLaw.{doing_ready}
use Rattle.store.proofs.PerformLaw.{updated_ready}
use Rattle.store.proofs.Posting.{just_some, just_present, only_just, room_is, post_ready}
use Rattle.store.proofs.TrafficLaw.{channel_ready}

module _ (rs cs : List ℕ) (P : Placement) (s : Found) (z : Ready rs cs P s) (i : ℕ) (card : i < cards_of cs) where
  -- card i delivers message m of a present task, on a present register
  module _ (m : F.Letter) (task : m.task < tasks_of cs) (register : m.reg < registers_of cs) where
    home_is : home P m.task ≡ home_of rs m.task
    home_is = z.show.home= m.task task

    here_is : (eqb i (primary P m.reg) && not (copy P m.reg (home P m.task))) ≡ replies_here rs i m.task m.reg
    unfolding replies_here
    here_is = rw (holds_is rs cs P s z m.reg (home P m.task) register (home_there rs cs P s z m.task task), home_is, z.show.primary= m.reg register)

    room : outbox_room (s.out i) ≡ cond (roomy rs i) 0 6
    room = room_is rs cs P s z i card (roomy rs i) refl

    body_number_lem : (b : Body) → body_number rs i m.task m.reg b ≡ cond (replies P m i b) (outbox_room (s.out i)) 0
    unfolding body_number
    body_number_lem ReadDo = sym room
    body_number_lem (ReadReply v) = refl
    body_number_lem (UpdateDo f w) = rw (here_is, room)
    body_number_lem (UpdateReply v) = refl

    -- a reply joins the outbox, on memories with the same outboxes as now
    reply_ready : (us : List ℕ) (u : Found) → Ready us cs P u → length (u.out i) ≡ length (s.out i) → roomy rs i ≡ true → (b : Body) → known b ≡ true
        → Ready (replied us i m.task m.reg b) cs P (record { requests = u.requests; status = u.status; table = u.table; out = post i (reply_to P m b) u.out; channel = u.channel })
    unfolding replied roomy
    reply_ready us u y same r b k =
        let h : home P m.task ≡ home_of us m.task = y.show.home= m.task task in
        let there = home_there us cs P u y m.task task in
        let o : only_card (home_of us m.task) ≡ just_of (home P m.task) = rw (← h) (only_just (home P m.task) (omega (arith, cards_most cs))) in
        let n : out_count_of us i ≡ out_count_of rs i =
        sym (count_is us (cards_of cs) (tasks_of cs) (registers_of cs) P u y.show i card) ∙ same
        ∙ count_is rs (cards_of cs) (tasks_of cs) (registers_of cs) P s z.show i card in
        rw o
        (post_ready us cs P u y i card m.task m.reg b (just_of (home P m.task)) (ap (λ q. ltb q 16) n ∙ r) task register k
        (just_some (home P m.task)) (just_present (home P m.task) (cards_of cs) there))

    -- the value that an update finds here
    abbrev v : ℕ
    v = s.table i m.reg

    found_is : copy_of rs i m.reg ≡ v
    found_is = sym (z.show.table= i m.reg card register)

    -- an update applied, and its task done if this is its home
    applied_ready : (f w : ℕ) → Ready (applied rs i m.task m.reg f w) cs P
        (record {
          requests = s.requests;
          status = cond (eqb i (home P m.task)) (set_status m.task (done_update v) s.status) s.status;
          table = set_copy i m.reg (updated f w (s.table i m.reg)) s.table;
          out = s.out;
          channel = s.channel;
        })
    unfolding applied_at status_of doing_fits
    applied_ready f w = rw (home_is, found_is) (go (eqb i (home_of rs m.task)))
      where
        go : (b : Bool) → Ready (cond b (doing_stored (copy_updated rs i m.reg f w) m.task (DoneUpdate v)) (copy_updated rs i m.reg f w)) cs P
            (record {
              requests = s.requests;
              status = cond b (set_status m.task (done_update v) s.status) s.status;
              table = set_copy i m.reg (updated f w (s.table i m.reg)) s.table;
              out = s.out;
              channel = s.channel;
            })
        go true = doing_ready (copy_updated rs i m.reg f w) cs P _ (updated_ready rs cs P s z i m.reg f w card register) m.task task (DoneUpdate v) refl
        go false = updated_ready rs cs P s z i m.reg f w card register

    roomed : (b : Bool) → ◌≡◌ {A = ℕ} (cond b 0 6) 0 → b ≡ true
    roomed true q = refl
    roomed false q = absurd (omega arith)

    body_ready : (b : Body) → body_number rs i m.task m.reg b ≡ 0 → Ready (body_words rs i m.task m.reg b) cs P (with_channel (receiving P s i m b) s.channel)
    unfolding body_number body_words status_of doing_fits known
    body_ready ReadDo n =
        let r = roomed (roomy rs i) n in
        rw (r, z.show.table= i m.reg card register)
        (reply_ready rs s z refl r (ReadReply (copy_of rs i m.reg)) refl)
    body_ready (ReadReply v) n = doing_ready rs cs P s z m.task task (DoneRead v) refl
    body_ready (UpdateDo f w) n = rw (here_is, found_is) (go (replies_here rs i m.task m.reg) n)
      where
        go : (b : Bool) → ◌≡◌ {A = ℕ} (cond b (cond (roomy rs i) 0 6) 0) 0
            → Ready (cond b (cond (roomy rs i) (replied (applied rs i m.task m.reg f w) i m.task m.reg (UpdateReply v)) rs) (applied rs i m.task m.reg f w)) cs P
            (record {
              requests = s.requests;
              status = cond (eqb i (home P m.task)) (set_status m.task (done_update v) s.status) s.status;
              table = set_copy i m.reg (updated f w (s.table i m.reg)) s.table;
              out = cond b (post i (reply_to P m (UpdateReply v)) s.out) s.out;
              channel = s.channel;
            })
        go true q =
            let r = roomed (roomy rs i) q in
            rw r (reply_ready (applied rs i m.task m.reg f w) _ (applied_ready f w) refl r (UpdateReply v) refl)
        go false q = applied_ready f w
    body_ready (UpdateReply v) n = doing_ready rs cs P s z m.task task (DoneUpdate v) refl

    body_refused : (b : Body) → body_number rs i m.task m.reg b ≢ 0 → body_words rs i m.task m.reg b ≡ rs
    unfolding body_number body_words
    body_refused ReadDo n = go (roomy rs i) _ n
      where
        go : (b : Bool) (us : List ℕ) → ◌≢◌ {A = ℕ} (cond b 0 6) 0 → cond b us rs ≡ rs
        go true us q = absurd (q refl)
        go false us q = refl
    body_refused (ReadReply v) n = absurd (n refl)
    body_refused (UpdateDo f w) n = go (replies_here rs i m.task m.reg) (roomy rs i) _ _ n
      where
        go : (a b : Bool) (us ts : List ℕ) → ◌≢◌ {A = ℕ} (cond a (cond b 0 6) 0) 0 → cond a (cond b us rs) ts ≡ rs
        go true true us ts q = absurd (q refl)
        go true false us ts q = refl
        go false b us ts q = absurd (q refl)
    body_refused (UpdateReply v) n = absurd (n refl)

module _ (rs cs : List ℕ) (P : Placement) (s : Found) (z : Ready rs cs P s) (i : Card) (card : i.0 < cards_of cs) where
  abbrev w : ChannelState Letter
  w = z.channel_shows.letters

  got : receive_answer cs i ≡ handed_up (w.inbox i.0)
  got = hands cs w z.channel_long z.channel_fit z.channel_shows.shows i card

  inbox_is : s.channel.inbox i.0 ≡ map plain (w.inbox i.0)
  inbox_is = ap (λ c. c.inbox i.0) z.channel_shows.plain=

  received : Goes cs s.channel (deliver i.0) (number_of (receive_answer cs i)) (receive_memory cs i)
  received =
      goes cs s.channel z.channel_shows (deliver i.0) (number_of (receive_answer cs i)) (receive_memory cs i)
      (receive_passes cs w z.channel_long z.channel_fit z.channel_shows.shows i card)

  module _ (l : Letter) (r : List Letter) (e : w.inbox i.0 ≡ l ∷ r) where
    fit : Fits cs l
    fit = fits_is cs l (head_fits_lem cs w z.channel_long z.channel_fit z.channel_shows.shows i.0 card l r e)

    got_it : receive_answer cs i ≡ Ok l.message
    got_it = got ∙ ap handed_up e

    number_is : deliver_number rs cs i ≡ body_number rs i.0 l.message.task.0 l.message.register.0 l.message.body
    unfolding deliver_number found_number
    number_is = rw got_it

    delivered : body_number rs i.0 l.message.task.0 l.message.register.0 l.message.body ≡ 0
        → Ready (body_words rs i.0 l.message.task.0 l.message.register.0 l.message.body) (receive_memory cs i) P (receiving P s i.0 (plain l) l.message.body)
    delivered n =
        let y = body_ready rs cs P s z i.0 card (plain l) fit.task fit.register l.message.body n in
        let k = received in
        let q : is_taken (number_of (receive_answer cs i)) ≡ true = ap is_taken (ap number_of got_it) ∙ taken_zero in
        channel_ready rs (body_words rs i.0 l.message.task.0 l.message.register.0 l.message.body) cs (receive_memory cs i) P s
        (receiving P s i.0 (plain l) l.message.body) z y.long y.fit
        (record {
          home= = y.show.home=;
          holders= = y.show.holders=;
          primary= = y.show.primary=;
          requests= = y.show.requests=;
          status= = y.show.status=;
          table= = y.show.table=;
          out= = y.show.out=;
        })
        k.sized k.long k.sizes (shown l.message.body (k.shows q))
      where
        shown : (b : Body) → ChannelShows (receive_memory cs i) (channel_step mail s.channel (deliver i.0)) → ChannelShows (receive_memory cs i) (receiving P s i.0 (plain l) b).channel
        shown ReadDo v = v
        shown (ReadReply x) v = v
        shown (UpdateDo f x) v = v
        shown (UpdateReply x) v = v

  pub deliver_follows : StepFollows rs cs P s (outcome (deliver_number rs cs i) (deliver_registers rs cs i) (deliver_channel rs cs i)) (good (Step.deliver i.0))
  unfolding deliver_number deliver_registers deliver_channel found_number found_words
  deliver_follows = go (w.inbox i.0) refl
    where
      go : (a : List Letter) → w.inbox i.0 ≡ a → StepFollows rs cs P s (outcome (deliver_number rs cs i) (deliver_registers rs cs i) (deliver_channel rs cs i)) (good (Step.deliver i.0))
      go [] e =
          let g : receive_answer cs i ≡ Err NothingToDeliver = got ∙ ap handed_up e in
          follows rs cs P s z (deliver_number rs cs i) (deliver_registers rs cs i) (deliver_channel rs cs i) (Step.deliver i.0) (refl, refl)
          (rw (g, inbox_is, e)) (λ q. absurd (none g q)) (λ q. rw g (refl, refl))
        where
          none : receive_answer cs i ≡ Err NothingToDeliver → deliver_number rs cs i ≡ 0 → ⊥
          none g q = let r : ◌≡◌ {A = ℕ} 33 0 = rw g at q in omega arith
      go (l ∷ r) e =
          let f = fit l r e in
          let g = got_it l r e in
          follows rs cs P s z (deliver_number rs cs i) (deliver_registers rs cs i) (deliver_channel rs cs i) (Step.deliver i.0) (refl, refl)
          (rw (g, inbox_is, e) (body_number_lem rs cs P s z i.0 card (plain l) f.task f.register l.message.body))
          (λ q. rw (q, g, inbox_is, e) (delivered l r e (sym (number_is l r e) ∙ q)))
          (λ q. (rw g (body_refused rs cs P s z i.0 card (plain l) f.task f.register l.message.body (λ h. q (number_is l r e ∙ h))), rw (ne_eqb (deliver_number rs cs i) 0 q)))
