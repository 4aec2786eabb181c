-- Steps 4 and 5.
use Prim.Native.Nat.{ℕ, ◌<◌, ◌≤◌, ◌^◌}
use mathlib.Core.Path.{◌≡◌, refl}
use mathlib.Core.Logic.{◌≢◌}
use mathlib.Core.Bool.{Bool, true, false, cond, ◌&&◌, not}
use mathlib.Core.List.{List}
use native.Mathlib.Omega.{arith}
use borrow.Author.Tests.{leb-true, ne_eqb}
use lib.Dec.{ltb, leb}
use Rattle.lists.specs.Tests.{and_snd}
use Rattle.names.specs.declared.Body.{Body}
use Rattle.names.specs.declared.Body.TheVariants.{ReadDo, UpdateDo}
use Rattle.names.specs.declared.Register.{Register}
use Rattle.names.specs.CardSet.{just_of}
use Rattle.names.specs.Letters.{known}
use Rattle.names.specs.Update.{known_function}
use Rattle.names.specs.Placement.{Placement, home, holders, copy}
use Rattle.channel.specs.Layout.{cards_of, tasks_of, registers_of}
use Rattle.channel.proofs.Offered.{cards_most}
use Rattle.claims.specs.Command.{send_read, send_update}
use Rattle.claims.specs.Steps.{good}
use Rattle.claims.specs.Refusals.{outbox_room, update_room, send_read_refusal, send_update_refusal}
use Rattle.claims.specs.Refusals as R
use Rattle.claims.specs.Found.{Found, sending, sending_read, sending_update, stage}
use Rattle.tables.specs.declared.Doing.{Doing}
use Rattle.tables.specs.declared.Doing.TheVariants.{Quiet, AskingRead, AskingUpdate, Waiting, DoneRead, DoneUpdate}
use Rattle.tables.specs.Layout.{home_of, holders_of, holds}
use Rattle.tables.specs.Doings.{doing_at}
use Rattle.tables.specs.Outbox.{roomy}
use Rattle.store.specs.Perform.{alone}
use Rattle.store.specs.Send.{sent, send_read_number, send_read_words, send_update_number, send_update_words, read_number_of, read_words_of, update_number_of, update_words_of, read_sent_number, read_sent_words, update_sent_number, update_sent_words}
use Rattle.tables.specs.Sized.{doing_fits}
use Rattle.store.specs.Step.{outcome}
use Rattle.tables.specs.Shows.{status_of}
use Rattle.store.specs.Demand2.{StepFollows}
use Rattle.store.proofs.Standing.{Ready, holds_is, follows}
use Rattle.store.proofs.RequestLaw.{doing_ready}
use Rattle.store.proofs.PerformLaw.{reads_there, updates_there, alone_is}
use Rattle.store.proofs.Posting.{just_some, just_present, only_just, room_is, post_ready}

module _ (rs cs : List ℕ) (P : Placement) (s : Found) (z : Ready rs cs P s) (t : ℕ) (there : t < tasks_of cs) where
  home_is : home P t ≡ home_of rs t
  home_is = z.show.home= t there

  at_home : home_of rs t < cards_of cs
  at_home = z.fit.home t there

  sent_ready : (x : ℕ) (b : Body) (to : ℕ) → roomy rs (home_of rs t) ≡ true → x < registers_of cs → known b ≡ true → 1 ≤ to → to < 2 ^ cards_of cs
      → Ready (sent rs t x b to) cs P (sending P s t x b to)
  unfolding sent status_of doing_fits
  sent_ready x b to e q k m n =
      rw home_is (doing_ready _ cs P _ (post_ready rs cs P s z (home_of rs t) at_home t x b to e there q k m n) t there Waiting refl)

  -- ---- step 4

  module _ (j : ℕ) (card : j < cards_of cs) where
    read_number : (x : ℕ) → x < registers_of cs
        → send_read_number rs t j x ≡ cond (not (copy P x (home P t)) && copy P x j) (outbox_room (s.out (home P t))) 22
    unfolding send_read_number
    read_number x h =
        rw (
          home_is,
          holds_is rs cs P s z x (home_of rs t) h at_home,
          holds_is rs cs P s z x j h card,
          room_is rs cs P s z (home_of rs t) at_home (roomy rs (home_of rs t)) refl,
        )

    -- a taken step had room
    read_room : (x : ℕ) → send_read_number rs t j x ≡ 0 → roomy rs (home_of rs t) ≡ true
    unfolding send_read_number
    read_room x = go (not (holds rs x (home_of rs t)) && holds rs x j) (roomy rs (home_of rs t))
      where
        go : (a b : Bool) → ◌≡◌ {A = ℕ} (cond a (cond b 0 6) 22) 0 → b ≡ true
        go true true q = refl
        go true false q = absurd (omega arith)
        go false b q = absurd (omega arith)

    read_taken : (x : ℕ) → x < registers_of cs → send_read_number rs t j x ≡ 0 → Ready (send_read_words rs t j x) cs P (sending P s t x ReadDo (just_of j))
    unfolding send_read_words known
    read_taken x h n =
        rw (n, only_just j (omega (arith, cards_most cs)))
        (sent_ready x ReadDo (just_of j) (read_room x n) h refl (just_some j) (just_present j (cards_of cs) card))

    read_number_of_lem : (d : Doing) → doing_fits cs d ≡ true → read_number_of rs t j d ≡ send_read_refusal P (home P t) j (s.out (home P t)) (stage P (status_of d))
    unfolding read_number_of status_of
    read_number_of_lem Quiet e = refl
    read_number_of_lem (AskingRead x) e = read_number x.0 (reads_there rs cs P s z x e)
    read_number_of_lem (AskingUpdate x f w) e = refl
    read_number_of_lem Waiting e = refl
    read_number_of_lem (DoneRead v) e = refl
    read_number_of_lem (DoneUpdate v) e = refl

    read_ready_of : (d : Doing) → doing_fits cs d ≡ true → read_number_of rs t j d ≡ 0 → Ready (read_words_of rs t j d) cs P (sending_read P s t j (status_of d))
    unfolding read_number_of read_words_of status_of
    read_ready_of Quiet e n = absurd (omega arith)
    read_ready_of (AskingRead x) e n = read_taken x.0 (reads_there rs cs P s z x e) n
    read_ready_of (AskingUpdate x f w) e n = absurd (omega arith)
    read_ready_of Waiting e n = absurd (omega arith)
    read_ready_of (DoneRead v) e n = absurd (omega arith)
    read_ready_of (DoneUpdate v) e n = absurd (omega arith)

    read_refused_of : (d : Doing) → read_number_of rs t j d ≢ 0 → read_words_of rs t j d ≡ rs
    unfolding read_number_of read_words_of send_read_words
    read_refused_of Quiet n = refl
    read_refused_of (AskingRead x) n = rw (ne_eqb (send_read_number rs t j x.0) 0 n)
    read_refused_of (AskingUpdate x f w) n = refl
    read_refused_of Waiting n = refl
    read_refused_of (DoneRead v) n = refl
    read_refused_of (DoneUpdate v) n = refl

    pub send_read_follows : StepFollows rs cs P s (outcome (read_sent_number rs t j) (read_sent_words rs t j) cs) (good (send_read t j))
    unfolding read_sent_number read_sent_words
    send_read_follows =
        let e = z.fit.doing t there in
        let q = z.show.status= t there in
        follows rs cs P s z (read_sent_number rs t j) (read_sent_words rs t j) cs (send_read t j) (refl, refl)
        (rw q (read_number_of_lem (doing_at rs t) e))
        (λ n. rw q (read_ready_of (doing_at rs t) e n))
        (λ n. (read_refused_of (doing_at rs t) n, refl))

  -- ---- step 5

  update_number_lem : (x : ℕ) → x < registers_of cs → send_update_number rs t x ≡ cond (not (R.alone P x (home P t))) (update_room P x (s.out (home P t))) 22
  unfolding send_update_number
  update_number_lem x h =
      rw (
        home_is,
        alone_is rs cs P s z x (home_of rs t) h at_home,
        z.show.holders= x h,
        room_is rs cs P s z (home_of rs t) at_home (roomy rs (home_of rs t)) refl,
      )

  -- a taken step had room, and someone to send to
  update_room_lem : (x : ℕ) → send_update_number rs t x ≡ 0 → (roomy rs (home_of rs t) ≡ true) × (leb 1 (holders_of rs x) ≡ true)
  unfolding send_update_number
  update_room_lem x = go (not (alone rs x (home_of rs t))) (leb 1 (holders_of rs x)) (roomy rs (home_of rs t))
    where
      go : (a b c : Bool) → ◌≡◌ {A = ℕ} (cond a (cond b (cond c 0 6) 6) 22) 0 → (c ≡ true) × (b ≡ true)
      go true true true q = (refl, refl)
      go true true false q = absurd (omega arith)
      go true false c q = absurd (omega arith)
      go false b c q = absurd (omega arith)

  update_taken : (x : Register) (f w : ℕ) → doing_fits cs (AskingUpdate x f w) ≡ true → send_update_number rs t x.0 ≡ 0
      → Ready (send_update_words rs t x.0 f w) cs P (sending P s t x.0 (UpdateDo f w) (holders P x.0))
  unfolding send_update_words known doing_fits
  update_taken x f w e n =
      let h = updates_there rs cs P s z x f w e in
      let r = update_room_lem x.0 n in
      let k = and_snd (ltb x.0 (registers_of cs)) (known_function f) e in
      rw (n, z.show.holders= x.0 h)
      (sent_ready x.0 (UpdateDo f w) (holders_of rs x.0) r.0 h k (leb-true _ _ r.1) (z.fit.holders x.0 h))

  update_number_of_lem : (d : Doing) → doing_fits cs d ≡ true → update_number_of rs t d ≡ send_update_refusal P (home P t) (s.out (home P t)) (stage P (status_of d))
  unfolding update_number_of status_of
  update_number_of_lem Quiet e = refl
  update_number_of_lem (AskingRead x) e = refl
  update_number_of_lem (AskingUpdate x f w) e = update_number_lem x.0 (updates_there rs cs P s z x f w e)
  update_number_of_lem Waiting e = refl
  update_number_of_lem (DoneRead v) e = refl
  update_number_of_lem (DoneUpdate v) e = refl

  update_ready_of : (d : Doing) → doing_fits cs d ≡ true → update_number_of rs t d ≡ 0 → Ready (update_words_of rs t d) cs P (sending_update P s t (status_of d))
  unfolding update_number_of update_words_of status_of
  update_ready_of Quiet e n = absurd (omega arith)
  update_ready_of (AskingRead x) e n = absurd (omega arith)
  update_ready_of (AskingUpdate x f w) e n = update_taken x f w e n
  update_ready_of Waiting e n = absurd (omega arith)
  update_ready_of (DoneRead v) e n = absurd (omega arith)
  update_ready_of (DoneUpdate v) e n = absurd (omega arith)

  update_refused_of : (d : Doing) → update_number_of rs t d ≢ 0 → update_words_of rs t d ≡ rs
  unfolding update_number_of update_words_of send_update_words
  update_refused_of Quiet n = refl
  update_refused_of (AskingRead x) n = refl
  update_refused_of (AskingUpdate x f w) n = rw (ne_eqb (send_update_number rs t x.0) 0 n)
  update_refused_of Waiting n = refl
  update_refused_of (DoneRead v) n = refl
  update_refused_of (DoneUpdate v) n = refl

  pub send_update_follows : StepFollows rs cs P s (outcome (update_sent_number rs t) (update_sent_words rs t) cs) (good (send_update t))
  unfolding update_sent_number update_sent_words
  send_update_follows =
      let e = z.fit.doing t there in
      let q = z.show.status= t there in
      follows rs cs P s z (update_sent_number rs t) (update_sent_words rs t) cs (send_update t) (refl, refl)
      (rw q (update_number_of_lem (doing_at rs t) e))
      (λ n. rw q (update_ready_of (doing_at rs t) e n))
      (λ n. (update_refused_of (doing_at rs t) n, refl))
