-- In every state reached from a start the limits hold (specs/Limits), and no step is refused with 6.
use Prim.Native.Nat.{ℕ, ◌<◌, ◌≤◌}
use borrow.Author.Tests.{le-leb, lt-leb, ltb-true}
use lib.Dec.{ltb}
use lib.ListN.{length, length-append, length-map}
use mathlib.Core.Bool.{cond, false, true, true≢false}
use mathlib.Core.List.{List, [], ◌∷◌}
use mathlib.Core.Logic.{inl, inr, ◌⊎◌}
use mathlib.Core.Option.{map, some}
use mathlib.Core.Path.{ap, refl, subst, sym, ◌∙◌, ◌≡◌}
use native.Mathlib.Omega.{arith}
use Rattle.lists.specs.Places.{nth}
use Rattle.automaton.specs.Renaming.{tag_map}
use Rattle.automaton.specs.State.{ChannelState, Tagged, arriving, landing, taking}
use Rattle.lists.specs.Histories.{In, here}
use Rattle.lists.specs.Maps.{length_filter_map, map_head, map_some}
use Rattle.lists.specs.Queues.{push}
use Rattle.lists.specs.Tests.{and_fst, eqb_refl}
use Rattle.names.proofs.Results.{not_zero_refused}
use Rattle.names.specs.CardSet.{member_of, several, sole_of}
use Rattle.names.specs.Placement.{Placement, copy, home, placement_refusal, tasks}
use Rattle.registers.specs.Layer.{Msg, unvalued}
use Rattle.claims.proofs.CardSets.{held_somewhere, some_card, tasks_low}
use Rattle.claims.proofs.ChannelLimits.{Free, Modest, modest_single, modest_take}
use Rattle.claims.proofs.Current.{asked_current, holds_now}
use Rattle.claims.proofs.Executions.{Execution}
use Rattle.claims.proofs.ForgetFound.{commutes, result_same}
use Rattle.claims.proofs.NumbersMean.{not_crowded}
use Rattle.claims.proofs.OnTheWay.{broadcasts_few, flight_free, flight_task, held_short, taken_few}
use Rattle.claims.proofs.Range.{Small, small}
use Rattle.claims.proofs.RefusalExact.{misformed_small, refusal_exact}
use Rattle.claims.proofs.Results.{refused_number}
use Rattle.claims.proofs.Room.{asks_read, asks_update_lem, held_16, inbox_48, number_left, outbox_16, reply_room, send_room}
use Rattle.claims.proofs.Forgetting.{book_forget, forget, forget_alike, forget_ledger, number_forget}
use Rattle.claims.proofs.Shown.{alike, answered_alike, numbers, same_result, show_msg, shown}
use Rattle.claims.proofs.Steady.{Steady, steady}
use Rattle.claims.proofs.Taken.{executes}
use Rattle.claims.proofs.TogetherPublished.{does_single, does_take, together}
use Rattle.claims.specs.Command.{Command}
use Rattle.claims.specs.Ledger.{Action, decoded_number, ledger, ledger_mail, number_of, paper, sets_of, sight_of, wide, world}
use Rattle.claims.specs.Limits.{WithinLimits}
use Rattle.claims.specs.Numbers.{Comes, Misformed, alone_here, busy_read, busy_update, copy_here, crowded, far_behind, held_full, inbox_full_single, inbox_full_take, inbox_after, last_broadcast, last_read, last_update, no_broadcast, no_copy, no_holder, no_letter, no_message, nobody, none_in_flight, not_alone, not_asking, not_done, not_read, not_update, outbox_full_read, outbox_full_reply, outbox_full_update, second_in_flight, undelivered}
use Rattle.claims.specs.Published.{Letter, Published, answered, begin, mail, sight}
use Rattle.claims.specs.PublishedRun.{answer_decoded, final_from, refusal_of}
use Rattle.claims.specs.Steps.{Decoded, RawStep, bad, decode, good}
use Rattle.claims.specs.Found as F
use Rattle.claims.specs.FoundRun as R

module _ (P : Placement) (ok : placement_refusal P ≡ 0) where
  -- ---- no outcome is 6

  module _ (ds : List (Action numbers)) (f : Execution P ds) (small : Small P ds) (a : Steady P (shown P ds)) where
    abbrev s : Published
    s = shown P ds

    abbrev w : ChannelState Letter
    w = s.channel

    abbrev names : Msg numbers → Letter
    names = show_msg P (ledger P ds).ops (ledger P ds).chosen

    -- step 7: the inbox that it makes
    take_room : (i : ℕ) (m : Letter) → nth w.sent (w.taken i) ≡ some m → (member_of m.to i ≡ false) ⊎ (undelivered P s i < 32) → length (inbox_after P s i m) ≤ 48
    take_room i m e u =
        let n = after in
        let p = ap (λ t. length (t.channel.inbox i)) (does_take P ok ds i (tt, f)) in
        let q = ap (λ o. length ((taking mail w i o).inbox i)) e in
        let z = ap (λ t. length (cond t (inbox_after P s i m) (w.inbox i))) (eqb_refl i) in
        omega arith
      where
        free : Free mail P.cards w a.modest i (nth w.sent (w.taken i))
        free = subst (Free mail P.cards w a.modest i) (sym e) (not_crowded P s i m u)

        after : length ((shown P (Action.take_broadcast i ∷ ds)).channel.inbox i) ≤ 48
        after = inbox_48 P ok (Action.take_broadcast i ∷ ds) (tt, f) small (subst (λ t. Modest mail P.cards t.channel) (does_take P ok ds i (tt, f)) (modest_take mail P.cards w a.modest i (nth w.sent (w.taken i)) free)) i

    -- step 8: the inbox or the held messages that it makes
    single_room : (c : ℕ) (x : Tagged Letter) → w.flight c ≡ some x → x.mark ≤ w.taken (sole_of x.msg.to) → length (w.inbox (sole_of x.msg.to)) < 48
    single_room c x e l =
        let n = after in
        let p = ap (λ t. length (t.channel.inbox j)) (does_single P ok ds c (tt, f)) in
        let q = ap (λ o. length ((arriving mail w c o).inbox j)) e in
        let r = ap (λ t. length ((landing mail t w c x).inbox j)) (le-leb x.mark (w.taken j) l) in
        let y = ap (λ t. length (push t x.msg (w.inbox j))) (eqb_refl j) in
        let z = length-append (w.inbox j) (x.msg ∷ []) in
        omega arith
      where
        j : ℕ
        j = sole_of x.msg.to

        after : length ((shown P (Action.take_single c ∷ ds)).channel.inbox j) ≤ 48
        after = inbox_48 P ok (Action.take_single c ∷ ds) (tt, f) small (subst (λ t. Modest mail P.cards t.channel) (does_single P ok ds c (tt, f)) (modest_single mail P.cards w a.modest c (w.flight c) refl)) j

    held_room : (c : ℕ) (x : Tagged Letter) → w.flight c ≡ some x → w.taken (sole_of x.msg.to) < x.mark → length (w.held (sole_of x.msg.to)) < 16
    held_room c x e l =
        let n = held_16 P ok (Action.take_single c ∷ ds) (tt, f) small j in
        let p = ap (λ t. length (t.channel.held j)) (does_single P ok ds c (tt, f)) in
        let q = ap (λ o. length ((arriving mail w c o).held j)) e in
        let r = ap (λ t. length ((landing mail t w c x).held j)) (lt-leb x.mark (w.taken j) l) in
        let y = ap (λ t. length (push t x (w.held j))) (eqb_refl j) in
        let z = length-append (w.held j) (x ∷ []) in
        omega arith
      where
        j : ℕ
        j = sole_of x.msg.to

    -- the outboxes have as many messages as the ledger's
    out_length : (i : ℕ) → length (s.out i) ≡ length ((ledger P ds).layer.out i)
    out_length i = length-map ((ledger P ds).layer.out i) names

    no_six : {n : ℕ} {c : Command} → Comes P s n c → n ≡ 6 → ⊥
    no_six (busy_read h) e = omega arith
    no_six (busy_update h) e = omega arith
    no_six (not_asking h g) e = omega arith
    no_six (not_read h) e = omega arith
    no_six (not_update h) e = omega arith
    no_six (not_done h) e = omega arith
    no_six (no_copy x q p) e = omega arith
    no_six (not_alone x n v q p) e = omega arith
    no_six (copy_here x q p) e = omega arith
    no_six (no_holder x q p) e = omega arith
    no_six (alone_here x n v q p) e = omega arith
    no_six (last_read q l) e = omega arith
    no_six (last_update q l) e = omega arith
    no_six (no_letter q) e = omega arith
    no_six (no_broadcast l) e = omega arith
    no_six (none_in_flight q) e = omega arith
    no_six (no_message q) e = omega arith
    no_six (far_behind m r j q u l g) e = omega arith
    no_six (crowded m q u l) e = omega arith
    no_six (outbox_full_read {c} {j} x q p g l) e =
        let r = asks_read (ledger P ds).ops ((ledger P ds).layer.status c) x q in
        let y = send_room P ok ds f small c r.0 j r.1 (λ u. holds_now P ok ds f r.0 j (asked_current P ok ds f c r.0 r.1) ∙ subst (λ z. copy P z j ≡ true) (sym r.3) g) (ltb-true j P.cards (and_fst (ltb j P.cards) _ g)) in
        let z = out_length (home P c) in
        omega arith
    no_six (nobody {c} x n v q p z) e = let l = held_somewhere P ok x (a.asks c x n v q) in omega arith
    no_six (outbox_full_update {c} x n v q p l) e =
        let r = asks_update_lem (ledger P ds).ops ((ledger P ds).layer.status c) x n v q in
        let y = send_room P ok ds f small c r.0 0 r.1 (λ u. absurd (true≢false (sym r.2 ∙ u))) (let k = some_card P ok in omega arith) in
        let z = out_length (home P c) in
        omega arith
    no_six (last_broadcast {i} m r q u g l) e =
        let t = map_head names ((ledger P ds).layer.out i) m r q in
        let y = number_left P ok ds f small t.0 i t.1 t.2 (sym ((alike P ok ds f).multi= t.0) ∙ ap (λ z. several z.to) t.3 ∙ u) in
        let z = a.count in
        let k = length-map (ledger P ds).channel.sent names in
        omega arith
    no_six (second_in_flight {i} m r x q u p) e =
        let t = map_head names ((ledger P ds).layer.out i) m r q in
        let y = map_some (tag_map names) ((ledger P ds).channel.flight m.task) x p in
        flight_free P ok ds f i t.0 y.0 (subst (λ l. In t.0 l) (sym t.2) (here refl))
        (ap (ledger P ds).channel.flight (sym ((alike P ok ds f).task= t.0) ∙ ap (λ z. z.task) t.3) ∙ y.1)
    no_six (inbox_full_take {i} m q u l) e = let y = take_room i m q u in omega arith
    no_six (inbox_full_single {c} x q p l) e = let y = single_room c x q p in omega arith
    no_six (held_full {c} x q p l) e = let y = held_room c x q p in omega arith
    no_six (outbox_full_reply {i} m r q p l) e =
        let t = map_head names ((ledger P ds).channel.inbox i) m r q in
        let y = reply_room P ok ds f small t.0 i t.1 t.2 (sym (answered_alike P ok ds f i t.0 t.1 t.2) ∙ ap (λ z. answered P z i) t.3 ∙ p) in
        let z = out_length i in
        omega arith

  -- ---- from a start

  module _ (l : List RawStep) where
    abbrev ds : List (Action numbers)
    ds = paper P l

    steady_shown : Steady P (shown P ds)
    steady_shown = subst (Steady P) (together P ok l) (steady P l)

    -- no step gives 6 in a state reached from a start (RULES 12.10), for the outcome of any step
    pub never_6 : (a : RawStep) → refusal_of P (final_from P begin l) a ≡ 6 → ⊥
    never_6 a e = go ((refusal_exact P a (shown P ds) 6 (λ z. omega arith)).0 (ap (λ s. refusal_of P s a) (sym (together P ok l)) ∙ e))
      where
        go : Misformed P a 6 ⊎ ((c : Command) × (decode P a ≡ good c) × Comes P (shown P ds) 6 c) → ⊥
        go (inl m) = let r = misformed_small P a m in omega arith
        go (inr (c, d, x)) = no_six ds (executes numbers P ok l) (small numbers P l) steady_shown x refl

    -- nor does the algorithm that the store runs answer 6
    pub never_6_answer : (a : RawStep) → (R.answer_decoded P (R.final_from P F.begin l) (decode P a)).result ≡ 6 → ⊥
    never_6_answer a e = never_6 a ((refused_number P (final_from P begin l) (decode P a) 6 (not_zero_refused 6 (omega arith) (λ z. omega arith))).0
        (ap (λ s. (answer_decoded P s (decode P a)).result) (sym ((commutes P).final F.begin l)) ∙ sym (result_same P (R.final_from P F.begin l) (decode P a)) ∙ e))

    -- and the ledger's number is never 6
    pub ledger_never_6 : (a : RawStep) → number_of P (ledger P (paper {U = unvalued} P l)) a ≡ 6 → ⊥
    ledger_never_6 a e = never_6 a ((refused_number P (final_from P begin l) (decode P a) 6 (not_zero_refused 6 (omega arith) (λ z. omega arith))).0
        (ap (λ s. (answer_decoded P s (decode P a)).result) (together P ok l) ∙ same (decode P a) ∙ sym (number_forget numbers P l (decode P a)) ∙ e))
      where
        same : (d : Decoded) → (answer_decoded P (shown P ds) d).result ≡ decoded_number P (ledger P ds) d
        same (bad n) = refl
        same (good c) = same_result P ok ds (executes numbers P ok l) c

    -- the limits, for the published state
    pub published_limits : WithinLimits mail P.cards (sight P (final_from P begin l))
    published_limits = subst (λ s. WithinLimits mail P.cards (sight P s)) (sym (together P ok l)) (record {
      outboxes = λ i. let x = outbox_16 P ok ds (executes numbers P ok l) (small numbers P l) i in let y = length-map ((ledger P ds).layer.out i) names in omega arith;
      inboxes = inbox_48 P ok ds (executes numbers P ok l) (small numbers P l) steady_shown.modest;
      undelivered = steady_shown.modest.few;
      held = held_16 P ok ds (executes numbers P ok l) (small numbers P l);
      flights = flies;
      broadcasts = let x = broadcasts_few P ok ds (executes numbers P ok l) in let y = length-map (ledger P ds).channel.sent names in omega arith;
      requests = steady_shown.count;
      counts = λ i h. ((let x = taken_few P ok ds (executes numbers P ok l) i in let y = length-map (ledger P ds).channel.sent names in omega arith), steady_shown.modest.near i h);
    })
      where
        names : Msg numbers → Letter
        names = show_msg P (ledger P ds).ops (ledger P ds).chosen

        flies : (c : ℕ) (x : Tagged Letter) → map (tag_map names) ((ledger P ds).channel.flight c) ≡ some x → x.msg.task ≡ c
        flies c x e =
            let y = map_some (tag_map names) ((ledger P ds).channel.flight c) x e in
            ap (λ z. z.msg.task) (sym y.2) ∙ (alike P ok ds (executes numbers P ok l)).task= y.0.msg ∙ flight_task P ok ds (executes numbers P ok l) c y.0 y.1

    -- for the ledger with values,
    valued_limits : WithinLimits (ledger_mail P (ledger P ds)) P.cards (sight_of P (ledger P ds))
    valued_limits = record {
      outboxes = outbox_16 P ok ds f (small numbers P l);
      inboxes = λ i. let x = inbox_48 P ok ds f (small numbers P l) steady_shown.modest i in let y = length-map ((ledger P ds).channel.inbox i) names in omega arith;
      undelivered = λ i.
          let x = steady_shown.modest.few i in
          let y = length_filter_map names (wide (sets_of (ledger P ds).ops) (world P (ledger P ds))) mail.multi (alike P ok ds f).multi= ((ledger P ds).channel.inbox i) in
          omega arith;
      held = λ i. let x = held_short P ok ds f (tasks P) (small numbers P l) i in omega (arith, tasks_low P ok);
      flights = flight_task P ok ds f;
      broadcasts = broadcasts_few P ok ds f;
      requests = steady_shown.count;
      counts = λ i h. (taken_few P ok ds f i, (let x = steady_shown.modest.near i h in let y = length-map (ledger P ds).channel.sent names in omega arith));
    }
      where
        f : Execution P ds
        f = executes numbers P ok l

        names : Msg numbers → Letter
        names = show_msg P (ledger P ds).ops (ledger P ds).chosen

    -- and for the ledger
    pub ledger_limits : WithinLimits (ledger_mail P (ledger P (paper {U = unvalued} P l))) P.cards (sight_of P (ledger P (paper {U = unvalued} P l)))
    ledger_limits = subst (λ b. WithinLimits (ledger_mail P b) P.cards (sight_of P b)) (sym (book_forget numbers P l)) (record {
      outboxes = λ i. let x = valued_limits.outboxes i in let y = length-map ((ledger P ds).layer.out i) forget in omega arith;
      inboxes = λ i. let x = valued_limits.inboxes i in let y = length-map ((ledger P ds).channel.inbox i) forget in omega arith;
      undelivered = λ i.
          let x = valued_limits.undelivered i in
          let y = length_filter_map forget (ledger_mail P (ledger P ds)).multi (ledger_mail P (forget_ledger (ledger P ds))).multi (forget_alike P (ledger P ds)).multi= ((ledger P ds).channel.inbox i) in
          omega arith;
      held = λ i. let x = valued_limits.held i in let y = length-map ((ledger P ds).channel.held i) (tag_map forget) in omega arith;
      flights = λ c x e.
          let y = map_some (tag_map forget) ((ledger P ds).channel.flight c) x e in
          ap (λ z. (ledger_mail P (forget_ledger (ledger P ds))).task z.msg) (sym y.2) ∙ (forget_alike P (ledger P ds)).task= y.0.msg ∙ valued_limits.flights c y.0 y.1;
      broadcasts = let x = valued_limits.broadcasts in let y = length-map (ledger P ds).channel.sent forget in omega arith;
      requests = valued_limits.requests;
      counts = λ i h. let x = valued_limits.counts i h in let y = length-map (ledger P ds).channel.sent forget in ((let z = x.0 in omega arith), (let z = x.1 in omega arith));
    })
