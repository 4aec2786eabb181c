-- At most one message of a task is on the way: in an outbox, in flight, held, or in an inbox if it is for one card. So outboxes, held
-- messages and single messages in an inbox are at most as many as the tasks.
use Prim.Native.Nat.{suc, ℕ, ◌<◌, ◌≤◌}
use borrow.Author.Tests.{eqb-true, not-true}
use lib.ListN.{length}
use mathlib.Core.Bool.{false, false≢true, not, true}
use mathlib.Core.List.{List, [], map, ◌∷◌}
use mathlib.Core.Option.{some}
use mathlib.Core.Path.{ap, refl, subst, sym, ◌∙◌, ◌≡◌}
use native.Mathlib.Omega.{arith}
use Rattle.lists.specs.Places.{nth}
use Rattle.automaton.proofs.Agreement.{InTransit}
use Rattle.automaton.proofs.Counts.{taken_made}
use Rattle.automaton.proofs.Held.{Distinct, Holds, Names}
use Rattle.automaton.proofs.InboxHistory.{gone, log, queue}
use Rattle.automaton.proofs.InboxOrder.{join_key, log_sorted}
use Rattle.automaton.proofs.Integrity.{received_joined, unreceived_inbox}
use Rattle.automaton.proofs.Joining.{inbox_mcast, inbox_to}
use Rattle.automaton.specs.Automaton.{ChannelExecution, Mcasts, Receives, chan}
use Rattle.automaton.specs.Network.{Network}
use Rattle.automaton.specs.State.{Tagged}
use Rattle.automaton.specs.TotalOrder.{rank}
use Rattle.lists.specs.Counting.{at_most_one_each, filter_once, once_right}
use Rattle.lists.specs.Filters.{filter, filter_in}
use Rattle.lists.specs.Histories.{Any, In, any_at, any_map, any_nil, at_suf, here, stop, suf_any, there}
use Rattle.lists.specs.HistoryMaps.{any_into, any_out}
use Rattle.lists.specs.Queues.{Once}
use Rattle.lists.specs.Sorting.{sorted_once}
use Rattle.names.specs.Placement.{Placement, placement_refusal}
use Rattle.registers.proofs.Fresh.{fresh_out, out_once}
use Rattle.registers.proofs.Messages.{Sent, delivered_ask, dispatched, outbox}
use Rattle.registers.proofs.Ordered.{Ordered, ordered}
use Rattle.registers.proofs.Requests.{base_of, below_count}
use Rattle.registers.proofs.Statuses.{Waits}
use Rattle.registers.specs.Events.{Delivers, Dispatches, Posts}
use Rattle.registers.specs.Layer.{Values, Msg, Valid, World, ask, op_of, reply, site}
use Rattle.claims.proofs.Executions.{Execution, trace}
use Rattle.claims.proofs.Joint.{Joint, both, lower, mcasts_dispatches, narrow, net, promised, upper}
use Rattle.claims.proofs.LedgerRun.{Sim}
use Rattle.claims.proofs.LedgerRuns.{final}
use Rattle.claims.proofs.Pending.{Pending, pending_one, pending_posted, pending_waits}
use Rattle.claims.proofs.Stable.{nth_in}
use Rattle.claims.specs.Ledger.{Action, ledger, op_at, sets_of, wide, world}

-- the held messages without their tags
abbrev msgs : {U : Values} → List (Tagged (Msg U)) → List (Msg U)
msgs [] = []
msgs (x ∷ l) = x.msg ∷ msgs l

msgs_length : {U : Values} → (l : List (Tagged (Msg U))) → length (msgs l) ≡ length l
msgs_length [] = refl
msgs_length (x ∷ l) = ap suc (msgs_length l)

msgs_in : {U : Values} → (l : List (Tagged (Msg U))) (m : Msg U) → In m (msgs l) → (t : ℕ) × Any (Holds m t) l
msgs_in [] m h = absurd (any_nil h)
msgs_in (x ∷ l) m (here p) = (x.mark, here {e = x} (p, refl))
msgs_in (x ∷ l) m (there h) = let r = msgs_in l m h in (r.0, there r.1)

msgs_names : {U : Values} → (l : List (Tagged (Msg U))) (m : Msg U) → In m (msgs l) → Any (Names m) l
msgs_names [] m h = absurd (any_nil h)
msgs_names (x ∷ l) m (here p) = here {e = x} p
msgs_names (x ∷ l) m (there h) = there (msgs_names l m h)

msgs_once : {U : Values} → (l : List (Tagged (Msg U))) → Distinct l → Once (msgs l)
msgs_once [] d = tt
msgs_once (x ∷ l) d = ((λ h. d.0 (msgs_names l x.msg h)), msgs_once l d.1)

module _ {U : Values} (P : Placement) (ok : placement_refusal P ≡ 0) (ds : List (Action U)) (f : Execution P ds) where
  abbrev W : World U
  W = world P (ledger P ds)

  abbrev N : Network (Msg U)
  N = net P ok (ledger P ds).ops (ledger P ds).chosen

  abbrev E : List (Joint U)
  E = trace P ds

  S : Sim P ok (ledger P ds).ops (ledger P ds).chosen (ledger P ds) (trace P ds)
  S = final P ok ds f

  valid : Valid W (map upper E)
  valid = (both P ok (ledger P ds).ops (ledger P ds).chosen E S.works).0

  flows : ChannelExecution N (map lower E)
  flows = (both P ok (ledger P ds).ops (ledger P ds).chosen E S.works).1

  abbrev rk : Msg U → ℕ
  rk = rank N (map lower E)

  ord : Ordered W rk (map upper E)
  ord = ordered W rk (map upper E) (promised P ok (ledger P ds).ops (ledger P ds).chosen E flows)

  delivers_receives : (m : Msg U) (i : ℕ) (e : Joint U) → Delivers m i (upper e) → Receives m i (lower e)
  delivers_receives m i (Rattle.claims.proofs.Joint.request _) h = elim h [ ]
  delivers_receives m i (Rattle.claims.proofs.Joint.perform _) h = elim h [ ]
  delivers_receives m i (Rattle.claims.proofs.Joint.send _) h = elim h [ ]
  delivers_receives m i (Rattle.claims.proofs.Joint.dispatch _) h = elim h [ ]
  delivers_receives m i (Rattle.claims.proofs.Joint.take _ _) h = elim h [ ]
  delivers_receives m i (Rattle.claims.proofs.Joint.join _) h = elim h [ ]
  delivers_receives m i (Rattle.claims.proofs.Joint.report _ _) h = elim h [ ]
  delivers_receives m i Rattle.claims.proofs.Joint.idle h = elim h [ ]
  delivers_receives m i (Joint.deliver n j) h = h

  receives_of : {m : Msg U} {i : ℕ} → Any (Delivers m i) (map upper E) → Any (Receives m i) (map lower E)
  receives_of {m} {i} h = any_into lower (any_map (delivers_receives m i) (any_out upper E h))

  -- a message in an outbox; in flight, or held; in an inbox, if it is for one card
  pub data Way (m : Msg U) : Type 0 where
    boxed : (i : ℕ) → In m ((ledger P ds).layer.out i) → Way m
    flying : (c : ℕ) (x : Tagged (Msg U)) → (ledger P ds).channel.flight c ≡ some x → x.msg ≡ m → Way m
    kept : (i t : ℕ) → Any (Holds m t) ((ledger P ds).channel.held i) → Way m
    landed : (i : ℕ) → wide (sets_of (ledger P ds).ops) W m ≡ false → In m ((ledger P ds).channel.inbox i) → Way m

  mcast_sent : (m : Msg U) → Any (Mcasts m) (map lower E) → Sent W (map upper E) m
  mcast_sent m h = dispatched W rk (map upper E) valid ord m (any_into upper (any_map (mcasts_dispatches P ok (ledger P ds).ops (ledger P ds).chosen m) (any_out lower E h)))

  in_transit_pending : (m : Msg U) (t : ℕ) → InTransit N (map lower E) m t → Pending W rk (map upper E) valid ord m
  in_transit_pending m t l = (mcast_sent m l.mcast_it, λ i h. l.unjoined (received_joined N (map lower E) flows l.alone (receives_of h)))

  pending : (m : Msg U) → Way m → Pending W rk (map upper E) valid ord m
  pending m (boxed i h) =
      let h' = subst (λ u. In m (u.out i)) S.state= h in
      (outbox W rk (map upper E) ord m i h', λ j d. fresh_out W rk m i (map upper E) valid ord h' (let a = any_at d in suf_any (at_suf a.1) (ord.sent m j a.0 a.1).0))
  pending m (flying c x e p) = subst (Pending W rk (map upper E) valid ord) p (in_transit_pending x.msg x.mark (S.channel=.flies c x e).0)
  pending m (kept i t h) = in_transit_pending m t (S.channel=.holds i m t h).0
  pending m (landed i u h) =
      let h' = subst (In m) (S.channel=.inbox= i) h in
      let c = inbox_mcast N (map lower E) flows m i h' in
      (mcast_sent m c, λ j d. unreceived_inbox N (map lower E) flows h' (subst (λ a. Any (Receives m a) (map lower E)) (same_place j d i h') (receives_of d)))
    where
      same_place : (j : ℕ) → Any (Delivers m j) (map upper E) → (i : ℕ) → In m ((chan N (map lower E)).inbox i) → j ≡ i
      same_place j d i h' =
          let a = any_at d in
          eqb-true _ _ (sym (narrow P ok (ledger P ds).ops (ledger P ds).chosen m u j) ∙ (ord.sent m j a.0 a.1).1) ∙ sym (eqb-true _ _ (sym (narrow P ok (ledger P ds).ops (ledger P ds).chosen m u i) ∙ (inbox_to N (map lower E) flows m i h').1))

  -- a task has at most one message on the way, and waits for its operation
  pub one_on_the_way : (m n : Msg U) → Way m → Way n → W.task (op_of m) ≡ W.task (op_of n) → m ≡ n
  one_on_the_way m n x y t = pending_one W rk (map upper E) valid ord m n (pending m x) (pending n y) t

  pub way_waits : (m : Msg U) → Way m → Waits ((ledger P ds).layer.status (W.task (op_of m))) (op_of m)
  way_waits m x = subst (λ u. Waits (u.status (W.task (op_of m))) (op_of m)) (sym S.state=) (pending_waits W rk (map upper E) valid ord m (pending m x))

  -- the task of a message for one card that is about to be dispatched has none in flight
  pub flight_free : (i : ℕ) (m : Msg U) (x : Tagged (Msg U)) → In m ((ledger P ds).layer.out i) → (ledger P ds).channel.flight (W.task (op_of m)) ≡ some x → ⊥
  flight_free i m x h e =
      let l = S.channel=.flies (W.task (op_of m)) x e in
      let q = one_on_the_way x.msg m (flying (W.task (op_of m)) x e refl) (boxed i h) l.1 in
      fresh_out W rk m i (map upper E) valid ord (subst (λ u. In m (u.out i)) S.state= h)
      (subst (λ n. Any (Dispatches n) (map upper E)) q (any_into upper (any_map (mcasts_dispatches P ok (ledger P ds).ops (ledger P ds).chosen x.msg) (any_out lower E l.0.mcast_it))))

  -- its operation has been requested
  way_known : (m : Msg U) → Way m → op_of m < length (ledger P ds).ops
  way_known m x =
      let p = pending_posted W rk (map upper E) valid ord m (pending m x) in
      let q = below_count W (map upper E) valid (op_of m) ((base_of W (map upper E) valid).posted (op_of m) p) in
      let c = S.count= in
      omega arith

  -- ---- how many there are, if the operations' tasks are below t

  module _ (t : ℕ) (small : (k : ℕ) → k < length (ledger P ds).ops → (op_at (ledger P ds).ops k).task < t) where
    -- different messages on the way are of different tasks
    short : (l : List (Msg U)) → Once l → ((m : Msg U) → In m l → Way m) → length l ≤ t
    short l o way = at_most_one_each (λ m. W.task (op_of m)) t l o (λ a b x y e. one_on_the_way a b (way a x) (way b y) e) (λ m h. small (op_of m) (way_known m (way m h)))

    pub outbox_short : (i : ℕ) → length ((ledger P ds).layer.out i) ≤ t
    outbox_short i = short ((ledger P ds).layer.out i) (subst (λ u. Once (u.out i)) (sym S.state=) (out_once W rk i (map upper E) valid ord)) (λ m h. boxed i h)

    pub held_short : (i : ℕ) → length ((ledger P ds).channel.held i) ≤ t
    held_short i =
        let h = short (msgs ((ledger P ds).channel.held i)) (msgs_once ((ledger P ds).channel.held i) (S.channel=.each i)) (λ m x. let r = msgs_in ((ledger P ds).channel.held i) m x in kept i r.0 r.1) in
        let e = msgs_length ((ledger P ds).channel.held i) in
        omega arith

    inbox_once : (i : ℕ) → Once ((ledger P ds).channel.inbox i)
    inbox_once i =
        subst Once (sym (S.channel=.inbox= i)) (once_right (gone N (map lower E) i) _
        (subst Once (queue N (map lower E) flows i) (sorted_once (join_key N (map lower E)) (log N (map lower E) i) (log_sorted N (map lower E) flows (map lower E) i stop))))

    -- the messages for one card in an inbox
    pub singles_short : (i : ℕ) → length (filter (λ m. not (wide (sets_of (ledger P ds).ops) W m)) ((ledger P ds).channel.inbox i)) ≤ t
    singles_short i = short (filter (λ m. not (wide (sets_of (ledger P ds).ops) W m)) ((ledger P ds).channel.inbox i)) (filter_once (λ m. not (wide (sets_of (ledger P ds).ops) W m)) ((ledger P ds).channel.inbox i) (inbox_once i))
        (λ m h. let r = filter_in (λ m. not (wide (sets_of (ledger P ds).ops) W m)) ((ledger P ds).channel.inbox i) h in landed i (not-true (wide (sets_of (ledger P ds).ops) W m) r.1) r.0)

  -- ---- broadcasts

  -- a broadcast is an operation's do message, and each operation makes one
  abbrev sent : List (Msg U)
  sent = (ledger P ds).channel.sent

  sent_at : (m : Msg U) → In m sent → (n : ℕ) × (nth sent n ≡ some m)
  sent_at m h = nth_in h

  nth_one : (l : List (Msg U)) → ((n k : ℕ) (m : Msg U) → nth l n ≡ some m → nth l k ≡ some m → n ≡ k) → Once l
  nth_one [] f = tt
  nth_one (m ∷ l) f = ((λ h. let r = nth_in h in let e = f 0 (suc r.0) m refl r.1 in absurd (omega arith)), nth_one l (λ n k x p q. let e = f (suc n) (suc k) x p q in omega arith))

  sent_once : Once sent
  sent_once = nth_one sent (λ n k m p q. let x = (S.channel=.sent= n m p).2 in let y = (S.channel=.sent= k m q).2 in omega arith)

  wide_one : (m n : Msg U) → wide (sets_of (ledger P ds).ops) W m ≡ true → wide (sets_of (ledger P ds).ops) W n ≡ true → op_of m ≡ op_of n → m ≡ n
  wide_one (ask j) (ask k) u v e = ap ask e
  wide_one (ask j) (reply k w) u v e = absurd (false≢true v)
  wide_one (reply j w) n u v e = absurd (false≢true u)

  sent_known : (m : Msg U) → In m sent → (wide (sets_of (ledger P ds).ops) W m ≡ true) × (op_of m < length (ledger P ds).ops)
  sent_known m h =
      let r = nth_in h in
      let z = S.channel=.sent= r.0 m r.1 in
      let p = sent_posts m (mcast_sent m z.1) in
      let q = below_count W (map upper E) valid (op_of m) ((base_of W (map upper E) valid).posted (op_of m) p) in
      let c = S.count= in
      (z.0, omega arith)
    where
      sent_posts : (m : Msg U) → Sent W (map upper E) m → Any (Posts (op_of m)) (map upper E)
      sent_posts (ask k) x = x
      sent_posts (reply k w) x = (delivered_ask W rk (map upper E) valid ord k (site W k) x.0).0

  -- broadcasts made are at most the requests taken
  pub broadcasts_few : length sent ≤ length (ledger P ds).ops
  broadcasts_few = at_most_one_each op_of (length (ledger P ds).ops) sent sent_once (λ a b x y e. wide_one a b (sent_known a x).0 (sent_known b y).0 e) (λ m h. (sent_known m h).1)

  -- a card has taken at most the broadcasts made; and what is in flight under a task is its message
  pub taken_few : (i : ℕ) → (ledger P ds).channel.taken i ≤ length sent
  taken_few i = let x = S.channel=.taken= i in let y = S.channel=.made= in let z = taken_made N (map lower E) flows i in omega arith

  pub flight_task : (c : ℕ) (x : Tagged (Msg U)) → (ledger P ds).channel.flight c ≡ some x → W.task (op_of x.msg) ≡ c
  flight_task c x e = (S.channel=.flies c x e).1
