-- What a run of the published algorithm keeps of its own: the channel's limits (ChannelLimits), that who asks for an update asks for a present
-- register, and that requests end at 65,535.
use Prim.Native.Nat.{suc, ℕ, ◌<◌, ◌≤◌}
use borrow.Author.Tests.{eqb-true, ltb-true}
use lib.Dec.{eqb, ltb}
use mathlib.Core.Bool.{Bool, cond, false, not, true, ◌&&◌}
use mathlib.Core.List.{List, [], ◌∷◌}
use mathlib.Core.Path.{ap, refl, ◌≡◌}
use native.Mathlib.Omega.{arith}
use Rattle.lists.specs.Places.{nth}
use Rattle.automaton.specs.Refusals.{otherwise}
use Rattle.automaton.specs.State.{ChannelState, channel_step}
use Rattle.lists.specs.Queues.{pop}
use Rattle.names.specs.CardSet.{just_of}
use Rattle.names.specs.Placement.{Placement, copy, holders, home, primary, registers}
use Rattle.names.specs.Update.{updated}
use Rattle.registers.specs.Layer.{to}
use Rattle.claims.proofs.ChannelLimits.{Modest, free_taken, modest_deliver, modest_dispatch, modest_single, modest_start, modest_take}
use Rattle.claims.proofs.Range.{Fits, decoded_fits}
use Rattle.claims.specs.Command.{Command}
use Rattle.claims.specs.Messages.{Body, ReadDo, ReadReply, UpdateDo, UpdateReply}
use Rattle.claims.specs.Published.{Doing, Letter, Published, answered, asking_read, asking_update, begin, command_refusal, delivering, dispatching, done_read, done_update, effect, mail, performing, post, quiet, receiving, reply_to, requesting, sending, sending_read, sending_update, set_copy, set_status, stage, waiting}
use Rattle.claims.specs.PublishedRun.{after_decoded, final_from}
use Rattle.claims.specs.Refusals.{head_refusal, request_refusal}
use Rattle.claims.specs.Steps.{Decoded, RawStep, bad, decode, good}
use Rattle.claims.specs.Command as K
use Rattle.automaton.specs.State as C

abbrev pub update_on : Doing → ℕ
update_on quiet = 0
update_on (asking_read x) = 0
update_on (asking_update x f w) = suc x
update_on waiting = 0
update_on (done_read v) = 0
update_on done_update = 0

module _ (P : Placement) where
  -- a task that asks for an update asks for a present register
  abbrev AsksPresent : (ℕ → Doing) → Type 0
  AsksPresent f = (c x n v : ℕ) → f c ≡ asking_update x n v → x < registers P

  pub record Steady (s : Published) : Type 0 where
    pub modest : Modest mail P.cards s.channel
    pub asks : (c x n v : ℕ) → s.status c ≡ asking_update x n v → x < registers P
    pub count : s.requests ≤ 65535

  pub steady_start : Steady begin
  steady_start = record { modest = modest_start mail P.cards; asks = λ c x n v e. let z = ap update_on e in absurd (omega arith); count = omega arith }

  -- a new status that is no request for an update
  asks_set : (c : ℕ) (d : Doing) (f : ℕ → Doing) → update_on d ≤ registers P → AsksPresent f → AsksPresent (set_status c d f)
  asks_set c d f l h e x n v = go (eqb c e)
    where
      go : (t : Bool) → cond t d (f e) ≡ asking_update x n v → x < registers P
      go true q = let z = ap update_on q in omega arith
      go false q = h e x n v q

  module _ (s : Published) (a : Steady s) where
    -- steps that leave the channel and the count of requests alone
    with_status_lem : (c : ℕ) (d : Doing) (t : ℕ → ℕ → ℕ) (o : ℕ → List Letter) → update_on d ≤ registers P
        → Steady (record { requests = s.requests; status = set_status c d s.status; table = t; out = o; channel = s.channel })
    with_status_lem c d t o l = record { modest = a.modest; asks = asks_set c d s.status l a.asks; count = a.count }

    with_channel_lem : (w : ChannelState Letter) (o : ℕ → List Letter) → Modest mail P.cards w → Steady (record { requests = s.requests; status = s.status; table = s.table; out = o; channel = w })
    with_channel_lem w o m = record { modest = m; asks = a.asks; count = a.count }

    on_request : (c : ℕ) (d : Doing) (q : ℕ) (e : Doing) → update_on d ≤ registers P → request_refusal q (stage P e) ≡ 0 → s.requests ≡ q
        → Steady (requesting s c d)
    on_request c d q quiet l z r = record { modest = a.modest; asks = asks_set c d s.status l a.asks; count = go (ltb q 65535) refl z }
      where
        go : (t : Bool) → ltb q 65535 ≡ t → otherwise 23 t ≡ 0 → suc s.requests ≤ 65535
        go true p z = let l = ltb-true q 65535 p in omega arith
        go false p z = absurd (omega arith)
    on_request c d q (asking_read x) l z r = absurd (omega arith)
    on_request c d q (asking_update x f v) l z r = absurd (omega arith)
    on_request c d q waiting l z r = absurd (omega arith)
    on_request c d q (done_read v) l z r = absurd (omega arith)
    on_request c d q done_update l z r = absurd (omega arith)

    on_perform : (c i : ℕ) (d : Doing) → Steady (performing s c i d)
    on_perform c i quiet = a
    on_perform c i (asking_read x) = with_status_lem c (done_read (s.table i x)) s.table s.out (omega arith)
    on_perform c i (asking_update x f v) = with_status_lem c done_update (set_copy i x (updated f v (s.table i x)) s.table) s.out (omega arith)
    on_perform c i waiting = a
    on_perform c i (done_read v) = a
    on_perform c i done_update = a

    on_send : (c x : ℕ) (b : Body) (to : ℕ) → Steady (sending P s c x b to)
    on_send c x b to = with_status_lem c waiting s.table (post (home P c) (record { task = c; reg = x; body = b; to = to }) s.out) (omega arith)

    on_send_read : (c j : ℕ) (d : Doing) → Steady (sending_read P s c j d)
    on_send_read c j quiet = a
    on_send_read c j (asking_read x) = on_send c x ReadDo (just_of j)
    on_send_read c j (asking_update x f v) = a
    on_send_read c j waiting = a
    on_send_read c j (done_read v) = a
    on_send_read c j done_update = a

    on_send_update : (c : ℕ) (d : Doing) → Steady (sending_update P s c d)
    on_send_update c quiet = a
    on_send_update c (asking_read x) = a
    on_send_update c (asking_update x f v) = on_send c x (UpdateDo f v) (holders P x)
    on_send_update c waiting = a
    on_send_update c (done_read v) = a
    on_send_update c done_update = a

    on_dispatch : (i : ℕ) (l : List Letter) → head_refusal P mail (answered P) s.channel l ≡ 0 → Steady (dispatching P s i l)
    on_dispatch i [] z = a
    on_dispatch i (m ∷ r) z = with_channel_lem (channel_step mail s.channel (C.dispatch i m)) (λ j. pop (eqb j i) (s.out j)) (modest_dispatch mail P.cards s.channel a.modest i m z)

    abbrev left : ℕ → ChannelState Letter
    left i = channel_step mail s.channel (C.deliver i)

    gone : (i : ℕ) → Modest mail P.cards (left i)
    gone i = modest_deliver mail P.cards s.channel a.modest i

    told : (i c : ℕ) (d : Doing) (t : ℕ → ℕ → ℕ) (o : ℕ → List Letter) → update_on d ≤ registers P → Steady (record { requests = s.requests; status = set_status c d s.status; table = t; out = o; channel = left i })
    told i c d t o l = record { modest = gone i; asks = asks_set c d s.status l a.asks; count = a.count }

    on_receive : (i : ℕ) (m : Letter) (b : Body) → Steady (receiving P s i m b)
    on_receive i m ReadDo = with_channel_lem (left i) (post i (reply_to P m (ReadReply (s.table i m.reg))) s.out) (gone i)
    on_receive i m (ReadReply v) = told i m.task (done_read v) s.table s.out (omega arith)
    on_receive i m (UpdateDo f v) = go (eqb i (home P m.task))
      where
        go : (t : Bool) → Steady (record {
          requests = s.requests;
          status = cond t (set_status m.task done_update s.status) s.status;
          table = set_copy i m.reg (updated f v (s.table i m.reg)) s.table;
          out = cond (eqb i (primary P m.reg) && not (copy P m.reg (home P m.task))) (post i (reply_to P m UpdateReply) s.out) s.out;
          channel = left i;
        })
        go true = record { modest = gone i; asks = asks_set m.task done_update s.status (omega arith) a.asks; count = a.count }
        go false = record { modest = gone i; asks = a.asks; count = a.count }
    on_receive i m UpdateReply = told i m.task done_update s.table s.out (omega arith)

    on_deliver : (i : ℕ) (l : List Letter) → Steady (delivering P s i l)
    on_deliver i [] = a
    on_deliver i (m ∷ r) = on_receive i m m.body

    steady_effect : (c : Command) → Fits P c → command_refusal P s c ≡ 0 → Steady (effect P s c)
    steady_effect (K.request_read c x) h z = on_request c (asking_read x) s.requests (s.status c) (omega arith) z refl
    steady_effect (K.request_update c x f v) h z = let l = h.1 in on_request c (asking_update x f v) s.requests (s.status c) (omega arith) z refl
    steady_effect (K.perform c) h z = on_perform c (home P c) (s.status c)
    steady_effect (K.send_read c j) h z = on_send_read c j (s.status c)
    steady_effect (K.send_update c) h z = on_send_update c (s.status c)
    steady_effect (K.dispatch i) h z = on_dispatch i (s.out i) z
    steady_effect (K.take_broadcast i) h z =
        with_channel_lem (channel_step mail s.channel (C.take_broadcast i)) s.out (modest_take mail P.cards s.channel a.modest i (nth s.channel.sent (s.channel.taken i))
        (free_taken mail P.cards s.channel a.modest i (nth s.channel.sent (s.channel.taken i)) z))
    steady_effect (K.take_single c) h z = with_channel_lem (channel_step mail s.channel (C.take_single c)) s.out (modest_single mail P.cards s.channel a.modest c (s.channel.flight c) refl)
    steady_effect (K.deliver i) h z = on_deliver i (s.channel.inbox i)
    steady_effect (K.report c) h z = with_status_lem c quiet s.table s.out (omega arith)

    steady_decoded : (d : Decoded) → ((c : Command) → d ≡ good c → Fits P c) → Steady (after_decoded P s d)
    steady_decoded (bad n) h = a
    steady_decoded (good c) h = go (eqb (command_refusal P s c) 0) refl
      where
        go : (t : Bool) → eqb (command_refusal P s c) 0 ≡ t → Steady (cond t (effect P s c) s)
        go true e = steady_effect c (h c refl) (eqb-true _ _ e)
        go false e = a

  steady_from : (s : Published) → Steady s → (l : List RawStep) → Steady (final_from P s l)
  steady_from s a [] = a
  steady_from s a (x ∷ l) = steady_from (after_decoded P s (decode P x)) (steady_decoded s a (decode P x) (decoded_fits P x)) l

  pub steady : (l : List RawStep) → Steady (final_from P begin l)
  steady l = steady_from begin steady_start l
