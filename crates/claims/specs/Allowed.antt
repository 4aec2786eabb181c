-- Which decoded steps the published algorithm may take (RULES 5.1 to 5.10): the preconditions of 000 Figures 5 and 7 (`allowed`), with what BC
-- and PP have to hand out, and the limits (`within`, RULES 7). A step is taken exactly if both hold.
use Rattle.std.specs.Prelude.{ℕ, suc, ◌+◌, Bool, true, false, cond, ◌&&◌, not, List, [], ◌∷◌, ◌++◌, leb, ltb, length}
use Rattle.std.proofs.Math.Option.{Option, none, some}
use Rattle.lists.specs.Every.{each}
use Rattle.lists.specs.Filters.{filter}
use Rattle.lists.specs.Queues.{push}
use Rattle.lists.specs.Places.{nth}
use Rattle.names.specs.Placement.{Placement, home, holders, copy}
use Rattle.automaton.specs.State.{ChannelState, Tagged, released}
use Rattle.automaton.specs.MostBehind.{most_behind}
use Rattle.claims.specs.Command.{Command, request_read, request_update, perform, send_read, send_update, dispatch, take_broadcast, take_single, deliver, report}
use Rattle.claims.specs.Refusals.{alone}
use Rattle.claims.specs.Published.{Doing, quiet, asking_read, asking_update, waiting, done_read, done_update, Letter, Published, mail, answered}

-- request-read, request-update: a client asks only while it is quiet (000 §3, client-well-formed)
abbrev pub is_quiet : Doing → Bool
is_quiet quiet = true
is_quiet (asking_read x) = false
is_quiet (asking_update x f w) = false
is_quiet waiting = false
is_quiet (done_read v) = false
is_quiet done_update = false

-- report-read, report-update: "status(c) = (read-report, x, v)", "status(c) = (update-report, x)"
abbrev pub is_done : Doing → Bool
is_done quiet = false
is_done (asking_read x) = false
is_done (asking_update x f w) = false
is_done waiting = false
is_done (done_read v) = true
is_done done_update = true

-- mcast: "(m, J) is first on buffer"; receive: first on msgs
abbrev pub has_head : {A : Type 0} → List A → Bool
has_head [] = false
has_head (a ∷ l) = true

-- there is one
abbrev pub is_there : {A : Type 0} → Option A → Bool
is_there none = false
is_there (some a) = true

module _ (P : Placement) where
  -- perform-read: "status(c) = (read-perform, x), i ∈ sites(x)"; perform-update: "status(c) = (update-perform, x, f), sites(x) = {i}"
  abbrev pub may_perform : ℕ → Doing → Bool
  may_perform i quiet = false
  may_perform i (asking_read x) = copy P x i
  may_perform i (asking_update x f w) = alone P x i
  may_perform i waiting = false
  may_perform i (done_read v) = false
  may_perform i done_update = false

  -- global-read: "status(c) = (read-perform, x), i ∉ sites(x)", "j is any element of sites(x)"
  abbrev pub may_send_read : ℕ → ℕ → Doing → Bool
  may_send_read i j quiet = false
  may_send_read i j (asking_read x) = not (copy P x i) && copy P x j
  may_send_read i j (asking_update x f w) = false
  may_send_read i j waiting = false
  may_send_read i j (done_read v) = false
  may_send_read i j done_update = false

  -- global-update: "status(c) = (update-perform, x, f), sites(x) ≠ {i}"
  abbrev pub may_send_update : ℕ → Doing → Bool
  may_send_update i quiet = false
  may_send_update i (asking_read x) = false
  may_send_update i (asking_update x f w) = not (alone P x i)
  may_send_update i waiting = false
  may_send_update i (done_read v) = false
  may_send_update i done_update = false

  abbrev pub allowed : Published → Command → Bool
  allowed s (request_read c x) = is_quiet (s.status c)
  allowed s (request_update c x f w) = is_quiet (s.status c)
  allowed s (perform c) = may_perform (home P c) (s.status c)
  allowed s (send_read c j) = may_send_read (home P c) j (s.status c)
  allowed s (send_update c) = may_send_update (home P c) (s.status c)
  allowed s (dispatch i) = has_head (s.out i)
  -- Figure 7, receive from BC: the next broadcast; from PP: the task's message
  allowed s (take_broadcast i) = is_there (nth s.channel.sent (s.channel.taken i))
  allowed s (take_single c) = is_there (s.channel.flight c)
  allowed s (deliver i) = has_head (s.channel.inbox i)
  allowed s (report c) = is_done (s.status c)

  -- ---- the limits

  -- an outbox has room (RULES 7.1); a message has a destination (8.8)
  abbrev pub update_fits : List Letter → Doing → Bool
  update_fits l quiet = true
  update_fits l (asking_read x) = true
  update_fits l (asking_update x f w) = leb 1 (holders P x) && ltb (length l) 16
  update_fits l waiting = true
  update_fits l (done_read v) = true
  update_fits l done_update = true

  -- no card more than `most_behind` behind (RULES 7.5), at most 65,535 broadcasts (7.7); at most one message of a task in flight (7.4)
  abbrev pub dispatch_fits : ChannelState Letter → List Letter → Bool
  dispatch_fits w [] = true
  dispatch_fits w (m ∷ r) =
      cond (mail.multi m)
      (each P.cards (λ i. leb (suc (length w.sent)) (w.taken i + most_behind)) && ltb (length w.sent) 65535)
      (not (is_there (w.flight m.task)))

  -- at most 32 undelivered broadcasts (RULES 7.6), and 48 messages in an inbox (7.2)
  abbrev pub take_fits : ChannelState Letter → ℕ → Option Letter → Bool
  take_fits w i none = true
  take_fits w i (some m) =
      not (mail.to m i && leb 32 (length (filter mail.multi (w.inbox i))))
      && leb (length (push (mail.to m i) m (w.inbox i) ++ released (suc (w.taken i)) (w.held i))) 48

  -- at most 48 messages in an inbox (RULES 7.2), and 16 held (7.3)
  abbrev pub single_fits : ChannelState Letter → Option (Tagged Letter) → Bool
  single_fits w none = true
  single_fits w (some x) =
      cond (leb x.mark (w.taken (mail.dest x.msg))) (ltb (length (w.inbox (mail.dest x.msg))) 48)
      (ltb (length (w.held (mail.dest x.msg))) 16)

  -- an outbox has room for the reply, where there is one (RULES 7.1)
  abbrev pub deliver_fits : ℕ → List Letter → List Letter → Bool
  deliver_fits i l [] = true
  deliver_fits i l (m ∷ r) = cond (answered P m i) (ltb (length l) 16) true

  -- of requests at most 65,535 (RULES 7.8)
  abbrev pub within : Published → Command → Bool
  within s (request_read c x) = ltb s.requests 65535
  within s (request_update c x f w) = ltb s.requests 65535
  within s (perform c) = true
  within s (send_read c j) = ltb (length (s.out (home P c))) 16
  within s (send_update c) = update_fits (s.out (home P c)) (s.status c)
  within s (dispatch i) = dispatch_fits s.channel (s.out i)
  within s (take_broadcast i) = take_fits s.channel i (nth s.channel.sent (s.channel.taken i))
  within s (take_single c) = single_fits s.channel (s.channel.flight c)
  within s (deliver i) = deliver_fits i (s.out i) (s.channel.inbox i)
  within s (report c) = true
