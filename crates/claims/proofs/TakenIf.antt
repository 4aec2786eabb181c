-- A decoded step is taken exactly if Figures 5 and 7 allow it and it is within the limits.
use Prim.Native.Nat.{suc, ℕ}
use lib.Dec.{eqb, leb, ltb}
use lib.ListN.{length}
use mathlib.Core.Bool.{Bool, cond, false, not, true, ◌&&◌}
use mathlib.Core.List.{List, [], ◌++◌, ◌∷◌}
use mathlib.Core.Option.{Option, none, some}
use mathlib.Core.Path.{refl, ◌∙◌, ◌≡◌}
use native.Mathlib.Omega.{arith}
use Rattle.lists.specs.Places.{nth}
use Rattle.automaton.specs.Refusals.{flight_refusal, otherwise, single_refusal, take_refusal}
use Rattle.automaton.specs.State.{ChannelState, Tagged, released}
use Rattle.automaton.specs.MostBehind.{keeps_up}
use Rattle.lists.specs.Every.{each}
use Rattle.lists.specs.Filters.{filter}
use Rattle.lists.specs.Queues.{push}
use Rattle.lists.specs.Tests.{eqb_not, eqb_refl}
use Rattle.names.specs.Placement.{Placement, copy, holders, home}
use Rattle.claims.specs.Allowed.{allowed, deliver_fits, dispatch_fits, has_head, is_done, is_quiet, is_there, may_perform, may_send_read, may_send_update, single_fits, take_fits, update_fits, within}
use Rattle.claims.specs.Command.{Command}
use Rattle.claims.specs.Published.{Doing, Letter, Published, answered, asking_read, asking_update, command_refusal, done_read, done_update, mail, quiet, stage, waiting}
use Rattle.claims.specs.Refusals.{alone, deliver_refusal, head_refusal, perform_refusal, report_refusal, request_refusal, send_read_refusal, send_update_refusal}
use Rattle.claims.specs.Command as K

module _ (P : Placement) where
  abbrev zero? : ℕ → Bool
  zero? n = eqb n 0

  nonzero : (n : ℕ) → zero? (suc n) ≡ false
  nonzero n = eqb_not {m = suc n} {n = 0} (λ e. absurd (omega arith))

  other : (n : ℕ) (t : Bool) → zero? (otherwise (suc n) t) ≡ t
  other n true = eqb_refl 0
  other n false = nonzero n

  both_true : (t : Bool) → t ≡ (t && true)
  both_true true = refl
  both_true false = refl

  requests_if : (n : ℕ) (s : Doing) → zero? (request_refusal n (stage P s)) ≡ (is_quiet s && ltb n 65535)
  requests_if n quiet = other 22 (ltb n 65535)
  requests_if n (asking_read x) = nonzero 19
  requests_if n (asking_update x f w) = nonzero 19
  requests_if n waiting = nonzero 19
  requests_if n (done_read v) = nonzero 19
  requests_if n done_update = nonzero 19

  performs_if : (i : ℕ) (s : Doing) → zero? (perform_refusal P i (stage P s)) ≡ may_perform P i s
  performs_if i quiet = nonzero 20
  performs_if i (asking_read x) = other 21 (copy P x i)
  performs_if i (asking_update x f w) = other 21 (alone P x i)
  performs_if i waiting = nonzero 20
  performs_if i (done_read v) = nonzero 20
  performs_if i done_update = nonzero 20

  pair : (n : ℕ) (t u : Bool) → zero? (cond t (otherwise 6 u) (suc n)) ≡ (t && u)
  pair n true u = other 5 u
  pair n false u = nonzero n

  sends_read_if : (i j : ℕ) (l : List Letter) (s : Doing) → zero? (send_read_refusal P i j l (stage P s)) ≡ (may_send_read P i j s && ltb (length l) 16)
  sends_read_if i j l quiet = nonzero 20
  sends_read_if i j l (asking_read x) = pair 21 (not (copy P x i) && copy P x j) (ltb (length l) 16)
  sends_read_if i j l (asking_update x f w) = nonzero 20
  sends_read_if i j l waiting = nonzero 20
  sends_read_if i j l (done_read v) = nonzero 20
  sends_read_if i j l done_update = nonzero 20

  three : (n : ℕ) (t u v : Bool) → zero? (cond t (cond u (otherwise 6 v) 6) (suc n)) ≡ (t && (u && v))
  three n true u v = pair 5 u v
  three n false u v = nonzero n

  sends_update_if : (i : ℕ) (l : List Letter) (s : Doing) → zero? (send_update_refusal P i l (stage P s)) ≡ (may_send_update P i s && update_fits P l s)
  sends_update_if i l quiet = nonzero 20
  sends_update_if i l (asking_read x) = nonzero 20
  sends_update_if i l (asking_update x f w) = three 21 (not (alone P x i)) (leb 1 (holders P x)) (ltb (length l) 16)
  sends_update_if i l waiting = nonzero 20
  sends_update_if i l (done_read v) = nonzero 20
  sends_update_if i l done_update = nonzero 20

  dispatches_if : (w : ChannelState Letter) (l : List Letter) → zero? (head_refusal P mail (answered P) w l) ≡ (has_head l && dispatch_fits P w l)
  dispatches_if w [] = nonzero 29
  dispatches_if w (m ∷ r) = go (mail.multi m) (w.flight m.task)
    where
      A : Bool
      A = each P.cards (λ i. keeps_up (suc (length w.sent)) (w.taken i))

      B : Bool
      B = ltb (length w.sent) 65535

      go : (t : Bool) (o : Option (Tagged Letter)) → zero? (cond t (cond A (otherwise 6 B) 34) (flight_refusal mail P.cards o)) ≡ cond t (A && B) (not (is_there o))
      go true o = pair 33 A B
      go false none = eqb_refl 0
      go false (some x) = nonzero 5

  takes_if : (w : ChannelState Letter) (i : ℕ) (o : Option Letter) → zero? (take_refusal mail P.cards w i o) ≡ (is_there o && take_fits P w i o)
  takes_if w i none = nonzero 30
  takes_if w i (some m) = go (mail.to m i && leb 32 (length (filter mail.multi (w.inbox i)))) (leb (length (push (mail.to m i) m (w.inbox i) ++ released (suc (w.taken i)) (w.held i))) 48)
    where
      go : (t u : Bool) → zero? (cond t 35 (otherwise 6 u)) ≡ (not t && u)
      go true u = nonzero 34
      go false u = other 5 u

  singles_if : (w : ChannelState Letter) (o : Option (Tagged Letter)) → zero? (single_refusal mail P.cards w o) ≡ (is_there o && single_fits P w o)
  singles_if w none = nonzero 31
  singles_if w (some x) = go (leb x.mark (w.taken (mail.dest x.msg))) (ltb (length (w.inbox (mail.dest x.msg))) 48) (ltb (length (w.held (mail.dest x.msg))) 16)
    where
      go : (t u v : Bool) → zero? (cond t (otherwise 6 u) (otherwise 6 v)) ≡ cond t u v
      go true u v = other 5 u
      go false u v = other 5 v

  delivers_if : (i : ℕ) (l k : List Letter) → zero? (deliver_refusal P mail (answered P) i l k) ≡ (has_head k && deliver_fits P i l k)
  delivers_if i l [] = nonzero 32
  delivers_if i l (m ∷ r) = go (answered P m i) (ltb (length l) 16)
    where
      go : (t u : Bool) → zero? (cond t (otherwise 6 u) 0) ≡ cond t u true
      go true u = other 5 u
      go false u = eqb_refl 0

  reports_if : (s : Doing) → zero? (report_refusal (stage P s)) ≡ is_done s
  reports_if quiet = nonzero 20
  reports_if (asking_read x) = nonzero 20
  reports_if (asking_update x f w) = nonzero 20
  reports_if waiting = nonzero 20
  reports_if (done_read v) = eqb_refl 0
  reports_if done_update = eqb_refl 0

  pub taken_if : (s : Published) (c : Command) → eqb (command_refusal P s c) 0 ≡ (allowed P s c && within P s c)
  taken_if s (K.request_read c x) = requests_if s.requests (s.status c)
  taken_if s (K.request_update c x f w) = requests_if s.requests (s.status c)
  taken_if s (K.perform c) = performs_if (home P c) (s.status c) ∙ both_true (may_perform P (home P c) (s.status c))
  taken_if s (K.send_read c j) = sends_read_if (home P c) j (s.out (home P c)) (s.status c)
  taken_if s (K.send_update c) = sends_update_if (home P c) (s.out (home P c)) (s.status c)
  taken_if s (K.dispatch i) = dispatches_if s.channel (s.out i)
  taken_if s (K.take_broadcast i) = takes_if s.channel i (nth s.channel.sent (s.channel.taken i))
  taken_if s (K.take_single c) = singles_if s.channel (s.channel.flight c)
  taken_if s (K.deliver i) = delivers_if i (s.out i) (s.channel.inbox i)
  taken_if s (K.report c) = reports_if (s.status c) ∙ both_true (is_done (s.status c))
