-- A decoded step is refused with a number only in the plain terms of that number (specs/Numbers): with `comes_only`, exactly then.
use Prim.Native.Nat.{suc, zero, ℕ, ◌≤◌}
use borrow.Author.Tests.{leb-false, leb-true, ltb-false}
use lib.Dec.{leb, ltb}
use lib.ListN.{length}
use mathlib.Core.Bool.{Bool, cond, false, not, true, true≢false, ◌&&◌}
use mathlib.Core.List.{List, [], ◌∷◌}
use mathlib.Core.Logic.{inl, inr, ◌↔◌}
use mathlib.Core.Option.{Option, some-ne-none, none, some}
use mathlib.Core.Path.{ap, refl, subst, sym, ◌∙◌, ◌≡◌}
use native.Mathlib.Omega.{arith}
use Rattle.lists.specs.Places.{nth}
use Rattle.automaton.specs.Refusals.{broadcast_refusal, flight_refusal, otherwise, single_refusal, take_refusal}
use Rattle.automaton.specs.State.{ChannelState, Tagged}
use Rattle.automaton.specs.MostBehind.{keeps_up}
use Rattle.automaton.proofs.KeepsUp.{kept_up, fell_behind}
use Rattle.lists.specs.Every.{each, each_at, each_failing}
use Rattle.names.specs.CardSet.{member_of, several, sole_of}
use Rattle.names.specs.Placement.{Placement, copy, holders, home}
use Rattle.claims.proofs.NumbersMean.{comes_only}
use Rattle.claims.specs.Allowed.{is_done, is_quiet}
use Rattle.claims.specs.Command.{Command}
use Rattle.claims.specs.Numbers.{AsksRead, AsksUpdate, Comes, IsDone, alone_here, busy_read, busy_update, copy_here, crowded, far_behind, held_full, inbox_full_single, inbox_full_take, inbox_after, last_broadcast, last_read, last_update, no_broadcast, no_copy, no_holder, no_letter, no_message, nobody, none_in_flight, not_alone, not_asking, not_done, not_read, not_update, outbox_full_read, outbox_full_reply, outbox_full_update, second_in_flight, undelivered}
use Rattle.claims.specs.Published.{Doing, Letter, Published, answered, asking_read, asking_update, command_refusal, done_read, done_update, mail, quiet, stage, waiting}
use Rattle.claims.specs.Refusals.{alone, deliver_refusal, head_refusal, outbox_room, perform_refusal, report_refusal, request_refusal, send_read_refusal, send_update_refusal}
use Rattle.claims.specs.Command as K

-- what a task does, told apart
abbrev is_read : Doing → Bool
is_read quiet = false
is_read (asking_read x) = true
is_read (asking_update x f w) = false
is_read waiting = false
is_read (done_read v) = false
is_read done_update = false

abbrev is_update : Doing → Bool
is_update quiet = false
is_update (asking_read x) = false
is_update (asking_update x f w) = true
is_update waiting = false
is_update (done_read v) = false
is_update done_update = false

not_quiet : {d : Doing} (e : Doing) → d ≡ e → is_quiet e ≡ false → ¬ (d ≡ quiet)
not_quiet e p h q = true≢false (sym (ap is_quiet (sym p ∙ q)) ∙ h)

no_read : {d : Doing} (e : Doing) → d ≡ e → is_read e ≡ false → ¬ AsksRead d
no_read e p h (x, q) = true≢false (sym (ap is_read (sym p ∙ q)) ∙ h)

no_update : {d : Doing} (e : Doing) → d ≡ e → is_update e ≡ false → ¬ AsksUpdate d
no_update e p h (x, f, v, q) = true≢false (sym (ap is_update (sym p ∙ q)) ∙ h)

undone : {d : Doing} (e : Doing) → d ≡ e → is_done e ≡ false → ¬ IsDone d
undone e p h (inl (v, q)) = true≢false (sym (ap is_done (sym p ∙ q)) ∙ h)
undone e p h (inr q) = true≢false (sym (ap is_done (sym p ∙ q)) ∙ h)

-- past the end there is nothing, and only there
beyond : {A : Type 0} (l : List A) (n : ℕ) → nth l n ≡ none → length l ≤ n
beyond [] n e = omega arith
beyond (a ∷ l) zero e = absurd (some-ne-none a e)
beyond (a ∷ l) (suc n) e = let h = beyond l n e in omega arith

module _ (P : Placement) (s : Published) where
  abbrev w : ChannelState Letter
  w = s.channel

  -- step c is refused with n
  abbrev Right : ℕ → Command → Type 0
  Right n c = ¬ (n ≡ 0) → Comes P s n c

  otherwise_right : (n : ℕ) (c : Command) (t : Bool) → (t ≡ false → Comes P s n c) → Right (otherwise n t) c
  otherwise_right n c true f z = absurd (z refl)
  otherwise_right n c false f z = f refl

  at_request : (c : ℕ) (k : Command) (d : Doing) → s.status c ≡ d → (¬ (s.status c ≡ quiet) → Comes P s 20 k) → (s.status c ≡ quiet → 65535 ≤ s.requests → Comes P s 23 k)
      → Right (request_refusal s.requests (stage P d)) k
  at_request c k quiet e f g z = otherwise_right 23 k (ltb s.requests 65535) (λ q. g e (ltb-false _ _ q)) z
  at_request c k (asking_read x) e f g z = f (not_quiet (asking_read x) e refl)
  at_request c k (asking_update x y v) e f g z = f (not_quiet (asking_update x y v) e refl)
  at_request c k waiting e f g z = f (not_quiet waiting e refl)
  at_request c k (done_read v) e f g z = f (not_quiet (done_read v) e refl)
  at_request c k done_update e f g z = f (not_quiet done_update e refl)

  at_perform : (c : ℕ) (d : Doing) → s.status c ≡ d → Right (perform_refusal P (home P c) (stage P d)) (K.perform c)
  at_perform c quiet e z = not_asking (no_read quiet e refl) (no_update quiet e refl)
  at_perform c (asking_read x) e z = otherwise_right 22 (K.perform c) (copy P x (home P c)) (λ q. no_copy x e q) z
  at_perform c (asking_update x f v) e z = otherwise_right 22 (K.perform c) (alone P x (home P c)) (λ q. not_alone x f v e q) z
  at_perform c waiting e z = not_asking (no_read waiting e refl) (no_update waiting e refl)
  at_perform c (done_read v) e z = not_asking (no_read (done_read v) e refl) (no_update (done_read v) e refl)
  at_perform c done_update e z = not_asking (no_read done_update e refl) (no_update done_update e refl)

  at_send_read : (c j : ℕ) (d : Doing) → s.status c ≡ d → Right (send_read_refusal P (home P c) j (s.out (home P c)) (stage P d)) (K.send_read c j)
  at_send_read c j quiet e z = not_read (no_read quiet e refl)
  at_send_read c j (asking_read x) e z = go (copy P x (home P c)) refl (copy P x j) refl z
    where
      go : (a : Bool) → copy P x (home P c) ≡ a → (b : Bool) → copy P x j ≡ b → Right (cond (not a && b) (outbox_room (s.out (home P c))) 22) (K.send_read c j)
      go true p b q z = copy_here x e p
      go false p true q z = otherwise_right 6 (K.send_read c j) (ltb (length (s.out (home P c))) 16) (λ r. outbox_full_read x e p q (ltb-false _ _ r)) z
      go false p false q z = no_holder x e q
  at_send_read c j (asking_update x f v) e z = not_read (no_read (asking_update x f v) e refl)
  at_send_read c j waiting e z = not_read (no_read waiting e refl)
  at_send_read c j (done_read v) e z = not_read (no_read (done_read v) e refl)
  at_send_read c j done_update e z = not_read (no_read done_update e refl)

  at_send_update : (c : ℕ) (d : Doing) → s.status c ≡ d → Right (send_update_refusal P (home P c) (s.out (home P c)) (stage P d)) (K.send_update c)
  at_send_update c quiet e z = not_update (no_update quiet e refl)
  at_send_update c (asking_read x) e z = not_update (no_update (asking_read x) e refl)
  at_send_update c (asking_update x f v) e z = go (alone P x (home P c)) refl (leb 1 (holders P x)) refl z
    where
      go : (a : Bool) → alone P x (home P c) ≡ a → (b : Bool) → leb 1 (holders P x) ≡ b → Right (cond (not a) (cond b (outbox_room (s.out (home P c))) 6) 22) (K.send_update c)
      go true p b q z = alone_here x f v e p
      go false p true q z = otherwise_right 6 (K.send_update c) (ltb (length (s.out (home P c))) 16) (λ r. outbox_full_update x f v e p (ltb-false _ _ r)) z
      go false p false q z = nobody x f v e p (let h = leb-false 1 (holders P x) q in omega arith)
  at_send_update c waiting e z = not_update (no_update waiting e refl)
  at_send_update c (done_read v) e z = not_update (no_update (done_read v) e refl)
  at_send_update c done_update e z = not_update (no_update done_update e refl)

  at_report : (c : ℕ) (d : Doing) → s.status c ≡ d → Right (report_refusal (stage P d)) (K.report c)
  at_report c quiet e z = not_done (undone quiet e refl)
  at_report c (asking_read x) e z = not_done (undone (asking_read x) e refl)
  at_report c (asking_update x f v) e z = not_done (undone (asking_update x f v) e refl)
  at_report c waiting e z = not_done (undone waiting e refl)
  at_report c (done_read v) e z = absurd (z refl)
  at_report c done_update e z = absurd (z refl)

  at_dispatch : (i : ℕ) (l : List Letter) → s.out i ≡ l → Right (head_refusal P mail (answered P) w l) (K.dispatch i)
  at_dispatch i [] e z = no_letter e
  at_dispatch i (m ∷ r) e z = go (several m.to) refl (w.flight m.task) refl z
    where
      behind : ℕ → Bool
      behind j = keeps_up (suc (length w.sent)) (w.taken j)

      cast : several m.to ≡ true → (t : Bool) → each P.cards behind ≡ t → Right (cond t (otherwise 6 (ltb (length w.sent) 65535)) 34) (K.dispatch i)
      cast u true q z = otherwise_right 6 (K.dispatch i) (ltb (length w.sent) 65535)
          (λ x. last_broadcast m r e u (λ j l. kept_up (suc (length w.sent)) (w.taken j) (each_at P.cards behind q j l)) (ltb-false _ _ x)) z
      cast u false q z =
          let f = each_failing P.cards behind q in
          let h = fell_behind (suc (length w.sent)) (w.taken f.0) f.2 in
          far_behind m r f.0 e u f.1 (omega arith)

      go : (t : Bool) → several m.to ≡ t → (o : Option (Tagged Letter)) → w.flight m.task ≡ o → Right (cond t (broadcast_refusal mail P.cards w) (flight_refusal mail P.cards o)) (K.dispatch i)
      go true u o q z = cast u (each P.cards behind) refl z
      go false u none q z = absurd (z refl)
      go false u (some x) q z = second_in_flight m r x e u q

  at_take : (i : ℕ) (o : Option Letter) → nth w.sent (w.taken i) ≡ o → Right (take_refusal mail P.cards w i o) (K.take_broadcast i)
  at_take i none e z = no_broadcast (beyond w.sent (w.taken i) e)
  at_take i (some m) e z = go (member_of m.to i) refl (leb 32 (undelivered P s i)) refl z
    where
      go : (a : Bool) → member_of m.to i ≡ a → (b : Bool) → leb 32 (undelivered P s i) ≡ b → Right (cond (a && b) 35 (otherwise 6 (leb (length (inbox_after P s i m)) 48))) (K.take_broadcast i)
      go true p true q z = crowded m e p (leb-true _ _ q)
      go true p false q z = otherwise_right 6 (K.take_broadcast i) (leb (length (inbox_after P s i m)) 48) (λ x. inbox_full_take m e (inr (leb-false 32 (undelivered P s i) q)) (leb-false _ _ x)) z
      go false p b q z = otherwise_right 6 (K.take_broadcast i) (leb (length (inbox_after P s i m)) 48) (λ x. inbox_full_take m e (inl p) (leb-false _ _ x)) z

  at_single : (c : ℕ) (o : Option (Tagged Letter)) → w.flight c ≡ o → Right (single_refusal mail P.cards w o) (K.take_single c)
  at_single c none e z = none_in_flight e
  at_single c (some x) e z = go (leb x.mark (w.taken (sole_of x.msg.to))) refl z
    where
      go : (t : Bool) → leb x.mark (w.taken (sole_of x.msg.to)) ≡ t
          → Right (cond t (otherwise 6 (ltb (length (w.inbox (sole_of x.msg.to))) 48)) (otherwise 6 (ltb (length (w.held (sole_of x.msg.to))) 16))) (K.take_single c)
      go true p z = otherwise_right 6 (K.take_single c) (ltb (length (w.inbox (sole_of x.msg.to))) 48) (λ q. inbox_full_single x e (leb-true _ _ p) (ltb-false _ _ q)) z
      go false p z = otherwise_right 6 (K.take_single c) (ltb (length (w.held (sole_of x.msg.to))) 16) (λ q. held_full x e (leb-false _ _ p) (ltb-false _ _ q)) z

  at_deliver : (i : ℕ) (l : List Letter) → w.inbox i ≡ l → Right (deliver_refusal P mail (answered P) i (s.out i) l) (K.deliver i)
  at_deliver i [] e z = no_message e
  at_deliver i (m ∷ r) e z = go (answered P m i) refl z
    where
      go : (t : Bool) → answered P m i ≡ t → Right (cond t (outbox_room (s.out i)) 0) (K.deliver i)
      go true p z = otherwise_right 6 (K.deliver i) (ltb (length (s.out i)) 16) (λ q. outbox_full_reply m r e p (ltb-false _ _ q)) z
      go false p z = absurd (z refl)

  pub comes : (c : Command) → Right (command_refusal P s c) c
  comes (K.request_read c x) = at_request c (K.request_read c x) (s.status c) refl busy_read last_read
  comes (K.request_update c x f v) = at_request c (K.request_update c x f v) (s.status c) refl busy_update last_update
  comes (K.perform c) = at_perform c (s.status c) refl
  comes (K.send_read c j) = at_send_read c j (s.status c) refl
  comes (K.send_update c) = at_send_update c (s.status c) refl
  comes (K.dispatch i) = at_dispatch i (s.out i) refl
  comes (K.take_broadcast i) = at_take i (nth w.sent (w.taken i)) refl
  comes (K.take_single c) = at_single c (w.flight c) refl
  comes (K.deliver i) = at_deliver i (w.inbox i) refl
  comes (K.report c) = at_report c (s.status c) refl

  -- a decoded step is refused with n exactly when n comes
  pub number_exact : (n : ℕ) (c : Command) → ¬ (n ≡ 0) → (command_refusal P s c ≡ n) ↔ Comes P s n c
  number_exact n c z = ((λ e. subst (λ k. Comes P s k c) e (comes c (λ q. z (sym e ∙ q)))), λ h. comes_only P s h)
