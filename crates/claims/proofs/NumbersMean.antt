-- A decoded step that meets the plain terms of a refusal (specs/Numbers) is refused with that number.
use Prim.Native.Nat.{suc, zero, ℕ, ◌+◌, ◌<◌, ◌≤◌}
use borrow.Author.Tests.{le-leb, le-ltb, lt-leb}
use lib.Dec.{leb, ltb}
use lib.ListN.{length}
use mathlib.Core.Bool.{Bool, cond, false, not, true, ◌&&◌}
use mathlib.Core.List.{List, [], ◌∷◌}
use mathlib.Core.Logic.{inl, inr, ◌⊎◌}
use mathlib.Core.Option.{none}
use mathlib.Core.Path.{ap, ap₂, refl, ◌∙◌, ◌≡◌}
use native.Mathlib.Omega.{arith}
use Rattle.lists.specs.Places.{nth}
use Rattle.automaton.specs.Refusals.{broadcast_refusal, flight_refusal, otherwise, single_refusal, take_refusal}
use Rattle.automaton.specs.State.{ChannelState}
use Rattle.automaton.specs.MostBehind.{most_behind, keeps_up}
use Rattle.automaton.proofs.KeepsUp.{keeps_up_lem, falls_behind}
use Rattle.lists.specs.Every.{each, each_fails, each_of}
use Rattle.lists.specs.Tests.{and_false}
use Rattle.names.specs.CardSet.{member_of, sole_of}
use Rattle.names.specs.Placement.{Placement, copy, holders, home}
use Rattle.claims.specs.Command.{Command}
use Rattle.claims.specs.Numbers.{AsksRead, AsksUpdate, Comes, IsDone, alone_here, busy_read, busy_update, copy_here, crowded, far_behind, held_full, inbox_full_single, inbox_full_take, inbox_after, last_broadcast, last_read, last_update, made, no_broadcast, no_copy, no_holder, no_letter, no_message, nobody, none_in_flight, not_alone, not_asking, not_done, not_read, not_update, outbox_full_read, outbox_full_reply, outbox_full_update, second_in_flight, undelivered}
use Rattle.claims.specs.Published.{Doing, Letter, Published, answered, asking_read, asking_update, command_refusal, done_read, done_update, mail, quiet, stage, waiting}
use Rattle.claims.specs.Refusals.{deliver_refusal, head_refusal, outbox_room, perform_refusal, report_refusal, request_refusal, send_read_refusal, send_update_refusal, update_room}

module _ (P : Placement) where
  busy : (n : ℕ) (d : Doing) → ¬ (d ≡ quiet) → request_refusal n (stage P d) ≡ 20
  busy n quiet h = absurd (h refl)
  busy n (asking_read x) h = refl
  busy n (asking_update x f w) h = refl
  busy n waiting h = refl
  busy n (done_read v) h = refl
  busy n done_update h = refl

  idle : (i : ℕ) (d : Doing) → ¬ AsksRead d → ¬ AsksUpdate d → perform_refusal P i (stage P d) ≡ 21
  idle i quiet h g = refl
  idle i (asking_read x) h g = absurd (h (x, refl))
  idle i (asking_update x f w) h g = absurd (g (x, f, w, refl))
  idle i waiting h g = refl
  idle i (done_read v) h g = refl
  idle i done_update h g = refl

  no_read : (i j : ℕ) (l : List Letter) (d : Doing) → ¬ AsksRead d → send_read_refusal P i j l (stage P d) ≡ 21
  no_read i j l quiet h = refl
  no_read i j l (asking_read x) h = absurd (h (x, refl))
  no_read i j l (asking_update x f w) h = refl
  no_read i j l waiting h = refl
  no_read i j l (done_read v) h = refl
  no_read i j l done_update h = refl

  no_update : (i : ℕ) (l : List Letter) (d : Doing) → ¬ AsksUpdate d → send_update_refusal P i l (stage P d) ≡ 21
  no_update i l quiet h = refl
  no_update i l (asking_read x) h = refl
  no_update i l (asking_update x f w) h = absurd (h (x, f, w, refl))
  no_update i l waiting h = refl
  no_update i l (done_read v) h = refl
  no_update i l done_update h = refl

  undone : (d : Doing) → ¬ IsDone d → report_refusal (stage P d) ≡ 21
  undone quiet h = refl
  undone (asking_read x) h = refl
  undone (asking_update x f w) h = refl
  undone waiting h = refl
  undone (done_read v) h = absurd (h (inl (v, refl)))
  undone done_update h = absurd (h (inr refl))

  -- there is no place n in a list of at most n elements
  past_end : {A : Type 0} (l : List A) (n : ℕ) → length l ≤ n → nth l n ≡ none
  past_end [] n h = refl
  past_end (a ∷ l) zero h = absurd (omega arith)
  past_end (a ∷ l) (suc n) h = past_end l n (omega arith)

  module _ (s : Published) where
    abbrev w : ChannelState Letter
    w = s.channel

    -- no card is as far behind as it may be
    near : ((j : ℕ) → j < P.cards → made P s < w.taken j + most_behind) → each P.cards (λ j. keeps_up (suc (length w.sent)) (w.taken j)) ≡ true
    near h = each_of P.cards (λ j. keeps_up (suc (length w.sent)) (w.taken j)) (λ j l. let g = h j l in keeps_up_lem (suc (length w.sent)) (w.taken j) g)

    pub not_crowded : (i : ℕ) (m : Letter) → (member_of m.to i ≡ false) ⊎ (undelivered P s i < 32) → (member_of m.to i && leb 32 (undelivered P s i)) ≡ false
    not_crowded i m (inl e) = ap (λ t. t && leb 32 (undelivered P s i)) e
    not_crowded i m (inr l) = ap (λ t. member_of m.to i && t) (lt-leb 32 (undelivered P s i) l) ∙ and_false (member_of m.to i)

    pub comes_only : {n : ℕ} {c : Command} → Comes P s n c → command_refusal P s c ≡ n
    comes_only (busy_read {c} {x} h) = busy s.requests (s.status c) h
    comes_only (busy_update {c} {x} {f} {w = v} h) = busy s.requests (s.status c) h
    comes_only (not_asking {c} h g) = idle (home P c) (s.status c) h g
    comes_only (not_read {c} {j} h) = no_read (home P c) j (s.out (home P c)) (s.status c) h
    comes_only (not_update {c} h) = no_update (home P c) (s.out (home P c)) (s.status c) h
    comes_only (not_done {c} h) = undone (s.status c) h
    comes_only (no_copy {c} x e q) = ap (λ d. perform_refusal P (home P c) (stage P d)) e ∙ ap (otherwise 22) q
    comes_only (not_alone {c} x f v e q) = ap (λ d. perform_refusal P (home P c) (stage P d)) e ∙ ap (otherwise 22) q
    comes_only (copy_here {c} {j} x e q) =
        ap (λ d. send_read_refusal P (home P c) j (s.out (home P c)) (stage P d)) e ∙ ap (λ t. cond (not t && copy P x j) (outbox_room (s.out (home P c))) 22) q
    comes_only (no_holder {c} {j} x e q) =
        ap (λ d. send_read_refusal P (home P c) j (s.out (home P c)) (stage P d)) e
        ∙ ap (λ t. cond (not (copy P x (home P c)) && t) (outbox_room (s.out (home P c))) 22) q
        ∙ ap (λ t. cond t (outbox_room (s.out (home P c))) 22) (and_false (not (copy P x (home P c))))
    comes_only (alone_here {c} x f v e q) =
        ap (λ d. send_update_refusal P (home P c) (s.out (home P c)) (stage P d)) e ∙ ap (λ t. cond (not t) (update_room P x (s.out (home P c))) 22) q
    comes_only (last_read {c} {x} e h) = ap (λ d. request_refusal s.requests (stage P d)) e ∙ ap (otherwise 23) (le-ltb s.requests 65535 h)
    comes_only (last_update {c} {x} {f} {w = v} e h) = ap (λ d. request_refusal s.requests (stage P d)) e ∙ ap (otherwise 23) (le-ltb s.requests 65535 h)
    comes_only (no_letter {i} e) = ap (head_refusal P mail (answered P) w) e
    comes_only (no_broadcast {i} h) = ap (take_refusal mail P.cards w i) (past_end w.sent (w.taken i) h)
    comes_only (none_in_flight {c} e) = ap (single_refusal mail P.cards w) e
    comes_only (no_message {i} e) = ap (deliver_refusal P mail (answered P) i (s.out i)) e
    comes_only (far_behind {i} m r j e u l h) =
        ap (head_refusal P mail (answered P) w) e
        ∙ ap (λ t. cond t (broadcast_refusal mail P.cards w) (flight_refusal mail P.cards (w.flight m.task))) u
        ∙ ap (λ t. cond t (otherwise 6 (ltb (length w.sent) 65535)) 34)
        (each_fails P.cards (λ k. keeps_up (suc (length w.sent)) (w.taken k)) j l (falls_behind (suc (length w.sent)) (w.taken j) (omega arith)))
    comes_only (crowded {i} m e u h) =
        ap (take_refusal mail P.cards w i) e
        ∙ ap₂ (λ a b. cond (a && b) 35 (otherwise 6 (leb (length (inbox_after P s i m)) 48))) u (le-leb 32 (undelivered P s i) h)
    comes_only (outbox_full_read {c} {j} x e p q h) =
        ap (λ d. send_read_refusal P (home P c) j (s.out (home P c)) (stage P d)) e
        ∙ ap₂ (λ a b. cond (not a && b) (outbox_room (s.out (home P c))) 22) p q
        ∙ ap (otherwise 6) (le-ltb (length (s.out (home P c))) 16 h)
    comes_only (nobody {c} x f v e p q) =
        ap (λ d. send_update_refusal P (home P c) (s.out (home P c)) (stage P d)) e
        ∙ ap₂ (λ a b. cond (not a) (cond b (outbox_room (s.out (home P c))) 6) 22) p (lt-leb 1 (holders P x) (omega arith))
    comes_only (outbox_full_update {c} x f v e p h) =
        ap (λ d. send_update_refusal P (home P c) (s.out (home P c)) (stage P d)) e
        ∙ ap₂ (λ a b. cond (not a) (cond (leb 1 (holders P x)) (otherwise 6 b) 6) 22) p (le-ltb (length (s.out (home P c))) 16 h)
        ∙ either (leb 1 (holders P x))
      where
        either : (t : Bool) → ◌≡◌ {A = ℕ} (cond t 6 6) 6
        either true = refl
        either false = refl
    comes_only (last_broadcast {i} m r e u h g) =
        ap (head_refusal P mail (answered P) w) e
        ∙ ap (λ t. cond t (broadcast_refusal mail P.cards w) (flight_refusal mail P.cards (w.flight m.task))) u
        ∙ ap₂ (λ a b. cond a (otherwise 6 b) 34) (near h) (le-ltb (length w.sent) 65535 g)
    comes_only (second_in_flight {i} m r x e u q) =
        ap (head_refusal P mail (answered P) w) e
        ∙ ap₂ (λ a b. cond a (broadcast_refusal mail P.cards w) (flight_refusal mail P.cards b)) u q
    comes_only (inbox_full_take {i} m e u h) =
        ap (take_refusal mail P.cards w i) e
        ∙ ap₂ (λ a b. cond a 35 (otherwise 6 b)) (not_crowded i m u) (lt-leb (length (inbox_after P s i m)) 48 h)
    comes_only (inbox_full_single {c} x e p h) =
        ap (single_refusal mail P.cards w) e
        ∙ ap₂ (λ a b. cond a (otherwise 6 b) (otherwise 6 (ltb (length (w.held (sole_of x.msg.to))) 16))) (le-leb x.mark (w.taken (sole_of x.msg.to)) p) (le-ltb (length (w.inbox (sole_of x.msg.to))) 48 h)
    comes_only (held_full {c} x e p h) =
        ap (single_refusal mail P.cards w) e
        ∙ ap₂ (λ a b. cond a (otherwise 6 (ltb (length (w.inbox (sole_of x.msg.to))) 48)) (otherwise 6 b)) (lt-leb x.mark (w.taken (sole_of x.msg.to)) p) (le-ltb (length (w.held (sole_of x.msg.to))) 16 h)
    comes_only (outbox_full_reply {i} m r e p h) =
        ap (deliver_refusal P mail (answered P) i (s.out i)) e
        ∙ ap₂ (λ a b. cond a (otherwise 6 b) 0) p (le-ltb (length (s.out i)) 16 h)
