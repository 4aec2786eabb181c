-- 23 asks as many steps before it as requests (RULES 7.8, 12.10): a step takes one request at most.
use Prim.Native.Nat.{suc, ℕ, ◌+◌, ◌≤◌}
use lib.Dec.{eqb}
use lib.ListN.{length}
use mathlib.Core.Bool.{Bool, cond, false, true}
use mathlib.Core.List.{List, [], ◌∷◌}
use mathlib.Core.Logic.{inl, inr, ◌⊎◌}
use mathlib.Core.Path.{ap, refl, sym, ◌∙◌, ◌≡◌}
use native.Mathlib.Omega.{arith}
use Rattle.lists.specs.Histories.{In, here, there}
use Rattle.names.proofs.Results.{not_zero_refused}
use Rattle.names.specs.Placement.{Placement, home}
use Rattle.claims.proofs.ForgetFound.{commutes, result_same}
use Rattle.claims.proofs.RefusalExact.{misformed_small, refusal_exact}
use Rattle.claims.proofs.Results.{refused_number}
use Rattle.claims.specs.Command.{Command}
use Rattle.claims.specs.ForgetFound.{forget}
use Rattle.claims.specs.Found.{Found}
use Rattle.claims.specs.Messages.{Body, ReadDo, ReadReply, UpdateDo, UpdateReply}
use Rattle.claims.specs.Numbers.{Comes, Misformed, alone_here, busy_read, busy_update, copy_here, crowded, far_behind, held_full, inbox_full_single, inbox_full_take, last_broadcast, last_read, last_update, no_broadcast, no_copy, no_holder, no_letter, no_message, nobody, none_in_flight, not_alone, not_asking, not_done, not_read, not_update, outbox_full_read, outbox_full_reply, outbox_full_update, second_in_flight}
use Rattle.claims.specs.Published.{Doing, Letter, Published, asking_read, asking_update, command_refusal, delivering, dispatching, done_read, done_update, effect, performing, quiet, receiving, sending_read, sending_update, waiting}
use Rattle.claims.specs.PublishedRun.{Answer, after_decoded, answer_decoded}
use Rattle.claims.specs.Steps.{Decoded, RawStep, bad, decode, good}
use Rattle.claims.specs.Command as K
use Rattle.claims.specs.FoundRun as R

module _ (P : Placement) where
  module _ (s : Published) where
    on_perform : (c i : ℕ) (d : Doing) → (performing s c i d).requests ≡ s.requests
    on_perform c i quiet = refl
    on_perform c i (asking_read x) = refl
    on_perform c i (asking_update x f w) = refl
    on_perform c i waiting = refl
    on_perform c i (done_read v) = refl
    on_perform c i done_update = refl

    on_send_read : (c j : ℕ) (d : Doing) → (sending_read P s c j d).requests ≡ s.requests
    on_send_read c j quiet = refl
    on_send_read c j (asking_read x) = refl
    on_send_read c j (asking_update x f w) = refl
    on_send_read c j waiting = refl
    on_send_read c j (done_read v) = refl
    on_send_read c j done_update = refl

    on_send_update : (c : ℕ) (d : Doing) → (sending_update P s c d).requests ≡ s.requests
    on_send_update c quiet = refl
    on_send_update c (asking_read x) = refl
    on_send_update c (asking_update x f w) = refl
    on_send_update c waiting = refl
    on_send_update c (done_read v) = refl
    on_send_update c done_update = refl

    on_dispatch : (i : ℕ) (l : List Letter) → (dispatching P s i l).requests ≡ s.requests
    on_dispatch i [] = refl
    on_dispatch i (m ∷ r) = refl

    on_receive : (i : ℕ) (m : Letter) (b : Body) → (receiving P s i m b).requests ≡ s.requests
    on_receive i m ReadDo = refl
    on_receive i m (ReadReply v) = refl
    on_receive i m (UpdateDo f w) = refl
    on_receive i m UpdateReply = refl

    on_deliver : (i : ℕ) (l : List Letter) → (delivering P s i l).requests ≡ s.requests
    on_deliver i [] = refl
    on_deliver i (m ∷ r) = on_receive i m m.body

    at_most_one : (c : Command) → (effect P s c).requests ≤ suc s.requests
    at_most_one (K.request_read c x) = omega arith
    at_most_one (K.request_update c x f w) = omega arith
    at_most_one (K.perform c) = let e = on_perform c (home P c) (s.status c) in omega arith
    at_most_one (K.send_read c j) = let e = on_send_read c j (s.status c) in omega arith
    at_most_one (K.send_update c) = let e = on_send_update c (s.status c) in omega arith
    at_most_one (K.dispatch i) = let e = on_dispatch i (s.out i) in omega arith
    at_most_one (K.take_broadcast i) = omega arith
    at_most_one (K.take_single c) = omega arith
    at_most_one (K.deliver i) = let e = on_deliver i (s.channel.inbox i) in omega arith
    at_most_one (K.report c) = omega arith

    one_more : (d : Decoded) → (after_decoded P s d).requests ≤ suc s.requests
    one_more (bad n) = omega arith
    one_more (good c) = go (eqb (command_refusal P s c) 0)
      where
        go : (t : Bool) → (cond t (effect P s c) s).requests ≤ suc s.requests
        go true = at_most_one c
        go false = omega arith

    comes_23 : {n : ℕ} {c : Command} → Comes P s n c → n ≡ 23 → 65535 ≤ s.requests
    comes_23 (busy_read h) e = absurd (omega arith)
    comes_23 (busy_update h) e = absurd (omega arith)
    comes_23 (not_asking h g) e = absurd (omega arith)
    comes_23 (not_read h) e = absurd (omega arith)
    comes_23 (not_update h) e = absurd (omega arith)
    comes_23 (not_done h) e = absurd (omega arith)
    comes_23 (no_copy x q p) e = absurd (omega arith)
    comes_23 (not_alone x n v q p) e = absurd (omega arith)
    comes_23 (copy_here x q p) e = absurd (omega arith)
    comes_23 (no_holder x q p) e = absurd (omega arith)
    comes_23 (alone_here x n v q p) e = absurd (omega arith)
    comes_23 (last_read q l) e = l
    comes_23 (last_update q l) e = l
    comes_23 (no_letter q) e = absurd (omega arith)
    comes_23 (no_broadcast l) e = absurd (omega arith)
    comes_23 (none_in_flight q) e = absurd (omega arith)
    comes_23 (no_message q) e = absurd (omega arith)
    comes_23 (far_behind m r j q u l g) e = absurd (omega arith)
    comes_23 (crowded m q u l) e = absurd (omega arith)
    comes_23 (outbox_full_read x q p g l) e = absurd (omega arith)
    comes_23 (nobody x n v q p z) e = absurd (omega arith)
    comes_23 (outbox_full_update x n v q p l) e = absurd (omega arith)
    comes_23 (last_broadcast m r q u g l) e = absurd (omega arith)
    comes_23 (second_in_flight m r x q u p) e = absurd (omega arith)
    comes_23 (inbox_full_take m q u l) e = absurd (omega arith)
    comes_23 (inbox_full_single x q p l) e = absurd (omega arith)
    comes_23 (held_full x q p l) e = absurd (omega arith)
    comes_23 (outbox_full_reply m r q p l) e = absurd (omega arith)

    all_taken : (a : RawStep) → (answer_decoded P s (decode P a)).result ≡ 23 → 65535 ≤ s.requests
    all_taken a e = go ((refusal_exact P a s 23 (λ z. omega arith)).0 ((refused_number P s (decode P a) 23 (not_zero_refused 23 (omega arith) (λ z. omega arith))).0 e))
      where
        go : Misformed P a 23 ⊎ ((c : Command) × (decode P a ≡ good c) × Comes P s 23 c) → 65535 ≤ s.requests
        go (inl m) = let r = misformed_small P a m in absurd (omega arith)
        go (inr (c, d, x)) = comes_23 x refl

  -- from a state of the algorithm that the store runs on, while requests taken and steps to come are 65,535 at most
  pub never_23 : (s : Found) (l : List RawStep) → s.requests + length l ≤ 65535 → (r : Answer) → In r (R.answers_from P s l) → ¬ (r.result ≡ 23)
  never_23 s [] h r x3 e = elim x3 [ ]
  never_23 s (a ∷ l) h r (here p) e = let z = all_taken (forget s) a (sym (result_same P s (decode P a)) ∙ ap (λ x. x.result) p ∙ e) in omega arith
  never_23 s (a ∷ l) h r (there q) e =
      never_23 (R.after_decoded P s (decode P a)) l
      (let z = one_more (forget s) (decode P a) in let y = ap (λ u. u.requests) ((commutes P).after s (decode P a)) in omega arith) r q e
