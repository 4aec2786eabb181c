-- A step's result and its refusal: taken exactly if nothing refuses it, and refused with the number that does.
use Prim.Native.Nat.{ℕ, ◌<◌}
use lib.Dec.{eqb, leb, ltb}
use lib.ListN.{length}
use mathlib.Core.Bool.{Bool, false, not, ◌&&◌}
use mathlib.Core.List.{List, [], ◌∷◌}
use mathlib.Core.Logic.{◌↔◌}
use mathlib.Core.Path.{refl, ◌≡◌}
use native.Mathlib.Omega.{arith}
use Rattle.lists.specs.Places.{nth}
use Rattle.automaton.proofs.RefusalsSmall.{cond_small, dispatch_small, otherwise_small, single_small, take_small}
use Rattle.automaton.specs.Mail.{Mail}
use Rattle.automaton.specs.State.{ChannelState}
use Rattle.names.proofs.Results.{refused_is, taken_is, taken_small}
use Rattle.names.specs.Placement.{Placement, copy, holders, home}
use Rattle.names.specs.Results.{is_taken}
use Rattle.registers.specs.Layer.{Values}
use Rattle.claims.proofs.RefusalExact.{misformed_exact, misformed_small}
use Rattle.claims.specs.Command.{Command}
use Rattle.claims.specs.Ledger.{Ledger, answered_of, decoded_number, ledger_mail, ledger_refusal, sight_of, world}
use Rattle.claims.specs.Published.{Published, answered, command_refusal, mail, sight}
use Rattle.claims.specs.PublishedRun.{answer_decoded, decoded_refusal, refusal_of}
use Rattle.claims.specs.Refusals.{Sight, Stage, alone, asks_read, asks_update, deliver_refusal, done, head_refusal, outbox_room, perform_refusal, quiet, refusal, report_refusal, request_refusal, send_read_refusal, send_update_refusal, update_room, waits}
use Rattle.claims.specs.Results.{holding, result}
use Rattle.claims.specs.Steps.{Decoded, RawStep, bad, decode, good}
use Rattle.claims.specs.Command as K

-- ---- no refusal is as large as 100

request_small : (n : ℕ) (t : Stage) → request_refusal n t < 100
request_small n quiet = otherwise_small 23 (ltb n 65535) (omega arith)
request_small n (asks_read x) = omega arith
request_small n (asks_update x) = omega arith
request_small n waits = omega arith
request_small n done = omega arith

report_small : (t : Stage) → report_refusal t < 100
report_small quiet = omega arith
report_small (asks_read x) = omega arith
report_small (asks_update x) = omega arith
report_small waits = omega arith
report_small done = omega arith

room_small : {M : Type 0} (l : List M) → outbox_room l < 100
room_small l = otherwise_small 6 (ltb (length l) 16) (omega arith)

module _ (P : Placement) where
  perform_small : (i : ℕ) (t : Stage) → perform_refusal P i t < 100
  perform_small i quiet = omega arith
  perform_small i (asks_read x) = otherwise_small 22 (copy P x i) (omega arith)
  perform_small i (asks_update x) = otherwise_small 22 (alone P x i) (omega arith)
  perform_small i waits = omega arith
  perform_small i done = omega arith

  send_read_small : {M : Type 0} (i j : ℕ) (l : List M) (t : Stage) → send_read_refusal P i j l t < 100
  send_read_small i j l quiet = omega arith
  send_read_small i j l (asks_read x) = cond_small (not (copy P x i) && copy P x j) (outbox_room l) 22 (room_small l) (omega arith)
  send_read_small i j l (asks_update x) = omega arith
  send_read_small i j l waits = omega arith
  send_read_small i j l done = omega arith

  send_update_small : {M : Type 0} (i : ℕ) (l : List M) (t : Stage) → send_update_refusal P i l t < 100
  send_update_small i l quiet = omega arith
  send_update_small i l (asks_read x) = omega arith
  send_update_small i l (asks_update x) =
      cond_small (not (alone P x i)) (update_room P x l) 22 (cond_small (leb 1 (holders P x)) (outbox_room l) 6 (room_small l) (omega arith)) (omega arith)
  send_update_small i l waits = omega arith
  send_update_small i l done = omega arith

  module _ {M : Type 0} (mail : Mail M) (replies : M → ℕ → Bool) where
    head_small : (w : ChannelState M) (l : List M) → head_refusal P mail replies w l < 100
    head_small w [] = omega arith
    head_small w (m ∷ r) = dispatch_small mail P.cards w m

    deliver_small : (i : ℕ) (l k : List M) → deliver_refusal P mail replies i l k < 100
    deliver_small i l [] = omega arith
    deliver_small i l (m ∷ r) = cond_small (replies m i) (outbox_room l) 0 (room_small l) (omega arith)

    pub refusal_small : (s : Sight M) (c : Command) → refusal P mail replies s c < 100
    refusal_small s (K.request_read c x) = request_small s.requests (s.stage c)
    refusal_small s (K.request_update c x f w) = request_small s.requests (s.stage c)
    refusal_small s (K.perform c) = perform_small (home P c) (s.stage c)
    refusal_small s (K.send_read c i) = send_read_small (home P c) i (s.out (home P c)) (s.stage c)
    refusal_small s (K.send_update c) = send_update_small (home P c) (s.out (home P c)) (s.stage c)
    refusal_small s (K.dispatch i) = head_small s.channel (s.out i)
    refusal_small s (K.take_broadcast i) = take_small mail P.cards s.channel i (nth s.channel.sent (s.channel.taken i))
    refusal_small s (K.take_single c) = single_small mail P.cards s.channel (s.channel.flight c)
    refusal_small s (K.deliver i) = deliver_small i (s.out i) (s.channel.inbox i)
    refusal_small s (K.report c) = report_small (s.stage c)

    -- taken exactly if nothing refuses it
    pub taken_result : (s : Sight M) (c : Command) → is_taken (result P mail replies s c) ≡ eqb (refusal P mail replies s c) 0
    taken_result s c = taken_is (refusal P mail replies s c) (holding mail s c) (refusal_small s c)

  -- of the ledger
  pub ledger_taken : {U : Values} (b : Ledger U) (c : Command) → is_taken (decoded_number P b (good c)) ≡ eqb (ledger_refusal P b c) 0
  ledger_taken b c = taken_result (ledger_mail P b) (answered_of (world P b)) (sight_of P b) c

  -- ---- of the published algorithm

  module _ (s : Published) where
    pub command_small : (c : Command) → command_refusal P s c < 100
    command_small c = refusal_small mail (answered P) (sight P s) c

    -- a number that refuses is the result exactly if it is the refusal
    pub refused_number : (d : Decoded) (n : ℕ) → is_taken n ≡ false → ((answer_decoded P s d).result ≡ n) ↔ (decoded_refusal P s d ≡ n)
    refused_number (bad m) n h = ((λ e. e), (λ e. e))
    refused_number (good c) n h = refused_is (command_refusal P s c) (holding mail (sight P s) c) n h

    -- a step as it is given is taken exactly if nothing refuses it
    pub taken_answer : (a : RawStep) → is_taken (answer_decoded P s (decode P a)).result ≡ eqb (refusal_of P s a) 0
    taken_answer a = go (decode P a) refl
      where
        go : (d : Decoded) → decode P a ≡ d → is_taken (answer_decoded P s d).result ≡ eqb (decoded_refusal P s d) 0
        go (bad m) e = let h = misformed_small P a ((misformed_exact P a m).0 e) in taken_small m (omega arith)
        go (good c) e = taken_result mail (answered P) (sight P s) c
