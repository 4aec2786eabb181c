-- The same messages under other names: steps are refused with the same numbers, and hold alike.
use Prim.Native.Nat.{ℕ}
use lib.Dec.{leb, ltb}
use lib.ListN.{length-map}
use mathlib.Core.Bool.{Bool, cond, not, ◌&&◌}
use mathlib.Core.List.{List, [], map, ◌∷◌}
use mathlib.Core.Path.{ap, ap₂, refl, ◌≡◌}
use Rattle.automaton.proofs.RenamedRefusals.{channel_refusal_map, holds_map}
use Rattle.automaton.specs.Mail.{Mail}
use Rattle.automaton.specs.Refusals.{channel_refusal, otherwise}
use Rattle.automaton.specs.Renaming.{Alike, SentAlike, channel_map}
use Rattle.automaton.specs.State.{ChannelState}
use Rattle.names.specs.Placement.{Placement, copy, holders, home}
use Rattle.names.specs.Results.{result_from}
use Rattle.claims.specs.Command.{Command}
use Rattle.claims.specs.Refusals.{Sight, Stage, alone, asks_read, asks_update, deliver_refusal, done, head_refusal, outbox_room, quiet, refusal, send_read_refusal, send_update_refusal, waits}
use Rattle.claims.specs.Results.{holding, result}
use Rattle.claims.specs.Command as K
use Rattle.automaton.specs.State as C

abbrev pub sight_map : {M N : Type 0} → (M → N) → Sight M → Sight N
sight_map h s = record { requests = s.requests; stage = s.stage; out = λ i. map h (s.out i); channel = channel_map h s.channel }

-- `p` and `q`: which messages put a reply in the outbox of the card where they are delivered
module _ (P : Placement) {M N : Type 0} (h : M → N) (a : Mail M) (b : Mail N) (r : Alike h a b) (p : M → ℕ → Bool) (q : N → ℕ → Bool) where
  room_map : (l : List M) → outbox_room (map h l) ≡ outbox_room l
  room_map l = ap (λ n. otherwise 6 (ltb n 16)) (length-map l h)

  head_map : (w : ChannelState M) → SentAlike h a b w → (l : List M) → head_refusal P b q (channel_map h w) (map h l) ≡ head_refusal P a p w l
  unfolding channel_refusal
  head_map w u [] = refl
  head_map w u (m ∷ l) = channel_refusal_map h a b r P.cards w u (C.dispatch 0 m)

  deliver_map : (i : ℕ) (l k : List M) → ((m : M) (r : List M) → k ≡ m ∷ r → q (h m) i ≡ p m i) → deliver_refusal P b q i (map h l) (map h k) ≡ deliver_refusal P a p i l k
  deliver_map i l [] pq = refl
  deliver_map i l (m ∷ k) pq = ap₂ (λ t n. cond t n 0) (pq m k refl) (room_map l)

  send_read_map : (i j : ℕ) (l : List M) (s : Stage) → send_read_refusal P i j (map h l) s ≡ send_read_refusal P i j l s
  send_read_map i j l quiet = refl
  send_read_map i j l (asks_read x) = ap (λ n. cond (not (copy P x i) && copy P x j) n 22) (room_map l)
  send_read_map i j l (asks_update x) = refl
  send_read_map i j l waits = refl
  send_read_map i j l done = refl

  send_update_map : (i : ℕ) (l : List M) (s : Stage) → send_update_refusal P i (map h l) s ≡ send_update_refusal P i l s
  send_update_map i l quiet = refl
  send_update_map i l (asks_read x) = refl
  send_update_map i l (asks_update x) = ap (λ n. cond (not (alone P x i)) (cond (leb 1 (holders P x)) n 6) 22) (room_map l)
  send_update_map i l waits = refl
  send_update_map i l done = refl

  -- `pq`: they agree on what is next to be delivered
  pub refusal_map : (s : Sight M) → SentAlike h a b s.channel → ((i : ℕ) (m : M) (r : List M) → s.channel.inbox i ≡ m ∷ r → q (h m) i ≡ p m i) → (c : Command) → refusal P b q (sight_map h s) c ≡ refusal P a p s c
  unfolding channel_refusal
  refusal_map s u pq (K.request_read c x) = refl
  refusal_map s u pq (K.request_update c x f w) = refl
  refusal_map s u pq (K.perform c) = refl
  refusal_map s u pq (K.send_read c i) = send_read_map (home P c) i (s.out (home P c)) (s.stage c)
  refusal_map s u pq (K.send_update c) = send_update_map (home P c) (s.out (home P c)) (s.stage c)
  refusal_map s u pq (K.dispatch i) = head_map s.channel u (s.out i)
  refusal_map s u pq (K.take_broadcast i) = channel_refusal_map h a b r P.cards s.channel u (C.take_broadcast i)
  refusal_map s u pq (K.take_single c) = channel_refusal_map h a b r P.cards s.channel u (C.take_single c)
  refusal_map s u pq (K.deliver i) = deliver_map i (s.out i) (s.channel.inbox i) (pq i)
  refusal_map s u pq (K.report c) = refl

  holding_map : (s : Sight M) (c : Command) → holding b (sight_map h s) c ≡ holding a s c
  holding_map s (K.request_read c x) = refl
  holding_map s (K.request_update c x f w) = refl
  holding_map s (K.perform c) = refl
  holding_map s (K.send_read c i) = refl
  holding_map s (K.send_update c) = refl
  holding_map s (K.dispatch i) = refl
  holding_map s (K.take_broadcast i) = refl
  holding_map s (K.take_single c) = holds_map h a b r P.cards s.channel (C.take_single c)
  holding_map s (K.deliver i) = refl
  holding_map s (K.report c) = refl

  pub result_map : (s : Sight M) → SentAlike h a b s.channel → ((i : ℕ) (m : M) (r : List M) → s.channel.inbox i ≡ m ∷ r → q (h m) i ≡ p m i) → (c : Command) → result P b q (sight_map h s) c ≡ result P a p s c
  result_map s u pq c = ap₂ result_from (refusal_map s u pq c) (holding_map s c)
