-- No two messages that are multicast have one rank.
use mathlib.Core.Path.{◌≡◌, refl, sym, ◌∙◌}
use mathlib.Core.Bool.{Bool, true, false}
use mathlib.Core.List.{List}
use Prim.Native.Nat.{ℕ, suc, ◌<◌}
use native.Mathlib.Omega.{arith}
use lib.ListN.{length}
use Rattle.lists.specs.Histories.{Any, At, any_at, at_one}
use Rattle.lists.specs.Keys.{enc, enc_inj}
use Rattle.automaton.specs.Network.{Network}
use Rattle.automaton.specs.Automaton.{Step, Mcasts, Receives, ChannelExecution}
use Rattle.automaton.specs.TotalOrder.{epoch, bound, limit, rank}
use Rattle.automaton.proofs.Counts.{mcast_one, receive_one}
use Rattle.automaton.proofs.Times.{received?, epoch_number}
use Rattle.automaton.proofs.Integrity.{number_one}
use Rattle.automaton.proofs.Rank.{time_low, taken_limit, rank_broadcast, rank_received, rank_unreceived, epoch_low}

module _ {M : Type 0} (N : Network M) (E : List (Step M)) (v : ChannelExecution N E) where
  -- the forms of a rank
  pub data Form (m : M) : Type 0 where
    numbered : N.mail.multi m ≡ true → Any (Mcasts m) E → Form m
    received : {i : ℕ} {B : List (Step M)} → N.mail.multi m ≡ false → At (Receives m i) B E → Form m
    waiting : {B : List (Step M)} → At (Mcasts m) B E → rank N E m ≡ enc (bound N E) (limit N E) (suc (length B)) → Form m

  pub form : {m : M} → Any (Mcasts m) E → Form m
  form {m} h = go (N.mail.multi m) refl
    where
      pick : N.mail.multi m ≡ false → Dec (Any (Receives m (N.mail.dest m)) E) → Form m
      pick u (yes j) = received u (any_at j).1
      pick u (no j) = waiting (any_at h).1 (rank_unreceived N E v u (any_at h).1 j)

      go : (u : Bool) → N.mail.multi m ≡ u → Form m
      go true u = numbered u h
      go false u = pick u (received? N E m)

  -- a received message's epoch is below the limit
  pub epoch_limit : {m : M} {i : ℕ} {B : List (Step M)} → At (Receives m i) B E → epoch N E m < limit N E
  epoch_limit {i = i} x = let k = epoch_low N E v x in let l = taken_limit N E v i x in omega arith

  -- a broadcast and another message differ in the time
  pub no_time : {m : M} (n : M) (e t : ℕ) → N.mail.multi m ≡ true → rank N E n ≡ enc (bound N E) e (suc t) → suc t < bound N E
      → rank N E m ≡ rank N E n → ⊥
  no_time {m} n e t u r l q = let z = (enc_inj (bound N E) (epoch N E m) 0 e (suc t) (omega arith) l (sym (rank_broadcast N E v u) ∙ q ∙ r)).1 in omega arith

  -- one received and one waiting differ in the place
  pub no_place : {m n : M} {i : ℕ} {B C : List (Step M)} → N.mail.multi m ≡ false → At (Receives m i) B E → At (Mcasts n) C E
      → rank N E n ≡ enc (bound N E) (limit N E) (suc (length C)) → rank N E m ≡ rank N E n → ⊥
  no_place {m} {n} {i} {B} {C} u x y r q =
      let z = (enc_inj (bound N E) (epoch N E m) (suc (length B)) (limit N E) (suc (length C)) (time_low N E v x) (time_low N E v y)
      (sym (rank_received N E v u x) ∙ q ∙ r)).0 in
      let l = epoch_limit x in
      omega arith

  -- the same moment is the same message
  same_message : {P Q : Step M → Type 0} {m n : M} {B C : List (Step M)} → At P B E → At Q C E → suc (length B) ≡ suc (length C)
      → ((e : Step M) → P e → Q e → m ≡ n) → m ≡ n
  same_message x y e f = let w = at_one x y (omega arith) in f w.0 w.1 w.2

  pub one_rank : {m n : M} → Form m → Form n → rank N E m ≡ rank N E n → m ≡ n
  one_rank {m} {n} (numbered u x) (numbered w y) e =
      let z : 0 < bound N E = omega arith in
      let q = (enc_inj (bound N E) (epoch N E m) 0 (epoch N E n) 0 z z (sym (rank_broadcast N E v u) ∙ e ∙ rank_broadcast N E v w)).0 in
      number_one N E v u w x y (sym (epoch_number N E v u) ∙ q ∙ epoch_number N E v w)
  one_rank {n = n} (numbered u x) (received {B = C} w y) e = absurd (no_time n (epoch N E n) (length C) u (rank_received N E v w y) (time_low N E v y) e)
  one_rank {n = n} (numbered u x) (waiting {B = C} y r) e = absurd (no_time n (limit N E) (length C) u r (time_low N E v y) e)
  one_rank {m} (received {B = B} u x) (numbered w y) e = absurd (no_time m (epoch N E m) (length B) w (rank_received N E v u x) (time_low N E v x) (sym e))
  one_rank {m} {n} (received {i = i} {B = B} u x) (received {i = j} {B = C} w y) e =
      same_message x y (enc_inj (bound N E) (epoch N E m) (suc (length B)) (epoch N E n) (suc (length C)) (time_low N E v x) (time_low N E v y)
      (sym (rank_received N E v u x) ∙ e ∙ rank_received N E v w y)).1 (receive_one i j)
  one_rank (received u x) (waiting y r) e = absurd (no_place u x y r e)
  one_rank {m} (waiting {B = B} x r) (numbered w y) e = absurd (no_time m (limit N E) (length B) w r (time_low N E v x) (sym e))
  one_rank (waiting x r) (received w y) e = absurd (no_place w y x r (sym e))
  one_rank (waiting {B = B} x r) (waiting {B = C} y s) e =
      same_message x y (enc_inj (bound N E) (limit N E) (suc (length B)) (limit N E) (suc (length C)) (time_low N E v x) (time_low N E v y)
      (sym r ∙ e ∙ s)).1 mcast_one
