-- The rank orders as T of 000 §6.2 does.
use mathlib.Core.Path.{◌≡◌}
use mathlib.Core.Bool.{true, false}
use mathlib.Core.List.{List}
use Prim.Native.Nat.{ℕ, suc, ◌≤◌, ◌<◌}
use native.Mathlib.Omega.{arith}
use lib.ListN.{length}
use Rattle.lists.specs.Histories.{Any, At, suf_at, at_suf, any_at, at_length}
use Rattle.lists.specs.Keys.{enc_place, enc_time}
use Rattle.automaton.specs.Network.{Network}
use Rattle.automaton.specs.Automaton.{Step, Mcasts, Receives, ChannelExecution}
use Rattle.automaton.specs.TotalOrder.{epoch, bound, limit, rank}
use Rattle.automaton.proofs.Counts.{made_at, number}
use Rattle.automaton.proofs.Times.{epoch_number}
use Rattle.automaton.proofs.Rank.{time_low, rank_broadcast, rank_received, rank_unreceived}
use Rattle.automaton.proofs.Distinct.{epoch_limit}

module _ {M : Type 0} (N : Network M) (E : List (Step M)) (v : ChannelExecution N E) where
  pub multi_multi : {m n : M} → N.mail.multi m ≡ true → N.mail.multi n ≡ true → epoch N E m < epoch N E n → rank N E m < rank N E n
  multi_multi {m} {n} u w h =
      let a = rank_broadcast N E v u in
      let b = rank_broadcast N E v w in
      let z = enc_place (bound N E) (epoch N E m) 0 (epoch N E n) 0 h (omega arith) in
      omega arith

  pub multi_single : {m n : M} {i : ℕ} {C : List (Step M)} → N.mail.multi m ≡ true → N.mail.multi n ≡ false → At (Receives n i) C E
      → epoch N E m ≤ epoch N E n → rank N E m < rank N E n
  multi_single {m} {n} {C = C} u w y h =
      let a = rank_broadcast N E v u in
      let b = rank_received N E v w y in
      let z = enc_time (bound N E) (epoch N E m) 0 (epoch N E n) (suc (length C)) h (omega arith) in
      omega arith

  pub single_multi : {m n : M} {i : ℕ} {B : List (Step M)} → N.mail.multi m ≡ false → At (Receives m i) B E → N.mail.multi n ≡ true
      → epoch N E m < epoch N E n → rank N E m < rank N E n
  single_multi {m} {n} {B = B} u x w h =
      let a = rank_received N E v u x in
      let b = rank_broadcast N E v w in
      let z = enc_place (bound N E) (epoch N E m) (suc (length B)) (epoch N E n) 0 h (time_low N E v x) in
      omega arith

  -- two singles of one epoch: in the order in which they are received, wherever that is
  pub single_single : {m n : M} {i j : ℕ} {B C : List (Step M)} → N.mail.multi m ≡ false → N.mail.multi n ≡ false
      → At (Receives m i) B C → At (Receives n j) C E → epoch N E m ≡ epoch N E n → rank N E m < rank N E n
  single_single {m} {n} {B = B} {C} u w x y h =
      let a = rank_received N E v u (suf_at (at_suf y) x) in
      let b = rank_received N E v w y in
      let l = at_length x in
      let z = enc_time (bound N E) (epoch N E m) (suc (length B)) (epoch N E n) (suc (length C)) (omega arith) (omega arith) in
      omega arith

  -- two singles of different epochs (000 Lemma 6.3)
  pub single_epochs : {m n : M} {i j : ℕ} {B C : List (Step M)} → N.mail.multi m ≡ false → N.mail.multi n ≡ false
      → At (Receives m i) B E → At (Receives n j) C E → epoch N E m < epoch N E n → rank N E m < rank N E n
  single_epochs {m} {n} {B = B} {C} u w x y h =
      let a = rank_received N E v u x in
      let b = rank_received N E v w y in
      let z = enc_place (bound N E) (epoch N E m) (suc (length B)) (epoch N E n) (suc (length C)) h (time_low N E v x) in
      omega arith

  -- what has not been received comes after all the rest, as it was multicast
  pub multi_waiting : {m n : M} {C : List (Step M)} → N.mail.multi m ≡ true → Any (Mcasts m) E → N.mail.multi n ≡ false
      → At (Mcasts n) C E → ¬ Any (Receives n (N.mail.dest n)) E → rank N E m < rank N E n
  multi_waiting {m} {n} {C} u x w y k =
      let c = any_at x in
      let p = number N v u c.1 in
      let q = made_at N u c.1 in
      let e = epoch_number N E v u in
      let a = rank_broadcast N E v u in
      let b = rank_unreceived N E v w y k in
      let z = enc_time (bound N E) (epoch N E m) 0 (limit N E) (suc (length C)) (omega arith) (omega arith) in
      omega arith

  pub single_waiting : {m n : M} {i : ℕ} {B C : List (Step M)} → N.mail.multi m ≡ false → At (Receives m i) B E → N.mail.multi n ≡ false
      → At (Mcasts n) C E → ¬ Any (Receives n (N.mail.dest n)) E → rank N E m < rank N E n
  single_waiting {m} {n} {B = B} {C} u x w y k =
      let a = rank_received N E v u x in
      let b = rank_unreceived N E v w y k in
      let z = enc_place (bound N E) (epoch N E m) (suc (length B)) (limit N E) (suc (length C)) (epoch_limit N E v x) (time_low N E v x) in
      omega arith

  pub waiting_waiting : {m n : M} {B C : List (Step M)} → N.mail.multi m ≡ false → At (Mcasts m) B C
      → ¬ Any (Receives m (N.mail.dest m)) E → N.mail.multi n ≡ false → At (Mcasts n) C E → ¬ Any (Receives n (N.mail.dest n)) E
      → rank N E m < rank N E n
  waiting_waiting {m} {n} {B} {C} u x j w y k =
      let a = rank_unreceived N E v u (suf_at (at_suf y) x) j in
      let b = rank_unreceived N E v w y k in
      let l = at_length x in
      let z = enc_time (bound N E) (limit N E) (suc (length B)) (limit N E) (suc (length C)) (omega arith) (omega arith) in
      omega arith
