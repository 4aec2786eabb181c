-- Receive consistency as the promise has it: before a message a card has received each lower one that is sent to it (000 Lemma 6.8).
use mathlib.Core.Path.{◌≡◌, refl, sym, ap, ◌∙◌, subst}
use mathlib.Core.Logic.{◌⊎◌, inl, inr}
use mathlib.Core.Bool.{Bool, true, false}
use mathlib.Core.List.{List}
use Prim.Native.Nat.{ℕ, suc, ◌≤◌, ◌<◌}
use native.Mathlib.Decide.{dec_lt}
use native.Mathlib.Omega.{arith}
use lib.ListN.{length}
use Rattle.lists.specs.Histories.{Any, At, In, at_suf, at_any, any_at, at_order}
use Rattle.lists.specs.Latest.{time}
use Rattle.lists.specs.Keys.{enc, enc_place, enc_time, place_le}
use Rattle.lists.specs.Sorting.{Sorted, less_before}
use Rattle.automaton.specs.Network.{Network}
use Rattle.automaton.specs.Automaton.{Step, Mcasts, Receives, chan, ChannelExecution}
use Rattle.automaton.specs.TotalOrder.{joins?, epoch, bound, limit, rank}
use Rattle.automaton.proofs.Counts.{receive_one, number}
use Rattle.automaton.proofs.InboxHistory.{log, gone, gone_receives, receiving}
use Rattle.automaton.proofs.Joining.{takes_log}
use Rattle.automaton.proofs.Times.{received?, at_join, epoch_number}
use Rattle.automaton.proofs.InboxOrder.{join_key, join_key_number, log_sorted}
use Rattle.automaton.proofs.Integrity.{passed, number_one, received_joined}
use Rattle.automaton.proofs.Rank.{time_low, taken_limit, rank_broadcast, only_dest, rank_received, rank_unreceived, received_below, receive_order}

module _ {M : Type 0} (N : Network M) (E : List (Step M)) (v : ChannelExecution N E) where
  pub received_before : {m n : M} {i : ℕ} {B : List (Step M)} → At (Receives m i) B E → Any (Mcasts n) E → N.mail.to n i ≡ true
      → rank N E n < rank N E m → Any (Receives n i) B
  received_before {m} {n} {i} {B} x y t h = go (N.mail.multi n) refl
    where
      low : rank N E m ≤ enc (bound N E) ((chan N B).taken i) (suc (length B))
      low = received_below N E v x

      -- a broadcast that the card has taken
      behind : N.mail.multi n ≡ true → In n (log N B i) → Any (Receives n i) B
      behind u l =
          let p = receiving N v x in
          gone_receives N B n i (less_before (join_key N E) (gone N B i) p.0 (subst (Sorted (join_key N E)) p.1 (log_sorted N E v B i (at_suf x)))
          (subst (In n) p.1 l) (pick (N.mail.multi m) refl))
        where
          pick : (w : Bool) → N.mail.multi m ≡ w → join_key N E n < join_key N E m
          pick true w =
              let a = rank_broadcast N E v u in
              let b = rank_broadcast N E v w in
              let c = join_key_number N E v u in
              let d = join_key_number N E v w in
              let e = ap (λ k. enc (bound N E) k 0) (epoch_number N E v u) in
              let f = ap (λ k. enc (bound N E) k 0) (epoch_number N E v w) in
              omega arith
          pick false w =
              let a = rank_broadcast N E v u in
              let b = rank_received N E v w x in
              let l = place_le (bound N E) (epoch N E n) 0 (epoch N E m) (suc (length B)) (time_low N E v x) (omega arith) in
              let j = any_at (received_joined N E v w (at_any x)) in
              let s = at_join N E v (λ B. suc (length B)) j.1 in
              let c = join_key_number N E v u in
              let e = ap (λ k. enc (bound N E) k 0) (epoch_number N E v u) in
              let z = enc_time (bound N E) (epoch N E n) 0 (epoch N E m) (time (joins? N m) E) l (omega arith) in
              omega arith

      go : (u : Bool) → N.mail.multi n ≡ u → Any (Receives n i) B
      go true u = pick (dec_lt ((chan N B).taken i) ((chan N E).mark n))
        where
          r : rank N E n ≡ enc (bound N E) ((chan N E).mark n) 0
          r = rank_broadcast N E v u ∙ ap (λ k. enc (bound N E) k 0) (epoch_number N E v u)

          pos : (q : ℕ) × ((chan N E).mark n ≡ suc q)
          pos = let a = any_at y in ((chan N a.0).made, number N v u a.1)

          pick : Dec ((chan N B).taken i < (chan N E).mark n) → Any (Receives n i) B
          pick (yes l) =
              let z = enc_place (bound N E) ((chan N B).taken i) (suc (length B)) ((chan N E).mark n) 0 l (time_low N E v x) in
              absurd (omega (arith, low, r))
          pick (no l) =
              let e = pos.1 in
              let p = passed N E v B i pos.0 (at_suf x) (omega arith) in
              let s = number_one N E v p.2 u p.3 y (p.4 ∙ sym e) in
              behind u (subst (λ a. In a (log N B i)) s (takes_log N (rw s t) p.1))
      go false u = pick (received? N E n)
        where
          pick : Dec (Any (Receives n (N.mail.dest n)) E) → Any (Receives n i) B
          pick (no j) =
              let a = any_at y in
              let r = rank_unreceived N E v u a.1 j in
              let z = enc_place (bound N E) ((chan N B).taken i) (suc (length B)) (limit N E) (suc (length a.0)) (taken_limit N E v i x)
              (time_low N E v x) in
              absurd (omega (arith, low))
          pick (yes j) = when (any_at j).0 (subst (λ c. At (Receives n c) (any_at j).0 E) (only_dest N E v u t) (any_at j).1)
            where
              when : (C : List (Step M)) → At (Receives n i) C E → Any (Receives n i) B
              when C c = order (at_order x c)
                where
                  order : ((e : Step M) × Receives m i e × Receives n i e) ⊎ (At (Receives m i) B C ⊎ At (Receives n i) C B)
                      → Any (Receives n i) B
                  order (inl w) = let q = ap (rank N E) (receive_one i i w.0 w.1 w.2) in absurd (omega (arith, h, q))
                  order (inr (inl w)) = let q = receive_order N E v w c in absurd (omega (arith, h, q))
                  order (inr (inr w)) = at_any w
