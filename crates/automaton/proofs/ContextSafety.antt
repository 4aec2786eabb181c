-- Context safety: what a card sends ranks above what it has received (000 Lemma 6.7).
use mathlib.Core.Path.{◌≡◌, refl}
use mathlib.Core.Logic.{◌⊎◌, inl, inr}
use mathlib.Core.Bool.{Bool, true, false}
use mathlib.Core.List.{List}
use Prim.Native.Nat.{suc, ◌<◌}
use native.Mathlib.Omega.{arith}
use lib.ListN.{length}
use Rattle.lists.specs.Histories.{Any, At, suf_any, suf_at, at_suf, at_any, any_at, at_length, at_order}
use Rattle.lists.specs.Keys.{enc, enc_place, enc_time}
use Rattle.automaton.specs.Network.{Network}
use Rattle.automaton.specs.Automaton.{Step, mcast, Mcasts, Receives, chan, ChannelExecution, Chan}
use Rattle.automaton.specs.TotalOrder.{epoch, bound, limit, rank}
use Rattle.automaton.proofs.Counts.{flow, flows_suf, taken_suf, mcast_once, number, taken_made}
use Rattle.automaton.proofs.Times.{received?, epoch_number}
use Rattle.automaton.proofs.Integrity.{was_sent, epoch_tag}
use Rattle.automaton.proofs.Rank.{time_low, taken_limit, rank_broadcast, rank_received, rank_unreceived, received_below}

module _ {M : Type 0} (N : Network M) (E : List (Step M)) (v : ChannelExecution N E) where
  pub sent_above : {m n : M} {B : List (Step M)} → At (Mcasts m) B E → Any (Receives n (N.from m)) B → rank N E n < rank N E m
  sent_above {m} {n} {B} x y = go (N.mail.multi m) refl
    where
      c : (C : List (Step M)) × At (Receives n (N.from m)) C B
      c = any_at y

      low : rank N E n < enc (bound N E) ((chan N B).taken (N.from m)) (suc (length B))
      low =
          let k = received_below N E v (suf_at (at_suf x) c.1) in
          let l = at_length c.1 in
          let t = taken_suf N (N.from m) (at_suf c.1) in
          let z = enc_time (bound N E) ((chan N c.0).taken (N.from m)) (suc (length c.0)) ((chan N B).taken (N.from m)) (suc (length B)) t
          (omega arith) in
          omega arith

      go : (u : Bool) → N.mail.multi m ≡ u → rank N E n < rank N E m
      go true u =
          let r = rank_broadcast N E v u in
          let e = epoch_number N E v u in
          let q = number N v u x in
          let k = taken_made N B (flows_suf N (at_suf x) v) (N.from m) in
          let z = enc_place (bound N E) ((chan N B).taken (N.from m)) (suc (length B)) (epoch N E m) 0 (omega arith) (time_low N E v x) in
          omega (arith, low)
      go false u = pick (received? N E m)
        where
          pick : Dec (Any (Receives m (N.mail.dest m)) E) → rank N E n < rank N E m
          pick (no j) =
              let r = rank_unreceived N E v u x j in
              let z = enc_place (bound N E) ((chan N B).taken (N.from m)) (suc (length B)) (limit N E) (suc (length B))
              (taken_limit N E v (N.from m) x) (time_low N E v x) in
              omega (arith, low)
          pick (yes j) = later (any_at j).0 (any_at j).1
            where
              later : (F : List (Step M)) → At (Receives m (N.mail.dest m)) F E → rank N E n < rank N E m
              later F f = order (at_order x f)
                where
                  no_both : (e : Step M) → Mcasts m e → Receives m (N.mail.dest m) e → ⊥
                  no_both (Rattle.automaton.specs.Automaton.take _ _) p q = elim p [ ]
                  no_both (Rattle.automaton.specs.Automaton.join _) p q = elim p [ ]
                  no_both (Rattle.automaton.specs.Automaton.receive _ _) p q = elim p [ ]
                  no_both Rattle.automaton.specs.Automaton.rest p q = elim p [ ]
                  no_both (mcast a) p q = q

                  order : ((e : Step M) × Mcasts m e × Receives m (N.mail.dest m) e) ⊎ (At (Mcasts m) B F ⊎ At (Receives m (N.mail.dest m)) F B)
                      → rank N E n < rank N E m
                  order (inl w) = absurd (no_both w.0 w.1 w.2)
                  order (inr (inl w)) =
                      let r = rank_received N E v u f in
                      let k = epoch_tag N E v u x (at_any f) in
                      let l = at_length w in
                      let z = enc_time (bound N E) ((chan N B).taken (N.from m)) (suc (length B)) (epoch N E m) (suc (length F)) k (omega arith) in
                      omega (arith, low)
                  order (inr (inr w)) = absurd (let g = flow N v x in mcast_once N g.0 B m g.2 (suf_any (at_suf w) (was_sent N E v f).0) g.1)
