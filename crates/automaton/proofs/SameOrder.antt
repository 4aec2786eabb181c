-- The rank is 000 §6.2's order T: of messages that have their place, (m, n) ∈ T exactly if rank m < rank n.
use mathlib.Core.Path.{◌≡◌, refl, sym, ap, ◌∙◌}
use mathlib.Core.Logic.{◌⊎◌, inl, inr}
use mathlib.Core.List.{List}
use Prim.Native.Nat.{ℕ, zero, suc, ◌≤◌, ◌<◌}
use native.Mathlib.Decide.{dec_le, dec_lt}
use native.Mathlib.Omega.{arith}
use Rattle.lists.specs.Histories.{Any, At, at_suf, at_any, any_at, at_order}
use Rattle.lists.specs.Keys.{Tri, less, alike, more, tri}
use Rattle.automaton.specs.Network.{Network}
use Rattle.automaton.specs.Automaton.{Step, Receives, ChannelExecution}
use Rattle.automaton.specs.TotalOrder.{epoch, Multi, T, rank, Placed}
use Rattle.automaton.specs.TotalOrder as O
use Rattle.automaton.proofs.Counts.{receive_one}
use Rattle.automaton.proofs.Times.{epoch_number}
use Rattle.automaton.proofs.Integrity.{passed, number_one}
use Rattle.automaton.proofs.Rank.{epoch_low}
use Rattle.automaton.proofs.RankOrder.{multi_multi, multi_single, single_multi, single_single, single_epochs}

module _ {M : Type 0} (N : Network M) (E : List (Step M)) (v : ChannelExecution N E) where
  pub T-below : {m n : M} → T N E m n → rank N E m < rank N E n
  T-below (O.multi_multi u w h) = multi_multi N E v u.0 w.0 h
  T-below (O.multi_single u w h) = multi_single N E v u.0 w.0 (any_at w.1).1 h
  T-below (O.single_multi u w h) = single_multi N E v u.0 (any_at u.1).1 w.0 h
  T-below (O.single_single u w e B y x) = single_single N E v u.0 w.0 (any_at x).1 y e
  T-below (O.transitive x y) = let a = T-below x in let b = T-below y in omega arith

  -- Lemma 6.3's broadcast: an epoch that some card has reached is that of one
  epoch_broadcast : {n : M} (q : ℕ) → Any (Receives n (N.mail.dest n)) E → epoch N E n ≡ suc q
      → (k : M) × Multi N E k × (epoch N E k ≡ suc q)
  epoch_broadcast {n} q h e =
      let x = any_at h in
      let l = epoch_low N E v x.1 in
      let p = passed N E v x.0 (N.mail.dest n) q (at_suf x.1) (omega arith) in
      (p.0, (p.2, p.3), epoch_number N E v p.2 ∙ p.4)

  pub below_T : {m n : M} → Placed N E m → Placed N E n → rank N E m < rank N E n → T N E m n
  below_T {m} {n} (inl u) (inl w) r = go (tri (epoch N E m) (epoch N E n))
    where
      go : Tri (epoch N E m) (epoch N E n) → T N E m n
      go (less h) = O.multi_multi u w h
      go (alike h) = let e = ap (rank N E) (number_one N E v u.0 w.0 u.1 w.1 (sym (epoch_number N E v u.0) ∙ h ∙ epoch_number N E v w.0)) in absurd (omega arith)
      go (more h) = let k = multi_multi N E v w.0 u.0 h in absurd (omega arith)
  below_T {m} {n} (inl u) (inr w) r = go (dec_le (epoch N E m) (epoch N E n))
    where
      go : Dec (epoch N E m ≤ epoch N E n) → T N E m n
      go (yes h) = O.multi_single u w h
      go (no h) = let k = single_multi N E v w.0 (any_at w.1).1 u.0 (omega arith) in absurd (omega arith)
  below_T {m} {n} (inr u) (inl w) r = go (dec_lt (epoch N E m) (epoch N E n))
    where
      go : Dec (epoch N E m < epoch N E n) → T N E m n
      go (yes h) = O.single_multi u w h
      go (no h) = let k = multi_single N E v w.0 u.0 (any_at u.1).1 (omega arith) in absurd (omega arith)
  below_T {m} {n} (inr u) (inr w) r = go (tri (epoch N E m) (epoch N E n))
    where
      x : (B : List (Step M)) × At (Receives m (N.mail.dest m)) B E
      x = any_at u.1

      y : (B : List (Step M)) × At (Receives n (N.mail.dest n)) B E
      y = any_at w.1

      through : (q : ℕ) → epoch N E n ≡ suc q → epoch N E m < epoch N E n → T N E m n
      through q e h =
          let k = epoch_broadcast q w.1 e in
          let a = k.2 in
          O.transitive (O.single_multi u k.1 (omega arith)) (O.multi_single k.1 w (omega arith))

      positive : (e : ℕ) → epoch N E m < e → (q : ℕ) × (e ≡ suc q)
      positive zero h = absurd (omega arith)
      positive (suc q) h = (q, refl)

      order : epoch N E m ≡ epoch N E n → ((e : Step M) × Receives m (N.mail.dest m) e × Receives n (N.mail.dest n) e)
          ⊎ (At (Receives m (N.mail.dest m)) x.0 y.0 ⊎ At (Receives n (N.mail.dest n)) y.0 x.0) → T N E m n
      order h (inl z) = let e = ap (rank N E) (receive_one (N.mail.dest m) (N.mail.dest n) z.0 z.1 z.2) in absurd (omega arith)
      order h (inr (inl z)) = O.single_single u w h y.0 y.1 (at_any z)
      order h (inr (inr z)) = let k = single_single N E v w.0 u.0 z x.1 (sym h) in absurd (omega arith)

      go : Tri (epoch N E m) (epoch N E n) → T N E m n
      go (less h) = let p = positive (epoch N E n) h in through p.0 p.1 h
      go (alike h) = order h (at_order x.1 y.1)
      go (more h) = let k = single_epochs N E v w.0 u.0 y.1 x.1 h in absurd (omega arith)
