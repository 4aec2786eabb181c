-- Broadcasts fewer than the ring's places apart share no word of it, so the ring keeps what specs/BroadcastRing says.
use Prim.Native.Nat.{ℕ, ◌+◌, ◌-◌, ◌<◌, ◌≤◌}
use mathlib.Core.Path.{◌≡◌, refl}
use mathlib.Core.Logic.{◌≢◌}
use mathlib.Core.Bool.{true}
use mathlib.Core.List.{List}
use native.Mathlib.Omega.{arith}
use native.Mathlib.Decide.{dec_lt}
use borrow.Author.Tests.{leb-true}
use Rattle.lists.specs.Every.{each_at}
use Rattle.automaton.specs.MostBehind.{most_behind}
use Rattle.channel.specs.Layout.{cards_of, made_of, taken_of, broadcast_block}
use Rattle.channel.specs.Dispatch.{near, near_at}
use Rattle.channel.specs.Sized.{well_sized}
use Rattle.channel.specs.BroadcastRing.{Apart, Waits, BroadcastRing}
use Rattle.channel.proofs.WellSizedParts.{fit_of}

pub ring_apart : (m n : ℕ) → m < n → n < m + most_behind → Apart (broadcast_block m) (broadcast_block n)
ring_apart m n p q a x y k h = omega arith

-- the other way round
apart_sym : (b c : ℕ) → Apart b c → Apart c b
apart_sym b c h a x y k z e = h a (omega arith) (omega arith) (a - c) (omega arith) (omega arith)

module _ (ws : List ℕ) where
  waiting_apart : well_sized ws ≡ true → (i m n : ℕ) → Waits ws i m → Waits ws i n → m ≢ n → Apart (broadcast_block m) (broadcast_block n)
  waiting_apart e i m n v w d = go (dec_lt m n)
    where
      f : made_of ws ≤ taken_of ws i + most_behind
      f = ((fit_of ws e).card i v.0).near

      go : Dec (m < n) → Apart (broadcast_block m) (broadcast_block n)
      go (yes l) = ring_apart m n l (omega (arith, v.1, w.2, f))
      go (no g) = apart_sym (broadcast_block n) (broadcast_block m) (ring_apart n m (omega (arith, d)) (omega (arith, w.1, v.2, f)))

  next_spares : near ws ≡ true → (i n : ℕ) → Waits ws i n → Apart (broadcast_block n) (broadcast_block (made_of ws + 1))
  unfolding near near_at
  next_spares e i n w =
      let c : near_at ws i ≡ true = each_at (cards_of ws) (near_at ws) e i w.0 in
      ring_apart n (made_of ws + 1) (omega (arith, w.2)) (omega (arith, leb-true, w.1))

  pub ring : BroadcastRing ws
  ring = record { inside = λ n. (omega arith, omega arith); ends = refl; apart = waiting_apart; spares = next_spares }
