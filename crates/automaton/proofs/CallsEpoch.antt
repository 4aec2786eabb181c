-- In a list of calls, the epoch of a message with one destination is the larger of its tag and of the number of broadcasts that its
-- destination had taken when it arrived there (000 §6.2).
use mathlib.Core.Path.{◌≡◌, subst, sym}
use mathlib.Core.Bool.{Bool, true, false, cond}
use mathlib.Core.List.{List, ◌∷◌}
use mathlib.Core.Option.{some}
use Prim.Native.Nat.{ℕ, max}
use lib.ListN.{length}
use Rattle.lists.specs.Histories.{Any, At, Suf, stop, back, suf_tail}
use Rattle.automaton.specs.State.{Tagged, ChannelState, ChannelAction, take_single, channel_step}
use Rattle.automaton.specs.Network.{Network}
use Rattle.automaton.specs.Automaton.{Step, Mcasts, Joins, chan}
use Rattle.automaton.specs.TotalOrder.{epoch}
use Rattle.automaton.specs.Trace.{steps}
use Rattle.automaton.specs.Calls.{Setup, numbering, done, calls, posted, network, numbered, trace}
use Rattle.automaton.proofs.Arrivals.{Arrived, arrived_step, arrival, arrived_epoch, flight_tag_lem}
use Rattle.automaton.proofs.CallsKeepPromise.{upto}

module _ {M : Type 0} (C : Setup M) (xs : List (ChannelAction M)) where
  abbrev N : Network ℕ
  N = network C xs

  abbrev state : List (ChannelAction M) → ChannelState ℕ
  state = numbered C (posted C xs)

  abbrev run : List (ChannelAction M) → List (Step ℕ)
  run = trace C (posted C xs)

  onward : (m t a : ℕ) (x : ChannelAction M) (ys : List (ChannelAction M)) → Suf ys xs → Arrived N m t a (state ys) (run ys)
      → Arrived N m t a (state (x ∷ ys)) (run (x ∷ ys))
  onward m t a x ys s r = go (done C (calls C ys) x)
    where
      go : (b : Bool) → Arrived N m t a (cond b (channel_step N.mail (state ys) (numbering (length (posted C ys)) x)) (state ys))
          (cond b (steps N.mail (state ys) (numbering (length (posted C ys)) x) (run ys)) (run ys))
      go true = arrived_step N m t a (state ys) (run ys) (upto C xs ys s).agrees (numbering (length (posted C ys)) x) r
      go false = r

  lasting : (m t a : ℕ) {ys zs : List (ChannelAction M)} → Suf ys zs → Suf zs xs → Arrived N m t a (state ys) (run ys)
      → Arrived N m t a (state zs) (run zs)
  lasting m t a stop s r = r
  lasting m t a (back {e = x} {E = zs} p) s r = onward m t a x zs (suf_tail s) (lasting m t a p (suf_tail s) r)

  -- step 8 at some moment, of a message that has joined by the end
  pub epoch_arrival : (ys : List (ChannelAction M)) (c : ℕ) (x : Tagged ℕ) → Suf (take_single c ∷ ys) xs
      → done C (calls C ys) (take_single c) ≡ true
      → (state ys).flight c ≡ some x → Any (Joins x.msg) (run xs)
      → epoch N (run xs) x.msg ≡ max x.mark ((state ys).taken (N.mail.dest x.msg))
  epoch_arrival ys c x s d e j =
      arrived_epoch N x.msg x.mark ((state ys).taken (N.mail.dest x.msg)) (state xs) (run xs) (upto C xs xs stop).agrees
      (upto C xs xs stop).execution
      (lasting x.msg x.mark ((state ys).taken (N.mail.dest x.msg)) s stop first) j
    where
      first : Arrived N x.msg x.mark ((state ys).taken (N.mail.dest x.msg)) (state (take_single c ∷ ys)) (run (take_single c ∷ ys))
      first = subst (λ b. Arrived N x.msg x.mark ((state ys).taken (N.mail.dest x.msg))
          (cond b (channel_step N.mail (state ys) (take_single c)) (state ys))
          (cond b (steps N.mail (state ys) (take_single c) (run ys)) (run ys))) (sym d)
          (arrival N (state ys) (run ys) (upto C xs ys (suf_tail s)).agrees c x e)

  -- and its tag is the number of broadcasts that its sender had taken at the multicast
  pub tag_arrival : (ys : List (ChannelAction M)) (c : ℕ) (x : Tagged ℕ) {B : List (Step ℕ)} → Suf ys xs → (state ys).flight c ≡ some x
      → At (Mcasts x.msg) B (run ys) → x.mark ≡ (chan N B).taken (N.from x.msg)
  tag_arrival ys c x s e y = flight_tag_lem N (state ys) (run ys) (upto C xs ys s).agrees (upto C xs ys s).execution c x e y
