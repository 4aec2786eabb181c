-- A channel at rest has delivered every message to each of its destinations.
use mathlib.Core.Path.{◌≡◌, refl, sym, ap, ◌∙◌, subst}
use mathlib.Core.Bool.{Bool, true, false}
use mathlib.Core.List.{List, ◌++◌, append-nil}
use mathlib.Core.Option.{some, none-ne-some}
use Prim.Native.Nat.{ℕ, zero, suc, ◌<◌}
use native.Mathlib.Omega.{arith}
use lib.ListN.{length}
use Rattle.lists.specs.Histories.{Any, here, there, In, stop, any_nil}
use Rattle.lists.specs.Places.{nth}
use Rattle.automaton.specs.State.{ChannelState}
use Rattle.automaton.specs.AtRest.{AtRest}
use Rattle.automaton.specs.Network.{Network}
use Rattle.automaton.specs.Automaton.{Step, Mcasts, Takes, Receives, ChannelExecution}
use Rattle.automaton.proofs.InboxHistory.{log, gone, queue, gone_receives}
use Rattle.automaton.proofs.Joining.{takes_log, joins_log}
use Rattle.automaton.proofs.Integrity.{passed, number_one}
use Rattle.automaton.proofs.Rank.{only_dest}
use Rattle.automaton.proofs.Agreement.{Agrees}
use Rattle.automaton.proofs.NothingLost.{OnWay, flying, held, joined, Safe}

-- an element of a list stands at some place
in_place : {M : Type 0} {m : M} {l : List M} → In m l → (n : ℕ) × (n < length l) × (nth l n ≡ some m)
in_place {m = m} (here {e = a} {E = l} p) = (zero, omega arith, ap some p)
in_place (there h) = let r = in_place h in let k = r.1 in (suc r.0, omega arith, r.2)

module _ {M : Type 0} (N : Network M) (w : ChannelState M) (E : List (Step M)) (a : Agrees N w E) (v : ChannelExecution N E) (s : Safe N w E) (cards : ℕ) (r : AtRest cards w) where
  -- what ever joined the inbox has left it
  left : (m : M) (i : ℕ) → i < cards → In m (log N E i) → Any (Receives m i) E
  left m i c h = gone_receives N E m i (subst (In m) (queue N E v i ∙ ap (λ l. gone N E i ++ l) (sym (a.inbox= i) ∙ r.all_received i c)
      ∙ append-nil (gone N E i)) h)

  pub delivered : (m : M) (i : ℕ) → i < cards → Any (Mcasts m) E → N.mail.to m i ≡ true → Any (Receives m i) E
  delivered m i c h t = go (N.mail.multi m) refl
    where
      single : N.mail.multi m ≡ false → OnWay N m (w.flight (N.mail.task m)) (w.held (N.mail.dest m)) E → Any (Receives m i) E
      single u (flying x q p) = absurd (none-ne-some x (sym (r.none_flying (N.mail.task m)) ∙ q))
      single u (held y) = absurd (any_nil (subst (Any _) (ap w.held (only_dest N E v u t) ∙ r.none_held i c) y))
      single u (joined j) = left m i c (joins_log N (only_dest N E v u t) j)

      go : (u : Bool) → N.mail.multi m ≡ u → Any (Receives m i) E
      go true u =
          let p = in_place (s.stands m u h) in
          let q = a.sent= p.0 m p.2 in
          let k = p.1 in
          let f = r.all_taken i c in
          let g = a.taken= i in
          let z = passed N E v E i p.0 stop (omega arith) in
          let e = number_one N E v z.2 u z.3 h (z.4 ∙ sym q.2) in
          left m i c (takes_log N t (subst (λ n. Any (Takes i n) E) e z.1))
      go false u = single u (s.comes m u h)
