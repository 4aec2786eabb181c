-- What the rank of a message is, by its kind.
use borrow.Author.Tests.{eqb-true}
use mathlib.Core.Path.{◌≡◌, refl, sym, ap, ◌∙◌, subst}
use mathlib.Core.Bool.{Bool, true, false, cond}
use mathlib.Core.List.{List, ◌∷◌, ◌++◌}
use Prim.Native.Nat.{ℕ, suc, ◌≤◌, ◌<◌}
use native.Mathlib.Omega.{arith}
use lib.ListN.{length}
use Rattle.lists.specs.Histories.{Any, At, In, suf_at, suf_trans, at_suf, at_any, at_length, any_right, here}
use Rattle.lists.specs.Latest.{time, time_below, latest_at, latest_none}
use Rattle.lists.specs.Keys.{enc, enc_place, enc_time, enc_le, place_le, place_lt}
use Rattle.lists.specs.Sorting.{Sorted, before_less}
use Rattle.automaton.specs.Network.{Network}
use Rattle.automaton.specs.Automaton.{Step, Mcasts, Receives, chan, ChannelExecution}
use Rattle.automaton.specs.TotalOrder.{mcasts?, joins?, receives?, epoch, rank_single, bound, limit, rank}
use Rattle.automaton.proofs.Counts.{flow, flows_suf, made_suf, taken_suf, mark_suf, taken_made}
use Rattle.automaton.proofs.InboxHistory.{log, gone, receives_gone, receiving}
use Rattle.automaton.proofs.Joining.{take_can, Entry, log_entered, taking, joining}
use Rattle.automaton.proofs.Times.{receives_test, receives_tested, taken_at, at_mcast, epoch_number, epoch_joined}
use Rattle.automaton.proofs.InboxOrder.{join_key, join_key_number, log_sorted}
use Rattle.automaton.proofs.Integrity.{was_sent, received_once}

module _ {M : Type 0} (N : Network M) (E : List (Step M)) (v : ChannelExecution N E) where
  pub time_low : {P : Step M → Type 0} {B : List (Step M)} → At P B E → suc (length B) < bound N E
  time_low x = let l = at_length x in omega arith

  pub taken_limit : {P : Step M → Type 0} {B : List (Step M)} (i : ℕ) → At P B E → (chan N B).taken i < limit N E
  taken_limit {B = B} i x =
      let k = taken_made N B (flows_suf N (at_suf x) v) i in
      let g = made_suf N (at_suf x) in
      omega arith

  pub rank_broadcast : {m : M} → N.mail.multi m ≡ true → rank N E m ≡ enc (bound N E) (epoch N E m) 0
  rank_broadcast {m} u = ap (λ t. cond t (enc (bound N E) (epoch N E m) 0)
      (rank_single (bound N E) (limit N E) (epoch N E m) (time (mcasts? N m) E) (time (receives? N m) E))) u

  pub only_dest : {m : M} {i : ℕ} → N.mail.multi m ≡ false → N.mail.to m i ≡ true → N.mail.dest m ≡ i
  only_dest {m} {i} u t = sym (eqb-true _ _ (sym (N.single m u i) ∙ t))

  pub received_dest : {m : M} {i : ℕ} {B : List (Step M)} → N.mail.multi m ≡ false → At (Receives m i) B E → N.mail.dest m ≡ i
  received_dest u x = only_dest u (was_sent N E v x).1

  pub rank_received : {m : M} {i : ℕ} {B : List (Step M)} → N.mail.multi m ≡ false → At (Receives m i) B E
      → rank N E m ≡ enc (bound N E) (epoch N E m) (suc (length B))
  rank_received {m} {i} {B} u x =
      ap (λ t. cond t (enc (bound N E) (epoch N E m) 0) (rank_single (bound N E) (limit N E) (epoch N E m) (time (mcasts? N m) E) (time (receives? N m) E))) u
      ∙ ap (rank_single (bound N E) (limit N E) (epoch N E m) (time (mcasts? N m) E))
      (latest_at (receives? N m) (receives_test N m) (receives_tested N m) (λ B. suc (length B)) (λ C y. received_once N E v y)
      (subst (λ j. At (Receives m j) B E) (sym (received_dest u x)) x))

  pub rank_unreceived : {m : M} {B : List (Step M)} → N.mail.multi m ≡ false → At (Mcasts m) B E → ¬ Any (Receives m (N.mail.dest m)) E
      → rank N E m ≡ enc (bound N E) (limit N E) (suc (length B))
  rank_unreceived {m} u x n =
      ap (λ t. cond t (enc (bound N E) (epoch N E m) 0) (rank_single (bound N E) (limit N E) (epoch N E m) (time (mcasts? N m) E) (time (receives? N m) E))) u
      ∙ ap (rank_single (bound N E) (limit N E) (epoch N E m) (time (mcasts? N m) E))
      (latest_none (receives? N m) (receives_test N m) (receives_tested N m) (λ B. suc (length B)) E n)
      ∙ ap (enc (bound N E) (limit N E)) (at_mcast N E v (λ B. suc (length B)) x)

  -- what is received has an epoch that its card has reached
  pub epoch_low : {m : M} {i : ℕ} {B : List (Step M)} → At (Receives m i) B E → epoch N E m ≤ (chan N B).taken i
  epoch_low {m} {i} {B} x = go (log_entered N B m i (let p = receiving N v x in subst (In m) (sym p.1) (any_right (gone N B i) (here refl)))).how
    where
      go : {C : List (Step M)} → Entry N m i C B → epoch N E m ≤ (chan N B).taken i
      go {C} (taking y t) =
          let f = flow N (flows_suf N (at_suf x) v) y in
          let c = take_can N f.0 C m i f.1 f.2 in
          let e = epoch_number N E v c.0 in
          let q = mark_suf N v (suf_trans (at_suf y) (at_suf x)) c.1 in
          let k = taken_at N y in
          let w = c.2 in
          omega arith
      go {C} (joining y t) =
          let e = epoch_joined N E v (suf_at (at_suf x) y) in
          let w = ap (chan N C).taken t in
          let k = taken_suf N i (at_suf y) in
          omega arith

  -- the rank of what is received
  pub record Got (m : M) (B : List (Step M)) : Type 0 where
    pub sub : ℕ
    pub rank_is : rank N E m ≡ enc (bound N E) (epoch N E m) sub
    pub soon : sub ≤ suc (length B)

  pub got : {m : M} {i : ℕ} {B : List (Step M)} → At (Receives m i) B E → Got m B
  got {m} {i} {B} x = go (N.mail.multi m) refl
    where
      go : (u : Bool) → N.mail.multi m ≡ u → Got m B
      go true u = record { sub = 0; rank_is = rank_broadcast u; soon = omega arith }
      go false u = record { sub = suc (length B); rank_is = rank_received u x; soon = omega arith }

  pub received_below : {m : M} {i : ℕ} {B : List (Step M)} → At (Receives m i) B E
      → rank N E m ≤ enc (bound N E) ((chan N B).taken i) (suc (length B))
  received_below {m} {i} {B} x =
      let g = got x in
      let r = g.rank_is in
      let z = enc_le (bound N E) (epoch N E m) g.sub ((chan N B).taken i) (suc (length B)) (epoch_low x) g.soon in
      omega arith

  -- a card receives in the order of the ranks (000 Lemma 6.8)
  pub receive_order : {m n : M} {i : ℕ} {B C : List (Step M)} → At (Receives m i) B C → At (Receives n i) C E → rank N E m < rank N E n
  receive_order {m} {n} {i} {B} {C} x y = go (N.mail.multi n) refl
    where
      p : (r : List M) × (log N C i ≡ gone N C i ++ n ∷ r)
      p = receiving N v y

      less : join_key N E m < join_key N E n
      less = before_less (join_key N E) (gone N C i) p.0 (subst (Sorted (join_key N E)) p.1 (log_sorted N E v C i (at_suf y))) (receives_gone N (at_any x))

      g : Got m B
      g = got (suf_at (at_suf y) x)

      go : (u : Bool) → N.mail.multi n ≡ u → rank N E m < rank N E n
      go true u =
          let e = join_key_number N E v u in
          let d = epoch_number N E v u in
          let l = place_lt (bound N E) (epoch N E m) (time (joins? N m) E) ((chan N E).mark n) (subst (λ a. join_key N E m < a) e less) in
          let s = g.soon in
          let t = time_low (suf_at (at_suf y) x) in
          let z = enc_place (bound N E) (epoch N E m) g.sub (epoch N E n) 0 (omega arith) (omega arith) in
          let r = g.rank_is in
          let q = rank_broadcast u in
          omega arith
      go false u =
          let k = time_below (joins? N n) E in
          let l = place_le (bound N E) (epoch N E m) (time (joins? N m) E) (epoch N E n) (time (joins? N n) E) (omega arith) less in
          let s = g.soon in
          let t = at_length x in
          let z = enc_time (bound N E) (epoch N E m) g.sub (epoch N E n) (suc (length C)) l (omega arith) in
          let r = g.rank_is in
          let q = rank_received u y in
          omega arith
