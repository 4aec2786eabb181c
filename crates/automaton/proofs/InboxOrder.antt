-- Inboxes are in the order of joining: by epoch, in an epoch the broadcast first, then the others as they joined.
use lib.Dec.{eqb}
use borrow.Author.Tests.{eqb-true}
use mathlib.Core.Path.{◌≡◌, refl, sym, ap, ap₂, ◌∙◌}
use mathlib.Core.Bool.{true, ◌&&◌}
use mathlib.Core.List.{List, [], ◌∷◌}
use Prim.Native.Nat.{ℕ, suc, ◌<◌}
use native.Mathlib.Omega.{arith}
use lib.ListN.{length}
use Rattle.lists.specs.Tests.{clash, and_fst}
use Rattle.lists.specs.Histories.{At, Suf, suf_at, suf_trans, at_suf, suf_now, suf_tail, any_at, at_length}
use Rattle.lists.specs.Latest.{time, latest_none}
use Rattle.lists.specs.Keys.{enc, enc_place, enc_time}
use Rattle.lists.specs.Sorting.{Sorted, push_sorted}
use Rattle.automaton.specs.Network.{Network}
use Rattle.automaton.specs.Automaton.{Step, mcast, take, join, receive, rest, Takes, Joins, chan, ChannelExecution}
use Rattle.automaton.specs.TotalOrder.{joins?, epoch, bound}
use Rattle.automaton.proofs.Counts.{flow, flows_suf, taken_suf, mark_suf}
use Rattle.automaton.proofs.InboxHistory.{log}
use Rattle.automaton.proofs.Joining.{take_can, Entry, log_entered, taking, joining}
use Rattle.automaton.proofs.Times.{joins_test, joins_tested, taken_at, at_join, join_single, epoch_number, epoch_joined}

-- the number by which inboxes are in order
module _ {M : Type 0} (N : Network M) (E : List (Step M)) where
  abbrev pub join_key : M → ℕ
  join_key m = enc (bound N E) (epoch N E m) (time (joins? N m) E)

module _ {M : Type 0} (N : Network M) (E : List (Step M)) (v : ChannelExecution N E) where
  pub join_key_number : {m : M} → N.mail.multi m ≡ true → join_key N E m ≡ enc (bound N E) ((chan N E).mark m) 0
  join_key_number {m} u =
      ap₂ (enc (bound N E)) (epoch_number N E v u)
      (latest_none (joins? N m) (joins_test N m) (joins_tested N m) (λ B. suc (length B)) E (λ h. clash u (join_single N E v (any_at h).1)))

  pub join_key_joined : {m : M} {B : List (Step M)} → At (Joins m) B E
      → join_key N E m ≡ enc (bound N E) ((chan N B).taken (N.mail.dest m)) (suc (length B))
  join_key_joined x = ap₂ (enc (bound N E)) (epoch_joined N E v x) (at_join N E v (λ B. suc (length B)) x)

  -- what has joined a card's inbox is below the card's present point
  pub entered_below : {B C : List (Step M)} {m : M} {i : ℕ} → Suf B E → Entry N m i C B
      → join_key N E m < enc (bound N E) ((chan N B).taken i) (suc (length B))
  entered_below {B} {C} {m} {i} s (taking x t) =
      let f = flow N (flows_suf N s v) x in
      let c = take_can N f.0 C m i f.1 f.2 in
      let r = join_key_number c.0 in
      let q = mark_suf N v (suf_trans (at_suf x) s) c.1 in
      let k = taken_at N x in
      let w = c.2 in
      let z = enc_time (bound N E) ((chan N E).mark m) 0 ((chan N B).taken i) (suc (length B)) (omega arith) (omega arith) in
      omega arith
  entered_below {B} {C} {m} {i} s (joining x t) =
      let r = join_key_joined (suf_at s x) in
      let q = taken_suf N i (at_suf x) in
      let w = ap (chan N C).taken t in
      let l = at_length x in
      let z = enc_time (bound N E) ((chan N C).taken (N.mail.dest m)) (suc (length C)) ((chan N B).taken i) (suc (length B)) (omega arith) (omega arith) in
      omega arith

  -- and what joins next is at that point or above it
  pub take_above : {B : List (Step M)} {m : M} {i : ℕ} → At (Takes i m) B E
      → enc (bound N E) ((chan N B).taken i) (suc (length B)) < join_key N E m
  take_above {B} {m} {i} x =
      let f = flow N v x in
      let c = take_can N f.0 B m i f.1 f.2 in
      let r = join_key_number c.0 in
      let q = mark_suf N v (at_suf x) c.1 in
      let w = c.2 in
      let l = at_length x in
      let h : suc (length B) < bound N E = omega arith in
      let z = enc_place (bound N E) ((chan N B).taken i) (suc (length B)) ((chan N E).mark m) 0 (omega arith) h in
      omega arith

  pub join_level : {B : List (Step M)} {m : M} {i : ℕ} → At (Joins m) B E → N.mail.dest m ≡ i
      → join_key N E m ≡ enc (bound N E) ((chan N B).taken i) (suc (length B))
  join_level {B} x e = join_key_joined x ∙ ap (λ c. enc (bound N E) ((chan N B).taken c) (suc (length B))) e

  pub log_sorted : (B : List (Step M)) (i : ℕ) → Suf B E → Sorted (join_key N E) (log N B i)
  log_sorted [] i s = tt
  log_sorted (mcast m ∷ B) i s = log_sorted B i (suf_tail s)
  log_sorted (take j m ∷ B) i s = push_sorted (join_key N E) (eqb i j && N.mail.to m j) m (log N B i) (log_sorted B i (suf_tail s))
      (λ t c h. let k = entered_below (suf_tail s) (log_entered N B c i h).how in
      let z = take_above (suf_now {P = Takes i m} {e = take j m} s (refl, sym (eqb-true _ _ (and_fst (eqb i j) _ t)))) in
      omega arith)
  log_sorted (join m ∷ B) i s = push_sorted (join_key N E) (eqb i (N.mail.dest m)) m (log N B i) (log_sorted B i (suf_tail s))
      (λ t c h. let k = entered_below (suf_tail s) (log_entered N B c i h).how in
      let z = join_level (suf_now {P = Joins m} {e = join m} s refl) (sym (eqb-true _ _ t)) in
      omega arith)
  log_sorted (receive m j ∷ B) i s = log_sorted B i (suf_tail s)
  log_sorted (rest ∷ B) i s = log_sorted B i (suf_tail s)
