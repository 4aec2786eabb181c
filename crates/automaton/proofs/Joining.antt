-- How a message joins an inbox: a broadcast when the card takes it, another message by itself.
use lib.Dec.{eqb}
use borrow.Author.Tests.{eqb-true}
use mathlib.Core.Path.{◌≡◌, sym, ap, ◌∙◌, subst}
use mathlib.Core.Logic.{◌⊎◌, inl, inr}
use mathlib.Core.Bool.{true, false, ◌&&◌}
use mathlib.Core.List.{List, [], ◌∷◌}
use Prim.Native.Nat.{ℕ, suc, ◌≤◌}
use Rattle.lists.specs.Tests.{eqb_of, and_fst, and_snd, and_intro}
use Rattle.lists.specs.Histories.{Any, At, In, any_nil, suf_any, at_suf, any_right, here, there, now, before}
use Rattle.lists.specs.Queues.{push_cases, push_old, push_new}
use Rattle.automaton.specs.Network.{Network}
use Rattle.automaton.specs.Automaton.{Step, mcast, take, join, receive, rest, Mcasts, Takes, Joins, chan, ChannelPrecondition, ChannelExecution}
use Rattle.automaton.proofs.Counts.{flow}
use Rattle.automaton.proofs.InboxHistory.{log, gone, queue}

module _ {M : Type 0} (N : Network M) where
  pub join_can : (e : Step M) (B : List (Step M)) (m : M) → Joins m e → ChannelPrecondition N B e
      → (N.mail.multi m ≡ false) × Any (Mcasts m) B × (¬ Any (Joins m) B) × ((chan N B).mark m ≤ (chan N B).taken (N.mail.dest m))
  join_can (mcast _) B m p c = elim p [ ]
  join_can (take _ _) B m p c = elim p [ ]
  join_can (receive _ _) B m p c = elim p [ ]
  join_can rest B m p c = elim p [ ]
  join_can (join n) B m p c = subst (λ a. (N.mail.multi a ≡ false) × Any (Mcasts a) B × (¬ Any (Joins a) B) ×
      ((chan N B).mark a ≤ (chan N B).taken (N.mail.dest a))) p c

  pub take_can : (e : Step M) (B : List (Step M)) (m : M) (i : ℕ) → Takes i m e → ChannelPrecondition N B e
      → (N.mail.multi m ≡ true) × Any (Mcasts m) B × ((chan N B).mark m ≡ suc ((chan N B).taken i))
  take_can (mcast _) B m i p c = elim p [ ]
  take_can (join _) B m i p c = elim p [ ]
  take_can (receive _ _) B m i p c = elim p [ ]
  take_can rest B m i p c = elim p [ ]
  take_can (take j n) B m i p c =
      subst (λ b. (N.mail.multi m ≡ true) × Any (Mcasts m) B × ((chan N B).mark m ≡ suc ((chan N B).taken b))) p.1
      (subst (λ a. (N.mail.multi a ≡ true) × Any (Mcasts a) B × ((chan N B).mark a ≡ suc ((chan N B).taken j))) p.0 c)

  pub data Entry (m : M) (i : ℕ) (B E : List (Step M)) : Type 0 where
    taking : At (Takes i m) B E → N.mail.to m i ≡ true → Entry m i B E
    joining : At (Joins m) B E → N.mail.dest m ≡ i → Entry m i B E

  pub record Entered (m : M) (i : ℕ) (E : List (Step M)) : Type 0 where
    pub when : List (Step M)
    pub how : Entry m i when E

  pub entered_on : {e : Step M} {E : List (Step M)} {m : M} {i : ℕ} → Entered m i E → Entered m i (e ∷ E)
  entered_on {e} {E} {m} {i} h = record { when = h.when; how = go h.how }
    where
      go : Entry m i h.when E → Entry m i h.when (e ∷ E)
      go (taking x t) = taking (before x) t
      go (joining x t) = joining (before x) t

  pub log_entered : (E : List (Step M)) (m : M) (i : ℕ) → In m (log N E i) → Entered m i E
  log_entered [] m i h = absurd (any_nil h)
  log_entered (mcast n ∷ E) m i h = entered_on (log_entered E m i h)
  log_entered (take j n ∷ E) m i h = go (push_cases (eqb i j && N.mail.to n j) (log N E i) h) (λ x. log_entered E m i x)
    where
      go : In m (log N E i) ⊎ ((n ≡ m) × ((eqb i j && N.mail.to n j) ≡ true)) → (In m (log N E i) → Entered m i E)
          → Entered m i (take j n ∷ E)
      go (inl x) r = entered_on (r x)
      go (inr x) r =
          let e = eqb-true i j (and_fst (eqb i j) _ x.1) in
          record {
            when = E;
            how = taking (now {e = take j n} (x.0, sym e))
                (ap (N.mail.to m) e ∙ ap (λ a. N.mail.to a j) (sym x.0) ∙ and_snd (eqb i j) _ x.1);
          }
  log_entered (join n ∷ E) m i h = go (push_cases (eqb i (N.mail.dest n)) (log N E i) h) (λ x. log_entered E m i x)
    where
      go : In m (log N E i) ⊎ ((n ≡ m) × (eqb i (N.mail.dest n) ≡ true)) → (In m (log N E i) → Entered m i E) → Entered m i (join n ∷ E)
      go (inl x) r = entered_on (r x)
      go (inr x) r = record { when = E; how = joining (now {e = join n} x.0) (ap N.mail.dest (sym x.0) ∙ sym (eqb-true _ _ x.1)) }
  log_entered (receive n j ∷ E) m i h = entered_on (log_entered E m i h)
  log_entered (rest ∷ E) m i h = entered_on (log_entered E m i h)

  -- what is in an inbox was multicast, to this card
  pub inbox_to : (E : List (Step M)) → ChannelExecution N E → (m : M) (i : ℕ) → In m ((chan N E).inbox i)
      → Any (Mcasts m) E × (N.mail.to m i ≡ true)
  inbox_to E v m i h = go (log_entered E m i (subst (In m) (sym (queue N E v i)) (any_right (gone N E i) h))).how
    where
      go : {B : List (Step M)} → Entry m i B E → Any (Mcasts m) E × (N.mail.to m i ≡ true)
      go {B} (taking x t) = let f = flow N v x in (suf_any (at_suf x) (take_can f.0 B m i f.1 f.2).1, t)
      go {B} (joining x t) =
          let f = flow N v x in
          let c = join_can f.0 B m f.1 f.2 in
          (suf_any (at_suf x) c.1, N.single m c.0 i ∙ eqb_of (sym t))

  pub inbox_mcast : (E : List (Step M)) → ChannelExecution N E → (m : M) (i : ℕ) → In m ((chan N E).inbox i) → Any (Mcasts m) E
  inbox_mcast E v m i h = (inbox_to E v m i h).0

  pub log_on : (e : Step M) (E : List (Step M)) (m : M) (i : ℕ) → In m (log N E i) → In m (log N (e ∷ E) i)
  log_on (mcast n) E m i h = h
  log_on (take j n) E m i h = push_old (eqb i j && N.mail.to n j) n (log N E i) h
  log_on (join n) E m i h = push_old (eqb i (N.mail.dest n)) n (log N E i) h
  log_on (receive n j) E m i h = h
  log_on rest E m i h = h

  pub take_log : (e : Step M) (E : List (Step M)) (m : M) (i : ℕ) → N.mail.to m i ≡ true → Takes i m e → In m (log N (e ∷ E) i)
  take_log (mcast _) E m i t p = elim p [ ]
  take_log (join _) E m i t p = elim p [ ]
  take_log (receive _ _) E m i t p = elim p [ ]
  take_log rest E m i t p = elim p [ ]
  take_log (take j n) E m i t p =
      subst (λ a. In a (log N (take j n ∷ E) i)) p.0
      (push_new n (log N E i) (and_intro (eqb_of (sym p.1)) (ap (N.mail.to n) p.1 ∙ ap (λ a. N.mail.to a i) p.0 ∙ t)))

  pub join_log : (e : Step M) (E : List (Step M)) (m : M) (i : ℕ) → N.mail.dest m ≡ i → Joins m e → In m (log N (e ∷ E) i)
  join_log (mcast _) E m i t p = elim p [ ]
  join_log (take _ _) E m i t p = elim p [ ]
  join_log (receive _ _) E m i t p = elim p [ ]
  join_log rest E m i t p = elim p [ ]
  join_log (join n) E m i t p = subst (λ a. In a (log N (join n ∷ E) i)) p (push_new n (log N E i) (eqb_of (sym (ap N.mail.dest p ∙ t))))

  pub takes_log : {i : ℕ} {m : M} {E : List (Step M)} → N.mail.to m i ≡ true → Any (Takes i m) E → In m (log N E i)
  takes_log {i = i} {m = m} t (here {e = e} {E = E} p) = take_log e E m i t p
  takes_log {i = i} {m = m} t (there {e = e} {E = E} h) = log_on e E m i (takes_log t h)

  pub joins_log : {m : M} {E : List (Step M)} {i : ℕ} → N.mail.dest m ≡ i → Any (Joins m) E → In m (log N E i)
  joins_log {m = m} {i} t (here {e = e} {E = E} p) = join_log e E m i t p
  joins_log {m = m} {i} t (there {e = e} {E = E} h) = log_on e E m i (joins_log t h)
