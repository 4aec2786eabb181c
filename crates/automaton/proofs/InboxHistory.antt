-- All that ever joined a card's inbox, and all that left it: the first is the second with the inbox behind it.
use lib.Dec.{eqb}
use borrow.Author.Tests.{eqb-true}
use mathlib.Core.Path.{◌≡◌, refl, sym, ap, ◌∙◌, subst}
use mathlib.Core.Logic.{◌⊎◌, inl, inr}
use mathlib.Core.Bool.{Bool, true, false, ◌&&◌}
use mathlib.Core.List.{List, [], ◌∷◌, ◌++◌, append_assoc}
use Prim.Native.Nat.{ℕ}
use Rattle.lists.specs.Tests.{eqb_of}
use Rattle.lists.specs.Histories.{Any, At, In, any_nil, here, there}
use Rattle.lists.specs.Queues.{push, pop, push_cases, push_old, push_new, push_append}
use Rattle.automaton.specs.Network.{Network}
use Rattle.automaton.specs.Automaton.{Step, mcast, take, join, receive, rest, Receives, chan, ChannelPrecondition, ChannelExecution}
use Rattle.automaton.proofs.Counts.{flow}

module _ {M : Type 0} (N : Network M) where
  abbrev pub log : List (Step M) → ℕ → List M
  log [] i = []
  log (mcast m ∷ E) i = log E i
  log (take j m ∷ E) i = push (eqb i j && N.mail.to m j) m (log E i)
  log (join m ∷ E) i = push (eqb i (N.mail.dest m)) m (log E i)
  log (receive m j ∷ E) i = log E i
  log (rest ∷ E) i = log E i

  abbrev pub gone : List (Step M) → ℕ → List M
  gone [] i = []
  gone (mcast m ∷ E) i = gone E i
  gone (take j m ∷ E) i = gone E i
  gone (join m ∷ E) i = gone E i
  gone (receive m j ∷ E) i = push (eqb i j) m (gone E i)
  gone (rest ∷ E) i = gone E i

  pub queue : (E : List (Step M)) → ChannelExecution N E → (i : ℕ) → log E i ≡ gone E i ++ (chan N E).inbox i
  queue [] v i = refl
  queue (mcast m ∷ E) v i = queue E v.1 i
  queue (take j m ∷ E) v i = ap (push (eqb i j && N.mail.to m j) m) (queue E v.1 i)
      ∙ push_append (eqb i j && N.mail.to m j) m (gone E i) ((chan N E).inbox i)
  queue (join m ∷ E) v i = ap (push (eqb i (N.mail.dest m)) m) (queue E v.1 i) ∙ push_append (eqb i (N.mail.dest m)) m (gone E i) ((chan N E).inbox i)
  queue (receive m j ∷ E) v i = queue E v.1 i ∙ go (eqb i j) refl
    where
      go : (t : Bool) → eqb i j ≡ t → gone E i ++ (chan N E).inbox i ≡ push t m (gone E i) ++ pop t ((chan N E).inbox i)
      go true e =
          let q : (chan N E).inbox i ≡ m ∷ v.0.0 = ap (chan N E).inbox (eqb-true _ _ e) ∙ v.0.1 in
          rw q (sym (append_assoc (gone E i) (m ∷ []) v.0.0))
      go false e = refl
  queue (rest ∷ E) v i = queue E v.1 i

  pub gone_receives : (E : List (Step M)) (m : M) (i : ℕ) → In m (gone E i) → Any (Receives m i) E
  gone_receives [] m i h = absurd (any_nil h)
  gone_receives (mcast n ∷ E) m i h = there (gone_receives E m i h)
  gone_receives (take j n ∷ E) m i h = there (gone_receives E m i h)
  gone_receives (join n ∷ E) m i h = there (gone_receives E m i h)
  gone_receives (receive n j ∷ E) m i h = go (push_cases (eqb i j) (gone E i) h) (λ x. gone_receives E m i x)
    where
      go : In m (gone E i) ⊎ ((n ≡ m) × (eqb i j ≡ true)) → (In m (gone E i) → Any (Receives m i) E) → Any (Receives m i) (receive n j ∷ E)
      go (inl x) r = there (r x)
      go (inr x) r = here {e = receive n j} (x.0, sym (eqb-true _ _ x.1))
  gone_receives (rest ∷ E) m i h = there (gone_receives E m i h)

  pub gone_on : (e : Step M) (E : List (Step M)) (m : M) (i : ℕ) → In m (gone E i) → In m (gone (e ∷ E) i)
  gone_on (mcast n) E m i h = h
  gone_on (take j n) E m i h = h
  gone_on (join n) E m i h = h
  gone_on (receive n j) E m i h = push_old (eqb i j) n (gone E i) h
  gone_on rest E m i h = h

  pub gone_now : (e : Step M) (E : List (Step M)) (m : M) (i : ℕ) → Receives m i e → In m (gone (e ∷ E) i)
  gone_now (mcast _) E m i p = elim p [ ]
  gone_now (take _ _) E m i p = elim p [ ]
  gone_now (join _) E m i p = elim p [ ]
  gone_now rest E m i p = elim p [ ]
  gone_now (receive n j) E m i p = subst (λ a. In a (gone (receive n j ∷ E) i)) p.0 (push_new n (gone E i) (eqb_of (sym p.1)))

  pub receives_gone : {i : ℕ} {m : M} {E : List (Step M)} → Any (Receives m i) E → In m (gone E i)
  receives_gone {i = i} {m = m} (here {e = e} {E = E} p) = gone_now e E m i p
  receives_gone {i = i} {m = m} (there {e = e} {E = E} h) = gone_on e E m i (receives_gone h)

  pub receive_can : (e : Step M) (B : List (Step M)) (m : M) (i : ℕ) → Receives m i e → ChannelPrecondition N B e
      → (r : List M) × ((chan N B).inbox i ≡ m ∷ r)
  receive_can (mcast _) B m i p c = elim p [ ]
  receive_can (take _ _) B m i p c = elim p [ ]
  receive_can (join _) B m i p c = elim p [ ]
  receive_can rest B m i p c = elim p [ ]
  receive_can (receive n j) B m i p c = (c.0, ap (chan N B).inbox (sym p.1) ∙ c.1 ∙ ap (λ a. a ∷ c.0) p.0)

  -- where a message is received, what joined before is gone, and the rest is behind it
  pub receiving : {B E : List (Step M)} {m : M} {i : ℕ} → ChannelExecution N E → At (Receives m i) B E
      → (r : List M) × (log B i ≡ gone B i ++ m ∷ r)
  receiving {B} {m = m} {i} v x =
      let f = flow N v x in
      let p = receive_can f.0 B m i f.1 f.2 in
      (p.0, queue B f.3 i ∙ ap (λ l. gone B i ++ l) p.1)
