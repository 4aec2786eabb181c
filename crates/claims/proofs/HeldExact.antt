-- A step answers 100 exactly where the published move puts its message into ppwait, and a step 8 answers 0 exactly where its message joins
-- the inbox.
use Prim.Native.Nat.{ℕ}
use mathlib.Core.Bool.{cond, false≢true, true}
use mathlib.Core.Logic.{◌↔◌}
use mathlib.Core.Option.{Option, none, some}
use mathlib.Core.Path.{ap, refl, subst, sym, ◌∙◌, ◌≡◌}
use native.Mathlib.Decide.{ℕ_discrete}
use native.Mathlib.Omega.{arith}
use Rattle.lists.specs.Tests.{eqb_not, eqb_of}
use Rattle.automaton.proofs.HoldingMeaning.{held_exact, held_flies, joins_exact, no_more}
use Rattle.automaton.specs.HoldingMeaning.{IsHeld, Joins}
use Rattle.automaton.specs.Refusals.{single_refusal}
use Rattle.automaton.specs.State.{ChannelState, Tagged, channel_step}
use Rattle.names.proofs.Results as R
use Rattle.names.specs.Placement.{Placement}
use Rattle.claims.proofs.RefusalExact.{misformed_exact, misformed_small}
use Rattle.claims.proofs.Results.{command_small}
use Rattle.claims.specs.Command.{Command}
use Rattle.claims.specs.Held.{Eight, Holds, LetsJoin}
use Rattle.claims.specs.Published.{Letter, Published, command_refusal, effect, mail, sight}
use Rattle.claims.specs.PublishedRun.{after_decoded, answer_decoded, command_result}
use Rattle.claims.specs.Results.{holding}
use Rattle.claims.specs.Steps.{Decoded, RawStep, bad, decode, good}
use Rattle.claims.specs.Command as K
use Rattle.automaton.specs.State as C

module _ (P : Placement) (s : Published) where
  abbrev w : ChannelState Letter
  w = s.channel

  -- what a decoded step leaves of the channel
  abbrev left : Decoded → ChannelState Letter
  left d = (after_decoded P s d).channel

  -- ---- step 8 of task c

  module _ (c : ℕ) where
    abbrev eight : Decoded
    eight = good (K.take_single c)

    abbrev refusal : ℕ
    refusal = command_refusal P s (K.take_single c)

    left_taken : refusal ≡ 0 → left eight ≡ channel_step mail w (C.take_single c)
    left_taken e = ap (λ b. (cond b (effect P s (K.take_single c)) s).channel) (eqb_of e)

    left_refused : ¬ (refusal ≡ 0) → left eight ≡ w
    left_refused n = ap (λ b. (cond b (effect P s (K.take_single c)) s).channel) (eqb_not n)

    -- a taken one takes a message in flight
    flies : refusal ≡ 0 → (x : Tagged Letter) × (w.flight c ≡ some x)
    flies = go (w.flight c) refl
      where
        go : (o : Option (Tagged Letter)) → w.flight c ≡ o → single_refusal mail P.cards w o ≡ 0 → (x : Tagged Letter) × (w.flight c ≡ some x)
        go none p e = absurd (omega arith)
        go (some x) p e = (x, p)

    single_held : command_result P s (K.take_single c) ≡ 100 → (x : Tagged Letter) × IsHeld mail w (left eight) c x
    single_held e =
        let (z, h) = (R.held_exact refusal (holding mail (sight P s) (K.take_single c)) (command_small P s (K.take_single c))).0 e in
        let (x, f) = held_flies mail w c h in
        (x, subst (λ u. IsHeld mail w u c x) (sym (left_taken z)) ((held_exact mail w c x f).0 h))

    held_single : (x : Tagged Letter) → IsHeld mail w (left eight) c x → command_result P s (K.take_single c) ≡ 100
    held_single x h = go (ℕ_discrete refusal 0)
      where
        go : Dec (refusal ≡ 0) → command_result P s (K.take_single c) ≡ 100
        go (yes z) =
            (R.held_exact refusal (holding mail (sight P s) (K.take_single c)) (command_small P s (K.take_single c))).1
            (z, (held_exact mail w c x h.flew).1 (subst (λ u. IsHeld mail w u c x) (left_taken z) h))
        go (no n) = absurd (no_more (w.held (mail.dest x.msg)) x (ap (λ u. u.held (mail.dest x.msg)) (sym (left_refused n)) ∙ h.held))

    single_joins : command_result P s (K.take_single c) ≡ 0 → (x : Tagged Letter) × Joins mail w (left eight) c x
    single_joins e =
        let (z, h) = (R.zero_exact refusal (holding mail (sight P s) (K.take_single c))).0 e in
        let (x, f) = flies z in
        (x, subst (λ u. Joins mail w u c x) (sym (left_taken z)) ((joins_exact mail w c x f).0 h))

    joins_single : (x : Tagged Letter) → Joins mail w (left eight) c x → command_result P s (K.take_single c) ≡ 0
    joins_single x h = go (ℕ_discrete refusal 0)
      where
        go : Dec (refusal ≡ 0) → command_result P s (K.take_single c) ≡ 0
        go (yes z) =
            (R.zero_exact refusal (holding mail (sight P s) (K.take_single c))).1
            (z, (joins_exact mail w c x h.flew).1 (subst (λ u. Joins mail w u c x) (left_taken z) h))
        go (no n) = absurd (no_more (w.inbox (mail.dest x.msg)) x.msg (ap (λ u. u.inbox (mail.dest x.msg)) (sym (left_refused n)) ∙ h.inbox))

  -- ---- a step as it is given

  -- no other command holds a message
  only_eight : (c : Command) → command_result P s c ≡ 100 → (t : ℕ) × (x : Tagged Letter) × (good c ≡ good (K.take_single t)) × IsHeld mail w (left (good c)) t x
  only_eight c e = go c ((R.held_exact (command_refusal P s c) (holding mail (sight P s) c) (command_small P s c)).0 e).1 e
    where
      go : (d : Command) → holding mail (sight P s) d ≡ true → command_result P s d ≡ 100 → (t : ℕ) × (x : Tagged Letter) × (good d ≡ good (K.take_single t)) × IsHeld mail w (left (good d)) t x
      go (K.request_read t x) h q = absurd (false≢true h)
      go (K.request_update t x f v) h q = absurd (false≢true h)
      go (K.perform t) h q = absurd (false≢true h)
      go (K.send_read t i) h q = absurd (false≢true h)
      go (K.send_update t) h q = absurd (false≢true h)
      go (K.dispatch i) h q = absurd (false≢true h)
      go (K.take_broadcast i) h q = absurd (false≢true h)
      go (K.take_single t) h q = let (x, r) = single_held t q in (t, x, refl, r)
      go (K.deliver i) h q = absurd (false≢true h)
      go (K.report t) h q = absurd (false≢true h)

  pub held_answer : (a : RawStep) → ((answer_decoded P s (decode P a)).result ≡ 100) ↔ Holds P s a
  held_answer a = (λ q. there? (decode P a) refl q, λ h. ap (λ d. (answer_decoded P s d).result) h.eight ∙ held_single h.task h.message (subst (λ d. IsHeld mail w (left d) h.task h.message) h.eight h.held))
    where
      there? : (d : Decoded) → decode P a ≡ d → (answer_decoded P s d).result ≡ 100 → Holds P s a
      there? (bad m) e q = let h = misformed_small P a ((misformed_exact P a m).0 e) in absurd (omega arith)
      there? (good c) e q =
          let (t, x, p, r) = only_eight c q in
          record { task = t; message = x; eight = e ∙ p; held = subst (λ d. IsHeld mail w (left d) t x) (sym e) r }

  pub joins_answer : (a : RawStep) (t : ℕ) → Eight P a t → ((answer_decoded P s (decode P a)).result ≡ 0) ↔ LetsJoin P s a
  joins_answer a t e = (
    λ q. let (x, r) = single_joins t (ap (λ d. (answer_decoded P s d).result) (sym e) ∙ q) in
        record { task = t; message = x; eight = e; joins = subst (λ d. Joins mail w (left d) t x) (sym e) r },
    λ h. ap (λ d. (answer_decoded P s d).result) h.eight ∙ joins_single h.task h.message (subst (λ d. Joins mail w (left d) h.task h.message) h.eight h.joins),
  )
