-- A step as it is given is refused with a number exactly when that number comes (specs/Numbers), and taken exactly when it is well formed,
-- allowed by Figures 5 and 7, and within the limits.
use Prim.Native.Nat.{ℕ, ◌<◌, ◌≤◌}
use borrow.Author.Tests.{eqb-true, le-ltb, lt-leb, lt-ltb}
use lib.Dec.{leb}
use mathlib.Core.Bool.{Bool, false, true, true≢false, ◌&&◌}
use mathlib.Core.Logic.{inl, inr, ◌↔◌, ◌⊎◌}
use mathlib.Core.Path.{ap, refl, subst, sym, ◌∙◌, ◌≡◌}
use native.Mathlib.Omega.{arith}
use Rattle.lists.specs.Tests.{and_false, and_fst, and_intro, and_snd, eqb_of}
use Rattle.names.proofs.KnownFunctions.{functions_unknown}
use Rattle.names.specs.Placement.{Placement, registers, tasks}
use Rattle.claims.proofs.NumbersExact.{number_exact}
use Rattle.claims.proofs.StepNumbers.{card_missing, card_names, clean_of, code_known, code_unknown, dirty_of, four_names, function_missing, is_false, known_code, register_missing, register_names, task_missing, task_names, two_names, unnamed_zero_lem}
use Rattle.claims.proofs.TakenIf.{taken_if}
use Rattle.claims.specs.Allowed.{allowed, within}
use Rattle.claims.specs.Command.{Command}
use Rattle.claims.specs.Numbers.{Comes, Misformed, byte, code_high, code_zero, no_card, no_chosen, no_function, no_register, no_task, unnamed}
use Rattle.claims.specs.Published.{Published}
use Rattle.claims.specs.PublishedRun.{decoded_refusal, refusal_of}
use Rattle.claims.specs.Steps.{Decoded, RawStep, bad, card_there, command_of, decode, function_there, good, known, names_card, names_chosen, names_function, names_register, names_task, need, register_there, task_there, unnamed_zero}

-- the number of a refused step, 0 of a good one
abbrev number_in : Decoded → ℕ
number_in (bad n) = n
number_in (good c) = 0

bad_inj : (m n : ℕ) → bad m ≡ bad n → m ≡ n
bad_inj m n e = ap number_in e

abbrev is_good : Decoded → Bool
is_good (bad n) = false
is_good (good c) = true

known_zero : known 0 ≡ false
unfolding known
known_zero = refl

known_high : (n : ℕ) → 10 < n → known n ≡ false
unfolding known
known_high n h = ap (λ t. leb 1 n && t) (lt-leb n 10 h) ∙ and_false (leb 1 n)

module _ (P : Placement) (a : RawStep) where
  abbrev chain : Bool → Bool → Bool → Bool → Bool → Bool → Decoded
  chain k u t r c f = need k 10 (need u 11 (need t 12 (need r 13 (need c 14 (need f 15 (good (command_of a.code a.argument)))))))

  -- ---- 10 to 15: what is refused with n is so misformed

  misformed : (n : ℕ) → decode P a ≡ bad n → Misformed P a n
  unfolding decode
  misformed n = go (known a.code) refl (unnamed_zero a.code a.argument) refl (task_there P a) refl (register_there P a) refl (card_there P a) refl (function_there P a) refl
    where
      at : (m : ℕ) → Misformed P a m → bad m ≡ bad n → Misformed P a n
      at m h e = subst (Misformed P a) (bad_inj m n e) h

      go : (k : Bool) → known a.code ≡ k → (u : Bool) → unnamed_zero a.code a.argument ≡ u → (t : Bool) → task_there P a ≡ t → (r : Bool) → register_there P a ≡ r
          → (c : Bool) → card_there P a ≡ c → (f : Bool) → function_there P a ≡ f → chain k u t r c f ≡ bad n → Misformed P a n
      go false p u q t x r y c z f v e = at 10 (code_unknown P a p) e
      go true p false q t x r y c z f v e = let d = dirty_of P a q in at 11 (unnamed (code_known P a p) d.0 d.1 d.2) e
      go true p true q false x r y c z f v e = at 12 (task_missing P a (clean_of P a q) x) e
      go true p true q true x false y c z f v e = at 13 (register_missing P a (clean_of P a q) x y) e
      go true p true q true x true y false z f v e = at 14 (card_missing P a (clean_of P a q) x z) e
      go true p true q true x true y true z false v e = at 15 (function_missing P a (clean_of P a q) x y v) e
      go true p true q true x true y true z true v e = absurd (true≢false (ap is_good e))

  -- ---- and the other way

  chained : {k u t r c f : Bool} → known a.code ≡ k → unnamed_zero a.code a.argument ≡ u → task_there P a ≡ t → register_there P a ≡ r → card_there P a ≡ c → function_there P a ≡ f → decode P a ≡ chain k u t r c f
  unfolding decode
  chained p q x y z v = rw (p, q, x, y, z, v)

  task_false : names_task a.code ≡ true → tasks P ≤ byte a 0 → task_there P a ≡ false
  unfolding task_there
  task_false e h = rw (e, le-ltb (byte a 0) (tasks P) h)

  task_true : names_task a.code ≡ true → byte a 0 < tasks P → task_there P a ≡ true
  unfolding task_there
  task_true e h = rw (e, lt-ltb (byte a 0) (tasks P) h)

  task_none : names_task a.code ≡ false → task_there P a ≡ true
  unfolding task_there
  task_none e = rw e

  register_false : names_register a.code ≡ true → registers P ≤ byte a 1 → register_there P a ≡ false
  unfolding register_there
  register_false e h = rw (e, le-ltb (byte a 1) (registers P) h)

  register_true : names_register a.code ≡ true → byte a 1 < registers P → register_there P a ≡ true
  unfolding register_there
  register_true e h = rw (e, lt-ltb (byte a 1) (registers P) h)

  register_none : names_register a.code ≡ false → register_there P a ≡ true
  unfolding register_there
  register_none e = rw e

  card_false : names_card a.code ≡ true → P.cards ≤ byte a 0 → card_there P a ≡ false
  unfolding card_there
  card_false e h = rw (e, le-ltb (byte a 0) P.cards h)

  chosen_false : names_card a.code ≡ false → names_chosen a.code ≡ true → P.cards ≤ byte a 1 → card_there P a ≡ false
  unfolding card_there
  chosen_false d e h = rw (d, e, le-ltb (byte a 1) P.cards h)

  card_none : names_card a.code ≡ false → names_chosen a.code ≡ false → card_there P a ≡ true
  unfolding card_there
  card_none d e = rw (d, e)

  function_false : names_function a.code ≡ true → (byte a 2 ≡ 0) ⊎ (5 < byte a 2) → function_there P a ≡ false
  unfolding function_there
  function_false e h = rw (e, (functions_unknown (byte a 2)).1 h)

  unknown_code : (n : ℕ) → a.code ≡ n → known n ≡ false → decode P a ≡ bad 10
  unfolding decode
  unknown_code n e h = rw (e, h)

  misformed_only : {n : ℕ} → Misformed P a n → decode P a ≡ bad n
  misformed_only (code_zero e) = unknown_code 0 e known_zero
  misformed_only (code_high h) = unknown_code a.code refl (known_high a.code h)
  misformed_only (unnamed k j u h) = chained (known_code P a k) (is_false _ (λ e. h (clean_of P a e j u))) refl refl refl refl
  misformed_only (no_task h t l) = let n = task_names t in chained n.0 (unnamed_zero_lem P a h) (task_false n.1 l) refl refl refl
  misformed_only (no_register h r t l) = let n = register_names r in chained n.0 (unnamed_zero_lem P a h) (task_true n.1 t) (register_false n.2 l) refl refl
  misformed_only (no_card h c l) =
      let n = card_names c in
      chained n.is_known (unnamed_zero_lem P a h) (task_none n.task=) (register_none n.register=) (card_false n.card= l) refl
  misformed_only (no_chosen h e t l) =
      let n = four_names P a e in
      chained n.is_known (unnamed_zero_lem P a h) (task_true n.task= t) (register_none n.register=) (chosen_false n.card= n.chosen= l) refl
  misformed_only (no_function h e t r v) =
      let n = two_names P a e in
      chained n.is_known (unnamed_zero_lem P a h) (task_true n.task= t) (register_true n.register= r) (card_none n.card= n.chosen=) (function_false n.function= v)

  pub misformed_exact : (n : ℕ) → (decode P a ≡ bad n) ↔ Misformed P a n
  misformed_exact n = (misformed n, misformed_only)

  -- a number from 10 to 15
  pub misformed_small : {n : ℕ} → Misformed P a n → (10 ≤ n) × (n ≤ 15)
  misformed_small (code_zero e) = (omega arith, omega arith)
  misformed_small (code_high h) = (omega arith, omega arith)
  misformed_small (unnamed k j u h) = (omega arith, omega arith)
  misformed_small (no_task h t l) = (omega arith, omega arith)
  misformed_small (no_register h r t l) = (omega arith, omega arith)
  misformed_small (no_card h c l) = (omega arith, omega arith)
  misformed_small (no_chosen h e t l) = (omega arith, omega arith)
  misformed_small (no_function h e t r v) = (omega arith, omega arith)

  -- ---- every number

  module _ (s : Published) where
    -- step a is refused with n exactly when n comes
    pub refusal_exact : (n : ℕ) → ¬ (n ≡ 0) → (refusal_of P s a ≡ n) ↔ (Misformed P a n ⊎ ((c : Command) × (decode P a ≡ good c) × Comes P s n c))
    refusal_exact n z = (there? (decode P a) refl, back)
      where
        there? : (d : Decoded) → decode P a ≡ d → decoded_refusal P s d ≡ n → Misformed P a n ⊎ ((c : Command) × (decode P a ≡ good c) × Comes P s n c)
        there? (bad m) e q = inl (misformed n (e ∙ ap bad q))
        there? (good c) e q = inr (c, e, (number_exact P s n c z).0 q)

        back : Misformed P a n ⊎ ((c : Command) × (decode P a ≡ good c) × Comes P s n c) → refusal_of P s a ≡ n
        back (inl h) = ap (decoded_refusal P s) (misformed_only h)
        back (inr (c, e, h)) = ap (decoded_refusal P s) e ∙ (number_exact P s n c z).1 h

    -- and taken exactly when it is well formed, allowed and within the limits
    pub taken_exact : (refusal_of P s a ≡ 0) ↔ ((c : Command) × (decode P a ≡ good c) × (allowed P s c ≡ true) × (within P s c ≡ true))
    taken_exact = (there? (decode P a) refl, back)
      where
        there? : (d : Decoded) → decode P a ≡ d → decoded_refusal P s d ≡ 0 → (c : Command) × (decode P a ≡ good c) × (allowed P s c ≡ true) × (within P s c ≡ true)
        there? (bad m) e q = let h = misformed_small (misformed m e) in absurd (omega arith)
        there? (good c) e q =
            let t : (allowed P s c && within P s c) ≡ true = sym (taken_if P s c) ∙ eqb_of q in
            (c, e, and_fst (allowed P s c) _ t, and_snd (allowed P s c) _ t)

        back : (c : Command) × (decode P a ≡ good c) × (allowed P s c ≡ true) × (within P s c ≡ true) → refusal_of P s a ≡ 0
        back (c, e, x, y) = ap (decoded_refusal P s) e ∙ eqb-true _ _ (taken_if P s c ∙ and_intro x y)
