-- A step is refused with one of 10 to 15 exactly in the plain terms of that number (specs/Numbers).
use Prim.Native.Nat.{ℕ, ◌<◌}
use borrow.Author.Tests.{eqb-false, eqb-true, le-leb, leb-false, leb-true, ltb-false, ltb-true}
use lib.Dec.{eqb, leb, ltb}
use mathlib.Core.Bool.{Bool, false, false≢true, not, true, true≢false, ◌&&◌, ◌||◌}
use mathlib.Core.List.{List, [], ◌∷◌}
use mathlib.Core.Logic.{inl, inr, ◌⊎◌}
use mathlib.Core.Path.{ap₂, refl, subst, sym, ◌≡◌}
use native.Mathlib.Omega.{arith}
use Rattle.lists.specs.Histories.{In, any_nil, here, there}
use Rattle.lists.specs.Tests.{and_fst, and_intro, and_snd, bool, clash, eqb_not}
use Rattle.names.proofs.KnownFunctions.{functions_unknown}
use Rattle.names.specs.Placement.{Placement, registers, tasks}
use Rattle.claims.specs.Numbers.{Clean, Known, Misformed, OfCard, OfRegister, OfTask, Unnamed, at_1, at_2, at_3, at_4, at_5, at_6, at_7, byte, code_high, code_zero, no_card, no_chosen, no_function, no_register, no_task}
use Rattle.claims.specs.Steps.{RawStep, among, card_there, function_there, known, names_card, names_chosen, names_function, names_register, names_task, register_there, task_there, unnamed_zero, zeros}

-- ---- tests

or_right : (t u : Bool) → (t || u) ≡ true → t ≡ false → u ≡ true
or_right true u e h = absurd (true≢false h)
or_right false u e h = e

or_fails : (t u : Bool) → (t || u) ≡ false → (t ≡ false) × (u ≡ false)
or_fails true u e = absurd (true≢false e)
or_fails false u e = (refl, e)

pub is_false : (t : Bool) → ¬ (t ≡ true) → t ≡ false
is_false true h = absurd (h refl)
is_false false h = refl

not_or : (t u : Bool) → (not t || u) ≡ false → (t ≡ true) × (u ≡ false)
not_or true u e = (refl, e)
not_or false u e = absurd (true≢false e)

or_not : (t u : Bool) → (not t || u) ≡ true → t ≡ true → u ≡ true
or_not true u e h = e
or_not false u e h = absurd (false≢true h)

-- ---- codes

among_in : (n : ℕ) (l : List ℕ) → among n l ≡ true → In n l
among_in n [] e = absurd (false≢true e)
among_in n (k ∷ l) e = go (eqb n k) refl e (among_in n l)
  where
    go : (t : Bool) → eqb n k ≡ t → (t || among n l) ≡ true → (among n l ≡ true → In n l) → In n (k ∷ l)
    go true q z f = here (sym (eqb-true n k q))
    go false q z f = there (f z)

task_of_lem : (n : ℕ) → names_task n ≡ true → OfTask n
unfolding names_task
task_of_lem n e = go (among_in n (1 ∷ 2 ∷ 3 ∷ 4 ∷ 5 ∷ 8 ∷ 10 ∷ []) e)
  where
    go : In n (1 ∷ 2 ∷ 3 ∷ 4 ∷ 5 ∷ 8 ∷ 10 ∷ []) → OfTask n
    go (here p) = subst OfTask p OfTask.one
    go (there (here p)) = subst OfTask p OfTask.two
    go (there (there (here p))) = subst OfTask p OfTask.three
    go (there (there (there (here p)))) = subst OfTask p OfTask.four
    go (there (there (there (there (here p))))) = subst OfTask p OfTask.five
    go (there (there (there (there (there (here p)))))) = subst OfTask p OfTask.eight
    go (there (there (there (there (there (there (here p))))))) = subst OfTask p OfTask.ten
    go (there (there (there (there (there (there (there x))))))) = absurd (any_nil x)

card_of : (n : ℕ) → names_card n ≡ true → OfCard n
unfolding names_card
card_of n e = go (among_in n (6 ∷ 7 ∷ 9 ∷ []) e)
  where
    go : In n (6 ∷ 7 ∷ 9 ∷ []) → OfCard n
    go (here p) = subst OfCard p OfCard.six
    go (there (here p)) = subst OfCard p OfCard.seven
    go (there (there (here p))) = subst OfCard p OfCard.nine
    go (there (there (there x))) = absurd (any_nil x)

register_of : (n : ℕ) → names_register n ≡ true → OfRegister n
unfolding names_register
register_of n e = go (among_in n (1 ∷ 2 ∷ []) e)
  where
    go : In n (1 ∷ 2 ∷ []) → OfRegister n
    go (here p) = subst OfRegister p OfRegister.one
    go (there (here p)) = subst OfRegister p OfRegister.two
    go (there (there x)) = absurd (any_nil x)

-- what each code names, computed
pub record Names (n : ℕ) (task register card chosen function : Bool) : Type 0 where
  pub is_known : known n ≡ true
  pub task= : names_task n ≡ task
  pub register= : names_register n ≡ register
  pub card= : names_card n ≡ card
  pub chosen= : names_chosen n ≡ chosen
  pub function= : names_function n ≡ function

pub names_2 : Names 2 true true false false true
unfolding known names_task names_register names_card names_chosen names_function
names_2 = record { is_known = refl; task= = refl; register= = refl; card= = refl; chosen= = refl; function= = refl }

pub names_4 : Names 4 true false false true false
unfolding known names_task names_register names_card names_chosen names_function
names_4 = record { is_known = refl; task= = refl; register= = refl; card= = refl; chosen= = refl; function= = refl }

pub task_names : {n : ℕ} → OfTask n → (known n ≡ true) × (names_task n ≡ true)
unfolding known names_task
task_names OfTask.one = (refl, refl)
task_names OfTask.two = (refl, refl)
task_names OfTask.three = (refl, refl)
task_names OfTask.four = (refl, refl)
task_names OfTask.five = (refl, refl)
task_names OfTask.eight = (refl, refl)
task_names OfTask.ten = (refl, refl)

pub card_names : {n : ℕ} → OfCard n → Names n false false true false false
unfolding known names_task names_register names_card names_chosen names_function
card_names OfCard.six = record { is_known = refl; task= = refl; register= = refl; card= = refl; chosen= = refl; function= = refl }
card_names OfCard.seven = record { is_known = refl; task= = refl; register= = refl; card= = refl; chosen= = refl; function= = refl }
card_names OfCard.nine = record { is_known = refl; task= = refl; register= = refl; card= = refl; chosen= = refl; function= = refl }

pub register_names : {n : ℕ} → OfRegister n → (known n ≡ true) × (names_task n ≡ true) × (names_register n ≡ true)
unfolding known names_task names_register
register_names OfRegister.one = (refl, refl, refl)
register_names OfRegister.two = (refl, refl, refl)

-- a code that names a register, a card or a chosen card
register_task : (n : ℕ) → names_register n ≡ true → names_task n ≡ true
register_task n e = (register_names (register_of n e)).1

module _ (P : Placement) (a : RawStep) where
  -- ---- 11

  zeros_at : (l : List ℕ) → zeros a.argument l ≡ true → (k : ℕ) → In k l → byte a k ≡ 0
  zeros_at [] e k x'' = elim x'' [ ]
  zeros_at (j ∷ l) e k (here p) = subst (λ i. byte a i ≡ 0) p (eqb-true _ _ (and_fst (eqb (byte a j) 0) _ e))
  zeros_at (j ∷ l) e k (there h) = zeros_at l (and_snd (eqb (byte a j) 0) _ e) k h

  zeros_fail : (l : List ℕ) → zeros a.argument l ≡ false → (k : ℕ) × In k l × ¬ (byte a k ≡ 0)
  zeros_fail [] e = absurd (true≢false e)
  zeros_fail (j ∷ l) e = go (eqb (byte a j) 0) refl e (zeros_fail l)
    where
      go : (t : Bool) → eqb (byte a j) 0 ≡ t → (t && zeros a.argument l) ≡ false → (zeros a.argument l ≡ false → (k : ℕ) × In k l × ¬ (byte a k ≡ 0)) → (k : ℕ) × In k (j ∷ l) × ¬ (byte a k ≡ 0)
      go true q z f = let r = f z in (r.0, there r.1, r.2)
      go false q z f = (j, here refl, eqb-false _ _ q)

  no_register_name : ¬ OfRegister a.code → names_register a.code ≡ false
  no_register_name h = is_false _ (λ e. h (register_of a.code e))

  no_chosen_name : ¬ (a.code ≡ 4) → names_chosen a.code ≡ false
  unfolding names_chosen
  no_chosen_name h = eqb_not h

  no_function_name : ¬ (a.code ≡ 2) → names_function a.code ≡ false
  unfolding names_function
  no_function_name h = eqb_not h

  -- the three parts of `unnamed_zero`: byte 1; bytes 2 and 4 to 7; byte 3
  abbrev part_1 : Bool
  part_1 = names_register a.code || names_chosen a.code || eqb (byte a 1) 0

  abbrev part_2 : Bool
  part_2 = names_function a.code || zeros a.argument (2 ∷ 4 ∷ 5 ∷ 6 ∷ 7 ∷ [])

  abbrev part_3 : Bool
  part_3 = eqb (byte a 3) 0

  pub clean_of : unnamed_zero a.code a.argument ≡ true → Clean a
  unfolding unnamed_zero
  clean_of e k u = go k u
    where
      rest : ¬ (a.code ≡ 2) → (j : ℕ) → In j (2 ∷ 4 ∷ 5 ∷ 6 ∷ 7 ∷ []) → byte a j ≡ 0
      rest h = zeros_at (2 ∷ 4 ∷ 5 ∷ 6 ∷ 7 ∷ []) (or_right (names_function a.code) _ (and_snd part_1 part_2 (and_fst (part_1 && part_2) part_3 e)) (no_function_name h))

      go : (j : ℕ) → Unnamed a.code j → byte a j ≡ 0
      go j (at_1 h g) = eqb-true _ _ (or_right (names_register a.code || names_chosen a.code) _ (and_fst part_1 part_2 (and_fst (part_1 && part_2) part_3 e)) (ap₂ (λ x y. x || y) (no_register_name h) (no_chosen_name g)))
      go j (at_2 h) = rest h 2 (here refl)
      go j at_3 = eqb-true _ _ (and_snd (part_1 && part_2) part_3 e)
      go j (at_4 h) = rest h 4 (there (here refl))
      go j (at_5 h) = rest h 5 (there (there (here refl)))
      go j (at_6 h) = rest h 6 (there (there (there (here refl))))
      go j (at_7 h) = rest h 7 (there (there (there (there (here refl)))))

  abbrev pub Dirty : Type 0
  Dirty = (k : ℕ) × Unnamed a.code k × ¬ (byte a k ≡ 0)

  pub dirty_of : unnamed_zero a.code a.argument ≡ false → Dirty
  unfolding unnamed_zero names_chosen names_function
  dirty_of e = go part_1 refl part_2 refl part_3 refl e
    where
      at : ¬ (a.code ≡ 2) → (k : ℕ) → In k (2 ∷ 4 ∷ 5 ∷ 6 ∷ 7 ∷ []) → Unnamed a.code k
      at h k (here p) = subst (Unnamed a.code) p (at_2 h)
      at h k (there (here p)) = subst (Unnamed a.code) p (at_4 h)
      at h k (there (there (here p))) = subst (Unnamed a.code) p (at_5 h)
      at h k (there (there (there (here p)))) = subst (Unnamed a.code) p (at_6 h)
      at h k (there (there (there (there (here p))))) = subst (Unnamed a.code) p (at_7 h)
      at h k (there (there (there (there (there x))))) = absurd (any_nil x)

      first : part_1 ≡ false → Dirty
      first q =
          let r = or_fails (names_register a.code || names_chosen a.code) _ q in
          let z = or_fails (names_register a.code) _ r.0 in
          (1, at_1 (λ x. clash (register_names x).2 z.0) (eqb-false _ _ z.1), eqb-false _ _ r.1)

      second : part_2 ≡ false → Dirty
      second q =
          let r = or_fails (names_function a.code) _ q in
          let z = zeros_fail (2 ∷ 4 ∷ 5 ∷ 6 ∷ 7 ∷ []) r.1 in
          (z.0, at (eqb-false _ _ r.0) z.0 z.1, z.2)

      go : (x : Bool) → part_1 ≡ x → (y : Bool) → part_2 ≡ y → (z : Bool) → part_3 ≡ z → (x && y && z) ≡ false → Dirty
      go false p y q z r f = first p
      go true p false q z r f = second q
      go true p true q false r f = (3, at_3, eqb-false _ _ r)
      go true p true q true r f = absurd (true≢false f)

  pub unnamed_zero_lem : Clean a → unnamed_zero a.code a.argument ≡ true
  unnamed_zero_lem h = go (bool (unnamed_zero a.code a.argument))
    where
      go : (unnamed_zero a.code a.argument ≡ true) ⊎ (unnamed_zero a.code a.argument ≡ false) → unnamed_zero a.code a.argument ≡ true
      go (inl e) = e
      go (inr e) = let d = dirty_of e in absurd (d.2 (h d.0 d.1))

  -- ---- the tests, in rising order

  abbrev Passed : Type 0
  Passed = (known a.code ≡ true) × (unnamed_zero a.code a.argument ≡ true)

  pub code_unknown : known a.code ≡ false → Misformed P a 10
  unfolding known
  code_unknown e = go (leb 1 a.code) refl e
    where
      go : (t : Bool) → leb 1 a.code ≡ t → (t && leb a.code 10) ≡ false → Misformed P a 10
      go true p q = code_high (leb-false a.code 10 q)
      go false p q = code_zero (let h = leb-false 1 a.code p in omega arith)

  pub code_known : known a.code ≡ true → Known a
  unfolding known
  code_known e = (leb-true _ _ (and_fst (leb 1 a.code) _ e), leb-true _ _ (and_snd (leb 1 a.code) _ e))

  pub known_code : Known a → known a.code ≡ true
  unfolding known
  known_code h = and_intro (le-leb 1 a.code h.0) (le-leb a.code 10 h.1)

  pub task_missing : Clean a → task_there P a ≡ false → Misformed P a 12
  unfolding task_there
  task_missing h e = let r = not_or (names_task a.code) _ e in no_task h (task_of_lem a.code r.0) (ltb-false _ _ r.1)

  task_present : task_there P a ≡ true → names_task a.code ≡ true → byte a 0 < tasks P
  unfolding task_there
  task_present e h = ltb-true _ _ (or_not (names_task a.code) _ e h)

  pub register_missing : Clean a → task_there P a ≡ true → register_there P a ≡ false → Misformed P a 13
  unfolding register_there
  register_missing h t e =
      let r = not_or (names_register a.code) _ e in
      no_register h (register_of a.code r.0) (task_present t (register_task a.code r.0)) (ltb-false _ _ r.1)

  register_present : register_there P a ≡ true → names_register a.code ≡ true → byte a 1 < registers P
  unfolding register_there
  register_present e h = ltb-true _ _ (or_not (names_register a.code) _ e h)

  pub four_names : a.code ≡ 4 → Names a.code true false false true false
  four_names e = subst (λ n. Names n true false false true false) (sym e) names_4

  pub two_names : a.code ≡ 2 → Names a.code true true false false true
  two_names e = subst (λ n. Names n true true false false true) (sym e) names_2

  pub card_missing : Clean a → task_there P a ≡ true → card_there P a ≡ false → Misformed P a 14
  unfolding card_there names_chosen
  card_missing h t e = go (not (names_card a.code) || ltb (byte a 0) P.cards) refl e
    where
      chosen : (not (eqb a.code 4) || ltb (byte a 1) P.cards) ≡ false → Misformed P a 14
      chosen q =
          let r = not_or (eqb a.code 4) _ q in
          let n = eqb-true a.code 4 r.0 in
          no_chosen h n (task_present t (four_names n).task=) (ltb-false _ _ r.1)

      go : (t : Bool) → (not (names_card a.code) || ltb (byte a 0) P.cards) ≡ t → (t && (not (eqb a.code 4) || ltb (byte a 1) P.cards)) ≡ false → Misformed P a 14
      go true p q = chosen q
      go false p q = let r = not_or (names_card a.code) _ p in no_card h (card_of a.code r.0) (ltb-false _ _ r.1)

  pub function_missing : Clean a → task_there P a ≡ true → register_there P a ≡ true → function_there P a ≡ false → Misformed P a 15
  unfolding function_there names_function
  function_missing h t u e =
      let r = not_or (eqb a.code 2) _ e in
      let n = eqb-true a.code 2 r.0 in
      no_function h n (task_present t (two_names n).task=) (register_present u (two_names n).register=) ((functions_unknown (byte a 2)).0 r.1)
