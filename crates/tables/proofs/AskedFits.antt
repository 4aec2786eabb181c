-- What a task asks for, where its register is present and its function known: it has room in the task's word, and the tests on the word's fields
-- say the same.
use Prim.Native.Nat.{ℕ, ◌+◌, ◌*◌, ◌/◌, ◌%◌}
use mathlib.Core.Path.{◌≡◌, refl, ap, ◌∙◌}
use mathlib.Core.Bool.{Bool, true, false, cond, not, ◌&&◌, ◌||◌}
use mathlib.Core.List.{List}
use native.Mathlib.Decide.{ℕ_discrete}
use native.Mathlib.Omega.{arith}
use borrow.Author.Tests.{ltb-true, leb-true, ne_eqb}
use lib.Dec.{eqb, ltb, leb}
use lib.ListN.{get_or}
use Rattle.lists.specs.Tests.{and_fst, and_snd}
use Rattle.names.specs.Update.{known_function}
use Rattle.channel.specs.Layout.{cards_of, registers_of}
use Rattle.channel.specs.declared.Limits.{Limits}
use Rattle.names.specs.Letters.{function_fits}
use Rattle.channel.specs.Letters.{limits_of}
use Rattle.channel.proofs.Offered.{registers_most, limits_are}
use Rattle.tables.specs.declared.Doing.{Doing}
use Rattle.tables.specs.declared.Doing.TheVariants.{Quiet, AskingRead, AskingUpdate, Waiting, DoneRead, DoneUpdate}
use Rattle.tables.specs.Layout.{value_word, home_in}
use Rattle.tables.specs.Doings.{doing_of, doing_register, doing_function, doing_kind_in, asked_in, doing_function_in, doing_in, DoingPacks}
use Rattle.tables.specs.Sized.{doing_fits, asked_fits, task_fits}

pub doing_packs : (cs : List ℕ) (d : Doing) → doing_fits cs d ≡ true → DoingPacks d
unfolding doing_fits doing_register doing_function known_function
doing_packs cs Quiet e = record { register = omega arith; function = omega arith }
doing_packs cs (AskingRead x) e =
    let r = ltb-true x.0 (registers_of cs) e in
    record { register = omega (arith, registers_most cs); function = omega arith }
doing_packs cs (AskingUpdate x f w) e =
    let r = ltb-true x.0 (registers_of cs) (and_fst (ltb x.0 (registers_of cs)) (leb 1 f && leb f 5) e) in
    let m = leb-true f 5 (and_snd (leb 1 f) (leb f 5) (and_snd (ltb x.0 (registers_of cs)) (leb 1 f && leb f 5) e)) in
    record { register = omega (arith, registers_most cs); function = omega arith }
doing_packs cs Waiting e = record { register = omega arith; function = omega arith }
doing_packs cs (DoneRead v) e = record { register = omega arith; function = omega arith }
doing_packs cs (DoneUpdate v) e = record { register = omega arith; function = omega arith }

pub asked_fits_lem : (cs : List ℕ) (k x f v : ℕ) → asked_fits (limits_of cs) k x f ≡ doing_fits cs (doing_of k (record { 0 = x }) f v)
unfolding asked_fits function_fits doing_of doing_fits
asked_fits_lem cs k x f v = rw (limits_are cs) (go (ℕ_discrete k 1) (ℕ_discrete k 2))
  where
    others : (a b c : Bool) → true ≡ doing_fits cs (cond a Quiet (cond b Waiting (cond c (DoneRead v) (DoneUpdate v))))
    others true b c = refl
    others false true c = refl
    others false false true = refl
    others false false false = refl

    go : Dec (k ≡ 1) → Dec (k ≡ 2)
        → ((not (eqb k 1 || eqb k 2) || ltb x (registers_of cs)) && (not (eqb k 2) || known_function f))
        ≡ doing_fits cs (cond (eqb k 0) Quiet (cond (eqb k 1) (AskingRead (record { 0 = x })) (cond (eqb k 2) (AskingUpdate (record { 0 = x }) f v)
        (cond (eqb k 3) Waiting (cond (eqb k 4) (DoneRead v) (DoneUpdate v))))))
    go (yes e) d = rw e (and_true (ltb x (registers_of cs)))
      where
        and_true : (b : Bool) → (b && true) ≡ b
        and_true true = refl
        and_true false = refl
    go (no n) (yes e) = rw e
    go (no n) (no m) = rw (ne_eqb k 1 n, ne_eqb k 2 m) (others (eqb k 0) (eqb k 3) (eqb k 4))

-- the tests on task t's word, whose place is p
pub task_fits_lem : (rs cs : List ℕ) (z : Limits) (t p : ℕ) → z ≡ limits_of cs → p ≡ t % 16
    → (ltb (home_in (get_or rs (1 + p * 2) 0)) z.cards && leb (get_or rs (1 + p * 2) 0 % 8) 5
    && asked_fits z (get_or rs (1 + p * 2) 0 % 8) (get_or rs (1 + p * 2) 0 / 8 % 32) (get_or rs (1 + p * 2) 0 / 256 % 8)) ≡ task_fits rs cs t
unfolding task_fits doing_in doing_kind_in asked_in doing_function_in
task_fits_lem rs cs z t p e q =
    let w : ℕ = get_or rs (1 + t % 16 * 2) 0 in
    rw (e, q)
    (ap (λ (z : Limits). ltb (home_in w) z.cards && leb (w % 8) 5 && asked_fits (limits_of cs) (w % 8) (w / 8 % 32) (w / 256 % 8)) (limits_are cs)
    ∙ ap (λ b. ltb (home_in w) (cards_of cs) && leb (w % 8) 5 && b) (asked_fits_lem cs (w % 8) (w / 8 % 32) (w / 256 % 8) (get_or rs (value_word t) 0)))
