-- Step 3.
use Prim.Native.Nat.{ℕ, ◌<◌}
use mathlib.Core.Path.{◌≡◌, refl, ◌∙◌}
use mathlib.Core.Logic.{◌≢◌}
use mathlib.Core.Bool.{Bool, true, false, cond}
use mathlib.Core.List.{List}
use native.Mathlib.Omega.{arith}
use borrow.Author.Tests.{ltb-true}
use lib.Dec.{ltb}
use lib.ListN.{set, length-set}
use Rattle.lists.specs.Tests.{and_fst}
use Rattle.names.specs.declared.Register.{Register}
use Rattle.names.specs.Update.{updated, known_function}
use Rattle.names.specs.Placement.{Placement, home}
use Rattle.automaton.specs.Refusals.{otherwise}
use Rattle.channel.specs.Layout.{cards_of, tasks_of, registers_of}
use Rattle.channel.proofs.Offered.{cards_most, tasks_most, registers_most}
use Rattle.claims.specs.Command.{perform}
use Rattle.claims.specs.Steps.{good}
use Rattle.claims.specs.Refusals.{perform_refusal}
use Rattle.claims.specs.Refusals as R
use Rattle.claims.specs.Found.{Found, set_copy, performing, stage}
use Rattle.tables.specs.declared.Doing.{Doing}
use Rattle.tables.specs.declared.Doing.TheVariants.{Quiet, AskingRead, AskingUpdate, Waiting, DoneRead, DoneUpdate}
use Rattle.tables.specs.Layout.{copy_word, home_of, holds, copy_of}
use Rattle.tables.specs.Doings.{doing_at}
use Rattle.store.specs.Perform.{alone, perform_read_number, perform_read_words, perform_update_number, copy_updated_at, copy_updated, perform_update_words, perform_number_of, perform_words_of, perform_number, perform_words}
use Rattle.tables.specs.Sized.{doing_fits}
use Rattle.store.specs.Step.{outcome}
use Rattle.tables.specs.Shows.{status_of}
use Rattle.store.specs.Demand2.{StepFollows}
use Rattle.tables.proofs.Showing.{copy_show}
use Rattle.tables.proofs.Sizing.{copy_fit}
use Rattle.store.proofs.Standing.{Ready, home_there, holds_is, registers_ready, follows}
use Rattle.store.proofs.RequestLaw.{doing_ready}

module _ (rs cs : List ℕ) (P : Placement) (s : Found) (z : Ready rs cs P s) where
  -- the register that an asking task asks for is present
  pub reads_there : (x : Register) → doing_fits cs (AskingRead x) ≡ true → x.0 < registers_of cs
  unfolding doing_fits
  reads_there x e = ltb-true _ _ e

  pub updates_there : (x : Register) (f w : ℕ) → doing_fits cs (AskingUpdate x f w) ≡ true → x.0 < registers_of cs
  unfolding doing_fits
  updates_there x f w e = ltb-true _ _ (and_fst (ltb x.0 (registers_of cs)) (known_function f) e)

  -- the only holder
  pub alone_is : (x i : ℕ) → x < registers_of cs → i < cards_of cs → R.alone P x i ≡ alone rs x i
  unfolding alone
  alone_is x i h g = rw (holds_is rs cs P s z x i h g, z.show.holders= x h)

  -- card i's copy of register x after an update
  pub updated_ready : (i x f w : ℕ) → i < cards_of cs → x < registers_of cs
      → Ready (copy_updated rs i x f w) cs P (record { requests = s.requests; status = s.status; table = set_copy i x (updated f w (s.table i x)) s.table; out = s.out; channel = s.channel })
  unfolding copy_updated_at
  updated_ready i x f w h g =
      rw (z.show.table= i x h g)
      (registers_ready rs cs P s z (set rs (copy_word i x) (updated f w (copy_of rs i x))) _ (length-set rs (copy_word i x) (updated f w (copy_of rs i x)) ∙ z.long)
      (copy_fit rs cs (cards_most cs) (tasks_most cs) (registers_most cs) z.long z.fit i x (updated f w (copy_of rs i x)))
      (copy_show rs (cards_of cs) (tasks_of cs) (registers_of cs) (cards_most cs) (tasks_most cs) (registers_most cs) P s z.long z.show s.channel i x h g (updated f w (copy_of rs i x)))
      refl)

  module _ (t : ℕ) (there : t < tasks_of cs) where
    home_is : home P t ≡ home_of rs t
    home_is = z.show.home= t there

    otherwise_is : (b : Bool) → ◌≡◌ {A = ℕ} (cond b 0 22) (otherwise 22 b)
    otherwise_is true = refl
    otherwise_is false = refl

    number_of : (d : Doing) → doing_fits cs d ≡ true → perform_number_of rs t d ≡ perform_refusal P (home P t) (stage P (status_of d))
    unfolding perform_number_of perform_read_number perform_update_number status_of
    number_of Quiet e = refl
    number_of (AskingRead x) e =
        rw (holds_is rs cs P s z x.0 (home P t) (reads_there x e) (home_there rs cs P s z t there), home_is) (otherwise_is (holds rs x.0 (home_of rs t)))
    number_of (AskingUpdate x f w) e =
        rw (alone_is x.0 (home P t) (updates_there x f w e) (home_there rs cs P s z t there), home_is) (otherwise_is (alone rs x.0 (home_of rs t)))
    number_of Waiting e = refl
    number_of (DoneRead v) e = refl
    number_of (DoneUpdate v) e = refl

    -- a test that refuses with 22 where it fails
    allowed : (b : Bool) → ◌≡◌ {A = ℕ} (cond b 0 22) 0 → b ≡ true
    allowed true q = refl
    allowed false q = absurd (omega arith)

    ready_of : (d : Doing) → doing_fits cs d ≡ true → perform_number_of rs t d ≡ 0 → Ready (perform_words_of rs t d) cs P (performing s t (home P t) (status_of d))
    unfolding perform_number_of perform_words_of perform_read_number perform_read_words perform_update_number perform_update_words status_of doing_fits
    ready_of Quiet e n = absurd (omega arith)
    ready_of (AskingRead x) e n =
        let h : home_of rs t < cards_of cs = rw (← home_is) (home_there rs cs P s z t there) in
        rw (allowed (holds rs x.0 (home_of rs t)) n, home_is, z.show.table= (home_of rs t) x.0 h (reads_there x e))
        (doing_ready rs cs P s z t there (DoneRead (copy_of rs (home_of rs t) x.0)) refl)
    ready_of (AskingUpdate x f w) e n =
        let h : home_of rs t < cards_of cs = rw (← home_is) (home_there rs cs P s z t there) in
        let u = updates_there x f w e in
        rw (allowed (alone rs x.0 (home_of rs t)) n, home_is, ← (z.show.table= (home_of rs t) x.0 h u))
        (doing_ready (copy_updated rs (home_of rs t) x.0 f w) cs P _ (updated_ready (home_of rs t) x.0 f w h u) t there (DoneUpdate (s.table (home_of rs t) x.0)) refl)
    ready_of Waiting e n = absurd (omega arith)
    ready_of (DoneRead v) e n = absurd (omega arith)
    ready_of (DoneUpdate v) e n = absurd (omega arith)

    refused_of_lem : (d : Doing) → perform_number_of rs t d ≢ 0 → perform_words_of rs t d ≡ rs
    unfolding perform_number_of perform_words_of perform_read_number perform_read_words perform_update_number perform_update_words
    refused_of_lem Quiet n = refl
    refused_of_lem (AskingRead x) n = go (holds rs x.0 (home_of rs t)) _ n
      where
        go : (b : Bool) (us : List ℕ) → ◌≢◌ {A = ℕ} (cond b 0 22) 0 → cond b us rs ≡ rs
        go true us q = absurd (q refl)
        go false us q = refl
    refused_of_lem (AskingUpdate x f w) n = go (alone rs x.0 (home_of rs t)) _ n
      where
        go : (b : Bool) (us : List ℕ) → ◌≢◌ {A = ℕ} (cond b 0 22) 0 → cond b us rs ≡ rs
        go true us q = absurd (q refl)
        go false us q = refl
    refused_of_lem Waiting n = refl
    refused_of_lem (DoneRead v) n = refl
    refused_of_lem (DoneUpdate v) n = refl

    pub perform_follows : StepFollows rs cs P s (outcome (perform_number rs t) (perform_words rs t) cs) (good (perform t))
    unfolding perform_number perform_words
    perform_follows =
        let e = z.fit.doing t there in
        let q = z.show.status= t there in
        follows rs cs P s z (perform_number rs t) (perform_words rs t) cs (perform t) (refl, refl)
        (rw q (number_of (doing_at rs t) e))
        (λ n. rw q (ready_of (doing_at rs t) e n))
        (λ n. (refused_of_lem (doing_at rs t) n, refl))
