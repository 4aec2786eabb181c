-- What `runfile::answer` says of a run, taken apart; and that a run counted at once is its results counted one by one.
use Prim.Native.Nat.{ℕ}
use mathlib.Core.Path.{◌≡◌, refl, sym, ap, ap₂, ◌∙◌, subst}
use mathlib.Core.Bool.{Bool, true, false, cond, not}
use mathlib.Core.List.{List, map}
use lib.Dec.{eqb, eqb→eq, T}
use borrow.Author.Tests.{eq-eqb, ne_eqb}
use Rattle.lists.specs.Maps.{length_filter_map}
use Rattle.names.specs.declared.Answer.{Answer}
use Rattle.tally.specs.declared.Tally.{Tally}
use Rattle.names.specs.Results.{is_taken}
use Rattle.tally.specs.Tally.{counted, counted_steps, taken_in, refused_in}
use Rattle.tally.proofs.TallyLaws.{Fits, counted_none, all_at_once}
use Rattle.runfile.specs.Run.{Answered, answers_in, is_refused, taken_of, refused_of, answer_refusal, answered_of}
use Rattle.firmware.specs.RunTally.{ran_tally}

-- the refusal, where it is 0 and where it is not
abbrev Said : Bool → List ℕ → List ℕ → Answered
Said b file out =
    cond b
    (record { refusal = 0; taken = taken_of (answers_in file); refused = refused_of (answers_in file) })
    (record { refusal = answer_refusal file out; taken = 0; refused = 0 })

said_is : (file out : List ℕ) (b : Bool) → eqb (answer_refusal file out) 0 ≡ b → answered_of file out ≡ Said b file out
unfolding answered_of
said_is file out b e = rw e refl

zero_of : (n : ℕ) → eqb n 0 ≡ true → n ≡ 0
zero_of n e = eqb→eq n 0 (subst T (sym e) tt)

pub refusal_is : (file out : List ℕ) → (answered_of file out).refusal ≡ answer_refusal file out
refusal_is file out = go (eqb (answer_refusal file out) 0) refl
  where
    go : (b : Bool) → eqb (answer_refusal file out) 0 ≡ b → (answered_of file out).refusal ≡ answer_refusal file out
    go true e = rw (said_is file out true e) (sym (zero_of _ e))
    go false e = rw (said_is file out false e) refl

-- a run's steps counted at once: as one by one
pub ran_one_by_one : (file out : List ℕ) (t : Tally) → Fits t → answer_refusal file out ≡ 0 → ran_tally file out t ≡ counted_steps t (map (λ a. a.result) (answers_in file))
unfolding ran_tally taken_in refused_in is_refused
ran_one_by_one file out t f e =
    ap (λ s. counted t s.taken s.refused) (said_is file out true (eq-eqb (answer_refusal file out) 0 e))
    ∙ ap₂ (counted t)
    (sym (length_filter_map (λ (a : Answer). a.result) (λ a. is_taken a.result) is_taken (λ a. refl) (answers_in file)))
    (sym (length_filter_map (λ (a : Answer). a.result) (λ a. not (is_taken a.result)) (λ r. not (is_taken r)) (λ a. refl) (answers_in file)))
    ∙ sym (all_at_once t (map (λ a. a.result) (answers_in file)) f)

-- a refused file or output leaves the tally alone
pub refused_alone : (file out : List ℕ) (t : Tally) → Fits t → ¬ (answer_refusal file out ≡ 0) → ran_tally file out t ≡ t
unfolding ran_tally
refused_alone file out t f n =
    ap (λ s. counted t s.taken s.refused) (said_is file out false (ne_eqb (answer_refusal file out) 0 n)) ∙ counted_none t f
