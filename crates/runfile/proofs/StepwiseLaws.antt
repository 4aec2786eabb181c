-- A run step by step is the run over the list of its steps, and what it counts is what stands in its answers.
use Prim.Native.Nat.{ℕ, zero, suc, ◌+◌}
use mathlib.Core.Path.{◌≡◌, sym, ap, ap₂, ◌∙◌}
use mathlib.Core.Bool.{cond}
use mathlib.Core.List.{List, ◌∷◌}
use lib.ListN.{length}
use Rattle.lists.specs.Loops.{turns_zero, turns_suc, turns_more, total}
use Rattle.lists.specs.Listings.{listing, listing_zero, listing_cons, listing_cong, listing_length}
use Rattle.lists.specs.Counts.{filter_listing}
use Rattle.lists.specs.Counting.{filter_split}
use Rattle.names.specs.Step.{RawStep}
use Rattle.names.specs.declared.Answer.{Answer}
use Rattle.store.specs.SideBySide.{advanced, advance, answers_advancing}
use Rattle.store.specs.Run.{Store}
use Rattle.names.specs.Results.{is_taken}
use Rattle.runfile.specs.Run.{is_refused, taken_of, refused_of}
use Rattle.runfile.specs.Stepwise.{store_at, answer_at}

module _ (step : ℕ → RawStep) (m : Store) where
  pub store_zero : store_at step m 0 ≡ m
  unfolding store_at
  store_zero = turns_zero (λ j n. advance n (step j)) m

  pub store_suc : (k : ℕ) → store_at step m (suc k) ≡ advance (store_at step m k) (step k)
  unfolding store_at
  store_suc k = turns_suc (λ j n. advance n (step j)) k m

  pub store_more : (k : ℕ) → store_at step m (k + 1) ≡ advance (store_at step m k) (step k)
  unfolding store_at
  store_more k = turns_more (λ j n. advance n (step j)) k m

  -- the answer of step k from memories that are the store's after k steps
  pub answer_is : (k : ℕ) (rs cs : List ℕ) → rs ≡ (store_at step m k).registers → cs ≡ (store_at step m k).channel
      → (advanced rs cs (step k).code (step k).argument).answer ≡ answer_at step m k
  unfolding answer_at
  answer_is k rs cs p q = ap₂ (λ a b. (advanced a b (step k).code (step k).argument).answer) p q

-- the first step, then the others
store_shift : (step : ℕ → RawStep) (m : Store) (k : ℕ) → store_at (λ j. step (suc j)) (advance m (step 0)) k ≡ store_at step m (suc k)
store_shift step m zero = store_zero (λ j. step (suc j)) (advance m (step 0)) ∙ sym (store_suc step m 0 ∙ ap (λ n. advance n (step 0)) (store_zero step m))
store_shift step m (suc k) =
    store_suc (λ j. step (suc j)) (advance m (step 0)) k ∙ ap (λ n. advance n (step (suc k))) (store_shift step m k) ∙ sym (store_suc step m (suc k))

answer_shift : (step : ℕ → RawStep) (m : Store) (k : ℕ) → answer_at (λ j. step (suc j)) (advance m (step 0)) k ≡ answer_at step m (suc k)
unfolding answer_at
answer_shift step m k = ap (λ (n : Store). (advanced n.registers n.channel (step (suc k)).code (step (suc k)).argument).answer) (store_shift step m k)

answer_first : (step : ℕ → RawStep) (m : Store) → answer_at step m 0 ≡ (advanced m.registers m.channel (step 0).code (step 0).argument).answer
unfolding answer_at
answer_first step m = ap (λ (n : Store). (advanced n.registers n.channel (step 0).code (step 0).argument).answer) (store_zero step m)

pub answers_listed : (n : ℕ) (step : ℕ → RawStep) (m : Store) → listing (answer_at step m) n ≡ answers_advancing m (listing step n)
answers_listed zero step m = listing_zero (answer_at step m) ∙ ap (answers_advancing m) (sym (listing_zero step))
answers_listed (suc n) step m =
    listing_cons (answer_at step m) n
    ∙ ap₂ (λ (x : Answer) (y : List Answer). x ∷ y) (answer_first step m)
    (listing_cong _ _ n (λ k h. sym (answer_shift step m k)) ∙ answers_listed n (λ j. step (suc j)) (advance m (step 0)))
    ∙ ap (answers_advancing m) (sym (listing_cons step n))

-- the counts
pub taken_counted : (answer : ℕ → Answer) (n : ℕ) → total (λ j. cond (is_taken (answer j).result) 1 0) n ≡ taken_of (listing answer n)
taken_counted answer n = sym (filter_listing (λ a. is_taken a.result) answer n)

pub refused_counted : (answer : ℕ → Answer) (n : ℕ) → total (λ j. cond (is_refused (answer j).result) 1 0) n ≡ refused_of (listing answer n)
refused_counted answer n = sym (filter_listing (λ a. is_refused a.result) answer n)

-- each answer is counted once, as taken or as refused
pub each_counted : (answers : List Answer) → taken_of answers + refused_of answers ≡ length answers
unfolding is_refused
each_counted answers = sym (filter_split (λ a. is_taken a.result) answers)

pub both_counted : (answer : ℕ → Answer) (n : ℕ)
    → total (λ j. cond (is_taken (answer j).result) 1 0) n + total (λ j. cond (is_refused (answer j).result) 1 0) n ≡ n
both_counted answer n = ap₂ ◌+◌ (taken_counted answer n) (refused_counted answer n) ∙ each_counted (listing answer n) ∙ listing_length answer n
