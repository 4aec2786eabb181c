-- The steps of a load place by place, and both arrays of its file filled in turn.
use Prim.Native.Nat.{ℕ, zero, suc}
use mathlib.Core.Path.{◌≡◌, refl, sym, ap, ap₂, ◌∙◌}
use mathlib.Core.List.{List, [], ◌∷◌, ◌++◌, map}
use lib.ListN.{length}
use lib.Seq.{sets, length-sets}
use Rattle.lists.specs.Listings.{listing, listing_zero, listing_cons, listing_cong, map_listing}
use Rattle.lists.specs.Loops.{turns, turns_zero, turns_suc}
use Rattle.names.specs.Step.{RawStep}
use Rattle.runfile.specs.RunFile.{joined}
use Rattle.runfile.proofs.ParallelArrays.{turn, one_behind_other}
use Rattle.loads.specs.Load.{Field, next, draw, fields, place, bytes, zeros, code_from, after_step, drawn, filled, step_from, steps_from}

-- the state before step k
abbrev pub state_at : ℕ → ℕ → ℕ
state_at seed k = turns (λ _ s. after_step s) k seed

state_first : (seed k : ℕ) → state_at (after_step seed) k ≡ state_at seed (suc k)
state_first seed zero = turns_zero (λ _ s. after_step s) (after_step seed) ∙ sym (turns_suc (λ _ s. after_step s) 0 seed ∙ ap after_step (turns_zero (λ _ s. after_step s) seed))
state_first seed (suc k) = turns_suc (λ _ s. after_step s) k (after_step seed) ∙ ap after_step (state_first seed k) ∙ sym (turns_suc (λ _ s. after_step s) (suc k) seed)

module _ (cards registers tasks : ℕ) where
  filled_length : (fs : List Field) (state : ℕ) (a : List ℕ) → length (filled cards registers tasks fs state a) ≡ length a
  unfolding filled
  filled_length [] state a = refl
  filled_length (f ∷ fs) state a =
      filled_length fs (next state) (sets a (place f) (bytes f (drawn cards registers tasks f (draw state))))
      ∙ length-sets a (place f) (bytes f (drawn cards registers tasks f (draw state)))

  pub eight : (state : ℕ) → length (step_from cards registers tasks state).argument ≡ 8
  eight state = filled_length (fields (code_from state)) (next state) zeros

  abbrev pub step_at : ℕ → ℕ → RawStep
  step_at seed k = step_from cards registers tasks (state_at seed k)

  pub steps_at : (n seed : ℕ) → steps_from cards registers tasks n seed ≡ listing (step_at seed) n
  unfolding steps_from
  steps_at zero seed = sym (listing_zero (step_at seed))
  steps_at (suc n) seed =
      ap₂ ◌∷◌ (ap (step_from cards registers tasks) (sym (turns_zero (λ _ s. after_step s) seed)))
      (steps_at n (after_step seed) ∙ listing_cong (step_at (after_step seed)) (λ k. step_at seed (suc k)) n (λ k h. ap (step_from cards registers tasks) (state_first seed k)))
      ∙ sym (listing_cons (step_at seed) n)

  -- one step more, in both arrays
  abbrev pub step_put : ℕ → ℕ → ℕ → ℕ → List ℕ → List ℕ
  step_put codes n seed = turn (λ k. (step_at seed k).code) (λ k. (step_at seed k).argument) 8 (λ k. eight (state_at seed k)) codes n []

  pub steps_put : (codes n seed : ℕ) (out : List ℕ)
      → turns (step_put codes n seed) n out
      ≡ sets out codes (map (λ s. s.code) (steps_from cards registers tasks n seed) ++ joined (map (λ s. s.argument) (steps_from cards registers tasks n seed)))
  steps_put codes n seed out =
      one_behind_other (λ k. (step_at seed k).code) (λ k. (step_at seed k).argument) 8 (λ k. eight (state_at seed k)) codes n out
      ∙ sym (ap (λ l. sets out codes (map (λ s. s.code) l ++ joined (map (λ s. s.argument) l))) (steps_at n seed)
      ∙ ap₂ (λ a b. sets out codes (a ++ joined b)) (map_listing (λ s. s.code) (step_at seed) n) (map_listing (λ s. s.argument) (step_at seed) n))
