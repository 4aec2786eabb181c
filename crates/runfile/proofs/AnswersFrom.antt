-- The answers of the algorithm that the store runs to a list of steps from a start: one for each, and none is 6.
use mathlib.Core.Path.{◌≡◌, refl, sym, ap, ◌∙◌, subst}
use mathlib.Core.Logic.{◌≢◌}
use mathlib.Core.List.{List, [], ◌∷◌, ◌++◌}
use lib.ListN.{length}
use Prim.Native.Nat.{suc}
use Rattle.lists.specs.Histories.{In, here, there}
use Rattle.names.specs.Placement.{Placement, placement_refusal}
use Rattle.names.specs.declared.Answer.{Answer}
use Rattle.claims.specs.Steps.{RawStep, decode}
use Rattle.claims.specs.Found.{Found, begin}
use Rattle.claims.specs.FoundRun.{after_decoded, answers_from, final_from}
use Rattle.claims.proofs.NeverSix.{never_6_answer}

module _ (P : Placement) where
  pub one_each : (s : Found) (l : List RawStep) → length (answers_from P s l) ≡ length l
  one_each s [] = refl
  one_each s (a ∷ l) = ap suc (one_each (after_decoded P s (decode P a)) l)

  final_snoc : (s : Found) (l : List RawStep) (a : RawStep) → final_from P s (l ++ (a ∷ [])) ≡ after_decoded P (final_from P s l) (decode P a)
  final_snoc s [] a = refl
  final_snoc s (b ∷ l) a = final_snoc (after_decoded P s (decode P b)) l a

  pub no_six : placement_refusal P ≡ 0 → (before l : List RawStep) (a : Answer) → In a (answers_from P (final_from P begin before) l) → a.result ≢ 6
  no_six ok before [] a x'' q = elim x'' [ ]
  no_six ok before (b ∷ l) a (here e) q = never_6_answer P ok before b (ap (λ (x : Answer). x.result) e ∙ q)
  no_six ok before (b ∷ l) a (there h) q =
      no_six ok (before ++ (b ∷ [])) l a (subst (λ s. In a (answers_from P s l)) (sym (final_snoc begin before b)) h) q
