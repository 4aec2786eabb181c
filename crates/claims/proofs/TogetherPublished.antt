-- The published algorithm and the two layers go together: what Together and ChannelEffects say of the algorithm that the store runs, with the values
-- that updates found forgotten.
use Prim.Native.Nat.{ℕ}
use mathlib.Core.List.{List, ◌∷◌}
use mathlib.Core.Path.{ap, sym, ◌∙◌, ◌≡◌}
use Rattle.names.specs.Placement.{Placement, placement_refusal}
use Rattle.claims.proofs.Executions.{Execution}
use Rattle.claims.proofs.ForgetFound.{commutes, effect_forgets}
use Rattle.claims.proofs.FoundShown.{forget_shown}
use Rattle.claims.proofs.Shown.{numbers, shown}
use Rattle.claims.specs.Command.{Command}
use Rattle.claims.specs.ForgetFound.{forget}
use Rattle.claims.specs.Ledger.{Action, paper}
use Rattle.claims.specs.Published.{begin, effect}
use Rattle.claims.specs.PublishedRun.{final_from}
use Rattle.claims.specs.Steps.{RawStep}
use Rattle.claims.proofs.ChannelEffects as E
use Rattle.claims.proofs.FoundShown as S
use Rattle.claims.proofs.Together as T
use Rattle.claims.specs.Command as K
use Rattle.claims.specs.Found as F

module _ (P : Placement) (ok : placement_refusal P ≡ 0) where
  pub together : (l : List RawStep) → final_from P begin l ≡ shown P (paper P l)
  together l = sym ((commutes P).final F.begin l) ∙ ap forget (T.together P ok l) ∙ forget_shown P (paper P l)

  module _ (ds : List (Action numbers)) where
    does : (c : Command) (d : Action numbers) → F.effect P (S.shown P ds) c ≡ S.shown P (d ∷ ds) → effect P (shown P ds) c ≡ shown P (d ∷ ds)
    does c d e = ap (λ s. effect P s c) (sym (forget_shown P ds)) ∙ effect_forgets P (S.shown P ds) c ∙ ap forget e ∙ forget_shown P (d ∷ ds)

    -- 7
    pub does_take : (i : ℕ) → Execution P (Action.take_broadcast i ∷ ds) → effect P (shown P ds) (K.take_broadcast i) ≡ shown P (Action.take_broadcast i ∷ ds)
    does_take i f = does (K.take_broadcast i) (Action.take_broadcast i) (E.does_take P ok ds i f)

    -- 8
    pub does_single : (c : ℕ) → Execution P (Action.take_single c ∷ ds) → effect P (shown P ds) (K.take_single c) ≡ shown P (Action.take_single c ∷ ds)
    does_single c f = does (K.take_single c) (Action.take_single c) (E.does_single P ok ds c f)
