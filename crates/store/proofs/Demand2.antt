-- Demand 2: any two memories show a state of the algorithm that the store runs, each step of the store on well-sized ones is its step, and that is
-- the published one once the values found are forgotten.
use Prim.Native.Nat.{ℕ}
use mathlib.Core.Path.{ap, ◌∙◌}
use mathlib.Core.List.{List}
use Rattle.names.specs.Placement.{Placement}
use Rattle.claims.specs.Steps.{RawStep, decode}
use Rattle.claims.specs.Found.{Found, begin}
use Rattle.claims.specs.FoundRun.{after_decoded}
use Rattle.claims.specs.ForgetFound.{forget_answer, forget_answers}
use Rattle.claims.proofs.ForgetFound.{commutes}
use Rattle.store.specs.Step.{stepped}
use Rattle.store.specs.Demand2.{Demand2, PublishedAnswers, Stands, StepPublished}
use Rattle.store.specs.Run.{started}
use Rattle.store.proofs.SomeState.{some_state}
use Rattle.store.proofs.StartLaw.{start_stands}
use Rattle.store.proofs.StepLaw.{step_follows, ill_sized}
use Rattle.store.proofs.Demand3.{answers_same}

step_published : (rs cs : List ℕ) (P : Placement) (s : Found) → Stands rs cs P s → (a : RawStep) → StepPublished P s (stepped rs cs a.code a.argument) (decode P a)
step_published rs cs P s z a =
    let k = step_follows rs cs P s z a in
    record {
      answer= = ap (forget_answer s (decode P a)) k.answer= ∙ (commutes P).answer s (decode P a);
      next = after_decoded P s (decode P a);
      stands = k.stands;
      next= = (commutes P).after s (decode P a);
    }

pub demand_2 : Demand2
demand_2 = record { some = some_state; published = step_published; step = step_follows; ill_sized = ill_sized }

pub published_answers : PublishedAnswers
published_answers P ok m steps =
    ap (forget_answers P begin steps) (answers_same P (started P m) begin steps (start_stands P ok m)) ∙ (commutes P).answers begin steps
