-- Only a 10 reports, and a 10 is taken of a task that is done.
use Prim.Native.Nat.{suc, ℕ}
use lib.ListN.{length}
use mathlib.Core.Bool.{Bool, cond, false, true}
use mathlib.Core.List.{List, [], ◌∷◌}
use mathlib.Core.Option.{Option, none, some}
use mathlib.Core.Path.{ap, refl, ◌≡◌}
use native.Mathlib.Omega.{arith}
use Rattle.names.specs.Placement.{Placement}
use Rattle.registers.specs.Layer.{Msg, Status, unvalued}
use Rattle.claims.specs.Command.{Command}
use Rattle.claims.specs.Ledger.{Action, Ledger, Op, about, headed, plan, stage_of, telling}
use Rattle.claims.specs.Refusals.{report_refusal}
use Rattle.claims.specs.Command as K
use Rattle.claims.specs.Ledger as L
use Rattle.claims.specs.Refusals as S
use Rattle.registers.specs.Layer as R

-- the task that an action reports for, above 0
abbrev pub reporter : Action unvalued → ℕ
reporter (L.request o) = 0
reporter (L.perform c k) = 0
reporter (L.send c k i) = 0
reporter (L.dispatch i m) = 0
reporter (L.take_broadcast i) = 0
reporter (L.take_single c) = 0
reporter (L.deliver m i) = 0
reporter (L.report c k w) = suc c

abbrev pub reporter_of : Option (Action unvalued) → ℕ
reporter_of none = 0
reporter_of (some d) = reporter d

about_none : (s : Status unvalued) (f : ℕ → Action unvalued) → ((k : ℕ) → reporter (f k) ≡ 0) → reporter_of (about s f) ≡ 0
about_none R.quiet f e = refl
about_none (R.asking k) f e = e k
about_none (R.waiting k) f e = e k
about_none (R.done k v) f e = e k

headed_none : (l : List (Msg unvalued)) (f : Msg unvalued → Action unvalued) → ((m : Msg unvalued) → reporter (f m) ≡ 0) → reporter_of (headed l f) ≡ 0
headed_none [] f e = refl
headed_none (m ∷ l) f e = e m

telling_own : (s : Status unvalued) (c t : ℕ) → reporter_of (telling s (Action.report c)) ≡ suc t → c ≡ t
telling_own R.quiet c t e = absurd (omega arith)
telling_own (R.asking k) c t e = absurd (omega arith)
telling_own (R.waiting k) c t e = absurd (omega arith)
telling_own (R.done k v) c t e = omega arith

not_this : {A : Type 0} (n t : ℕ) → n ≡ 0 → n ≡ suc t → A
not_this n t e q = absurd (omega arith)

pub only_ten : (P : Placement) (b : Ledger unvalued) (c : Command) (t : ℕ) → reporter_of (plan P b c) ≡ suc t → c ≡ K.report t
only_ten P b (K.request_read c x) t e = not_this 0 t refl e
only_ten P b (K.request_update c x f w) t e = not_this 0 t refl e
only_ten P b (K.perform c) t e = not_this _ t (about_none (b.layer.status c) (Action.perform c) (λ k. refl)) e
only_ten P b (K.send_read c i) t e = not_this _ t (about_none (b.layer.status c) (λ k. Action.send c k i) (λ k. refl)) e
only_ten P b (K.send_update c) t e = not_this _ t (about_none (b.layer.status c) (λ k. Action.send c k 0) (λ k. refl)) e
only_ten P b (K.dispatch i) t e = not_this _ t (headed_none (b.layer.out i) (Action.dispatch i) (λ m. refl)) e
only_ten P b (K.take_broadcast i) t e = not_this 0 t refl e
only_ten P b (K.take_single c) t e = not_this 0 t refl e
only_ten P b (K.deliver i) t e = not_this _ t (headed_none (b.channel.inbox i) (λ m. Action.deliver m i) (λ m. refl)) e
only_ten P b (K.report c) t e = ap K.report (telling_own (b.layer.status c) c t e)

pub no_longer : {A : Type 0} (ds : List (Action unvalued)) (d : Action unvalued) → ds ≡ d ∷ ds → A
no_longer ds d e = let q = ap length e in absurd (omega arith)

abbrev pub first_reporter : List (Action unvalued) → ℕ
first_reporter [] = 0
first_reporter (d ∷ ds) = reporter d

-- a 10 is taken of a task that is done
pub done_then : (ops : List Op) (s : Status unvalued) → report_refusal (stage_of ops s) ≡ 0 → (k : ℕ) × (s ≡ R.done k tt)
done_then ops R.quiet e = absurd (omega arith)
done_then ops (R.asking k) e = absurd (go (ops_at k) (ops_at k).upd e)
  where
    ops_at : ℕ → Op
    ops_at j = L.op_at ops j

    go : (o : Op) (t : Bool) → report_refusal (cond t (S.asks_update o.reg) (S.asks_read o.reg)) ≡ 0 → ⊥
    go o true z = omega arith
    go o false z = omega arith
done_then ops (R.waiting k) e = absurd (omega arith)
done_then ops (R.done k v) e = (k, refl)
