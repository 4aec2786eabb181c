-- A channel from its beginning: `begin` gives a well-sized memory that shows the initial state, and any list of calls from there follows the
-- idealised channel.
use Prim.Native.Nat.{ℕ, ◌≤◌}
use mathlib.Core.Path.{◌≡◌, refl}
use mathlib.Core.Bool.{Bool, true, false, cond, ◌&&◌}
use mathlib.Core.List.{List}
use native.Mathlib.Omega.{arith}
use borrow.Author.Tests.{leb-true}
use lib.Dec.{leb}
use Rattle.lists.specs.Tests.{and_fst, and_snd}
use Rattle.lists.specs.Conjunctions.{and_five}
use Rattle.std.specs.Prelude.{Ok, Err}
use Rattle.names.specs.declared.refusals.Refusal.TheVariants.{SizeOutOfRange}
use Rattle.names.specs.declared.refusals.Taken.TheVariants.{Done}
use Rattle.automaton.specs.Refusals.{otherwise}
use Rattle.channel.specs.Layout.{cards_of, tasks_of, registers_of}
use Rattle.names.specs.Refusals.{result_number}
use Rattle.channel.specs.Begin.{sizes_fit, begun, begin_answer, begin_memory}
use Rattle.channel.specs.MemoryCalls.{Call, BeginFollows, RunFollows}
use Rattle.channel.proofs.WellSizedParts.{of_fit}
use Rattle.channel.proofs.BeginLaw.{begun_long, begun_shows, begun_fit, cards_is, tasks_is, registers_is}
use Rattle.channel.proofs.RunLaw.{run_follows}

begin_sizes : (cards tasks registers : ℕ) → sizes_fit cards tasks registers ≡ true
    → (cards_of (begun cards tasks registers) ≡ cards) × (tasks_of (begun cards tasks registers) ≡ tasks) × (registers_of (begun cards tasks registers) ≡ registers)
unfolding cards_of tasks_of registers_of sizes_fit
begin_sizes c t r ok =
    let first = and_fst (leb 1 c && leb c 8 && leb 1 t && leb t 16 && leb 1 r) (leb r 32) ok in
    let u = and_five (leb 1 c) (leb c 8) (leb 1 t) (leb t 16) (leb 1 r) first in
    let x : c ≤ 8 = leb-true c 8 u.1 in
    let y : t ≤ 16 = leb-true t 16 u.3 in
    let z : r ≤ 32 = leb-true r 32 (and_snd (leb 1 c && leb c 8 && leb 1 t && leb t 16 && leb 1 r) (leb r 32) ok) in
    rw (cards_is c t r ok, tasks_is c t r ok, registers_is c t r ok) (omega arith, omega arith, omega arith)

pub begin_follows : (ws : List ℕ) (cards tasks registers : ℕ) → BeginFollows ws cards tasks registers
unfolding begin_answer begin_memory
begin_follows ws cards tasks registers = record {
  number = pick (sizes_fit cards tasks registers);
  untouched = λ e. rw e;
  sizes = λ e. rw e (begin_sizes cards tasks registers e);
  shows = λ e. rw e (begun_shows cards tasks registers e);
}
  where
    pick : (b : Bool) → result_number (cond b (Ok Done) (Err SizeOutOfRange)) ≡ otherwise 3 b
    pick true = refl
    pick false = refl

-- any list of calls, once `begin` has taken the sizes
pub channel_follows : (ws : List ℕ) (cards tasks registers : ℕ) → sizes_fit cards tasks registers ≡ true → (cs : List Call)
    → RunFollows (begin_memory ws cards tasks registers) cs
unfolding begin_memory
channel_follows ws cards tasks registers ok cs =
    rw ok (run_follows (begun cards tasks registers) (begun_long cards tasks registers ok)
    (of_fit (begun cards tasks registers) (begun_fit cards tasks registers ok)) (begun_shows cards tasks registers ok) cs)
