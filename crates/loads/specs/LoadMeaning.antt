-- What a load is, stated apart from the definitions in specs/Load: which commands it has, from draws that are given in closed form; that the reader
-- accepts it and no step of it is refused with 10 to 15; that it is what the writer makes of the same tables.
use Rattle.std.specs.Prelude.{ℕ, zero, suc, ◌+◌, ◌*◌, ◌%◌, ◌/◌, ◌^◌, ◌≤◌, ◌≡◌, cond, List, [], ◌∷◌, map, eqb}
use Rattle.lists.specs.Histories.{In}
use Rattle.lists.specs.Loops.{total}
use Rattle.names.specs.Placement.{Placement, placement, tasks, registers, placement_refusal}
use Rattle.names.specs.declared.Answer.{Answer}
use Rattle.claims.specs.Command.{Command, request_read, request_update, perform, send_read, send_update, dispatch, take_broadcast, take_single, deliver, report}
use Rattle.claims.specs.Steps.{RawStep, good, decode}
use Rattle.claims.specs.Found.{Found}
use Rattle.store.specs.SideBySide.{Stands, result_of}
use Rattle.runfile.specs.RunFile.{run_file_in, file_refusal, joined}
use Rattle.runfile.specs.Run.{answers_in}
use Rattle.runfile.specs.Head.{head_of}
use Rattle.runfile.specs.Compose.{Tables, composed, compose_output, composed_of}
use Rattle.loads.specs.Load.{draw, next, load_of, load_file, load_output}

-- draw m from a seed, counted from 0: the high half of the state after m + 1 turns
abbrev pub draw_at : ℕ → ℕ → ℕ
draw_at seed m = (1664525 ^ suc m * seed + 1013904223 * total (λ i. 1664525 ^ i) (suc m)) % 4294967296 / 65536

-- the command that draws d 0, d 1, .. make, its code being 1 + d 0 % 10, and how many of them it takes (RULES 17.3, 3.3)
module _ (P : Placement) (d : ℕ → ℕ) where
  abbrev pub command_drawn : Command
  command_drawn =
      cond (eqb (d 0 % 10) 0) (request_read (d 1 % tasks P) (d 2 % registers P))
      (cond (eqb (d 0 % 10) 1) (request_update (d 1 % tasks P) (d 2 % registers P) (1 + d 3 % 5) (d 4))
      (cond (eqb (d 0 % 10) 2) (perform (d 1 % tasks P))
      (cond (eqb (d 0 % 10) 3) (send_read (d 1 % tasks P) (d 2 % P.cards))
      (cond (eqb (d 0 % 10) 4) (send_update (d 1 % tasks P))
      (cond (eqb (d 0 % 10) 5) (dispatch (d 1 % P.cards))
      (cond (eqb (d 0 % 10) 6) (take_broadcast (d 1 % P.cards))
      (cond (eqb (d 0 % 10) 7) (take_single (d 1 % tasks P))
      (cond (eqb (d 0 % 10) 8) (deliver (d 1 % P.cards))
      (report (d 1 % tasks P))))))))))

  abbrev pub draws_taken : ℕ
  draws_taken =
      cond (eqb (d 0 % 10) 0) 3
      (cond (eqb (d 0 % 10) 1) 5
      (cond (eqb (d 0 % 10) 3) 3
      2))

-- n commands, from draw m on
unfoldable pub commands_drawn : Placement → (ℕ → ℕ) → ℕ → ℕ → List Command
commands_drawn P d zero m = []
commands_drawn P d (suc n) m = command_drawn P (λ j. d (m + j)) ∷ commands_drawn P d n (m + draws_taken P (λ j. d (m + j)))

-- the tables of a load
abbrev pub load_tables : ℕ → Placement → ℕ → Tables
load_tables seed P n = record {
  placement = P;
  codes = map (λ s. s.code) (load_of seed P n).steps;
  arguments = joined (map (λ s. s.argument) (load_of seed P n).steps);
}

pub record LoadMeaning (seed : ℕ) (P : Placement) (n : ℕ) : Type 0 where
  -- for an accepted placement and at most 4,096 steps, the reader accepts the file and gets placement and steps back
  pub accepted : placement_refusal P ≡ 0 → n ≤ 4096 → file_refusal (load_file seed P n) ≡ 0
  pub same_run : placement_refusal P ≡ 0 → n ≤ 4096 → run_file_in (load_file seed P n) ≡ load_of seed P n
  -- its steps are the commands that are drawn: each decodes, so none is refused with 10 to 15 for itself
  pub commands : placement_refusal P ≡ 0 → map (decode P) (load_of seed P n).steps ≡ map good (commands_drawn P (draw_at seed) n 0)
  -- nor from any state of a store of this placement, also one made by hand
  pub well_formed : placement_refusal P ≡ 0 → (rs cs : List ℕ) (s : Found) → Stands rs cs P s → (a : RawStep) → In a (load_of seed P n).steps → ¬ ((10 ≤ result_of rs cs a) × (result_of rs cs a ≤ 15))
  -- nor in its own run
  pub run_well_formed : placement_refusal P ≡ 0 → n ≤ 4096 → (a : Answer) → In a (answers_in (load_file seed P n)) → ¬ ((10 ≤ a.result) × (a.result ≤ 15))
  -- for every placement, number of steps and output, refused ones too: what the writer says and leaves of the same tables
  pub same_file : load_file seed P n ≡ composed (load_tables seed P n)
  pub same_said : (out : List ℕ) → head_of P n out ≡ composed_of (load_tables seed P n) out
  pub same_output : (out : List ℕ) → load_output seed P n out ≡ compose_output (load_tables seed P n) out

-- RULES 17.8: five draws, and the file
pub record LoadComputed : Type 0 where
  pub draws : draw 2 ∷ draw (next 2) ∷ draw (next (next 2)) ∷ draw (next (next (next 2))) ∷ draw (next (next (next (next 2)))) ∷ [] ≡ 15521 ∷ 30144 ∷ 12383 ∷ 48621 ∷ 46989 ∷ []
  pub three_steps :
      load_file 2 (placement 2 (0 ∷ 1 ∷ []) (3 ∷ 2 ∷ []) (0 ∷ 1 ∷ [])) 3
      ≡ 2 ∷ 2 ∷ 2 ∷ 3 ∷ 0 ∷ 0 ∷ 1 ∷ 3 ∷ 2 ∷ 0 ∷ 1 ∷ 2 ∷ 3 ∷ 6 ∷ 0 ∷ 1 ∷ 2 ∷ 0 ∷ 141 ∷ 183 ∷ 0 ∷ 0 ∷ 1 ∷ 0 ∷ 0 ∷ 0 ∷ 0 ∷ 0 ∷ 0 ∷ 0 ∷ 0 ∷ 0 ∷ 0 ∷ 0 ∷ 0 ∷ 0 ∷ 0 ∷ 0 ∷ []
