-- What K9, K10 and the run of two held messages (RULES 13) leave held, read from the table's own files: K9's message, tagged 1, at card 1; K10's
-- reply at card 0; and both in order of arrival (6.5).
use Rattle.std.specs.Prelude.{ℕ, ◌≡◌, List, [], ◌∷◌, map, take}
use Rattle.claims.specs.Published.{Published, begin}
use Rattle.claims.specs.PublishedRun.{final_from}
use Rattle.runfile.specs.RunFile.{placement_in, run_file_in}
use Rattle.named.specs.NamedRun.{NamedRun}
use Rattle.named.specs.Table.{k9, k10, two_held}

-- the published state after the first n steps of a run
abbrev pub state_after : NamedRun → ℕ → Published
state_after r n = final_from (placement_in r.file) begin (take n (run_file_in r.file).steps)

-- tag and task of each message held for card i then
abbrev pub held_after : NamedRun → ℕ → ℕ → List (List ℕ)
held_after r n i = map (λ x. x.mark ∷ x.msg.task ∷ []) ((state_after r n).channel.held i)

pub record HeldMessages : Type 0 where
  pub k9_held : held_after k9 12 1 ≡ (1 ∷ 0 ∷ []) ∷ []
  pub k10_held : held_after k10 12 0 ≡ (1 ∷ 0 ∷ []) ∷ []
  pub both_held : held_after two_held 16 1 ≡ (1 ∷ 2 ∷ []) ∷ (1 ∷ 0 ∷ []) ∷ []
