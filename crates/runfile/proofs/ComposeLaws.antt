-- Writing a run file means what specs/ComposeMeaning says.
use mathlib.Core.Path.{◌≡◌, refl, subst}
use mathlib.Core.Logic.{◌⊎◌, inl, inr, ◌≢◌}
use mathlib.Core.List.{List}
use Prim.Native.Nat.{ℕ}
use Rattle.lists.specs.Listings.{listing}
use Rattle.runfile.specs.RunFile.{file_refusal, size_bytes, placement_bytes, file_bytes}
use Rattle.runfile.specs.Head.{whole_length}
use Rattle.runfile.specs.Compose.{Tables, tables_in, composed, composed_length, compose_refusal}
use Rattle.runfile.specs.ComposeMeaning.{SizedTables, PlacedTables, ComposeMeaning, ComposeComputed}
use Rattle.runfile.proofs.ComposeNumbers.{numbers, touches}
use Rattle.runfile.proofs.ReadBack.{read_back, written_again}

no_such_file : (t : Tables) (out : List ℕ) → (compose_refusal t out ≡ 3) ⊎ (compose_refusal t out ≡ 4) → (s : List ℕ) → file_refusal s ≡ 0 → tables_in s ≢ t
no_such_file t out (inl e) s ok same = (numbers t out).unsized_if.0 e (subst SizedTables same (written_again s ok).sized_tables)
no_such_file t out (inr e) s ok same = ((numbers t out).misplaced_if.0 e).1 (subst PlacedTables same (written_again s ok).placed_tables)

pub compose_meaning : ComposeMeaning
compose_meaning = record {
  numbers = numbers;
  touches = touches;
  read_back = read_back;
  written_again = written_again;
  no_such_file = no_such_file;
}

pub compose_computed : ComposeComputed
unfolding composed composed_length whole_length file_bytes size_bytes placement_bytes listing
compose_computed = record { two_steps = refl; its_length = refl }
