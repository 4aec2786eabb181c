-- A run file's first five bytes mean what specs/FileMeaning says.
use mathlib.Core.Path.{refl}
use Rattle.names.specs.Placement.{sizes_in_range}
use Rattle.runfile.specs.RunFile.{steps_in, file_length, placement_in, sizes_sound, file_refusal}
use Rattle.runfile.specs.FileMeaning.{SizesAccepted, SizesComputed}
use Rattle.runfile.proofs.RunFileLaws.{accepted_tasks, accepted_registers, accepted_primaries, accepted_steps}

pub sizes_accepted : SizesAccepted
unfolding placement_in steps_in
sizes_accepted file ok = record {
  cards = refl;
  copies = accepted_registers file ok;
  primaries = accepted_primaries file ok;
  homes = accepted_tasks file ok;
  steps = accepted_steps file ok;
}

pub sizes_computed : SizesComputed
unfolding file_refusal sizes_sound sizes_in_range steps_in file_length
sizes_computed = record { five_hundred = refl; most = refl; in_order = refl; most_in_range = refl; one_more = refl }
