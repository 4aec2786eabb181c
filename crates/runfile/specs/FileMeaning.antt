-- What a run file's first five bytes mean (RULES 3.1), stated apart from the definitions that read them.
use Rattle.std.specs.Prelude.{ℕ, ◌+◌, ◌*◌, ◌≡◌, List, [], ◌∷◌, length, get_or}
use Rattle.runfile.specs.RunFile.{placement_in, run_file_in, sizes_in, file_refusal}

-- an accepted file's sizes are its placement's: bytes 0 to 2, and bytes 3 and 4, low byte first, the number of steps
pub record AcceptedSizes (file : List ℕ) : Type 0 where
  pub cards : (placement_in file).cards ≡ get_or file 0 0
  pub copies : length (placement_in file).copies ≡ get_or file 1 0
  pub primaries : length (placement_in file).primaries ≡ get_or file 1 0
  pub homes : length (placement_in file).homes ≡ get_or file 2 0
  pub steps : length (run_file_in file).steps ≡ get_or file 3 0 + 256 * get_or file 4 0

abbrev pub SizesAccepted : Type 0
SizesAccepted = (file : List ℕ) → file_refusal file ≡ 0 → AcceptedSizes file

pub record SizesComputed : Type 0 where
  -- N is read low byte first
  pub five_hundred : sizes_in (1 ∷ 1 ∷ 1 ∷ 0 ∷ 2 ∷ []) ≡ record { cards = 1; registers = 1; tasks = 1; steps = 512 }
  pub most : sizes_in (1 ∷ 1 ∷ 1 ∷ 0 ∷ 16 ∷ []) ≡ record { cards = 1; registers = 1; tasks = 1; steps = 4096 }
  -- the order of the first three
  pub in_order : sizes_in (2 ∷ 3 ∷ 4 ∷ 5 ∷ 0 ∷ []) ≡ record { cards = 2; registers = 3; tasks = 4; steps = 5 }
  -- 4,096 steps are in range, and this file too short for them (1); 4,097 are out of range (3)
  pub most_in_range : file_refusal (1 ∷ 1 ∷ 1 ∷ 0 ∷ 16 ∷ []) ≡ 1
  pub one_more : file_refusal (1 ∷ 1 ∷ 1 ∷ 1 ∷ 16 ∷ []) ≡ 3
