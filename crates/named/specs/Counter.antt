-- A counter near the top (RULES 2.2, 2.5, 13.3): function 2 stays there, function 5 comes round, and each update is told the value that it found; 6
-- and 0 are no functions.
use Rattle.std.specs.Prelude.{[], ◌∷◌}
use Rattle.named.specs.NamedRun.{NamedRun}

abbrev pub counter : NamedRun
counter = record {
  file =
      1 ∷ 1 ∷ 1 ∷ 17 ∷ 0 ∷
      0 ∷ 1 ∷ 0 ∷
      2 ∷ 3 ∷ 10 ∷ 2 ∷ 3 ∷ 10 ∷ 1 ∷ 3 ∷ 10 ∷ 2 ∷ 3 ∷ 10 ∷ 1 ∷ 3 ∷ 10 ∷ 2 ∷ 2 ∷
      0 ∷ 0 ∷ 1 ∷ 0 ∷ 254 ∷ 255 ∷ 255 ∷ 255 ∷  -- task 0 sets register 0 to 4,294,967,294
      0 ∷ 0 ∷ 0 ∷ 0 ∷ 0 ∷ 0 ∷ 0 ∷ 0 ∷  -- task 0 performs it
      0 ∷ 0 ∷ 0 ∷ 0 ∷ 0 ∷ 0 ∷ 0 ∷ 0 ∷  -- task 0 reports that it found 0
      0 ∷ 0 ∷ 2 ∷ 0 ∷ 3 ∷ 0 ∷ 0 ∷ 0 ∷  -- task 0 adds 3, and the counter stays at the top
      0 ∷ 0 ∷ 0 ∷ 0 ∷ 0 ∷ 0 ∷ 0 ∷ 0 ∷  -- task 0 performs it
      0 ∷ 0 ∷ 0 ∷ 0 ∷ 0 ∷ 0 ∷ 0 ∷ 0 ∷  -- task 0 reports that it found 4,294,967,294
      0 ∷ 0 ∷ 0 ∷ 0 ∷ 0 ∷ 0 ∷ 0 ∷ 0 ∷  -- task 0 asks to read register 0
      0 ∷ 0 ∷ 0 ∷ 0 ∷ 0 ∷ 0 ∷ 0 ∷ 0 ∷  -- task 0 performs it
      0 ∷ 0 ∷ 0 ∷ 0 ∷ 0 ∷ 0 ∷ 0 ∷ 0 ∷  -- task 0 reports 4,294,967,295
      0 ∷ 0 ∷ 5 ∷ 0 ∷ 3 ∷ 0 ∷ 0 ∷ 0 ∷  -- task 0 adds 3, and the counter comes round
      0 ∷ 0 ∷ 0 ∷ 0 ∷ 0 ∷ 0 ∷ 0 ∷ 0 ∷  -- task 0 performs it
      0 ∷ 0 ∷ 0 ∷ 0 ∷ 0 ∷ 0 ∷ 0 ∷ 0 ∷  -- task 0 reports that it found 4,294,967,295
      0 ∷ 0 ∷ 0 ∷ 0 ∷ 0 ∷ 0 ∷ 0 ∷ 0 ∷  -- task 0 asks to read register 0
      0 ∷ 0 ∷ 0 ∷ 0 ∷ 0 ∷ 0 ∷ 0 ∷ 0 ∷  -- task 0 performs it
      0 ∷ 0 ∷ 0 ∷ 0 ∷ 0 ∷ 0 ∷ 0 ∷ 0 ∷  -- task 0 reports 2
      0 ∷ 0 ∷ 6 ∷ 0 ∷ 3 ∷ 0 ∷ 0 ∷ 0 ∷  -- no such function: 15
      0 ∷ 0 ∷ 0 ∷ 0 ∷ 3 ∷ 0 ∷ 0 ∷ 0 ∷  -- nor this: 15
      [];
  answer =
      17 ∷ 0 ∷
      0 ∷ 0 ∷ 0 ∷ 0 ∷ 0 ∷ 0 ∷ 0 ∷ 0 ∷ 0 ∷ 0 ∷ 0 ∷ 0 ∷ 0 ∷ 0 ∷ 0 ∷ 15 ∷ 15 ∷
      0 ∷ 0 ∷ 0 ∷ 0 ∷
      0 ∷ 0 ∷ 0 ∷ 0 ∷
      0 ∷ 0 ∷ 0 ∷ 0 ∷
      0 ∷ 0 ∷ 0 ∷ 0 ∷
      0 ∷ 0 ∷ 0 ∷ 0 ∷
      254 ∷ 255 ∷ 255 ∷ 255 ∷
      0 ∷ 0 ∷ 0 ∷ 0 ∷
      0 ∷ 0 ∷ 0 ∷ 0 ∷
      255 ∷ 255 ∷ 255 ∷ 255 ∷
      0 ∷ 0 ∷ 0 ∷ 0 ∷
      0 ∷ 0 ∷ 0 ∷ 0 ∷
      255 ∷ 255 ∷ 255 ∷ 255 ∷
      0 ∷ 0 ∷ 0 ∷ 0 ∷
      0 ∷ 0 ∷ 0 ∷ 0 ∷
      2 ∷ 0 ∷ 0 ∷ 0 ∷
      0 ∷ 0 ∷ 0 ∷ 0 ∷
      0 ∷ 0 ∷ 0 ∷ 0 ∷
      [];
}
