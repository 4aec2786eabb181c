-- How far behind a card may be (RULES 1.7, 7.5): definitions and statements take the number from here. LimitExamples computes K11 and K12 of it.
use Rattle.std.specs.Prelude.{ℕ, ◌+◌, Bool, leb}

abbrev pub most_behind : ℕ
most_behind = 24

-- of n broadcasts made a card has taken t: it is no further behind
abbrev pub keeps_up : ℕ → ℕ → Bool
keeps_up n t = leb n (t + most_behind)
