-- What the test of how far behind a card is (specs/MostBehind) says, and when it holds.
use Prim.Native.Nat.{ℕ, ◌+◌, ◌<◌, ◌≤◌}
use mathlib.Core.Path.{◌≡◌}
use mathlib.Core.Bool.{true, false}
use borrow.Author.Tests.{leb-true, leb-false, le-leb, lt-leb}
use Rattle.automaton.specs.MostBehind.{most_behind, keeps_up}

pub keeps_up_lem : (n t : ℕ) → n ≤ t + most_behind → keeps_up n t ≡ true
keeps_up_lem n t h = le-leb n (t + most_behind) h

pub kept_up : (n t : ℕ) → keeps_up n t ≡ true → n ≤ t + most_behind
kept_up n t h = leb-true n (t + most_behind) h

pub falls_behind : (n t : ℕ) → t + most_behind < n → keeps_up n t ≡ false
falls_behind n t h = lt-leb n (t + most_behind) h

pub fell_behind : (n t : ℕ) → keeps_up n t ≡ false → t + most_behind < n
fell_behind n t h = leb-false n (t + most_behind) h
