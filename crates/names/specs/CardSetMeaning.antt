-- Which number is which set of cards (RULES 1.5), computed apart from the definitions.
use Rattle.std.specs.Prelude.{◌≡◌, true, false}
use Rattle.names.specs.CardSet.{member_of, size_of, single, several, sole_of}

pub record CardSetsComputed : Type 0 where
  -- 6 is 2 + 4: cards 1 and 2
  pub zero_of_six : member_of 6 0 ≡ false
  pub one_of_six : member_of 6 1 ≡ true
  pub two_of_six : member_of 6 2 ≡ true
  pub three_of_six : member_of 6 3 ≡ false
  -- 1 is card 0 alone, 128 card 7, 16 card 4
  pub lowest : member_of 1 0 ≡ true
  pub highest : member_of 128 7 ≡ true
  pub sole_lowest : sole_of 1 ≡ 0
  pub sole_middle : sole_of 16 ≡ 4
  pub sole_highest : sole_of 128 ≡ 7
  -- none, one, two and all eight; cards past 7 do not count
  pub none : size_of 0 ≡ 0
  pub one : single 16 ≡ true
  pub two : several 6 ≡ true
  pub all : size_of 255 ≡ 8
  pub past : size_of 256 ≡ 0
