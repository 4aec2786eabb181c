-- Both layouts give every copy a word of its own and leave none out.
use Prim.Native.Nat.{◌-◌, ◌/◌, ◌%◌}
use native.Mathlib.Omega.{arith}
use Rattle.tables.specs.Layout.{side_by_side, card_after_card}
use Rattle.tables.specs.Match.{IsLayout, Layouts}

pub side_by_side_lem : IsLayout side_by_side
side_by_side_lem = record {
  inside = λ i x. (omega arith, omega arith);
  apart = λ i x j y a b c d e. (omega arith, omega arith);
  filled = λ k a b. ((k - 65) % 8, (k - 65) / 8, omega arith);
  remainder = λ i x. omega arith;
}

pub card_after_card_lem : IsLayout card_after_card
card_after_card_lem = record {
  inside = λ i x. (omega arith, omega arith);
  apart = λ i x j y a b c d e. (omega arith, omega arith);
  filled = λ k a b. ((k - 65) / 32, (k - 65) % 32, omega arith);
  remainder = λ i x. omega arith;
}

pub layouts : Layouts
layouts = record { side_by_side_lem = side_by_side_lem; card_after_card_lem = card_after_card_lem }
