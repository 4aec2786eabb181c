-- What a memory that is well sized is known to be, place by place.
use Prim.Native.Nat.{ℕ, ◌+◌, ◌<◌, ◌≤◌}
use mathlib.Core.Path.{◌≡◌}
use mathlib.Core.Bool.{true, false}
use mathlib.Core.List.{List}
use native.Mathlib.Omega.{arith}
use lib.ListN.{length, get_or}
use Rattle.automaton.specs.MostBehind.{most_behind}
use Rattle.channel.specs.Layout.{channel_words, cards_of, tasks_of, registers_of, cards_word, tasks_word, registers_word, made_of, taken_of, count_of, held_count_of, flight_block}
use Rattle.names.specs.CardSet.{single, sole_of}
use Rattle.names.specs.Letters.{letter_at}
use Rattle.channel.specs.TakeSingle.{no_flight}

pub cards_most : (ws : List ℕ) → cards_of ws ≤ 8
unfolding cards_of
cards_most ws = omega arith

pub tasks_most : (ws : List ℕ) → tasks_of ws ≤ 16
unfolding tasks_of
tasks_most ws = omega arith

pub registers_most : (ws : List ℕ) → registers_of ws ≤ 32
unfolding registers_of
registers_most ws = omega arith

pub cards_words : (us ws : List ℕ) → get_or us cards_word 0 ≡ get_or ws cards_word 0 → cards_of us ≡ cards_of ws
unfolding cards_of
cards_words us ws e = rw e

pub tasks_words : (us ws : List ℕ) → get_or us tasks_word 0 ≡ get_or ws tasks_word 0 → tasks_of us ≡ tasks_of ws
unfolding tasks_of
tasks_words us ws e = rw e

pub registers_words : (us ws : List ℕ) → get_or us registers_word 0 ≡ get_or ws registers_word 0 → registers_of us ≡ registers_of ws
unfolding registers_of
registers_words us ws e = rw e

pub record Sized (ws : List ℕ) : Type 0 where
  pub long : length ws ≡ channel_words
  pub counts : (i : ℕ) → i < cards_of ws → count_of ws i ≤ 48
  pub helds : (i : ℕ) → i < cards_of ws → held_count_of ws i ≤ 16
  pub near : (i : ℕ) → i < cards_of ws → (taken_of ws i ≤ made_of ws) × (made_of ws ≤ taken_of ws i + most_behind)
  pub flights : (t : ℕ) → t < tasks_of ws → no_flight ws t ≡ false
      → (single (letter_at ws (flight_block t)).to ≡ true) × (sole_of (letter_at ws (flight_block t)).to < cards_of ws)
