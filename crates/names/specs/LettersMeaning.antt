-- How a letter lies in words (RULES 11.12, 11.13), said apart from the definitions that code and laws share.
use Rattle.std.specs.Prelude.{◌≡◌, ℕ, ◌+◌, ◌*◌, ◌<◌}
use Rattle.names.specs.declared.Letter.{Letter}
use Rattle.names.specs.declared.Body.TheVariants.{ReadDo, UpdateDo, ReadReply, UpdateReply}
use Rattle.names.specs.declared.Body.{Body}
use Rattle.names.specs.Letters.{kind_in, task_in, register_in, function_in, to_in, letter_of, packet_of, Packs}

-- a message of task t on register x to a set of cards
abbrev pub letter : ℕ → ℕ → Body → ℕ → Letter
letter t x b to = record { message = record { task = record { 0 = t }; register = record { 0 = x }; body = b }; to = to }

pub record LettersMean : Type 0 where
  -- the fields are the word's digits: none overlaps another, and together they are the whole word
  pub whole : (w : ℕ) → w ≡ kind_in w + 8 * task_in w + 128 * register_in w + 4096 * function_in w + 32768 * to_in w
  pub kind : (w : ℕ) → kind_in w < 8
  pub task : (w : ℕ) → task_in w < 16
  pub register : (w : ℕ) → register_in w < 32
  pub function : (w : ℕ) → function_in w < 8
  -- a letter of any store's sizes comes out of its packet as it went in
  pub back : (l : Letter) → Packs l → letter_of (packet_of l) ≡ l

-- the four messages, the first of them that of K9: set register 0 to 7 for task 2, to the cards 0, 1 and 2
pub record LettersComputed : Type 0 where
  pub update : packet_of (letter 2 0 (UpdateDo 1 7) 7) ≡ record { word = 233490; value = 7 }
  pub read : packet_of (letter 15 31 ReadDo 128) ≡ record { word = 4198393; value = 0 }
  pub read_reply : packet_of (letter 0 1 (ReadReply 4294967295) 1) ≡ record { word = 32899; value = 4294967295 }
  pub update_reply : packet_of (letter 1 0 (UpdateReply 8) 2) ≡ record { word = 65548; value = 8 }
  pub largest : packet_of (letter 15 31 (UpdateDo 5 9) 255) ≡ record { word = 8380410; value = 9 }
