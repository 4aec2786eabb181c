-- The fields of a packet's first word are its digits, and some packets computed.
use Rattle.std.proofs.Common.{◌≡◌, ℕ, ◌+◌, ◌*◌, ◌/◌, ◌%◌, refl, arith}
use Rattle.names.specs.Letters.{kind_in, task_in, register_in, function_in, to_in, word_of, packet_of, kind_of, function_of, value_of}
use Rattle.names.specs.LettersMeaning.{LettersMean, LettersComputed}
use Rattle.names.proofs.Blocks.{letter_back}

-- each digit is a remainder, and what is left the next number
module _ (w : ℕ) where
  after_kind : w ≡ w % 8 + 8 * (w / 8)
  after_kind = omega arith

  after_task : w / 8 ≡ w / 8 % 16 + 16 * (w / 128)
  after_task = omega arith

  after_register : w / 128 ≡ w / 128 % 32 + 32 * (w / 4096)
  after_register = omega arith

  after_function : w / 4096 ≡ w / 4096 % 8 + 8 * (w / 32768)
  after_function = omega arith

all_digits : (w a b c d k t x f : ℕ) → w ≡ k + 8 * a → a ≡ t + 16 * b → b ≡ x + 32 * c → c ≡ f + 8 * d → w ≡ k + 8 * t + 128 * x + 4096 * f + 32768 * d
all_digits w a b c d k t x f p q r s = omega arith

digits : (w : ℕ) → w ≡ kind_in w + 8 * task_in w + 128 * register_in w + 4096 * function_in w + 32768 * to_in w
unfolding kind_in task_in register_in function_in to_in
digits w = all_digits w (w / 8) (w / 128) (w / 4096) (w / 32768) _ _ _ _ (after_kind w) (after_task w) (after_register w) (after_function w)

pub letters_mean : LettersMean
unfolding kind_in task_in register_in function_in
letters_mean = record {
  whole = digits;
  kind = λ w. omega arith;
  task = λ w. omega arith;
  register = λ w. omega arith;
  function = λ w. omega arith;
  back = letter_back;
}

pub letters_computed : LettersComputed
unfolding packet_of word_of kind_of function_of value_of
letters_computed = record { update = refl; read = refl; read_reply = refl; update_reply = refl; largest = refl }
