-- A refusal in a sentence (RULES 14): "step 12: the card has nothing to deliver".
use Rattle.std.specs.Prelude.{ℕ, cond, List, ◌++◌, ltb, length, drop, Result, Ok, Err}
use Rattle.names.specs.declared.refusals.Refusal.{Refusal}
use Rattle.names.specs.Refusals.{refusal_number}
use Rattle.words.specs.Bytes.{bytes_of}
use Rattle.words.specs.Decimal.{decimal}
use Rattle.words.specs.Phrases.{phrase_of, silent}

-- the refusal, 0 where there is none, and the text's length, 0 where it is refused
pub record Said : Type 0 where
  pub refusal : ℕ
  pub length : ℕ

-- what a result says: a length, or a refusal by its number
abbrev pub said : Result ℕ Refusal → Said
said (Ok n) = record { refusal = 0; length = n }
said (Err r) = record { refusal = refusal_number r; length = 0 }

-- "step ", the number in decimal, ": " and the phrase (RULES 14.1)
unfoldable pub sentence_of : ℕ → ℕ → List ℕ
sentence_of step refusal = bytes_of "step " ++ (decimal step ++ (bytes_of ": " ++ phrase_of refusal))

-- a text and an output: 5 where the output is shorter, else 0 and the text's length
unfoldable pub told_of : List ℕ → List ℕ → Said
told_of text out = cond (ltb (length out) (length text)) (record { refusal = 5; length = 0 }) (record { refusal = 0; length = length text })

-- the output then: the text, and past it what was there; as it was where the text is refused
unfoldable pub told_output : List ℕ → List ℕ → List ℕ
told_output text out = cond (ltb (length out) (length text)) out (text ++ drop (length text) out)

-- 36 for a number with no phrase comes first (RULES 14.4)
unfoldable pub said_of : ℕ → ℕ → List ℕ → Said
said_of step refusal out = cond (silent refusal) (record { refusal = 36; length = 0 }) (told_of (sentence_of step refusal) out)

unfoldable pub sentence_output : ℕ → ℕ → List ℕ → List ℕ
sentence_output step refusal out = cond (silent refusal) out (told_output (sentence_of step refusal) out)
