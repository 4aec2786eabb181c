-- A text put together part by part.
use Prim.Native.Nat.{ℕ}
use mathlib.Core.Path.{◌≡◌}
use mathlib.Core.List.{◌++◌, append_assoc}
use Rattle.words.specs.Bytes.{bytes_of}
use Rattle.words.specs.Decimal.{decimal}
use Rattle.words.specs.Phrases.{phrase_of}
use Rattle.words.specs.Sentence.{sentence_of}

-- the parts, one behind another, are the sentence
pub parts_are : (s r : ℕ) → ((bytes_of "step " ++ decimal s) ++ bytes_of ": ") ++ phrase_of r ≡ sentence_of s r
unfolding sentence_of
parts_are s r = simp append_assoc
