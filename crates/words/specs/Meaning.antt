-- What the texts mean, said apart from the definitions that make them.
use Rattle.std.specs.Prelude.{ℕ, ◌+◌, ◌*◌, ◌-◌, ◌≤◌, ◌<◌, ◌≡◌, Bool, true, false, not, ◌&&◌, ◌||◌, List, [], ◌∷◌, eqb, leb, length, get_or, take}
use Rattle.lists.specs.All.{all}
use Rattle.words.specs.Bytes.{bytes_of}
use Rattle.words.specs.Decimal.{decimal}
use Rattle.words.specs.Phrases.{phrase_of, silent}
use Rattle.words.specs.Sentence.{sentence_of, said_of, sentence_output}

-- the number that digits stand for, read from the left after a number
unfoldable pub read_from : ℕ → List ℕ → ℕ
read_from a [] = a
read_from a (c ∷ cs) = read_from (10 * a + (c - 48)) cs

unfoldable pub is_digit : ℕ → Bool
is_digit c = leb 48 c && leb c 57

unfoldable pub is_letter : ℕ → Bool
is_letter c = (leb 97 c && leb c 122) || (leb 65 c && leb c 90)

-- the refusals of a step
unfoldable pub numbered : ℕ → Bool
numbered r = eqb r 6 || (leb 10 r && leb r 15) || (leb 20 r && leb r 23) || (leb 30 r && leb r 35)

pub record SentencesMean : Type 0 where
  -- decimal digits, which read as the number, without a leading zero
  pub digits : (n : ℕ) → all is_digit (decimal n) ≡ true
  pub read_back : (n : ℕ) → n < 4294967296 → read_from 0 (decimal n) ≡ n
  pub no_leading_zero : (n : ℕ) → n < 4294967296 → get_or (decimal n) 0 0 ≡ 48 → n ≡ 0
  -- a phrase is made of letters and spaces
  pub plain : (refusal : ℕ) → all (λ c. is_letter c || eqb c 32) (phrase_of refusal) ≡ true
  -- 6, 10 to 15, 20 to 23 and 30 to 35 have a phrase, and no other number
  pub spoken : (refusal : ℕ) → silent refusal ≡ not (numbered refusal)
  -- two texts are equal only when step and refusal are
  pub apart : (s t r q : ℕ) → s < 4294967296 → t < 4294967296 → silent r ≡ false → silent q ≡ false → sentence_of s r ≡ sentence_of t q → (s ≡ t) × (r ≡ q)
  -- no text is longer than 55 bytes, and one has 55
  pub longest : (s r : ℕ) → length (sentence_of s r) ≤ 55
  pub longest_met : length (sentence_of 4294967295 35) ≡ 55
  -- 36 comes first, whatever the output; then 5 exactly if the output is shorter than the text; both touch nothing and tell no length
  pub no_phrase_first : (s r : ℕ) (out : List ℕ) → silent r ≡ true → ((said_of s r out).refusal ≡ 36) × ((said_of s r out).length ≡ 0) × (sentence_output s r out ≡ out)
  pub too_short : (s r : ℕ) (out : List ℕ) → silent r ≡ false → length out < length (sentence_of s r)
      → ((said_of s r out).refusal ≡ 5) × ((said_of s r out).length ≡ 0) × (sentence_output s r out ≡ out)
  -- else the text stands at the start, the length is its own, and every byte past it is as it was
  pub told : (s r : ℕ) (out : List ℕ) → silent r ≡ false → length (sentence_of s r) ≤ length out
      → ((said_of s r out).refusal ≡ 0) × ((said_of s r out).length ≡ length (sentence_of s r)) × (take (length (sentence_of s r)) (sentence_output s r out) ≡ sentence_of s r)
  pub untouched : (s r : ℕ) (out : List ℕ) (i : ℕ) → (said_of s r out).length ≤ i → get_or (sentence_output s r out) i 0 ≡ get_or out i 0
  -- computed
  pub first : sentence_of 0 33 ≡ bytes_of "step 0: the card has nothing to deliver"
  pub last : sentence_of 4294967295 6 ≡ bytes_of "step 4294967295: the store was changed from outside"
  pub middle : sentence_of 1204 12 ≡ bytes_of "step 1204: there is no such task"
