-- What sentences mean: the laws of the digits and of the phrases together, and that a text falls apart in one way.
use Prim.Native.Nat.{ℕ, ◌+◌, ◌-◌, ◌≤◌, ◌<◌}
use mathlib.Core.Path.{◌≡◌, refl, sym, ap, subst, ◌∙◌}
use mathlib.Core.Bool.{Bool, true, false}
use mathlib.Core.List.{List, [], ◌∷◌, ◌++◌}
use native.Mathlib.Omega.{arith}
use lib.Dec.{ltb}
use lib.ListN.{length, get_or, take, drop, length-append}
use lib.Seq.{take-append_seam, get_or-append-add, get_or-drop}
use borrow.Author.Tests.{lt-ltb, le-ltb, ltb-true, ltb-false, eqb-false}
use Rattle.lists.specs.Tests.{clash}
use Rattle.lists.specs.All.{all, all_head, all_tail}
use Rattle.words.specs.Bytes.{bytes_of}
use Rattle.words.specs.Decimal.{digits_of, decimal}
use Rattle.words.specs.Phrases.{found, phrase_of, silent}
use Rattle.words.specs.Sentence.{Said, sentence_of, told_of, told_output, said_of, sentence_output}
use Rattle.words.specs.Meaning.{read_from, is_digit, SentencesMean}
use Rattle.words.proofs.DecimalLaws as D
use Rattle.words.proofs.PhraseLaws as P

-- a text is split at its first colon: the digits before it have none
colon : {A : Type 0} → is_digit 58 ≡ true → A
unfolding is_digit
colon h = absurd (clash h refl)

split_at_colon : (xs ys us vs : List ℕ) → all is_digit xs ≡ true → all is_digit ys ≡ true → xs ++ (58 ∷ us) ≡ ys ++ (58 ∷ vs) → (xs ≡ ys) × (us ≡ vs)
split_at_colon [] [] us vs h k e = (refl, ap (drop 1) e)
split_at_colon [] (y ∷ ys) us vs h k e = colon (subst (λ c. is_digit c ≡ true) (sym (ap (λ l. get_or l 0 0) e)) (all_head is_digit y ys k))
split_at_colon (x ∷ xs) [] us vs h k e = colon (subst (λ c. is_digit c ≡ true) (ap (λ l. get_or l 0 0) e) (all_head is_digit x xs h))
split_at_colon (x ∷ xs) (y ∷ ys) us vs h k e =
    let rest = split_at_colon xs ys us vs (all_tail is_digit x xs h) (all_tail is_digit y ys k) (ap (drop 1) e) in
    (λ i. ap (λ l. get_or l 0 0) e i ∷ rest.0 i, rest.1)

-- a phrase that is there
there : (r : ℕ) → silent r ≡ false → 0 < length (phrase_of r)
unfolding silent
there r h = let n = eqb-false (length (phrase_of r)) 0 h in omega arith

-- behind "step ", and behind the colon and the space
pub apart : (s t r q : ℕ) → s < 4294967296 → t < 4294967296 → silent r ≡ false → silent q ≡ false → sentence_of s r ≡ sentence_of t q → (s ≡ t) × (r ≡ q)
unfolding sentence_of decimal
apart s t r q hs ht hr hq e =
    let split = split_at_colon (decimal s) (decimal t) (32 ∷ phrase_of r) (32 ∷ phrase_of q) (D.all_digits 10 s) (D.all_digits 10 t) (ap (drop 5) e) in
    (D.decimal_apart s t hs ht split.0, P.one_number r q (there r hr) (there q hq) (ap (drop 1) split.1))

pub long : (s r : ℕ) → length (sentence_of s r) ≤ 55
unfolding sentence_of decimal
long s r =
    let a = length-append (decimal s) (58 ∷ 32 ∷ phrase_of r) in
    let b = D.short 10 s in
    let c = P.short r in
    omega arith

-- 36 first
pub silent_said : (s r : ℕ) (out : List ℕ) → silent r ≡ true → said_of s r out ≡ record { refusal = 36; length = 0 }
unfolding said_of
silent_said s r out h = rw h

pub silent_output : (s r : ℕ) (out : List ℕ) → silent r ≡ true → sentence_output s r out ≡ out
unfolding sentence_output
silent_output s r out h = rw h

pub spoken_said : (s r : ℕ) (out : List ℕ) → silent r ≡ false → said_of s r out ≡ told_of (sentence_of s r) out
unfolding said_of
spoken_said s r out h = rw h

pub spoken_output : (s r : ℕ) (out : List ℕ) → silent r ≡ false → sentence_output s r out ≡ told_output (sentence_of s r) out
unfolding sentence_output
spoken_output s r out h = rw h

-- then 5
pub short_said : (text out : List ℕ) → length out < length text → told_of text out ≡ record { refusal = 5; length = 0 }
unfolding told_of
short_said text out l = rw (lt-ltb (length out) (length text) l)

pub short_output : (text out : List ℕ) → length out < length text → told_output text out ≡ out
unfolding told_output
short_output text out l = rw (lt-ltb (length out) (length text) l)

pub long_said : (text out : List ℕ) → length text ≤ length out → told_of text out ≡ record { refusal = 0; length = length text }
unfolding told_of
long_said text out l = rw (le-ltb (length out) (length text) l)

pub long_output : (text out : List ℕ) → length text ≤ length out → told_output text out ≡ text ++ drop (length text) out
unfolding told_output
long_output text out l = rw (le-ltb (length out) (length text) l)

no_phrase_first : (s r : ℕ) (out : List ℕ) → silent r ≡ true → ((said_of s r out).refusal ≡ 36) × ((said_of s r out).length ≡ 0) × (sentence_output s r out ≡ out)
no_phrase_first s r out h = (ap (λ (a : Said). a.refusal) (silent_said s r out h), ap (λ (a : Said). a.length) (silent_said s r out h), silent_output s r out h)

too_short : (s r : ℕ) (out : List ℕ) → silent r ≡ false → length out < length (sentence_of s r)
    → ((said_of s r out).refusal ≡ 5) × ((said_of s r out).length ≡ 0) × (sentence_output s r out ≡ out)
too_short s r out h l =
    let e = spoken_said s r out h ∙ short_said (sentence_of s r) out l in
    (ap (λ (a : Said). a.refusal) e, ap (λ (a : Said). a.length) e, spoken_output s r out h ∙ short_output (sentence_of s r) out l)

told : (s r : ℕ) (out : List ℕ) → silent r ≡ false → length (sentence_of s r) ≤ length out
    → ((said_of s r out).refusal ≡ 0) × ((said_of s r out).length ≡ length (sentence_of s r)) × (take (length (sentence_of s r)) (sentence_output s r out) ≡ sentence_of s r)
told s r out h l =
    let e = spoken_said s r out h ∙ long_said (sentence_of s r) out l in (
      ap (λ (a : Said). a.refusal) e,
      ap (λ (a : Said). a.length) e,
      ap (take (length (sentence_of s r))) (spoken_output s r out h ∙ long_output (sentence_of s r) out l) ∙ take-append_seam (sentence_of s r) (drop (length (sentence_of s r)) out),
    )

-- past a text and what follows it, the rest of the output is as it was
past : (text out : List ℕ) (i : ℕ) → length text ≤ i → get_or (text ++ drop (length text) out) i 0 ≡ get_or out i 0
past text out i h =
    let e : length text + (i - length text) ≡ i = omega arith in
    ap (λ k. get_or (text ++ drop (length text) out) k 0) (sym e)
    ∙ get_or-append-add text (drop (length text) out) (i - length text) 0
    ∙ get_or-drop (length text) out (i - length text) 0
    ∙ ap (λ k. get_or out k 0) e

told_untouched : (text out : List ℕ) (i : ℕ) → (told_of text out).length ≤ i → get_or (told_output text out) i 0 ≡ get_or out i 0
told_untouched text out i h = go (ltb (length out) (length text)) refl
  where
    go : (b : Bool) → ltb (length out) (length text) ≡ b → get_or (told_output text out) i 0 ≡ get_or out i 0
    go true e = ap (λ o. get_or o i 0) (short_output text out (ltb-true (length out) (length text) e))
    go false e =
        let l = ltb-false (length out) (length text) e in
        ap (λ o. get_or o i 0) (long_output text out l) ∙ past text out i (subst (λ (a : Said). a.length ≤ i) (long_said text out l) h)

untouched : (s r : ℕ) (out : List ℕ) (i : ℕ) → (said_of s r out).length ≤ i → get_or (sentence_output s r out) i 0 ≡ get_or out i 0
untouched s r out i h = go (silent r) refl
  where
    go : (b : Bool) → silent r ≡ b → get_or (sentence_output s r out) i 0 ≡ get_or out i 0
    go true e = ap (λ o. get_or o i 0) (silent_output s r out e)
    go false e = ap (λ o. get_or o i 0) (spoken_output s r out e) ∙ told_untouched (sentence_of s r) out i (subst (λ (a : Said). a.length ≤ i) (spoken_said s r out e) h)

first_text : sentence_of 0 33 ≡ bytes_of "step 0: the card has nothing to deliver"
unfolding sentence_of decimal digits_of phrase_of found
first_text = refl

last_text : sentence_of 4294967295 6 ≡ bytes_of "step 4294967295: the store was changed from outside"
unfolding sentence_of decimal digits_of phrase_of found
last_text = refl

middle_text : sentence_of 1204 12 ≡ bytes_of "step 1204: there is no such task"
unfolding sentence_of decimal digits_of phrase_of found
middle_text = refl

longest_text : length (sentence_of 4294967295 35) ≡ 55
unfolding sentence_of decimal digits_of phrase_of found
longest_text = refl

all_digits : (n : ℕ) → all is_digit (decimal n) ≡ true
unfolding decimal
all_digits n = D.all_digits 10 n

read_back : (n : ℕ) → n < 4294967296 → read_from 0 (decimal n) ≡ n
unfolding decimal
read_back n h = D.read_back 9 n (omega arith)

first_digit : (n : ℕ) → n < 4294967296 → get_or (decimal n) 0 0 ≡ 48 → n ≡ 0
unfolding decimal
first_digit n h e = D.first_digit 9 n (omega arith) e

pub sentences_mean : SentencesMean
sentences_mean = record {
  digits = all_digits;
  read_back = read_back;
  no_leading_zero = first_digit;
  plain = P.plain;
  spoken = P.spoken;
  apart = apart;
  longest = long;
  longest_met = longest_text;
  no_phrase_first = no_phrase_first;
  too_short = too_short;
  told = told;
  untouched = untouched;
  first = first_text;
  last = last_text;
  middle = middle_text;
}
