-- The answer file (RULES 4.1): its bytes, and how it is written into a lent output step by step (4.4, 4.9).
use Rattle.std.specs.Prelude.{ℕ, ◌+◌, ◌*◌, ◌%◌, ◌/◌, cond, List, [], ◌∷◌, ◌++◌, map, eqb, ltb, length, get_or, set, drop}
use Rattle.std.proofs.lemmas.List.Edits.{sets}
use Rattle.lists.specs.Listings.{listing}
use Rattle.lists.specs.Loops.{turns}
use Rattle.names.specs.declared.Answer.{Answer}
use Rattle.runfile.specs.RunFile.{two_bytes, joined}

-- a value in four bytes, low byte first
abbrev pub four_bytes : ℕ → List ℕ
four_bytes v = v % 256 ∷ v / 256 % 256 ∷ v / 65536 % 256 ∷ v / 16777216 % 256 ∷ []

-- N, then the results, a byte each, then the values, four bytes each
unfoldable pub answer_bytes : List Answer → List ℕ
answer_bytes answers = two_bytes (length answers) ++ map (λ a. a.result) answers ++ joined (map (λ a. four_bytes a.value) answers)

-- an output that has the answer file in it: bytes from 2 + 5N on stay as they were (RULES 4.4)
unfoldable pub answered : List Answer → List ℕ → List ℕ
answered answers out = answer_bytes answers ++ drop (2 + 5 * length answers) out

-- ---- step by step

-- the four bytes of v at a place
unfoldable pub word_stored : ℕ → ℕ → List ℕ → List ℕ
word_stored at v out = sets out at (four_bytes v)

-- N, of n steps
unfoldable pub headed : ℕ → List ℕ → List ℕ
headed n out = sets out 0 (two_bytes n)

-- where the value array starts in the lent output, and is written
abbrev pub values_at : ℕ → ℕ
values_at n = 2 + n

-- the answer of step k of n
unfoldable pub put_answer : ℕ → ℕ → Answer → List ℕ → List ℕ
put_answer n k a out = word_stored (values_at n + 4 * k) a.value (set out (2 + k) a.result)

-- the first k answers of n
unfoldable pub put_answers : ℕ → (ℕ → Answer) → ℕ → List ℕ → List ℕ
put_answers n answer k out = turns (λ j. put_answer n j (answer j)) k out

-- ---- a whole answer file from two tables

-- the array of values
abbrev pub value_bytes : List ℕ → List ℕ
value_bytes values = joined (map four_bytes values)

-- the part of the output that starts with the array of values, with that array in it
unfoldable pub values_filled : List ℕ → List ℕ → List ℕ
values_filled values part = sets part 0 (value_bytes values)

abbrev pub answer_at : List ℕ → List ℕ → ℕ → Answer
answer_at results values k = record { result = get_or results k 0; value = get_or values k 0 }

abbrev pub answers_of : List ℕ → List ℕ → List Answer
answers_of results values = listing (answer_at results values) (length results)

-- 3 for more than 4,096 steps or tables of unequal length, then 5 for an output shorter than 2 + 5N (RULES 4.9)
unfoldable pub write_refusal : List ℕ → List ℕ → List ℕ → ℕ
write_refusal results values out =
    cond (ltb 4096 (length results)) 3
    (cond (eqb (length values) (length results))
    (cond (ltb (length out) (2 + 5 * length results)) 5 0)
    3)

-- a refusal leaves the output untouched
unfoldable pub written : List ℕ → List ℕ → List ℕ → List ℕ
written results values out = cond (eqb (write_refusal results values out) 0) (answered (answers_of results values) out) out
