-- The decimal digits of a number: they are digits, they read as the number, and none is a leading zero.
use Prim.Native.Nat.{ℕ, zero, suc, ◌+◌, ◌*◌, ◌-◌, ◌/◌, ◌%◌, ◌≤◌, ◌<◌}
use mathlib.Core.Path.{◌≡◌, refl, sym, ap, subst, ◌∙◌}
use mathlib.Core.Bool.{Bool, true, false}
use mathlib.Core.List.{List, [], ◌∷◌, ◌++◌}
use native.Mathlib.Omega.{arith}
use lib.Dec.{ltb}
use lib.ListN.{length, get_or, length-append, get_or-append}
use borrow.Author.Tests.{lt-ltb, le-ltb, le-leb, ltb-true, ltb-false}
use Rattle.lists.specs.Tests.{and_intro}
use Rattle.lists.specs.All.{all, all_nil, all_one, all_append}
use Rattle.words.specs.Decimal.{digits_of, decimal}
use Rattle.words.specs.Meaning.{read_from, is_digit}

-- 10 to a power
abbrev tens : ℕ → ℕ
tens zero = 1
tens (suc f) = 10 * tens f

-- one digit, and more
pub digits_one : (f n : ℕ) → n < 10 → digits_of (suc f) n ≡ (48 + n) ∷ []
unfolding digits_of
digits_one f n h = rw (lt-ltb n 10 h)

pub digits_more : (f n : ℕ) → 10 ≤ n → digits_of (suc f) n ≡ digits_of f (n / 10) ++ ((48 + n % 10) ∷ [])
unfolding digits_of
digits_more f n h = rw (le-ltb n 10 h)

-- a number is below 10 or not
by_size : {A : Type 0} (n : ℕ) → (n < 10 → A) → (10 ≤ n → A) → A
by_size {A} n small large = go (ltb n 10) refl
  where
    go : (b : Bool) → ltb n 10 ≡ b → A
    go true e = small (ltb-true n 10 e)
    go false e = large (ltb-false n 10 e)

-- room for one digit more changes nothing
same : (f n : ℕ) → n < tens (suc f) → digits_of (suc f) n ≡ digits_of (suc (suc f)) n
same zero n h = digits_one zero n h ∙ sym (digits_one 1 n h)
same (suc f) n h =
    by_size n (λ s. digits_one (suc f) n s ∙ sym (digits_one (suc (suc f)) n s))
    (λ l. digits_more (suc f) n l ∙ ap (λ d. d ++ ((48 + n % 10) ∷ [])) (same f (n / 10) (omega arith)) ∙ sym (digits_more (suc (suc f)) n l))

-- what a digit is
digit_is : (d : ℕ) → d < 10 → is_digit (48 + d) ≡ true
unfolding is_digit
digit_is d h = and_intro (le-leb 48 (48 + d) (omega arith)) (le-leb (48 + d) 57 (omega arith))

pub all_digits : (f n : ℕ) → all is_digit (digits_of f n) ≡ true
unfolding digits_of
all_digits zero n = all_nil is_digit
all_digits (suc f) n =
    by_size n (λ s. subst (λ l. all is_digit l ≡ true) (sym (digits_one f n s)) (all_one is_digit (48 + n) [] (digit_is n s) (all_nil is_digit)))
    (λ l. subst (λ l. all is_digit l ≡ true) (sym (digits_more f n l)) (all_append is_digit (digits_of f (n / 10)) ((48 + n % 10) ∷ []) (all_digits f (n / 10)) (all_one is_digit (48 + n % 10) [] (digit_is (n % 10) (omega arith)) (all_nil is_digit))))

one_more : (xs : List ℕ) (c f : ℕ) → length xs ≤ f → length (xs ++ (c ∷ [])) ≤ suc f
one_more xs c f h = let e = length-append xs (c ∷ []) in omega arith

pub short : (f n : ℕ) → length (digits_of f n) ≤ f
unfolding digits_of
short zero n = omega arith
short (suc f) n =
    by_size n (λ s. subst (λ l. length l ≤ suc f) (sym (digits_one f n s)) (omega arith))
    (λ l. subst (λ l. length l ≤ suc f) (sym (digits_more f n l)) (one_more (digits_of f (n / 10)) (48 + n % 10) f (short f (n / 10))))

-- what is read is the number
read_snoc : (a : ℕ) (xs : List ℕ) (c : ℕ) → read_from a (xs ++ (c ∷ [])) ≡ 10 * read_from a xs + (c - 48)
unfolding read_from
read_snoc a [] c = refl
read_snoc a (x ∷ xs) c = read_snoc (10 * a + (x - 48)) xs c

joined : (m n : ℕ) → m ≡ n / 10 → 10 * m + ((48 + n % 10) - 48) ≡ n
joined m n e = omega arith

pub read_back : (f n : ℕ) → n < tens (suc f) → read_from 0 (digits_of (suc f) n) ≡ n
unfolding read_from
read_back zero n h = ap (read_from 0) (digits_one zero n h) ∙ omega arith
read_back (suc f) n h =
    by_size n (λ s. ap (read_from 0) (digits_one (suc f) n s) ∙ omega arith)
    (λ l. ap (read_from 0) (digits_more (suc f) n l) ∙ read_snoc 0 (digits_of (suc f) (n / 10)) (48 + n % 10) ∙ joined (read_from 0 (digits_of (suc f) (n / 10))) n (read_back f (n / 10) (omega arith)))

-- there is a first digit, and it is 0 of 0 alone
some : (f n : ℕ) → 0 < length (digits_of (suc f) n)
some f n =
    by_size n (λ s. subst (λ l. 0 < length l) (sym (digits_one f n s)) (omega arith))
    (λ l. subst (λ l. 0 < length l) (sym (digits_more f n l)) (last_there (digits_of f (n / 10)) (48 + n % 10)))
  where
    last_there : (xs : List ℕ) (c : ℕ) → 0 < length (xs ++ (c ∷ []))
    last_there xs c = let e = length-append xs (c ∷ []) in omega arith

pub first_digit : (f n : ℕ) → n < tens (suc f) → get_or (digits_of (suc f) n) 0 0 ≡ 48 → n ≡ 0
first_digit zero n h e = let d = ap (λ l. get_or l 0 0) (digits_one zero n h) in omega arith
first_digit (suc f) n h e =
    by_size n (λ s. one s (ap (λ l. get_or l 0 0) (digits_one (suc f) n s)))
    (λ l. more l (first_digit f (n / 10) (omega arith) (sym (get_or-append (digits_of (suc f) (n / 10)) ((48 + n % 10) ∷ []) 0 0 (some f (n / 10))) ∙ sym (ap (λ d. get_or d 0 0) (digits_more (suc f) n l)) ∙ e)))
  where
    one : n < 10 → get_or (digits_of (suc (suc f)) n) 0 0 ≡ 48 + n → n ≡ 0
    one s d = omega arith

    more : 10 ≤ n → n / 10 ≡ 0 → n ≡ 0
    more l z = omega arith

-- the number without its last digit
pub decimal_more : (n : ℕ) → n < 4294967296 → 10 ≤ n → decimal n ≡ decimal (n / 10) ++ ((48 + n % 10) ∷ [])
unfolding decimal
decimal_more n h l = digits_more 9 n l ∙ ap (λ d. d ++ ((48 + n % 10) ∷ [])) (same 8 (n / 10) (omega arith))

-- a digit shorter
pub decimal_longer : (n : ℕ) → n < 4294967296 → 10 ≤ n → length (decimal n) ≡ length (decimal (n / 10)) + 1
decimal_longer n h l = ap length (decimal_more n h l) ∙ length-append (decimal (n / 10)) ((48 + n % 10) ∷ [])

pub decimal_one : (n : ℕ) → n < 10 → decimal n ≡ (48 + n) ∷ []
unfolding decimal
decimal_one n h = digits_one 9 n h

-- two numbers with the same digits are one
pub decimal_apart : (m n : ℕ) → m < 4294967296 → n < 4294967296 → decimal m ≡ decimal n → m ≡ n
unfolding decimal
decimal_apart m n h k e = sym (read_back 9 m (omega arith)) ∙ ap (read_from 0) e ∙ read_back 9 n (omega arith)

pub decimal_short : (n : ℕ) → length (decimal n) ≤ 10
unfolding decimal
decimal_short n = short 10 n
