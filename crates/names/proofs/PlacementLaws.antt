-- The placement rules in plain terms: what each test asks, and which placement meets which refusal.
use Rattle.std.proofs.Common.{◌≡◌, ℕ, zero, suc, ◌+◌, ◌/◌, ◌^◌, ◌<◌, ◌≤◌, Bool, true, false, cond, ◌&&◌, eqb, ltb, leb, ◌↔◌, length, refl, subst, div-lt_iff_lt-mul, arith, ltb-true, lt-ltb, eq-eqb, eqb-true, le-leb, leb-true}
use native.Mathlib.Nat.{one-le-pow, pow-le-pow_right, pow-succ', div-eq_of_lt}
use native.Mathlib.Decide.{dec_lt}
use Rattle.lists.specs.Tests.{and_fst, and_snd, and_intro, clash, false_of}
use Rattle.lists.specs.Every.{each, each_at, each_of}
use Rattle.names.specs.CardSet.{bit_of, member_of}
use Rattle.names.specs.Placement.{Placement, sizes_in_range, home_placed, register_placed, homes_placed, registers_placed, tasks, registers, home, holders, primary, sized, placed, placement_refusal}

-- ---- sets of cards

-- bit i is the highest that a number below 2^(i + 1) can have
bit_clear : (h i : ℕ) → h < 2 ^ suc i → (member_of h i ≡ true → ⊥) → h < 2 ^ i
unfolding member_of
bit_clear h i b n = go (dec_lt h (2 ^ i))
  where
    go : Dec (h < 2 ^ i) → h < 2 ^ i
    go (yes l) = l
    go (no m) =
        let p = one-le-pow i 2 (omega arith) in
        let e = pow-succ' 2 i in
        let two : h / 2 ^ i < 2 = (div-lt_iff_lt-mul {k = 2 ^ i} {x = h} {y = 2} (omega arith)).1 (omega arith) in
        let one : (h / 2 ^ i < 1 → ⊥) = λ q. m (let w = (div-lt_iff_lt-mul {k = 2 ^ i} {x = h} {y = 1} (omega arith)).0 q in omega arith) in
        absurd (n (eq-eqb (bit_of h i) 1 (omega arith)))

bits_clear : (h n k : ℕ) → h < 2 ^ (n + k) → ((i : ℕ) → member_of h i ≡ true → i < n) → h < 2 ^ n
bits_clear h n zero b f = let e : n + 0 ≡ n = omega arith in rw e at b
bits_clear h n (suc k) b f = let e : n + suc k ≡ suc (n + k) = omega arith in bits_clear h n k (bit_clear h (n + k) (rw e at b) (λ t. let w = f (n + k) t in absurd (omega arith))) f

below_power : (h : ℕ) → h < 2 ^ h
below_power zero = omega arith
below_power (suc h) = let w = below_power h in let e = pow-succ' 2 h in omega arith

not_past : (h n i : ℕ) → h < 2 ^ n → n ≤ i → member_of h i ≡ true → ⊥
unfolding member_of
not_past h n i b l m =
    let p = pow-le-pow_right {n = 2} (omega arith) {i = n} {j = i} l in
    let z = div-eq_of_lt {n = h} {m = 2 ^ i} (omega arith) in
    let o = eqb-true (bit_of h i) 1 m in
    omega arith

-- a set is below 2^n exactly when it has only cards below n
pub only_below : (h n : ℕ) → (h < 2 ^ n) ↔ ((i : ℕ) → member_of h i ≡ true → i < n)
only_below h n = (λ b i m. go b i m (dec_lt i n), λ f. bits_clear h n h (let p = pow-le-pow_right {n = 2} (omega arith) {i = h} {j = n + h} (omega arith) in let w = below_power h in omega arith) f)
  where
    go : h < 2 ^ n → (i : ℕ) → member_of h i ≡ true → Dec (i < n) → i < n
    go b i m (yes l) = l
    go b i m (no l) = absurd (not_past h n i b (omega arith) m)

-- ---- what the tests ask

-- the sizes of RULES 1.3
abbrev pub InRange : ℕ → ℕ → ℕ → Type 0
InRange cards registers tasks = (1 ≤ cards) × (cards ≤ 8) × (1 ≤ registers) × (registers ≤ 32) × (1 ≤ tasks) × (tasks ≤ 16)

pub in_range_lem : (cards registers tasks : ℕ) → (sizes_in_range cards registers tasks ≡ true) ↔ InRange cards registers tasks
unfolding sizes_in_range
in_range_lem c r t =
    let two : Bool = leb 1 c && leb c 8 in
    let three : Bool = two && leb 1 r in
    let four : Bool = three && leb r 32 in
    let five : Bool = four && leb 1 t in (
      λ e5.
          let e4 = and_fst five (leb t 16) e5 in
          let e3 = and_fst four (leb 1 t) e4 in
          let e2 = and_fst three (leb r 32) e3 in
          let e1 = and_fst two (leb 1 r) e2 in (
            leb-true 1 c (and_fst (leb 1 c) (leb c 8) e1),
            leb-true c 8 (and_snd (leb 1 c) (leb c 8) e1),
            leb-true 1 r (and_snd two (leb 1 r) e2),
            leb-true r 32 (and_snd three (leb r 32) e3),
            leb-true 1 t (and_snd four (leb 1 t) e4),
            leb-true t 16 (and_snd five (leb t 16) e5),
          ),
      λ h. rw (le-leb 1 c h.0, le-leb c 8 h.1, le-leb 1 r h.2, le-leb r 32 h.3, le-leb 1 t h.4, le-leb t 16 h.5),
    )

-- no copy on an absent card, and one on the primary: so there is one
abbrev pub Lies : ℕ → ℕ → ℕ → Type 0
Lies cards holders primary = ((i : ℕ) → member_of holders i ≡ true → i < cards) × (member_of holders primary ≡ true)

some_copy : (h i : ℕ) → member_of h i ≡ true → 1 ≤ h
unfolding member_of
some_copy zero i m =
    let p = one-le-pow i 2 (omega arith) in
    let z = div-eq_of_lt {n = 0} {m = 2 ^ i} (omega arith) in
    let o = eqb-true (bit_of 0 i) 1 m in
    absurd (omega arith)
some_copy (suc h) i m = omega arith

pub register_lies : (cards holders primary : ℕ) → (register_placed cards holders primary ≡ true) ↔ Lies cards holders primary
unfolding register_placed
register_lies n h q = (
  λ e.
      let f = and_fst (leb 1 h && ltb h (2 ^ n)) (member_of h q) e in
      ((only_below h n).0 (ltb-true h (2 ^ n) (and_snd (leb 1 h) (ltb h (2 ^ n)) f)), and_snd (leb 1 h && ltb h (2 ^ n)) (member_of h q) e),
  λ l. rw (le-leb 1 h (some_copy h q l.1), lt-ltb h (2 ^ n) ((only_below h n).1 l.0), l.1),
)

-- ---- when a placement is refused

module _ (p : Placement) where
  -- every size is in its range, and the tables of copies and primaries have one length
  abbrev pub Sized : Type 0
  Sized = InRange p.cards (registers p) (tasks p) × (length p.primaries ≡ registers p)

  -- every home is present, and every register's copies lie as they must
  abbrev pub Placed : Type 0
  Placed = ((c : ℕ) → c < tasks p → home p c < p.cards) × ((x : ℕ) → x < registers p → Lies p.cards (holders p x) (primary p x))

  pub sized_is : (sized p ≡ true) ↔ Sized
  unfolding sized
  sized_is =
      let s = in_range_lem p.cards (registers p) (tasks p) in (
        λ e. (
          s.0 (and_fst (sizes_in_range p.cards (registers p) (tasks p)) (eqb (length p.primaries) (registers p)) e),
          eqb-true (length p.primaries) (registers p) (and_snd (sizes_in_range p.cards (registers p) (tasks p)) (eqb (length p.primaries) (registers p)) e),
        ),
        λ h. and_intro (s.1 h.0) (eq-eqb (length p.primaries) (registers p) h.1),
      )

  pub placed_is : (placed p ≡ true) ↔ Placed
  unfolding placed homes_placed registers_placed home_placed
  placed_is =
      let H : ℕ → Bool = λ c. home_placed p.cards (home p c) in
      let R : ℕ → Bool = λ x. register_placed p.cards (holders p x) (primary p x) in (
        λ e. (
          λ c h. ltb-true (home p c) p.cards (each_at (tasks p) H (and_fst (each (tasks p) H) (each (registers p) R) e) c h),
          λ x h. (register_lies p.cards (holders p x) (primary p x)).0 (each_at (registers p) R (and_snd (each (tasks p) H) (each (registers p) R) e) x h),
        ),
        λ l.
            and_intro
            (each_of (tasks p) H (λ c h. lt-ltb (home p c) p.cards (l.0 c h)))
            (each_of (registers p) R (λ x h. (register_lies p.cards (holders p x) (primary p x)).1 (l.1 x h))),
      )

-- the number of a placement: 3, then 4 (RULES 8.4)
pub data PlacementVerdict (p : Placement) : ℕ → Type 0 where
  size_out_of_range : ¬ Sized p → PlacementVerdict p 3
  misplaced : Sized p → ¬ Placed p → PlacementVerdict p 4
  accepted : Sized p → Placed p → PlacementVerdict p 0

-- a placement's refusal is its verdict's number, and no other
pub placement_verdict : (p : Placement) (n : ℕ) → (placement_refusal p ≡ n) ↔ PlacementVerdict p n
unfolding placement_refusal
placement_verdict p n = (λ e. subst (PlacementVerdict p) e (found (sized p) (placed p) refl refl), told)
  where
    found : (s q : Bool) → sized p ≡ s → placed p ≡ q → PlacementVerdict p (cond s (cond q 0 4) 3)
    found true true a b = accepted ((sized_is p).0 a) ((placed_is p).0 b)
    found true false a b = misplaced ((sized_is p).0 a) (λ h. clash ((placed_is p).1 h) b)
    found false q a b = size_out_of_range (λ h. clash ((sized_is p).1 h) a)

    told : {m : ℕ} → PlacementVerdict p m → placement_refusal p ≡ m
    told (size_out_of_range h) = rw (false_of (sized p) (λ e. h ((sized_is p).0 e)))
    told (misplaced h k) = rw ((sized_is p).1 h, false_of (placed p) (λ e. k ((placed_is p).0 e)))
    told (accepted h k) = rw ((sized_is p).1 h, (placed_is p).1 k)

-- an accepted placement is sized and placed
pub accepted_is : (p : Placement) → placement_refusal p ≡ 0 → Sized p × Placed p
accepted_is p ok = go ((placement_verdict p 0).0 ok) refl
  where
    go : {m : ℕ} → PlacementVerdict p m → m ≡ 0 → Sized p × Placed p
    go (size_out_of_range h) e = absurd (omega arith)
    go (misplaced h k) e = absurd (omega arith)
    go (accepted h k) e = (h, k)
