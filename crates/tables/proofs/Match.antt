-- Registers' memories that are alike but for where the copies lie stay so under the same write; each has its like in the other layout, and only one.
use Prim.Native.Nat.{ℕ, ◌+◌, ◌-◌, ◌%◌, ◌<◌, ◌≤◌}
use mathlib.Core.Path.{◌≡◌, refl, sym, ap, ap₂, ◌∙◌}
use mathlib.Core.Logic.{◌⊎◌, inl, inr, ◌≢◌}
use mathlib.Core.List.{List}
use native.Mathlib.Decide.{dec_lt, ℕ_discrete}
use native.Mathlib.Omega.{arith}
use lib.ListN.{length, get_or, set, length-set, get_or-eq_default}
use lib.Seq.{get_or-set_same, get_or-set_other}
use Rattle.lists.specs.Listings.{listing, listing_length, listing_at, listing_all, listing_cong}
use Rattle.tables.specs.Layout.{Place, copy_at}
use Rattle.tables.specs.Match.{IsLayout, ReadAlike, RegistersMatch}

-- a word outside the table of copies
abbrev pub Outside : ℕ → Type 0
Outside k = (k < 65) ⊎ (321 ≤ k)

-- one place in one layout is one place in every other
same_place : (p q : Place) → IsLayout p → IsLayout q → (i x j y : ℕ) → p i x ≡ p j y → q i x ≡ q j y
same_place p q a b i x j y e =
    let r = a.apart (i % 8) (x % 32) (j % 8) (y % 32) (omega arith) (omega arith) (omega arith) (omega arith) (sym (a.remainder i x) ∙ e ∙ a.remainder j y) in
    b.remainder i x ∙ ap₂ q r.0 r.1 ∙ sym (b.remainder j y)

not_outside : (p : Place) → IsLayout p → (k i x : ℕ) → Outside k → k ≢ p i x
not_outside p a k i x (inl h) e = let z = (a.inside i x).0 in omega arith
not_outside p a k i x (inr h) e = let z = (a.inside i x).1 in omega arith

-- the other way round
pub turned_alike : {p q : Place} {rs us : List ℕ} → ReadAlike p q rs us → ReadAlike q p us rs
turned_alike z = record { copy= = λ i x. sym (z.copy= i x); word= = λ k h. sym (z.word= k h) }

pub turned : {p q : Place} {rs us : List ℕ} → RegistersMatch p q rs us → RegistersMatch q p us rs
turned z = record { long = z.long'; long' = z.long; alike = turned_alike z.alike }

module _ (p q : Place) (a : IsLayout p) (b : IsLayout q) where
  -- a word outside the table is written
  pub word_match : (rs us : List ℕ) → RegistersMatch p q rs us → (k v : ℕ) → Outside k → RegistersMatch p q (set rs k v) (set us k v)
  word_match rs us z k v o = record {
    long = length-set rs k v ∙ z.long;
    long' = length-set us k v ∙ z.long';
    alike = record {
      copy= = λ i x. get_or-set_other rs k (p i x) v 0 (λ e. not_outside p a k i x o (sym e)) ∙ z.alike.copy= i x ∙ sym (get_or-set_other us k (q i x) v 0 (λ e. not_outside q b k i x o (sym e)));
      word= = λ j h. go j h (ℕ_discrete k j) (dec_lt k 593);
    };
  }
    where
      go : (j : ℕ) → Outside j → Dec (k ≡ j) → Dec (k < 593) → get_or (set rs k v) j 0 ≡ get_or (set us k v) j 0
      go j h (no n) d = get_or-set_other rs k j v 0 (λ e. n (sym e)) ∙ z.alike.word= j h ∙ sym (get_or-set_other us k j v 0 (λ e. n (sym e)))
      go j h (yes e) (yes d) =
          rw (← e) (get_or-set_same rs k v 0 (rw z.long d) ∙ sym (get_or-set_same us k v 0 (rw z.long' d)))
      go j h (yes e) (no n) =
          get_or-eq_default (set rs k v) 0 {n = j} (rw (length-set rs k v, z.long) (omega arith))
          ∙ sym (get_or-eq_default (set us k v) 0 {n = j} (rw (length-set us k v, z.long') (omega arith)))

  -- card i's copy of register x is written
  pub copy_match : (rs us : List ℕ) → RegistersMatch p q rs us → (i x v : ℕ) → RegistersMatch p q (set rs (p i x) v) (set us (q i x) v)
  copy_match rs us z i x v = record {
    long = length-set rs (p i x) v ∙ z.long;
    long' = length-set us (q i x) v ∙ z.long';
    alike = record {
      copy= = λ j y. go j y (ℕ_discrete (p i x) (p j y));
      word= = λ k h.
          get_or-set_other rs (p i x) k v 0 (not_outside p a k i x h) ∙ z.alike.word= k h
          ∙ sym (get_or-set_other us (q i x) k v 0 (not_outside q b k i x h));
    };
  }
    where
      go : (j y : ℕ) → Dec (p i x ≡ p j y) → copy_at p (set rs (p i x) v) j y ≡ copy_at q (set us (q i x) v) j y
      go j y (yes e) =
          ap (λ k. get_or (set rs (p i x) v) k 0) (sym e)
          ∙ get_or-set_same rs (p i x) v 0 (let h = (a.inside i x).1 in omega (arith, z.long))
          ∙ sym (get_or-set_same us (q i x) v 0 (let h = (b.inside i x).1 in omega (arith, z.long')))
          ∙ ap (λ k. get_or (set us (q i x) v) k 0) (same_place p q a b i x j y e)
      go j y (no n) =
          get_or-set_other rs (p i x) (p j y) v 0 (λ e. n (sym e)) ∙ z.alike.copy= j y
          ∙ sym (get_or-set_other us (q i x) (q j y) v 0 (λ e. n (same_place q p b a i x j y (sym e))))

  -- the like of a memory in the other layout
  module _ (us : List ℕ) where
    abbrev word_by : (k : ℕ) → Dec (k < 65) → Dec (k < 321) → ℕ
    word_by k (yes h) d = get_or us k 0
    word_by k (no n) (no m) = get_or us k 0
    word_by k (no n) (yes h) = let f = a.filled k (omega arith) h in copy_at q us f.0 f.1

    abbrev word : ℕ → ℕ
    word k = word_by k (dec_lt k 65) (dec_lt k 321)

    abbrev words : ℕ
    words = 593 + (length us - 593)

    pub relaid : List ℕ
    relaid = listing word words

    word_outside : (k : ℕ) → Outside k → (d : Dec (k < 65)) (e : Dec (k < 321)) → word_by k d e ≡ get_or us k 0
    word_outside k o (yes h) e = refl
    word_outside k o (no n) (no m) = refl
    word_outside k (inl h) (no n) (yes m) = absurd (n h)
    word_outside k (inr h) (no n) (yes m) = absurd (omega arith)

    word_copy : (i x : ℕ) (d : Dec (p i x < 65)) (e : Dec (p i x < 321)) → word_by (p i x) d e ≡ copy_at q us i x
    word_copy i x (yes h) e = let z = (a.inside i x).0 in absurd (omega arith)
    word_copy i x (no n) (no m) = absurd (m (a.inside i x).1)
    word_copy i x (no n) (yes h) =
        let f = a.filled (p i x) (omega arith) h in
        ap (λ k. get_or us k 0) (same_place p q a b f.0 f.1 i x f.2)

    pub relaid_alike : ReadAlike p q relaid us
    unfolding relaid
    relaid_alike = record {
      copy= = λ i x. listing_at word words (p i x) 0 (let h = (a.inside i x).1 in omega arith) ∙ word_copy i x (dec_lt (p i x) 65) (dec_lt (p i x) 321);
      word= = λ k o. go k o (dec_lt k words);
    }
      where
        go : (k : ℕ) → Outside k → Dec (k < words) → get_or (listing word words) k 0 ≡ get_or us k 0
        go k o (yes h) = listing_at word words k 0 h ∙ word_outside k o (dec_lt k 65) (dec_lt k 321)
        go k o (no n) =
            get_or-eq_default (listing word words) 0 {n = k} (rw (listing_length word words) (omega arith))
            ∙ sym (get_or-eq_default us 0 {n = k} (omega arith))

    pub relaid_match : length us ≡ 593 → RegistersMatch p q relaid us
    unfolding relaid
    relaid_match long = record { long = listing_length word words ∙ (omega arith); long' = long; alike = relaid_alike }

  -- and no other memory is
  pub match_unique : (rs us ws : List ℕ) → RegistersMatch p q rs us → RegistersMatch p q rs ws → us ≡ ws
  match_unique rs us ws y z =
      sym (listing_all us 0)
      ∙ ap (listing (λ k. get_or us k 0)) (y.long' ∙ sym z.long')
      ∙ listing_cong (λ k. get_or us k 0) (λ k. get_or ws k 0) (length ws) (λ k h. go k (dec_lt k 65) (dec_lt k 321))
      ∙ listing_all ws 0
    where
      go : (k : ℕ) → Dec (k < 65) → Dec (k < 321) → get_or us k 0 ≡ get_or ws k 0
      go k (yes h) d = sym (y.alike.word= k (inl h)) ∙ z.alike.word= k (inl h)
      go k (no n) (no m) = sym (y.alike.word= k (inr (omega arith))) ∙ z.alike.word= k (inr (omega arith))
      go k (no n) (yes h) =
          let f = b.filled k (omega arith) h in
          ap (λ j. get_or us j 0) (sym f.2) ∙ sym (y.alike.copy= f.0 f.1) ∙ z.alike.copy= f.0 f.1 ∙ ap (λ j. get_or ws j 0) f.2
