-- A list given by what stands at each place: an array's first n elements, or n elements of a ring of slots from a head on.
use Rattle.std.specs.Prelude.{ℕ, zero, suc, ◌+◌, ◌%◌, ◌<◌, ◌≡◌, refl, cond, List, [], ◌∷◌, ◌++◌, map, eqb, length, get_or, set}
use Rattle.std.proofs.Common.{sym, ap, ap₂, ◌∙◌, append_assoc, append-nil, arith, length-append, length-set, get_or-set_same, get_or-set_other}
use Rattle.std.proofs.Math.Decide.{ℕ_discrete}
use Rattle.lists.specs.Tests.{eqb_of, eqb_not}

-- f 0, f 1, .. , f (n - 1)
unfoldable pub listing {ℓ} : {A : Type ℓ} → (ℕ → A) → ℕ → List A
listing f zero = []
listing f (suc n) = listing f n ++ (f n ∷ [])

pub listing_zero {ℓ} : {A : Type ℓ} (f : ℕ → A) → listing f 0 ≡ []
unfolding listing
listing_zero f = refl

-- one more at the end
pub listing_snoc {ℓ} : {A : Type ℓ} (f : ℕ → A) (n : ℕ) → listing f (suc n) ≡ listing f n ++ (f n ∷ [])
unfolding listing
listing_snoc f n = refl

-- the first one
pub listing_cons {ℓ} : {A : Type ℓ} (f : ℕ → A) (n : ℕ) → listing f (suc n) ≡ f 0 ∷ listing (λ k. f (suc k)) n
unfolding listing
listing_cons f zero = refl
listing_cons f (suc n) = ap (λ l. l ++ (f (suc n) ∷ [])) (listing_cons f n)

pub listing_cong {ℓ} : {A : Type ℓ} (f g : ℕ → A) (n : ℕ) → ((k : ℕ) → k < n → f k ≡ g k) → listing f n ≡ listing g n
unfolding listing
listing_cong f g zero e = refl
listing_cong f g (suc n) e = ap₂ (λ x y. x ++ (y ∷ [])) (listing_cong f g n (λ k h. e k (omega arith))) (e n (omega arith))

pub listing_length {ℓ} : {A : Type ℓ} (f : ℕ → A) (n : ℕ) → length (listing f n) ≡ n
unfolding listing
listing_length f zero = refl
listing_length f (suc n) = length-append (listing f n) (f n ∷ []) ∙ (let h = listing_length f n in omega arith)

-- what stands at place k
pub listing_at {ℓ} : {A : Type ℓ} (f : ℕ → A) (n k : ℕ) (d : A) → k < n → get_or (listing f n) k d ≡ f k
listing_at f zero k d h = absurd (omega arith)
listing_at f (suc n) zero d h = rw (listing_cons f n)
listing_at f (suc n) (suc k) d h = rw (listing_cons f n) (listing_at (λ m. f (suc m)) n k d (omega arith))

-- n elements of a ring of c slots, oldest at h
abbrev pub ring {ℓ} : {A : Type ℓ} → (ℕ → A) → ℕ → ℕ → ℕ → List A
ring slot c h n = listing (λ k. slot ((h + k) % c)) n

-- a list is the listing of its elements
pub listing_all {ℓ} : {A : Type ℓ} (l : List A) (d : A) → listing (λ k. get_or l k d) (length l) ≡ l
listing_all [] d = listing_zero _
listing_all (x ∷ l) d = listing_cons (λ k. get_or (x ∷ l) k d) (length l) ∙ ap (x ∷◌) (listing_all l d)

pub map_listing {ℓ κ} : {A : Type ℓ} {B : Type κ} (h : A → B) (f : ℕ → A) (n : ℕ) → map h (listing f n) ≡ listing (λ k. h (f k)) n
unfolding listing
map_listing h f zero = refl
map_listing h f (suc n) = map_snoc (listing f n) ∙ ap (λ l. l ++ (h (f n) ∷ [])) (map_listing h f n)
  where
    map_snoc : (l : List _) → map h (l ++ (f n ∷ [])) ≡ map h l ++ (h (f n) ∷ [])
    map_snoc [] = refl
    map_snoc (x ∷ l) = ap (h x ∷◌) (map_snoc l)

-- m elements, then n more
pub listing_add {ℓ} : {A : Type ℓ} (f : ℕ → A) (m n : ℕ) → listing f (m + n) ≡ listing f m ++ listing (λ k. f (m + k)) n
listing_add f m zero = let e : m + 0 ≡ m = omega arith in ap (listing f) e ∙ sym (ap (λ l. listing f m ++ l) (listing_zero _) ∙ append-nil (listing f m))
listing_add f m (suc n) =
    let e : m + suc n ≡ suc (m + n) = omega arith in
    ap (listing f) e
    ∙ listing_snoc f (m + n)
    ∙ ap (λ l. l ++ (f (m + n) ∷ [])) (listing_add f m n)
    ∙ append_assoc (listing f m) (listing (λ k. f (m + k)) n) (f (m + n) ∷ [])
    ∙ ap (λ l. listing f m ++ l) (sym (listing_snoc (λ k. f (m + k)) n))

-- one of them replaced
pub listing_set : {A : Type 0} (f : ℕ → A) (n i : ℕ) (v : A) → i < n → set (listing f n) i v ≡ listing (λ k. cond (eqb k i) v (f k)) n
listing_set f n i v h =
    sym (listing_all (set (listing f n) i v) v)
    ∙ ap (listing (λ k. get_or (set (listing f n) i v) k v)) (length-set (listing f n) i v ∙ listing_length f n)
    ∙ listing_cong (λ k. get_or (set (listing f n) i v) k v) (λ k. cond (eqb k i) v (f k)) n (λ k g. at k g (ℕ_discrete k i))
  where
    at : (k : ℕ) → k < n → Dec (k ≡ i) → get_or (set (listing f n) i v) k v ≡ cond (eqb k i) v (f k)
    at k g (yes e) = rw (eqb_of e, e) (get_or-set_same (listing f n) i v v (omega (arith, listing_length f n)))
    at k g (no q) = rw (eqb_not q) (get_or-set_other (listing f n) i k v v q ∙ listing_at f n k v g)
