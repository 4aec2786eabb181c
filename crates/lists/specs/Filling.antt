-- An array filled from its start, place by place.
use Rattle.std.specs.Prelude.{ℕ, suc, ◌+◌, ◌≡◌, refl, List, [], ◌∷◌, length, set, drop}
use Rattle.std.proofs.Common.{ap, ◌∙◌, append-nil, arith}
use Rattle.std.proofs.lemmas.List.Edits.{sets}
use Rattle.std.proofs.Math.Seq.{drop-length}
use Rattle.lists.specs.Parts.{sets_append, sets_at_seam}
use Rattle.lists.specs.Listings.{listing, listing_zero, listing_snoc, listing_length}

-- f 0 to f (k - 1) in its first k places
abbrev pub filled {ℓ} : {A : Type ℓ} → (ℕ → A) → ℕ → List A → List A
filled f k out = sets out 0 (listing f k)

module _ {A : Type 0} (f : ℕ → A) (out : List A) where
  pub filled_none : out ≡ filled f 0 out
  filled_none = rw (listing_zero f)

  pub filled_more : (k : ℕ) → filled f (k + 1) out ≡ set (filled f k out) k (f k)
  filled_more k =
      let e : k + 1 ≡ suc k = omega arith in
      let n : 0 + length (listing f k) ≡ k = omega (arith, listing_length f k) in
      rw (e, listing_snoc f k) (sets_append out 0 (listing f k) (f k ∷ []) ∙ ap (λ m. set (sets out 0 (listing f k)) m (f k)) n)

  pub filled_whole : (n : ℕ) → length out ≡ n → filled f n out ≡ listing f n
  filled_whole n e =
      let l = listing_length f n in
      let d : drop (length (listing f n)) out ≡ [] = rw (l, ← e) (drop-length out) in
      sets_at_seam [] out (listing f n) 0 refl (omega arith) ∙ rw d (append-nil (listing f n))
