-- The ledger step by step: what it writes down at a step, and how many operations it has.
use Prim.Native.Nat.{suc, zero, ℕ, ◌<◌, ◌≤◌}
use lib.ListN.{drop, length, length-append, take, take-append-drop}
use mathlib.Core.Bool.{true}
use mathlib.Core.List.{List, [], ◌++◌, ◌∷◌}
use mathlib.Core.Logic.{inl, inr, ◌⊎◌}
use mathlib.Core.Option.{Option, none-ne-some, none, some}
use mathlib.Core.Path.{ap, refl, subst, sym, ◌∙◌, ◌≡◌}
use native.Mathlib.Decide.{dec_lt, ℕ_discrete}
use native.Mathlib.Omega.{arith}
use Rattle.lists.specs.Histories.{Suf, back, stop}
use Rattle.lists.specs.Places.{nth}
use Rattle.lists.specs.Tests.{eqb_of}
use Rattle.names.specs.Placement.{Placement, placement_refusal}
use Rattle.names.specs.Results.{is_taken}
use Rattle.registers.specs.Layer.{unvalued}
use Rattle.claims.proofs.LedgerNumbers.{split_at}
use Rattle.claims.proofs.Results.{ledger_taken}
use Rattle.claims.proofs.Taken.{executes, notes_refused, notes_taken, paper_append, paper_snoc, paper_suf, taken}
use Rattle.claims.specs.Ledger.{Action, Ledger, decoded_number, deliver, dispatch, ledger, ledger_refusal, notes, number_of, paper, perform, report, request, send, step, take_broadcast, take_single}
use Rattle.claims.specs.Reports.{RequestedAt, book_at}
use Rattle.claims.specs.Steps.{Decoded, RawStep, bad, decode, good}

module _ {A : Type 0} where
  -- the first m and the first n
  take_longer : (l : List A) (n m : ℕ) → n ≤ m → (r : List A) × (take m l ≡ take n l ++ r)
  take_longer l zero m h = (take m l, refl)
  take_longer l (suc n) zero h = absurd (omega arith)
  take_longer [] (suc n) (suc m) h = ([], refl)
  take_longer (a ∷ l) (suc n) (suc m) h = let r = take_longer l n m (omega arith) in (r.0, ap (λ x. a ∷ x) r.1)

  -- one more
  pub take_one : (l : List A) (n : ℕ) (a : A) → nth l n ≡ some a → take (suc n) l ≡ take n l ++ (a ∷ [])
  take_one [] n a e = absurd (none-ne-some a e)
  take_one (b ∷ l) zero a e = ap (λ x. take 1 x) (split_at (b ∷ l) zero a e).0
  take_one (b ∷ l) (suc n) a e = ap (λ x. b ∷ x) (take_one l n a e)

  take_end : (l : List A) (n : ℕ) → nth l n ≡ none → take (suc n) l ≡ take n l
  take_end [] zero e = refl
  take_end [] (suc n) e = refl
  take_end (b ∷ l) zero e = absurd (none-ne-some b (sym e))
  take_end (b ∷ l) (suc n) e = ap (λ x. b ∷ x) (take_end l n e)

  pub take_short : (l : List A) (n : ℕ) → length (take n l) ≤ n
  take_short l zero = omega arith
  take_short [] (suc n) = omega arith
  take_short (a ∷ l) (suc n) = let h = take_short l n in omega arith

  -- a list in two parts
  pub take_front : (l : List A) (a : A) (r : List A) → (take (length l) (l ++ a ∷ r) ≡ l) × (nth (l ++ a ∷ r) (length l) ≡ some a)
  take_front [] a r = (refl, refl)
  take_front (b ∷ l) a r = let x = take_front l a r in (ap (λ y. b ∷ y) x.0, x.1)

module _ (P : Placement) (ok : placement_refusal P ≡ 0) where
  -- an action opens one operation at most
  opens : (b : Ledger unvalued) (d : Action unvalued) → (length (step P b d).ops ≡ length b.ops) ⊎ (length (step P b d).ops ≡ suc (length b.ops))
  opens b (request o) = let e = length-append b.ops (o ∷ []) in inr (omega arith)
  opens b (perform c k) = inl refl
  opens b (send c k i) = inl refl
  opens b (dispatch i m) = inl refl
  opens b (take_broadcast i) = inl refl
  opens b (take_single c) = inl refl
  opens b (deliver m i) = inl refl
  opens b (report c k w) = inl refl

  pub grown : {cs ds : List (Action unvalued)} → Suf cs ds → length (ledger P cs).ops ≤ length (ledger P ds).ops
  grown stop = omega arith
  grown (back {e = d} {E = ds} s) = go (opens (ledger P ds) d) (grown s)
    where
      go : {n : ℕ} → (length (step P (ledger P ds) d).ops ≡ length (ledger P ds).ops) ⊎ (length (step P (ledger P ds) d).ops ≡ suc (length (ledger P ds).ops))
          → n ≤ length (ledger P ds).ops → n ≤ length (step P (ledger P ds) d).ops
      go (inl e) h = omega arith
      go (inr e) h = omega arith

  module _ (steps : List RawStep) where
    -- what it has written down before step n
    abbrev pub before : ℕ → List (Action unvalued)
    before n = paper P (take n steps)

    pub before_suf : (n m : ℕ) → n ≤ m → Suf (before n) (before m)
    before_suf n m h =
        let r = take_longer steps n m h in
        subst (λ l. Suf (before n) (paper P l)) (sym r.1) (subst (Suf (before n)) (sym (paper_append P ok [] (take n steps) r.0)) (paper_suf P ok (before n) r.0))

    pub whole_suf : (n : ℕ) → Suf (before n) (paper P steps)
    whole_suf n =
        subst (λ l. Suf (before n) (paper P l)) (take-append-drop n steps)
        (subst (Suf (before n)) (sym (paper_append P ok [] (take n steps) (drop n steps))) (paper_suf P ok (before n) (drop n steps)))

    -- step a at place n
    pub one_step : (n : ℕ) (a : RawStep) → nth steps n ≡ some a → before (suc n) ≡ notes P (before n) (decode P a)
    one_step n a e = ap (paper P) (take_one steps n a e) ∙ paper_snoc P ok [] (take n steps) a

    -- a step that opens an operation is taken, and opens one
    abbrev Grows : ℕ → Type 0
    Grows n = (a : RawStep) × (nth steps n ≡ some a) × (is_taken (number_of P (book_at P steps n) a) ≡ true) × (length (book_at P steps (suc n)).ops ≡ suc (length (book_at P steps n).ops))

    grows : (n : ℕ) → (length (book_at P steps (suc n)).ops ≡ length (book_at P steps n).ops) ⊎ Grows n
    grows n = go (nth steps n) refl
      where
        book_of : List RawStep → Ledger unvalued
        book_of l = ledger P (paper P l)

        at : (a : RawStep) → nth steps n ≡ some a → (d : Decoded) → decode P a ≡ d → (length (book_at P steps (suc n)).ops ≡ length (book_at P steps n).ops) ⊎ Grows n
        at a e (bad m) q = inl (ap (λ ds. length (ledger P ds).ops) (one_step n a e ∙ ap (notes P (before n)) q))
        at a e (good c) q = by (ℕ_discrete (ledger_refusal P (book_at P steps n) c) 0)
          where
            by : Dec (ledger_refusal P (book_at P steps n) c ≡ 0) → (length (book_at P steps (suc n)).ops ≡ length (book_at P steps n).ops) ⊎ Grows n
            by (yes z) = kind (opens (book_at P steps n) t.0)
              where
                t : (d : Action unvalued) × (before (suc n) ≡ d ∷ before n)
                t = (
                  (taken P ok (before n) (executes unvalued P ok (take n steps)) c z).0,
                  one_step n a e ∙ ap (notes P (before n)) q ∙ notes_taken P ok (before n) (executes unvalued P ok (take n steps)) c z,
                )

                after : length (book_at P steps (suc n)).ops ≡ length (step P (book_at P steps n) t.0).ops
                after = ap (λ ds. length (ledger P ds).ops) t.1

                kind : (length (step P (book_at P steps n) t.0).ops ≡ length (book_at P steps n).ops) ⊎ (length (step P (book_at P steps n) t.0).ops ≡ suc (length (book_at P steps n).ops))
                    → (length (book_at P steps (suc n)).ops ≡ length (book_at P steps n).ops) ⊎ Grows n
                kind (inl x) = inl (after ∙ x)
                kind (inr x) = inr (a, e, ap (λ d. is_taken (decoded_number P (book_at P steps n) d)) q ∙ ledger_taken P (book_at P steps n) c ∙ eqb_of z, after ∙ x)
            by (no z) = inl (ap (λ ds. length (ledger P ds).ops) (one_step n a e ∙ ap (notes P (before n)) q ∙ notes_refused P ok (before n) c z))

        go : (o : Option RawStep) → nth steps n ≡ o → (length (book_at P steps (suc n)).ops ≡ length (book_at P steps n).ops) ⊎ Grows n
        go none e = inl (ap (λ l. length (book_of l).ops) (take_end steps n e))
        go (some a) e = at a e (decode P a) refl

    -- an operation that the ledger has before step n was opened at an earlier one
    pub opened : (n k : ℕ) → k < length (book_at P steps n).ops → (m : ℕ) × (m < n) × RequestedAt P steps k m
    opened zero k h = absurd (omega arith)
    opened (suc n) k h = go (dec_lt k (length (book_at P steps n).ops)) (opened n k)
      where
        now : ¬ (k < length (book_at P steps n).ops) → (length (book_at P steps (suc n)).ops ≡ length (book_at P steps n).ops) ⊎ Grows n → (m : ℕ) × (m < suc n) × RequestedAt P steps k m
        now z (inl e) = absurd (omega arith)
        now z (inr (a, e, t, g)) = (n, omega arith, record { it = a; stands = e; taken = t; before= = omega arith; after= = omega arith })

        go : Dec (k < length (book_at P steps n).ops) → (k < length (book_at P steps n).ops → (m : ℕ) × (m < n) × RequestedAt P steps k m) → (m : ℕ) × (m < suc n) × RequestedAt P steps k m
        go (yes x) r = let y = r x in (y.0, (let z = y.1 in omega arith), y.2)
        go (no x) r = now x (grows n)
