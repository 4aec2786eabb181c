-- All holders of a register apply its updates in one order and find the same values (specs/OneOrder): each shows what the serial order has.
use Prim.Native.Nat.{ℕ}
use lib.ListN.{drop, get_or}
use mathlib.Core.Bool.{true}
use mathlib.Core.List.{List, [], ◌++◌, ◌∷◌}
use mathlib.Core.Logic.{◌⊎◌, inl, inr}
use mathlib.Core.Path.{◌∙◌, ◌≡◌, ap, ap₂, refl, sym}
use Rattle.multicast.specs.Promise.{Promise}
use Rattle.lists.specs.Filters.{filter, in_split}
use Rattle.lists.specs.Histories.{Any, At, at_any}
use Rattle.lists.specs.Made.{make}
use Rattle.lists.specs.Sorting.{sort}
use Rattle.registers.proofs.Laws.{Laws, rank_laws}
use Rattle.registers.proofs.Ordered.{Ordered, ordered}
use Rattle.registers.proofs.Serial.{explained, finds}
use Rattle.registers.proofs.Values.{copy_value, gives_found}
use Rattle.registers.specs.Events.{Crucial, Gives}
use Rattle.registers.specs.Explains.{Explains, somewhere, updates_of}
use Rattle.registers.specs.Key.{bound, incl, key_at}
use Rattle.registers.specs.Layer.{Values, Event, Msg, Valid, World, fun, run, view}
use Rattle.registers.specs.OneOrder.{FirstPart, HoldersAgree, OneOrder}

-- two first parts of one list
first_parts : (a b r s : List ℕ) → a ++ r ≡ b ++ s → FirstPart a b ⊎ FirstPart b a
first_parts [] b r s e = inl (b, refl)
first_parts (x ∷ a) [] r s e = inr (x ∷ a, refl)
first_parts (x ∷ a) (y ∷ b) r s e = go (first_parts a b r s (ap (drop 1) e))
  where
    same : x ≡ y
    same = ap (λ l. get_or l 0 0) e

    go : FirstPart a b ⊎ FirstPart b a → FirstPart (x ∷ a) (y ∷ b) ⊎ FirstPart (y ∷ b) (x ∷ a)
    go (inl (t, q)) = inl (t, ap₂ (λ z l. z ∷ l) (sym same) q)
    go (inr (t, q)) = inr (t, ap₂ (λ z l. z ∷ l) same q)

module _ {U : Values} (W : World U) (rank : Msg U → ℕ) (E : List (Event U)) (y : Valid W E) (p : Promise (view W) rank E) where
  o : Ordered W rank E
  o = ordered W rank E p

  abbrev key : ℕ → ℕ
  key = key_at W rank (bound E) E

  L : Laws W E key
  L = rank_laws W rank E y o

  X : Explains W E (sort key (incl W E))
  X = explained W rank E y o key L

  -- what an operation finds, wherever it takes effect, is what its register's earlier updates in the order make of the start value
  value_found : (k i : ℕ) (B : List (Event U)) → At (Crucial W k i) B E → (pre post : List ℕ) → sort key (incl W E) ≡ pre ++ k ∷ post
      → (run W B).val i (W.reg k) ≡ make (fun W) (U.nought (W.reg k)) (filter (updates_of W (W.reg k)) pre)
  value_found k i B x pre post e =
      copy_value W B i (W.reg k) ∙ ap (make (fun W) (U.nought (W.reg k))) (sym (finds W rank E y o key L k i B x pre post e))

  found : (k i j : ℕ) (B C : List (Event U)) → W.upd k ≡ true → At (Crucial W k i) B E → At (Crucial W k j) C E → (run W B).val i (W.reg k) ≡ (run W C).val j (W.reg k)
  found k i j B C u x z =
      let s = in_split (X.complete k (somewhere u i (at_any x))) in
      value_found k i B x s.0 s.1 s.2 ∙ sym (value_found k j C z s.0 s.1 s.2)

  told : (k i : ℕ) (B : List (Event U)) (v : U.Val) → W.upd k ≡ true → Any (Gives k v) E → At (Crucial W k i) B E → v ≡ (run W B).val i (W.reg k)
  told k i B v u h x =
      let t = gives_found W rank E y o k v h in
      t.was ∙ found k t.card i t.past B u t.took x

  one_order : OneOrder W E
  one_order = record {
    copies = λ x i j c d. let a = X.copies x i c in let b = X.copies x j d in first_parts _ _ a.0 b.0 (sym a.1 ∙ b.1);
    found = found;
    told = told;
  }

pub holders_agree : {U : Values} (W : World U) → HoldersAgree W
holders_agree W rank E y p = one_order W rank E y p
