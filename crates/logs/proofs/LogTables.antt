-- The log of the first steps, one step more at a time, and the two tables that hold it.
use Prim.Native.Nat.{ℕ, zero, suc, ◌+◌, ◌%◌, ◌≤◌}
use mathlib.Core.Path.{◌≡◌, refl, sym, ap, ap₂, ◌∙◌}
use mathlib.Core.List.{List, [], ◌++◌, map, map-append}
use native.Mathlib.Omega.{arith}
use native.Mathlib.Nat.{zero-add}
use native.Mathlib.Numerals.{add-one}
use lib.ListN.{length, length-append, length-map}
use lib.Seq.{sets}
use Rattle.lists.specs.Parts.{sets_append}
use Rattle.names.specs.Placement.{Placement}
use Rattle.names.specs.Step.{RawStep}
use Rattle.store.specs.Run.{Store}
use Rattle.runfile.specs.Stepwise.{store_at}
use Rattle.logs.specs.declared.Entry.{Entry}
use Rattle.std.specs.Prelude.{Option, Some, None}
use Rattle.logs.specs.Entries.{entries, step_entry, entry_at, log_at, cards_put, operands_put}

pub entries_most : (e : Option Entry) → length (entries e) ≤ 1
unfolding entries
entries_most None = omega arith
entries_most (Some e) = omega arith

-- entries after entries, where the first end
appended : (f : ℕ × ℕ → ℕ) (t : List ℕ) (l r : List (ℕ × ℕ)) → sets t 0 (map f (l ++ r)) ≡ sets (sets t 0 (map f l)) (length l) (map f r)
appended f t l r =
    ap (sets t 0) (map-append f l r)
    ∙ sets_append t 0 (map f l) (map f r)
    ∙ ap (λ k. sets (sets t 0 (map f l)) k (map f r)) (zero-add (length (map f l)) ∙ length-map l f)

pub cards_none : (t : List ℕ) → cards_put t 0 [] ≡ t
unfolding cards_put
cards_none t = refl

pub operands_none : (t : List ℕ) → operands_put t 0 [] ≡ t
unfolding operands_put
operands_none t = refl

module _ (P : Placement) (x : ℕ) (step : ℕ → RawStep) (m : Store) where
  pub log_zero : log_at P x step m 0 ≡ []
  unfolding log_at
  log_zero = refl

  pub log_more : (k : ℕ) → log_at P x step m (k + 1) ≡ log_at P x step m k ++ entries (entry_at P x step m k)
  unfolding log_at
  log_more k = ap (log_at P x step m) (add-one k)

  -- no more entries than steps
  pub log_most : (k : ℕ) → length (log_at P x step m k) ≤ k
  unfolding log_at
  log_most zero = omega arith
  log_most (suc k) = omega (arith, log_most k, entries_most (entry_at P x step m k), length-append (log_at P x step m k) (entries (entry_at P x step m k)))

  -- what step k adds, from memories that are the store's after k steps
  pub entry_is : (k : ℕ) (rs cs : List ℕ) → rs ≡ (store_at step m k).registers → cs ≡ (store_at step m k).channel
      → step_entry P x rs cs (step k).code (step k).argument ≡ entry_at P x step m k
  entry_is k rs cs p q = ap₂ (λ a b. step_entry P x a b (step k).code (step k).argument) p q

  -- a step more in the tables, and in their count
  module _ (k : ℕ) (n : ℕ) (e : Option Entry) (at : n ≡ length (log_at P x step m k)) (added : e ≡ entry_at P x step m k) where
    put_more : (f : ℕ × ℕ → ℕ) (t us : List ℕ) → us ≡ sets t 0 (map f (log_at P x step m k)) → sets us n (map f (entries e)) ≡ sets t 0 (map f (log_at P x step m (k + 1)))
    put_more f t us h =
        ap₂ (λ (c : List ℕ) (j : ℕ). sets c j (map f (entries e))) h at
        ∙ sym (appended f t (log_at P x step m k) (entries e))
        ∙ ap (λ d. sets t 0 (map f (log_at P x step m k ++ entries d))) added
        ∙ ap (λ l. sets t 0 (map f l)) (sym (log_more k))

    pub cards_more : (t cards : List ℕ) → cards ≡ cards_put t 0 (log_at P x step m k) → cards_put cards n (entries e) ≡ cards_put t 0 (log_at P x step m (k + 1))
    unfolding cards_put
    cards_more t cards h = put_more (λ e. e.0 % 256) t cards h

    pub operands_more : (t operands : List ℕ) → operands ≡ operands_put t 0 (log_at P x step m k) → operands_put operands n (entries e) ≡ operands_put t 0 (log_at P x step m (k + 1))
    unfolding operands_put
    operands_more t operands h = put_more (λ e. e.1) t operands h

    pub length_more : n + length (entries e) ≡ length (log_at P x step m (k + 1))
    length_more =
        ap₂ (λ (j : ℕ) (d : Option Entry). j + length (entries d)) at added
        ∙ sym (length-append (log_at P x step m k) (entries (entry_at P x step m k)))
        ∙ ap length (sym (log_more k))
