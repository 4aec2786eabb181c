-- The log that the steps of an accepted file make, entry by entry, is the one on the ledger.
use Prim.Native.Nat.{ℕ, zero, suc, ◌%◌}
use mathlib.Core.Path.{◌≡◌, refl, sym, ap, ap₂, subst, ◌∙◌}
use mathlib.Core.List.{List, [], ◌∷◌, ◌++◌, map}
use native.Mathlib.Omega.{arith}
use Rattle.lists.specs.Listings.{listing, listing_zero, listing_snoc}
use Rattle.lists.specs.Maps.{map_map, map_agree}
use Rattle.lists.specs.Filters.{filter}
use Rattle.names.specs.Placement.{Placement, placement_refusal, home, primary}
use Rattle.names.specs.Step.{RawStep}
use Rattle.registers.specs.Layer.{unvalued}
use Rattle.claims.specs.Found.{begin}
use Rattle.claims.specs.Ledger.{Ledger, op_at, ledger, paper}
use Rattle.claims.proofs.CardSets.{home_low}
use Rattle.claims.proofs.Forgetting.{book_forget}
use Rattle.claims.proofs.FoundShown.{shown}
use Rattle.claims.proofs.Shown.{numbers}
use Rattle.claims.proofs.Taken.{executes, paper_snoc}
use Rattle.claims.proofs.Together.{together}
use Rattle.store.specs.SideBySide.{Stands, store_after, advance, advance_all}
use Rattle.store.specs.Run.{Store, started}
use Rattle.store.proofs.SideBySide.{checked_once, after_shows, start_stands}
use Rattle.runfile.specs.RunFile.{steps_in, step_in, placement_in, file_refusal}
use Rattle.runfile.specs.Stepwise.{store_at}
use Rattle.runfile.proofs.RunFileLaws.{accepted_placement}
use Rattle.runfile.proofs.StepwiseLaws.{store_zero, store_suc}
use Rattle.logs.specs.Log.{log_cards, log_operands}
use Rattle.logs.specs.Entries.{entries, step_entry, log_at}
use Rattle.logs.specs.FileLog.{file_cards, file_operands}
use Rattle.logs.proofs.LedgerLog.{adds_in, pair_in, log_of}
use Rattle.logs.proofs.StepEntries.{step_adds}

advance_snoc : (m : Store) (l : List RawStep) (a : RawStep) → advance_all m (l ++ (a ∷ [])) ≡ advance (advance_all m l) a
advance_snoc m [] a = refl
advance_snoc m (c ∷ l) a = advance_snoc (advance m c) l a

-- the store after k steps, by the list of these steps
store_listed : (step : ℕ → RawStep) (m : Store) (k : ℕ) → store_at step m k ≡ advance_all m (listing step k)
store_listed step m zero = store_zero step m ∙ ap (advance_all m) (sym (listing_zero step))
store_listed step m (suc k) =
    store_suc step m k
    ∙ ap (λ n. advance n (step k)) (store_listed step m k)
    ∙ sym (ap (advance_all m) (listing_snoc step k) ∙ advance_snoc m (listing step k) (step k))

module _ (P : Placement) (ok : placement_refusal P ≡ 0) (x : ℕ) where
  -- the ledger with values after a list of steps
  abbrev after : List RawStep → Ledger numbers
  after l = ledger P (paper P l)

  -- ---- entry by entry

  module _ (m : Store) where
    stands : (l : List RawStep) → Stands (store_after (started P m) l).registers (store_after (started P m) l).channel P (shown P (paper P l))
    stands l = subst (Stands (store_after (started P m) l).registers (store_after (started P m) l).channel P) (together P ok l) (after_shows P (started P m) begin l (start_stands P ok m))

    snoc_adds : (l : List RawStep) (a : RawStep)
        → log_of P x (after (l ++ (a ∷ []))) ≡ log_of P x (after l) ++ entries (step_entry P x (store_after (started P m) l).registers (store_after (started P m) l).channel a.code a.argument)
    snoc_adds l a =
        ap (λ ds. log_of P x (ledger P ds)) (paper_snoc P ok [] l a)
        ∙ step_adds P ok x (paper P l) (executes numbers P ok l) (store_after (started P m) l).registers (store_after (started P m) l).channel (stands l) a

    log_is : (step : ℕ → RawStep) (k : ℕ) → log_at P x step (started P m) k ≡ log_of P x (after (listing step k))
    unfolding log_at
    log_is step zero = ap (λ l. log_of P x (after l)) (sym (listing_zero step))
    log_is step (suc k) =
        let same = store_listed step (started P m) k ∙ checked_once.store P ok m (listing step k) in
        ap₂ (λ (l : List (ℕ × ℕ)) (n : Store). l ++ entries (step_entry P x n.registers n.channel (step k).code (step k).argument)) (log_is step k) same
        ∙ sym (ap (λ l. log_of P x (after l)) (listing_snoc step k) ∙ snoc_adds (listing step k) (step k))

  -- ---- the ledger without values has the same log

  module _ (steps : List RawStep) where
    abbrev last : Ledger numbers
    last = after steps

    abbrev those : List ℕ
    those = filter (adds_in P x last.ops) (last.layer.applied (primary P x))

    cards_are : log_cards P steps x ≡ map (λ k. home P (op_at last.ops k).task) those
    cards_are = ap (λ (b : Ledger unvalued). map (λ k. home P (op_at b.ops k).task) (filter (adds_in P x b.ops) (b.layer.applied (primary P x)))) (book_forget numbers P steps)

    operands_are : log_operands P steps x ≡ map (λ k. (op_at last.ops k).arg) those
    operands_are = ap (λ (b : Ledger unvalued). map (λ k. (op_at b.ops k).arg) (filter (adds_in P x b.ops) (b.layer.applied (primary P x)))) (book_forget numbers P steps)

    -- a home card is a byte
    low : (c : ℕ) → home P c % 256 ≡ home P c
    low c = let h = home_low P ok c in omega arith

    cards_in_lem : map (λ e. e.0 % 256) (log_of P x last) ≡ log_cards P steps x
    cards_in_lem =
        map_map (λ e. e.0 % 256) (pair_in P x last.ops) those
        ∙ map_agree (λ k. home P (op_at last.ops k).task % 256) (λ k. home P (op_at last.ops k).task) those (λ k i. low (op_at last.ops k).task)
        ∙ sym cards_are

    operands_in : map (λ e. e.1) (log_of P x last) ≡ log_operands P steps x
    operands_in = map_map (λ e. e.1) (pair_in P x last.ops) those ∙ sym operands_are

pub file_log : (file : List ℕ) → file_refusal file ≡ 0 → (x : ℕ) (m : Store)
    → (map (λ e. e.0 % 256) (log_at (placement_in file) x (step_in file) (started (placement_in file) m) (steps_in file)) ≡ file_cards file x)
    × (map (λ e. e.1) (log_at (placement_in file) x (step_in file) (started (placement_in file) m) (steps_in file)) ≡ file_operands file x)
unfolding file_cards file_operands
file_log file acc x m =
    let P = placement_in file in
    let ok = accepted_placement file acc in
    let e = log_is P ok x m (step_in file) (steps_in file) in
    (ap (map (λ e. e.0 % 256)) e ∙ cards_in_lem P ok x (listing (step_in file) (steps_in file)), ap (map (λ e. e.1)) e ∙ operands_in P ok x (listing (step_in file) (steps_in file)))
