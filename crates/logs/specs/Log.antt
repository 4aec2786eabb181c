-- The log of a run for a register, on the ledger (RULES 16.6): two parallel lists over the updates by function 5 that its primary has applied.
use Rattle.std.specs.Prelude.{ℕ, Bool, ◌&&◌, List, map, eqb}
use Rattle.lists.specs.Filters.{filter}
use Rattle.names.specs.Placement.{Placement, home, primary}
use Rattle.claims.specs.Steps.{RawStep}
use Rattle.claims.specs.SerialOrder.{op, applied_on, updates}

-- the function whose updates are logged
abbrev pub is_sum : ℕ → Bool
is_sum f = eqb f 5

module _ (P : Placement) (steps : List RawStep) (x : ℕ) where
  -- operation k is an update of register x by it
  abbrev pub adds : ℕ → Bool
  adds k = updates P steps x k && is_sum (op P steps k).fn

  -- those applied on the register's primary, in the order applied there
  abbrev pub logged : List ℕ
  logged = filter adds (applied_on P steps (primary P x))

  -- of each the home card of its task, and its operand
  abbrev pub log_cards : List ℕ
  log_cards = map (λ k. home P (op P steps k).task) logged

  abbrev pub log_operands : List ℕ
  log_operands = map (λ k. (op P steps k).arg) logged
