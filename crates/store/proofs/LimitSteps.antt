-- At each limit, the step that meets it is taken, and the next refused: by the refusals' definitions.
use Prim.Native.Nat.{ℕ, suc, ◌+◌, ◌<◌, ◌≤◌}
use mathlib.Core.Path.{◌≡◌}
use mathlib.Core.Bool.{Bool, true, false}
use native.Mathlib.Omega.{arith}
use lib.ListN.{length}
use Rattle.lists.specs.Tests.{false_of}
use Rattle.lists.specs.Every.{each, each_at, each_of}
use Rattle.names.specs.Placement.{Placement}
use Rattle.names.specs.Results.{result_from}
use Rattle.automaton.specs.MostBehind.{most_behind, keeps_up}
use Rattle.automaton.proofs.KeepsUp.{keeps_up_lem, kept_up}
use Rattle.claims.specs.Published.{Published}
use Rattle.store.specs.LimitSteps.{Near, LimitSteps}

module _ (P : Placement) (s : Published) where
  abbrev near_test : ℕ → Bool
  near_test j = keeps_up (suc (length s.channel.sent)) (s.channel.taken j)

  near : Near P s → each P.cards near_test ≡ true
  near h = each_of P.cards near_test (λ j c. keeps_up_lem _ _ (h j c))

  far : (j : ℕ) → j < P.cards → length s.channel.sent ≡ s.channel.taken j + most_behind → each P.cards near_test ≡ false
  far j c e = false_of _ (λ t. let l : suc (length s.channel.sent) ≤ s.channel.taken j + most_behind = kept_up _ _ (each_at P.cards near_test t j c) in omega arith)

  pub limit_steps : LimitSteps P s
  unfolding result_from
  limit_steps = record {
    request = λ c x q. (λ n. rw (q, n), λ n. rw (q, n));
    outbox = λ c x j q k. (λ n. rw (q, k, n), λ n. rw (q, k, n));
    broadcast = λ i m r o t h. (λ n. rw (o, t, near h, n), λ n. rw (o, t, near h, n));
    behind = λ i m r o t j c e. rw (o, t, far j c e);
    flight = λ i m r o t. (λ f. rw (o, t, f), λ x f. rw (o, t, f));
    take = λ i m n d. (λ e. rw (n, d, e), λ e l. rw (n, d, e, l), λ e l. rw (n, d, e, l));
    inbox = λ c x f q. (λ n. rw (f, q, n), λ n. rw (f, q, n));
    held = λ c x f q. (λ n. rw (f, q, n), λ n. rw (f, q, n));
  }
