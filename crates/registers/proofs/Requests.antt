-- Requests are numbered in turn, a status is about its own task's operation, and an asking task's operation is neither performed nor sent.
use Prim.Native.Nat.{◌<◌, ◌≤◌, ℕ}
use lib.Dec.{eqb}
use mathlib.Core.Bool.{◌&&◌, true, Bool}
use mathlib.Core.List.{List, [], ◌∷◌}
use mathlib.Core.Logic.{◌⊎◌, inl, inr}
use mathlib.Core.Path.{◌∙◌, ◌≡◌, ap, refl, sym}
use native.Mathlib.Decide.{dec_lt}
use native.Mathlib.Omega.{arith}
use Rattle.lists.specs.Histories.{Any, any_nil, here, there}
use Rattle.lists.specs.Tests.{clash, eqb_of}
use Rattle.registers.proofs.Statuses.{Asks, Busy, changes, stays}
use Rattle.registers.specs.Events.{Performs, Posts, Requests}
use Rattle.registers.specs.Layer.{Values, Event, Precondition, State, Valid, World, ask, asking, base, deliver, dispatch, done, idle, next, perform, quiet, reply, report, request, run, send, waiting, Status, put}

module _ {U : Values} (W : World U) where
  -- a status that an event of operation j puts in is about j; else it is as before
  task_put : (b : Bool) (j : ℕ) (v : Status U) (f : ℕ → Status U) (c k : ℕ) → (Busy v k → j ≡ k) → (Busy (f c) k → W.task k ≡ c) → Busy (put b (W.task j) v f c) k → W.task k ≡ c
  task_put b j v f c k new was h = go (changes (λ s. Busy s k) b (W.task j) v f c h)
    where
      go : ((b ≡ true) × (W.task j ≡ c) × Busy v k) ⊎ Busy (f c) k → W.task k ≡ c
      go (inl x) = ap W.task (sym (new x.2)) ∙ x.1
      go (inr x) = was x

  -- a task's status is about its own operations
  pub busy_task : (E : List (Event U)) (c k : ℕ) → Busy ((run W E).status c) k → W.task k ≡ c
  busy_task [] c k h = elim h [ ]
  busy_task (request j ∷ E) c k h = task_put true j (asking j) (run W E).status c k (λ x. x) (busy_task E c k) h
  busy_task (perform j ∷ E) c k h = task_put true j (done j _) (run W E).status c k (λ x. x) (busy_task E c k) h
  busy_task (send j ∷ E) c k h = task_put true j (waiting j) (run W E).status c k (λ x. x) (busy_task E c k) h
  busy_task (dispatch m ∷ E) c k h = busy_task E c k h
  busy_task (deliver (ask j) i ∷ E) c k h = task_put (W.upd j && eqb i (base W j)) j (done j _) (run W E).status c k (λ x. x) (busy_task E c k) h
  busy_task (deliver (reply j w) i ∷ E) c k h = task_put true j (done j _) (run W E).status c k (λ x. x) (busy_task E c k) h
  busy_task (report j w ∷ E) c k h = busy_task E c k (stays (λ s. Busy s k) true (W.task j) quiet (run W E).status c (λ y. y) h).1
  busy_task (idle ∷ E) c k h = busy_task E c k h

  -- ---- requests are numbered in turn

  count_grows : (s : State U) (e : Event U) → s.count ≤ (next W s e).count
  count_grows s (request k) = omega arith
  count_grows s (perform k) = omega arith
  count_grows s (send k) = omega arith
  count_grows s (dispatch m) = omega arith
  count_grows s (deliver (ask k) i) = omega arith
  count_grows s (deliver (reply k w) i) = omega arith
  count_grows s (report k w) = omega arith
  count_grows s idle = omega arith

  pub below_count : (E : List (Event U)) → Valid W E → (k : ℕ) → Any (Requests k) E → k < (run W E).count
  below_count [] v k x'' = elim x'' [ ]
  below_count (perform _ ∷ E) v k (here p) = elim p [ ]
  below_count (send _ ∷ E) v k (here p) = elim p [ ]
  below_count (dispatch _ ∷ E) v k (here p) = elim p [ ]
  below_count (deliver _ _ ∷ E) v k (here p) = elim p [ ]
  below_count (report _ _ ∷ E) v k (here p) = elim p [ ]
  below_count (idle ∷ E) v k (here p) = elim p [ ]
  below_count (request j ∷ E) v k (here p) = let q = v.0.0 in omega arith
  below_count (e ∷ E) v k (there h) = let q = below_count E v.1 k h in let g = count_grows (run W E) e in omega arith

  pub requested : (E : List (Event U)) → Valid W E → (k : ℕ) → k < (run W E).count → Any (Requests k) E
  requested [] v k h = absurd (omega arith)
  requested (request j ∷ E) v k h = go (dec_lt k (run W E).count) (λ x. requested E v.1 k x)
    where
      go : Dec (k < (run W E).count) → (k < (run W E).count → Any (Requests k) E) → Any (Requests k) (request j ∷ E)
      go (yes x) r = there (r x)
      go (no x) r = let q = v.0.0 in let e : j ≡ k = omega arith in here e
  requested (perform j ∷ E) v k h = there (requested E v.1 k h)
  requested (send j ∷ E) v k h = there (requested E v.1 k h)
  requested (dispatch m ∷ E) v k h = there (requested E v.1 k h)
  requested (deliver (ask j) i ∷ E) v k h = there (requested E v.1 k h)
  requested (deliver (reply j w) i ∷ E) v k h = there (requested E v.1 k h)
  requested (report j w ∷ E) v k h = there (requested E v.1 k h)
  requested (idle ∷ E) v k h = there (requested E v.1 k h)

  -- ---- an asking task's operation has been requested, and neither performed nor sent

  pub record Asked (E : List (Event U)) (c k : ℕ) : Type 0 where
    pub mine : W.task k ≡ c
    pub asked : Any (Requests k) E
    pub unsent : ¬ Any (Posts k) E
    pub unperformed : ¬ Any (Performs k) E

  pub record Base (E : List (Event U)) : Type 0 where
    pub asks : (c k : ℕ) → Asks ((run W E).status c) k → Asked E c k
    pub posted : (k : ℕ) → Any (Posts k) E → Any (Requests k) E
    pub performed : (k : ℕ) → Any (Performs k) E → Any (Requests k) E
    pub alone : (k : ℕ) → Any (Posts k) E → Any (Performs k) E → ⊥

  asked_on : {e : Event U} {E : List (Event U)} {c k : ℕ} → Asked E c k → ¬ Posts k e → ¬ Performs k e → Asked (e ∷ E) c k
  asked_on {e} {E} {c} {k} a p q = record { mine = a.mine; asked = there a.asked; unsent = f; unperformed = g }
    where
      f : ¬ Any (Posts k) (e ∷ E)
      f (here h) = p h
      f (there h) = a.unsent h

      g : ¬ Any (Performs k) (e ∷ E)
      g (here h) = q h
      g (there h) = a.unperformed h

  asks_step : (e : Event U) (E : List (Event U)) → Precondition W (run W E) e → Valid W E → Base E → (c k : ℕ) → Asks ((run W (e ∷ E)).status c) k → Asked (e ∷ E) c k
  asks_step (request j) E cn v b c k h = go (changes (λ s. Asks s k) true (W.task j) (asking j) (run W E).status c h)
    where
      new : W.task j ≡ c → j ≡ k → Asked (request j ∷ E) c k
      new t e = record {
        mine = ap W.task (sym e) ∙ t;
        asked = here e;
        unsent = f;
        unperformed = g;
      }
        where
          f : ¬ Any (Posts k) (request j ∷ E)
          f (here x7) = elim x7 [ ]
          f (there x) = let y = below_count E v k (b.posted k x) in let z = cn.0 in omega arith

          g : ¬ Any (Performs k) (request j ∷ E)
          g (here x7) = elim x7 [ ]
          g (there x) = let y = below_count E v k (b.performed k x) in let z = cn.0 in omega arith

      go : ((true ≡ true) × (W.task j ≡ c) × (j ≡ k)) ⊎ Asks ((run W E).status c) k → Asked (request j ∷ E) c k
      go (inl x) = new x.1 x.2
      go (inr x) = asked_on (b.asks c k x) (λ y. y) (λ y. y)
  asks_step (perform j) E cn v b c k h =
      let x = stays (λ s. Asks s k) true (W.task j) (done j _) (run W E).status c (λ y. y) h in
      let a = b.asks c k x.1 in
      asked_on a (λ y. y) (λ y. clash (eqb_of (ap W.task y ∙ a.mine)) x.0)
  asks_step (send j) E cn v b c k h =
      let x = stays (λ s. Asks s k) true (W.task j) (waiting j) (run W E).status c (λ y. y) h in
      let a = b.asks c k x.1 in
      asked_on a (λ y. clash (eqb_of (ap W.task y ∙ a.mine)) x.0) (λ y. y)
  asks_step (dispatch m) E cn v b c k h = asked_on (b.asks c k h) (λ y. y) (λ y. y)
  asks_step (deliver (ask j) i) E cn v b c k h =
      asked_on (b.asks c k (stays (λ s. Asks s k) (W.upd j && eqb i (base W j)) (W.task j) (done j _) (run W E).status c (λ y. y) h).1) (λ y. y) (λ y. y)
  asks_step (deliver (reply j w) i) E cn v b c k h =
      asked_on (b.asks c k (stays (λ s. Asks s k) true (W.task j) (done j _) (run W E).status c (λ y. y) h).1) (λ y. y) (λ y. y)
  asks_step (report j w) E cn v b c k h =
      asked_on (b.asks c k (stays (λ s. Asks s k) true (W.task j) quiet (run W E).status c (λ y. y) h).1) (λ y. y) (λ y. y)
  asks_step idle E cn v b c k h = asked_on (b.asks c k h) (λ y. y) (λ y. y)

  -- a performed or sent operation's task was asking
  asker : (E : List (Event U)) → Base E → (j k : ℕ) → (run W E).status (W.task j) ≡ asking j → j ≡ k → Asked E (W.task k) k
  asker E b j k e p = b.asks (W.task k) k (rw (← p, e) refl)

  pub posted_step : (e : Event U) (E : List (Event U)) → Precondition W (run W E) e → Base E → (k : ℕ) → Posts k e → Asked E (W.task k) k
  posted_step (request _) E cn b k p = elim p [ ]
  posted_step (perform _) E cn b k p = elim p [ ]
  posted_step (dispatch _) E cn b k p = elim p [ ]
  posted_step (deliver _ _) E cn b k p = elim p [ ]
  posted_step (report _ _) E cn b k p = elim p [ ]
  posted_step idle E cn b k p = elim p [ ]
  posted_step (send j) E cn b k p = asker E b j k cn.0 p

  pub performed_step : (e : Event U) (E : List (Event U)) → Precondition W (run W E) e → Base E → (k : ℕ) → Performs k e → Asked E (W.task k) k
  performed_step (request _) E cn b k p = elim p [ ]
  performed_step (send _) E cn b k p = elim p [ ]
  performed_step (dispatch _) E cn b k p = elim p [ ]
  performed_step (deliver _ _) E cn b k p = elim p [ ]
  performed_step (report _ _) E cn b k p = elim p [ ]
  performed_step idle E cn b k p = elim p [ ]
  performed_step (perform j) E cn b k p = asker E b j k cn.0 p

  posts_performs : (e : Event U) (k : ℕ) → Posts k e → Performs k e → ⊥
  posts_performs (request _) k p q = elim p [ ]
  posts_performs (perform _) k p q = elim p [ ]
  posts_performs (dispatch _) k p q = elim p [ ]
  posts_performs (deliver _ _) k p q = elim p [ ]
  posts_performs (report _ _) k p q = elim p [ ]
  posts_performs idle k p q = elim p [ ]
  posts_performs (send j) k p q = q

  base_step : (e : Event U) (E : List (Event U)) → Precondition W (run W E) e → Valid W E → Base E → Base (e ∷ E)
  base_step e E cn v b = record { asks = asks_step e E cn v b; posted = f; performed = g; alone = a }
    where
      f : (k : ℕ) → Any (Posts k) (e ∷ E) → Any (Requests k) (e ∷ E)
      f k (here p) = there (posted_step e E cn b k p).asked
      f k (there h) = there (b.posted k h)

      g : (k : ℕ) → Any (Performs k) (e ∷ E) → Any (Requests k) (e ∷ E)
      g k (here p) = there (performed_step e E cn b k p).asked
      g k (there h) = there (b.performed k h)

      a : (k : ℕ) → Any (Posts k) (e ∷ E) → Any (Performs k) (e ∷ E) → ⊥
      a k (here p) (here q) = posts_performs e k p q
      a k (here p) (there y) = (posted_step e E cn b k p).unperformed y
      a k (there x) (here q) = (performed_step e E cn b k q).unsent x
      a k (there x) (there y) = b.alone k x y

  pub base_of : (E : List (Event U)) → Valid W E → Base E
  base_of [] v = record { asks = λ c k h. absurd h; posted = λ k h. absurd (any_nil h); performed = λ k h. absurd (any_nil h); alone = λ k h. absurd (any_nil h) }
  base_of (e ∷ E) v = base_step e E v.0 v.1 (base_of E v.1)
