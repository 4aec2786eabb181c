-- A requested operation is its task's present one or is finished; when a task requests again, its earlier operations are finished.
use Prim.Native.Nat.{◌<◌, ℕ}
use borrow.Author.Tests.{eqb-true}
use lib.Dec.{eqb}
use mathlib.Core.Bool.{◌&&◌, true}
use mathlib.Core.List.{List, [], ◌∷◌}
use mathlib.Core.Logic.{◌⊎◌, inl, inr}
use mathlib.Core.Path.{◌∙◌, ◌≡◌, ap, refl, subst, sym}
use native.Mathlib.Omega.{arith}
use Rattle.lists.specs.Histories.{Any, any_nil, back, here, now, stop, there}
use Rattle.lists.specs.Tests.{and_fst, and_snd, clash}
use Rattle.registers.proofs.Messages.{delivered_ask, delivered_reply, dispatched, one_value}
use Rattle.registers.proofs.Ordered.{Ordered, ordered_suf}
use Rattle.registers.proofs.Requests.{base_of, requested}
use Rattle.registers.proofs.Statuses.{Busy, Ended, Waits, busy_waits, changes, keeps, set, stays, waits_waits}
use Rattle.registers.specs.Events.{Delivers, Performs, Posts, Reports, Requests}
use Rattle.registers.specs.Layer.{Values, Event, Msg, Precondition, Valid, World, ask, asking, base, deliver, dispatch, done, idle, perform, quiet, reply, report, request, run, send, site, waiting}

module _ {U : Values} (W : World U) where
  -- the operation is finished: performed, its update delivered at home, or answered
  pub data Fin (E : List (Event U)) (k : ℕ) : Type 0 where
    local : Any (Performs k) E → Fin E k
    own : W.upd k ≡ true → Any (Delivers (ask k) (base W k)) E → Fin E k
    answered : (w : U.Val) → Any (Delivers (reply k w) (base W k)) E → Fin E k

  pub fin_there : {e : Event U} {E : List (Event U)} {k : ℕ} → Fin E k → Fin (e ∷ E) k
  fin_there (local h) = local (there h)
  fin_there (own u h) = own u (there h)
  fin_there (answered w h) = answered w (there h)

  module _ (rank : Msg U → ℕ) where
    -- ---- a requested operation is its task's present one or is finished; a sent one waits or is finished

    pub record Live (E : List (Event U)) : Type 0 where
      pub ended : (c k : ℕ) → Ended ((run W E).status c) k → Fin E k
      pub busy : (k : ℕ) → Any (Requests k) E → Busy ((run W E).status (W.task k)) k ⊎ Fin E k
      pub waits : (k : ℕ) → Any (Posts k) E → Waits ((run W E).status (W.task k)) k ⊎ Fin E k

    -- a message that ends its operation finds it unfinished
    open_ask : (E : List (Event U)) → Valid W E → (k i : ℕ) → Ordered W rank (deliver (ask k) i ∷ E) → W.upd k ≡ true → i ≡ base W k → ¬ Fin E k
    open_ask E v k i o u e (local h) = (base_of W E v).alone k (dispatched W rank E v (ordered_suf W rank (back stop) o) (ask k) (o.sent (ask k) i E (now (refl, refl))).0) h
    open_ask E v k i o u e (own x h) = o.once (ask k) i E (now (refl, refl)) (rw e h)
    open_ask E v k i o u e (answered w h) =
        let d = delivered_reply W rank E v (ordered_suf W rank (back stop) o) k w (base W k) h in
        let t = (o.sent (ask k) i E (now (refl, refl))).1 in
        clash (rw (e, u) at t) (d.0.1 u)

    open_reply : (E : List (Event U)) → Valid W E → (k : ℕ) (w : U.Val) (i : ℕ) → Ordered W rank (deliver (reply k w) i ∷ E) → ¬ Fin E k
    open_reply E v k w i o (local h) =
        let d = dispatched W rank E v (ordered_suf W rank (back stop) o) (reply k w) (o.sent (reply k w) i E (now (refl, refl))).0 in
        (base_of W E v).alone k (delivered_ask W rank E v (ordered_suf W rank (back stop) o) k (site W k) d.0).0 h
    open_reply E v k w i o (own x h) =
        let d = dispatched W rank E v (ordered_suf W rank (back stop) o) (reply k w) (o.sent (reply k w) i E (now (refl, refl))).0 in
        let t = (delivered_ask W rank E v (ordered_suf W rank (back stop) o) k (base W k) h).1 in
        clash (rw x at t) (d.1 x)
    open_reply E v k w i o (answered u h) =
        let b = ordered_suf W rank (back stop) o in
        let e = eqb-true i (base W k) (o.sent (reply k w) i E (now (refl, refl))).1 in
        let d = dispatched W rank E v b (reply k w) (o.sent (reply k w) i E (now (refl, refl))).0 in
        let q = one_value W rank E b k u w (delivered_reply W rank E v b k u (base W k) h).0 d in
        o.once (reply k w) i E (now (refl, refl)) (rw e (subst (λ x. Any (Delivers (reply k x) (base W k)) E) q h))

    resolve : {A B : Type 0} → A ⊎ B → ¬ B → A
    resolve (inl a) n = a
    resolve (inr b) n = absurd (n b)

    pub wait_ask : (E : List (Event U)) → Valid W E → Live E → (k i : ℕ) → Ordered W rank (deliver (ask k) i ∷ E) → W.upd k ≡ true → i ≡ base W k → Waits ((run W E).status (W.task k)) k
    wait_ask E v l k i o u e =
        resolve (l.waits k (dispatched W rank E v (ordered_suf W rank (back stop) o) (ask k) (o.sent (ask k) i E (now (refl, refl))).0)) (open_ask E v k i o u e)

    pub wait_reply : (E : List (Event U)) → Valid W E → Live E → (k : ℕ) (w : U.Val) (i : ℕ) → Ordered W rank (deliver (reply k w) i ∷ E) → Waits ((run W E).status (W.task k)) k
    wait_reply E v l k w i o =
        let d = dispatched W rank E v (ordered_suf W rank (back stop) o) (reply k w) (o.sent (reply k w) i E (now (refl, refl))).0 in
        resolve (l.waits k (delivered_ask W rank E v (ordered_suf W rank (back stop) o) k (site W k) d.0).0) (open_reply E v k w i o)

    fin_ask : {E : List (Event U)} {j k i : ℕ} → W.upd j ≡ true → i ≡ base W j → j ≡ k → Fin (deliver (ask j) i ∷ E) k
    fin_ask {j = j} {i = i} u e p = own (rw p at u) (here {e = deliver (ask j) i} (ap ask p, e ∙ ap (base W) p))

    fin_reply : {E : List (Event U)} {j k i : ℕ} {w : U.Val} → i ≡ base W j → j ≡ k → Fin (deliver (reply j w) i ∷ E) k
    fin_reply {j = j} {i = i} {w} e p = answered w (here {e = deliver (reply j w) i} (ap (λ a. reply a w) p, e ∙ ap (base W) p))

    home_reply : {E : List (Event U)} {j i : ℕ} {w : U.Val} → Ordered W rank (deliver (reply j w) i ∷ E) → i ≡ base W j
    home_reply {E} {j} {i} {w} o = eqb-true _ _ (o.sent (reply j w) i E (now (refl, refl))).1

    ended_step : (e : Event U) (E : List (Event U)) → Precondition W (run W E) e → Ordered W rank (e ∷ E) → Live E → (c k : ℕ) → Ended ((run W (e ∷ E)).status c) k → Fin (e ∷ E) k
    ended_step (request j) E cn o l c k h =
        fin_there (l.ended c k (stays (λ s. Ended s k) true (W.task j) (asking j) (run W E).status c (λ y. y) h).1)
    ended_step (perform j) E cn o l c k h = go (changes (λ s. Ended s k) true (W.task j) (done j _) (run W E).status c h)
      where
        go : ((true ≡ true) × (W.task j ≡ c) × (j ≡ k)) ⊎ Ended ((run W E).status c) k → Fin (perform j ∷ E) k
        go (inl x) = local (here x.2)
        go (inr x) = fin_there (l.ended c k x)
    ended_step (send j) E cn o l c k h =
        fin_there (l.ended c k (stays (λ s. Ended s k) true (W.task j) (waiting j) (run W E).status c (λ y. y) h).1)
    ended_step (dispatch m) E cn o l c k h = fin_there (l.ended c k h)
    ended_step (deliver (ask j) i) E cn o l c k h = go (changes (λ s. Ended s k) (W.upd j && eqb i (base W j)) (W.task j) (done j _) (run W E).status c h)
      where
        go : (((W.upd j && eqb i (base W j)) ≡ true) × (W.task j ≡ c) × (j ≡ k)) ⊎ Ended ((run W E).status c) k → Fin (deliver (ask j) i ∷ E) k
        go (inl x) = fin_ask (and_fst (W.upd j) _ x.0) (eqb-true _ _ (and_snd (W.upd j) _ x.0)) x.2
        go (inr x) = fin_there (l.ended c k x)
    ended_step (deliver (reply j w) i) E cn o l c k h = go (changes (λ s. Ended s k) true (W.task j) (done j _) (run W E).status c h)
      where
        go : ((true ≡ true) × (W.task j ≡ c) × (j ≡ k)) ⊎ Ended ((run W E).status c) k → Fin (deliver (reply j w) i ∷ E) k
        go (inl x) = fin_reply (home_reply o) x.2
        go (inr x) = fin_there (l.ended c k x)
    ended_step (report j w) E cn o l c k h =
        fin_there (l.ended c k (stays (λ s. Ended s k) true (W.task j) quiet (run W E).status c (λ y. y) h).1)
    ended_step idle E cn o l c k h = fin_there (l.ended c k h)

    -- a task's present operation stays it until it is reported
    pub busy_step : (e : Event U) (E : List (Event U)) → Precondition W (run W E) e → Valid W E → Ordered W rank (e ∷ E) → Live E → (k : ℕ) → Busy ((run W E).status (W.task k)) k
        → Busy ((run W (e ∷ E)).status (W.task k)) k ⊎ Reports k e
    busy_step (request j) E cn v o l k h = keeps (λ s. Busy s k) true (W.task j) (asking j) (run W E).status (W.task k) h
        (λ b t. absurd (subst (λ s. Busy s k) cn.1 (rw (← t) at h)))
    busy_step (perform j) E cn v o l k h = keeps (λ s. Busy s k) true (W.task j) (done j _) (run W E).status (W.task k) h
        (λ b t. inl (subst (λ s. Busy s k) cn.0 (rw (← t) at h)))
    busy_step (send j) E cn v o l k h = keeps (λ s. Busy s k) true (W.task j) (waiting j) (run W E).status (W.task k) h
        (λ b t. inl (subst (λ s. Busy s k) cn.0 (rw (← t) at h)))
    busy_step (dispatch m) E cn v o l k h = inl h
    busy_step (deliver (ask j) i) E cn v o l k h = keeps (λ s. Busy s k) (W.upd j && eqb i (base W j)) (W.task j) (done j _) (run W E).status (W.task k) h
        (λ b t. inl (busy_waits ((run W E).status (W.task j)) (rw (← t) at h) (wait_ask E v l j i o (and_fst (W.upd j) _ b) (eqb-true _ _ (and_snd (W.upd j) _ b)))))
    busy_step (deliver (reply j w) i) E cn v o l k h = keeps (λ s. Busy s k) true (W.task j) (done j _) (run W E).status (W.task k) h
        (λ b t. inl (busy_waits ((run W E).status (W.task j)) (rw (← t) at h) (wait_reply E v l j w i o)))
    busy_step (report j w) E cn v o l k h = keeps (λ s. Busy s k) true (W.task j) quiet (run W E).status (W.task k) h
        (λ b t. inr (subst (λ s. Busy s k) cn (rw (← t) at h)))
    busy_step idle E cn v o l k h = inl h

    reports_fin : (e : Event U) (E : List (Event U)) → Precondition W (run W E) e → Live E → (k : ℕ) → Reports k e → Fin (e ∷ E) k
    reports_fin (request _) E cn l k p = elim p [ ]
    reports_fin (perform _) E cn l k p = elim p [ ]
    reports_fin (send _) E cn l k p = elim p [ ]
    reports_fin (dispatch _) E cn l k p = elim p [ ]
    reports_fin (deliver _ _) E cn l k p = elim p [ ]
    reports_fin idle E cn l k p = elim p [ ]
    reports_fin (report j w) E cn l k p = fin_there (l.ended (W.task j) k (subst (λ s. Ended s k) (sym cn) p))

    waits_step : (e : Event U) (E : List (Event U)) → Precondition W (run W E) e → Valid W E → Ordered W rank (e ∷ E) → Live E → (k : ℕ) → Waits ((run W E).status (W.task k)) k
        → Waits ((run W (e ∷ E)).status (W.task k)) k ⊎ Fin (e ∷ E) k
    waits_step (request j) E cn v o l k h = keeps (λ s. Waits s k) true (W.task j) (asking j) (run W E).status (W.task k) h
        (λ b t. absurd (subst (λ s. Waits s k) cn.1 (rw (← t) at h)))
    waits_step (perform j) E cn v o l k h = keeps (λ s. Waits s k) true (W.task j) (done j _) (run W E).status (W.task k) h
        (λ b t. absurd (subst (λ s. Waits s k) cn.0 (rw (← t) at h)))
    waits_step (send j) E cn v o l k h = keeps (λ s. Waits s k) true (W.task j) (waiting j) (run W E).status (W.task k) h
        (λ b t. absurd (subst (λ s. Waits s k) cn.0 (rw (← t) at h)))
    waits_step (dispatch m) E cn v o l k h = inl h
    waits_step (deliver (ask j) i) E cn v o l k h = keeps (λ s. Waits s k) (W.upd j && eqb i (base W j)) (W.task j) (done j _) (run W E).status (W.task k) h
        (λ b t. let u = and_fst (W.upd j) _ b in let e = eqb-true _ _ (and_snd (W.upd j) _ b) in
        inr (fin_ask u e (waits_waits ((run W E).status (W.task j)) (rw (← t) at h) (wait_ask E v l j i o u e))))
    waits_step (deliver (reply j w) i) E cn v o l k h = keeps (λ s. Waits s k) true (W.task j) (done j _) (run W E).status (W.task k) h
        (λ b t. inr (fin_reply (home_reply o) (waits_waits ((run W E).status (W.task j)) (rw (← t) at h) (wait_reply E v l j w i o))))
    waits_step (report j w) E cn v o l k h = keeps (λ s. Waits s k) true (W.task j) quiet (run W E).status (W.task k) h
        (λ b t. absurd (subst (λ s. Waits s k) cn (rw (← t) at h)))
    waits_step idle E cn v o l k h = inl h

    pub busy_new : (e : Event U) (E : List (Event U)) (k : ℕ) → Requests k e → Busy ((run W (e ∷ E)).status (W.task k)) k
    busy_new (perform _) E k p = elim p [ ]
    busy_new (send _) E k p = elim p [ ]
    busy_new (dispatch _) E k p = elim p [ ]
    busy_new (deliver _ _) E k p = elim p [ ]
    busy_new (report _ _) E k p = elim p [ ]
    busy_new idle E k p = elim p [ ]
    busy_new (request j) E k p = set (λ s. Busy s k) (W.task j) (asking j) (run W E).status (W.task k) (ap W.task p) p

    waits_new : (e : Event U) (E : List (Event U)) (k : ℕ) → Posts k e → Waits ((run W (e ∷ E)).status (W.task k)) k
    waits_new (request _) E k p = elim p [ ]
    waits_new (perform _) E k p = elim p [ ]
    waits_new (dispatch _) E k p = elim p [ ]
    waits_new (deliver _ _) E k p = elim p [ ]
    waits_new (report _ _) E k p = elim p [ ]
    waits_new idle E k p = elim p [ ]
    waits_new (send j) E k p = set (λ s. Waits s k) (W.task j) (waiting j) (run W E).status (W.task k) (ap W.task p) p

    pub live_of : (E : List (Event U)) → Valid W E → Ordered W rank E → Live E
    live_of [] v o = record { ended = λ c k h. absurd h; busy = λ k h. absurd (any_nil h); waits = λ k h. absurd (any_nil h) }
    live_of (e ∷ E) v o = step (live_of E v.1 (ordered_suf W rank (back stop) o))
      where
        step : Live E → Live (e ∷ E)
        step l = record { ended = ended_step e E v.0 o l; busy = f; waits = g }
          where
            f : (k : ℕ) → Any (Requests k) (e ∷ E) → Busy ((run W (e ∷ E)).status (W.task k)) k ⊎ Fin (e ∷ E) k
            f k (here p) = inl (busy_new e E k p)
            f k (there h) = f' (l.busy k h)
              where
                f' : Busy ((run W E).status (W.task k)) k ⊎ Fin E k → Busy ((run W (e ∷ E)).status (W.task k)) k ⊎ Fin (e ∷ E) k
                f' (inl x) = f'' (busy_step e E v.0 v.1 o l k x)
                  where
                    f'' : Busy ((run W (e ∷ E)).status (W.task k)) k ⊎ Reports k e → Busy ((run W (e ∷ E)).status (W.task k)) k ⊎ Fin (e ∷ E) k
                    f'' (inl b) = inl b
                    f'' (inr r) = inr (reports_fin e E v.0 l k r)
                f' (inr y) = inr (fin_there y)

            g : (k : ℕ) → Any (Posts k) (e ∷ E) → Waits ((run W (e ∷ E)).status (W.task k)) k ⊎ Fin (e ∷ E) k
            g k (here p) = inl (waits_new e E k p)
            g k (there h) = g' (l.waits k h)
              where
                g' : Waits ((run W E).status (W.task k)) k ⊎ Fin E k → Waits ((run W (e ∷ E)).status (W.task k)) k ⊎ Fin (e ∷ E) k
                g' (inl x) = waits_step e E v.0 v.1 o l k x
                g' (inr y) = inr (fin_there y)

    -- a finished operation has been requested
    pub fin_requested : (E : List (Event U)) → Valid W E → Ordered W rank E → {k : ℕ} → Fin E k → Any (Requests k) E
    fin_requested E v o {k} (local x) = (base_of W E v).performed k x
    fin_requested E v o {k} (own u x) = (base_of W E v).posted k (delivered_ask W rank E v o k (base W k) x).0
    fin_requested E v o {k} (answered u x) = (base_of W E v).posted k (delivered_ask W rank E v o k (site W k) (delivered_reply W rank E v o k u (base W k) x).0.0).0

    -- ---- a task's operations follow one another: when one is requested, the earlier ones are finished

    pub earlier : (E : List (Event U)) → Valid W E → Ordered W rank E → (j k : ℕ) → Any (Requests k) E → j < k → W.task j ≡ W.task k → Fin E j
    earlier [] v o j k x5 h t = elim x5 [ ]
    earlier (perform _ ∷ E) v o j k (here p) h t = elim p [ ]
    earlier (send _ ∷ E) v o j k (here p) h t = elim p [ ]
    earlier (dispatch _ ∷ E) v o j k (here p) h t = elim p [ ]
    earlier (deliver _ _ ∷ E) v o j k (here p) h t = elim p [ ]
    earlier (report _ _ ∷ E) v o j k (here p) h t = elim p [ ]
    earlier (idle ∷ E) v o j k (here p) h t = elim p [ ]
    earlier (request i ∷ E) v o j k (here p) h t =
        fin_there (go ((live_of E v.1 (ordered_suf W rank (back stop) o)).busy j (requested W E v.1 j (let q = v.0.0 in omega arith))))
      where
        go : Busy ((run W E).status (W.task j)) j ⊎ Fin E j → Fin E j
        go (inl x) = absurd (subst (λ s. Busy s j) (ap (run W E).status (t ∙ ap W.task (sym p)) ∙ v.0.1) x)
        go (inr y) = y
    earlier (e ∷ E) v o j k (there x) h t = fin_there (earlier E v.1 (ordered_suf W rank (back stop) o) j k x h t)
