-- The order explains the values too: what a copy has, and what a report gives.
use Prim.Native.Nat.{ℕ}
use lib.Dec.{eqb}
use mathlib.Core.Bool.{Bool, ◌&&◌, cond, false, true}
use mathlib.Core.List.{List, [], ◌++◌, ◌∷◌}
use mathlib.Core.Logic.{◌⊎◌, inl, inr}
use mathlib.Core.Path.{◌∙◌, ◌≡◌, ap, refl, subst, sym}
use Rattle.multicast.specs.Promise.{Promise}
use Rattle.lists.specs.Filters.{filter}
use Rattle.lists.specs.Histories.{Any, At, any_at, at_map, at_suf, back, before, now, stop, suf_at}
use Rattle.lists.specs.Queues.{push}
use Rattle.registers.proofs.Applied.{delivers_crucial, moment}
use Rattle.registers.proofs.Laws.{Laws, rank_laws}
use Rattle.registers.proofs.Messages.{Brings, dispatched}
use Rattle.registers.proofs.Ordered.{Ordered, ordered, ordered_suf}
use Rattle.registers.proofs.Serial.{explained, finds}
use Rattle.registers.proofs.Statuses.{EndedWith, changes, stays}
use Rattle.registers.specs.Events.{Crucial, Gives}
use Rattle.registers.specs.Explains.{ExplainsValues, updates_of}
use Rattle.registers.specs.Key.{bound, incl, key_at, order}
use Rattle.registers.specs.Layer.{Values, Event, Msg, Precondition, Valid, World, ask, asking, base, deliver, dispatch, done, fun, idle, perform, quiet, reply, report, request, run, send, site, view, waiting}
use Rattle.lists.specs.Sorting.{sort}
use Rattle.lists.specs.Made.{make}

module _ {Val : Type 0} (fun : ℕ → Val → Val) where
  make_push : (b : Bool) (v : Val) (k : ℕ) (l : List ℕ) → make fun v (push b k l) ≡ cond b (fun k (make fun v l)) (make fun v l)
  make_push true v k [] = refl
  make_push true v k (j ∷ l) = make_push true (fun j v) k l
  make_push false v k l = refl

module _ {U : Values} (W : World U) where
  -- one more update
  one_more : (b : Bool) (x k : ℕ) (l : List ℕ) (w : U.Val) → w ≡ make (fun W) (U.nought x) l → cond b (fun W k w) w ≡ make (fun W) (U.nought x) (push b k l)
  one_more b x k l w e = ap (λ u. cond b (fun W k u) u) e ∙ sym (make_push (fun W) b (U.nought x) k l)

  -- a copy has what the updates that it shows make of the register's start value
  pub copy_value : (E : List (Event U)) (i x : ℕ) → (run W E).val i x ≡ make (fun W) (U.nought x) ((run W E).shown i x)
  copy_value [] i x = refl
  copy_value (request k ∷ E) i x = copy_value E i x
  copy_value (perform k ∷ E) i x = one_more (W.upd k && eqb i (base W k) && eqb (W.reg k) x) x k ((run W E).shown i x) ((run W E).val i x) (copy_value E i x)
  copy_value (send k ∷ E) i x = copy_value E i x
  copy_value (dispatch m ∷ E) i x = copy_value E i x
  copy_value (deliver (ask k) j ∷ E) i x = one_more (W.upd k && eqb i j && eqb (W.reg k) x) x k ((run W E).shown i x) ((run W E).val i x) (copy_value E i x)
  copy_value (deliver (reply k w) j ∷ E) i x = copy_value E i x
  copy_value (report k w ∷ E) i x = copy_value E i x
  copy_value (idle ∷ E) i x = copy_value E i x

  -- ---- the value that a task is done with was in the copy where its operation took effect

  pub record Found (E : List (Event U)) (k : ℕ) (v : U.Val) : Type 0 where
    pub card : ℕ
    pub past : List (Event U)
    pub took : At (Crucial W k card) past E
    pub was : v ≡ (run W past).val card (W.reg k)

  found_on : {e : Event U} {E : List (Event U)} {k : ℕ} {v : U.Val} → Found E k v → Found (e ∷ E) k v
  found_on f = record { card = f.card; past = f.past; took = before f.took; was = f.was }

  module _ (rank : Msg U → ℕ) where
    pub done_found : (E : List (Event U)) → Valid W E → Ordered W rank E → (c k : ℕ) (v : U.Val) → EndedWith ((run W E).status c) k v → Found E k v
    done_found [] y o c k v h = absurd h
    done_found (request j ∷ E) y o c k v h =
        found_on (done_found E y.1 (ordered_suf W rank (back stop) o) c k v (stays (λ s. EndedWith s k v) true (W.task j) (asking j) (run W E).status c (λ z. z) h).1)
    done_found (perform j ∷ E) y o c k v h =
        go (changes (λ s. EndedWith s k v) true (W.task j) (done j ((run W E).val (base W j) (W.reg j))) (run W E).status c h) (λ z. done_found E y.1 (ordered_suf W rank (back stop) o) c k v z)
      where
        go : ((true ≡ true) × (W.task j ≡ c) × ((j ≡ k) × ((run W E).val (base W j) (W.reg j) ≡ v))) ⊎ EndedWith ((run W E).status c) k v → (EndedWith ((run W E).status c) k v → Found E k v) → Found (perform j ∷ E) k v
        go (inl x) r = record { card = base W j; past = E; took = now {e = perform j} (x.2.0, refl); was = sym x.2.1 ∙ ap (λ a. (run W E).val (base W j) (W.reg a)) x.2.0 }
        go (inr x) r = found_on (r x)
    done_found (send j ∷ E) y o c k v h =
        found_on (done_found E y.1 (ordered_suf W rank (back stop) o) c k v (stays (λ s. EndedWith s k v) true (W.task j) (waiting j) (run W E).status c (λ z. z) h).1)
    done_found (dispatch m ∷ E) y o c k v h = found_on (done_found E y.1 (ordered_suf W rank (back stop) o) c k v h)
    done_found (deliver (ask j) i ∷ E) y o c k v h =
        go (changes (λ s. EndedWith s k v) (W.upd j && eqb i (base W j)) (W.task j) (done j ((run W E).val i (W.reg j))) (run W E).status c h) (λ z. done_found E y.1 (ordered_suf W rank (back stop) o) c k v z)
      where
        go : (((W.upd j && eqb i (base W j)) ≡ true) × (W.task j ≡ c) × ((j ≡ k) × ((run W E).val i (W.reg j) ≡ v))) ⊎ EndedWith ((run W E).status c) k v → (EndedWith ((run W E).status c) k v → Found E k v) → Found (deliver (ask j) i ∷ E) k v
        go (inl x) r = record { card = i; past = E; took = now {e = deliver (ask j) i} (ap ask x.2.0, refl); was = sym x.2.1 ∙ ap (λ a. (run W E).val i (W.reg a)) x.2.0 }
        go (inr x) r = found_on (r x)
    done_found (deliver (reply j w) i ∷ E) y o c k v h =
        go (changes (λ s. EndedWith s k v) true (W.task j) (done j w) (run W E).status c h) (λ z. done_found E y.1 (ordered_suf W rank (back stop) o) c k v z)
      where
        b : Brings W E j w
        b = (dispatched W rank E y.1 (ordered_suf W rank (back stop) o) (reply j w) (o.sent (reply j w) i E (now (refl, refl))).0).2

        brought : Found E j w
        brought = record { card = site W j; past = b.0; took = at_map (delivers_crucial W j (site W j)) b.1; was = b.2 }

        go : ((true ≡ true) × (W.task j ≡ c) × ((j ≡ k) × (w ≡ v))) ⊎ EndedWith ((run W E).status c) k v → (EndedWith ((run W E).status c) k v → Found E k v) → Found (deliver (reply j w) i ∷ E) k v
        go (inl x) r = found_on (subst (λ a. Found E k a) x.2.1 (subst (λ a. Found E a w) x.2.0 brought))
        go (inr x) r = found_on (r x)
    done_found (report j w ∷ E) y o c k v h =
        found_on (done_found E y.1 (ordered_suf W rank (back stop) o) c k v (stays (λ s. EndedWith s k v) true (W.task j) quiet (run W E).status c (λ z. z) h).1)
    done_found (idle ∷ E) y o c k v h = found_on (done_found E y.1 (ordered_suf W rank (back stop) o) c k v h)

    told : (e : Event U) (B : List (Event U)) (k : ℕ) (v : U.Val) → Gives k v e → Precondition W (run W B) e → EndedWith ((run W B).status (W.task k)) k v
    told (request _) B k v p c = elim p [ ]
    told (perform _) B k v p c = elim p [ ]
    told (send _) B k v p c = elim p [ ]
    told (dispatch _) B k v p c = elim p [ ]
    told (deliver _ _) B k v p c = elim p [ ]
    told idle B k v p c = elim p [ ]
    told (report j w) B k v p c = subst (λ a. EndedWith ((run W B).status (W.task a)) k v) p.0 (subst (λ s. EndedWith s k v) (sym c) p)

    -- and so was the value that a report gives
    pub gives_found : (E : List (Event U)) → Valid W E → Ordered W rank E → (k : ℕ) (v : U.Val) → Any (Gives k v) E → Found E k v
    gives_found E y o k v h =
        let a = any_at h in
        let s = at_suf a.1 in
        let m = moment W y a.1 in
        let f = done_found a.0 m.3 (ordered_suf W rank s o) (W.task k) k v (told m.0 a.0 k v m.1 m.2) in
        record { card = f.card; past = f.past; took = suf_at s f.took; was = f.was }

    -- ---- the values, for an order by any key that keeps the laws

    module _ (E : List (Event U)) (y : Valid W E) (o : Ordered W rank E) (key : ℕ → ℕ) (L : Laws W E key) where
      pub explained_values : ExplainsValues W E (sort key (incl W E))
      explained_values = record { explains = explained W rank E y o key L; reports = f; copies = λ x i c. copy_value E i x }
        where
          f : (k : ℕ) (v : U.Val) → Any (Gives k v) E → (pre post : List ℕ) → sort key (incl W E) ≡ pre ++ k ∷ post → v ≡ make (fun W) (U.nought (W.reg k)) (filter (updates_of W (W.reg k)) pre)
          f k v h pre post e =
              let t = gives_found E y o k v h in
              t.was
              ∙ copy_value t.past t.card (W.reg k)
              ∙ ap (make (fun W) (U.nought (W.reg k))) (sym (finds W rank E y o key L k t.card t.past t.took pre post e))

  -- Every run of the layer whose channel keeps its promise is explained by one serial order, the one of specs/Key, its values too.
  pub serial_values : (rank : Msg U → ℕ) (E : List (Event U)) → Valid W E → Promise (view W) rank E → ExplainsValues W E (order W rank E)
  serial_values rank E y p = explained_values rank E y (ordered W rank E p) (key_at W rank (bound E) E) (rank_laws W rank E y (ordered W rank E p))
