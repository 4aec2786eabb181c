-- One serial order explains a run of the register layer over any channel that keeps its promise (000, Theorem 5.1).
use Prim.Native.Nat.{◌<◌, ℕ}
use borrow.Author.Tests.{eqb-true}
use lib.Dec.{eqb}
use mathlib.Core.Bool.{Bool, ◌&&◌, cond, false, true}
use mathlib.Core.List.{List, [], ◌++◌, ◌∷◌}
use mathlib.Core.Path.{◌∙◌, ◌≡◌, ap, refl, subst, sym}
use Rattle.multicast.specs.Promise.{Promise}
use Rattle.lists.specs.Filters.{filter, filter_in, in_filter}
use Rattle.lists.specs.Histories.{Any, At, In, Suf, any_at, any_left, any_map, at_any, at_suf, stop, suf_any, suf_now, suf_tail}
use Rattle.lists.specs.Sorting.{Keyed, Sorted, sort, before_less, filter_sorted, first_part, in_sort, less_before, less_precedes, push_sorted, sort_in, sort_sorted, sorted_left, sorted_once, sorted_unique}
use Rattle.lists.specs.Tests.{and_fst, and_intro, and_snd, eqb_of}
use Rattle.registers.proofs.Applied.{Effect, delivering, delivers_crucial, effect, in_incl, incl_in, moment, performing, performs_can, performs_crucial, valid_suf}
use Rattle.registers.proofs.Copies.{in_shown, shown_in}
use Rattle.registers.proofs.Requests.{base_of}
use Rattle.registers.proofs.Finished.{Fin, answered, live_of, local, own}
use Rattle.registers.proofs.Laws.{Laws, rank_laws}
use Rattle.registers.proofs.Messages.{delivered_ask, delivered_reply}
use Rattle.registers.proofs.Ordered.{Ordered, ordered, ordered_suf}
use Rattle.registers.proofs.Statuses.{Ended}
use Rattle.registers.specs.Events.{Crucial, Posts, Reports, Requests}
use Rattle.registers.specs.Explains.{Explains, Included, reported, somewhere, updates_of}
use Rattle.registers.specs.Key.{bound, incl, key_at, order}
use Rattle.registers.specs.Layer.{Values, Event, Msg, Precondition, State, Valid, World, ask, base, deliver, dispatch, idle, perform, reply, report, request, run, send, site, to, view}

module _ {U : Values} (W : World U) where
  module _ (rank : Msg U → ℕ) where
    module _ (E : List (Event U)) (v : Valid W E) (o : Ordered W rank E) where
      -- ---- the order

      -- a finished operation took effect
      pub fin_crucial : {B : List (Event U)} {k : ℕ} → Suf B E → Fin W B k → (i : ℕ) × Any (Crucial W k i) B
      fin_crucial {B} {k} s (local h) = (base W k, any_map (performs_crucial W k) h)
      fin_crucial {B} {k} s (own u h) = (base W k, any_map (delivers_crucial W k (base W k)) h)
      fin_crucial {B} {k} s (answered w h) =
          (site W k, any_map (delivers_crucial W k (site W k)) (delivered_reply W rank B (valid_suf W s v) (ordered_suf W rank s o) k w (base W k) h).0.0)

      report_done : (e : Event U) (B : List (Event U)) (k : ℕ) → Reports k e → Precondition W (run W B) e → Ended ((run W B).status (W.task k)) k
      report_done (request _) B k p c = elim p [ ]
      report_done (perform _) B k p c = elim p [ ]
      report_done (send _) B k p c = elim p [ ]
      report_done (dispatch _) B k p c = elim p [ ]
      report_done (deliver _ _) B k p c = elim p [ ]
      report_done idle B k p c = elim p [ ]
      report_done (report j w) B k p c = subst (λ a. Ended ((run W B).status (W.task a)) k) p (subst (λ s. Ended s k) (sym c) p)

      crucial_reported : {k : ℕ} → Any (Reports k) E → (i : ℕ) × Any (Crucial W k i) E
      crucial_reported {k} h =
          let a = any_at h in
          let s = at_suf a.1 in
          let m = moment W v a.1 in
          let l = live_of W rank a.0 m.3 (ordered_suf W rank s o) in
          let r = fin_crucial s (l.ended (W.task k) k (report_done m.0 a.0 k m.1 m.2)) in
          (r.0, suf_any s r.1)

      crucial_event : {k : ℕ} → Included W E k → (i : ℕ) × Any (Crucial W k i) E
      crucial_event (reported h) = crucial_reported h
      crucial_event (somewhere u i h) = (i, h)

      -- an operation that took effect has the placement of its register
      requests_placed : (e : Event U) (s : State U) (k : ℕ) → Requests k e → Precondition W s e → (i : ℕ) → W.holds k i ≡ W.copy (W.reg k) i
      requests_placed (perform _) s k p c i = elim p [ ]
      requests_placed (send _) s k p c i = elim p [ ]
      requests_placed (dispatch _) s k p c i = elim p [ ]
      requests_placed (deliver _ _) s k p c i = elim p [ ]
      requests_placed (report _ _) s k p c i = elim p [ ]
      requests_placed idle s k p c i = elim p [ ]
      requests_placed (request j) s k p c i = subst (λ a. W.holds a i ≡ W.copy (W.reg a) i) p (c.2 i)

      pub lies : {k c : ℕ} → Any (Crucial W k c) E → (i : ℕ) → W.holds k i ≡ W.copy (W.reg k) i
      lies {k} {c} h i = go (effect W (any_at h).1)
        where
          asked : Any (Requests k) E → W.holds k i ≡ W.copy (W.reg k) i
          asked r = let a = any_at r in let m = moment W v a.1 in requests_placed m.0 (run W a.0) k m.1 m.2 i

          go : Effect W k c (any_at h).0 E → W.holds k i ≡ W.copy (W.reg k) i
          go (performing p e) = asked ((base_of W E v).performed k (at_any p))
          go (delivering p) = asked ((base_of W E v).posted k (delivered_ask W rank E v o k c (at_any p)).0)

      -- an operation takes effect where its register's copies lie
      posted_copy : (e : Event U) (s : State U) (k : ℕ) → Posts k e → Precondition W s e → W.upd k ≡ false → W.holds k (W.chosen k) ≡ true
      posted_copy (request _) s k p c = elim p [ ]
      posted_copy (perform _) s k p c = elim p [ ]
      posted_copy (dispatch _) s k p c = elim p [ ]
      posted_copy (deliver _ _) s k p c = elim p [ ]
      posted_copy (report _ _) s k p c = elim p [ ]
      posted_copy idle s k p c = elim p [ ]
      posted_copy (send j) s k p c = subst (λ a. W.upd a ≡ false → W.holds a (W.chosen a) ≡ true) p c.1

      pub at_holder : {k i : ℕ} {B : List (Event U)} → At (Crucial W k i) B E → W.holds k i ≡ true
      at_holder {k} {i} {B} x = go (effect W x)
        where
          go : Effect W k i B E → W.holds k i ≡ true
          go (performing p e) = let m = moment W v p in subst (λ c. W.holds k c ≡ true) e (performs_can W m.0 (run W B) k m.1 m.2).0
          go (delivering p) = sent (W.upd k) refl d.1
            where
              d : Any (Posts k) E × (to W (ask k) i ≡ true)
              d = delivered_ask W rank E v o k i (at_any p)

              sent : (u : Bool) → W.upd k ≡ u → cond u (W.holds k i) (eqb i (W.chosen k)) ≡ true → W.holds k i ≡ true
              sent true q t = t
              sent false q t =
                  let a = any_at d.0 in
                  let m = moment W v a.1 in
                  subst (λ c. W.holds k c ≡ true) (sym (eqb-true _ _ t)) (posted_copy m.0 (run W a.0) k m.1 m.2 q)

      -- ---- an order by any key that keeps the laws

      module _ (key : ℕ → ℕ) (L : Laws W E key) where
        abbrev list : List ℕ
        list = sort key (incl W E)

        keyed : Keyed key (incl W E)
        keyed a b x y e = L.one (crucial_event (incl_in W E a x)).1 (crucial_event (incl_in W E b y)).1 e

        pub order_sorted : Sorted key list
        order_sorted = sort_sorted key (incl W E)

        pub into : {k : ℕ} → Included W E k → In k list
        into h = in_sort key (incl W E) keyed (in_incl W h)

        out_of : {k : ℕ} → In k list → Included W E k
        out_of {k} h = incl_in W E k (sort_in key (incl W E) h)

        -- a copy shows updates in the order of their keys
        shown_sorted : (B : List (Event U)) (i x : ℕ) → Suf B E → Sorted key ((run W B).shown i x)
        shown_sorted [] i x s = tt
        shown_sorted (request j ∷ B) i x s = shown_sorted B i x (suf_tail s)
        shown_sorted (perform j ∷ B) i x s =
            push_sorted key (W.upd j && eqb i (base W j) && eqb (W.reg j) x) j ((run W B).shown i x) (shown_sorted B i x (suf_tail s))
            (λ t c h. L.crucial (suf_now {e = perform j} s (refl, sym (eqb-true _ _ (and_snd (W.upd j) _ (and_fst (W.upd j && eqb i (base W j)) _ t))))) (shown_in W B c i x h).took)
        shown_sorted (send j ∷ B) i x s = shown_sorted B i x (suf_tail s)
        shown_sorted (dispatch m ∷ B) i x s = shown_sorted B i x (suf_tail s)
        shown_sorted (deliver (ask j) c ∷ B) i x s =
            push_sorted key (W.upd j && eqb i c && eqb (W.reg j) x) j ((run W B).shown i x) (shown_sorted B i x (suf_tail s))
            (λ t a h. L.crucial (suf_now {e = deliver (ask j) c} s (refl, sym (eqb-true _ _ (and_snd (W.upd j) _ (and_fst (W.upd j && eqb i c) _ t))))) (shown_in W B a i x h).took)
        shown_sorted (deliver (reply j w) c ∷ B) i x s = shown_sorted B i x (suf_tail s)
        shown_sorted (report j w ∷ B) i x s = shown_sorted B i x (suf_tail s)
        shown_sorted (idle ∷ B) i x s = shown_sorted B i x (suf_tail s)

        -- An operation, wherever it takes effect, finds a copy that shows the updates of its register before it in the order, in that order.
        pub finds : (k i : ℕ) (B : List (Event U)) → At (Crucial W k i) B E → (pre post : List ℕ) → list ≡ pre ++ k ∷ post
            → filter (updates_of W (W.reg k)) pre ≡ (run W B).shown i (W.reg k)
        finds k i B x pre post e = sorted_unique key _ _ (filter_sorted key _ pre (sorted_left key pre (k ∷ post) S))
            (shown_sorted B i (W.reg k) (at_suf x)) f g
          where
            S : Sorted key (pre ++ k ∷ post)
            S = subst (Sorted key) e order_sorted

            f : (a : ℕ) → In a (filter (updates_of W (W.reg k)) pre) → In a ((run W B).shown i (W.reg k))
            f a h =
                let r = filter_in (updates_of W (W.reg k)) pre h in
                let up = and_fst (W.upd a) _ r.1 in
                let rg = eqb-true (W.reg a) (W.reg k) (and_snd (W.upd a) _ r.1) in
                let t = crucial_event (out_of (subst (In a) (sym e) (any_left (k ∷ post) r.0))) in
                let c = lies t.1 i ∙ ap (λ y. W.copy y i) rg ∙ sym (lies (at_any x) i) ∙ at_holder x in
                in_shown W up rg (L.reached x t.1 up c (before_less key pre post S r.0))

            g : (a : ℕ) → In a ((run W B).shown i (W.reg k)) → In a (filter (updates_of W (W.reg k)) pre)
            g a h =
                let s = shown_in W B a i (W.reg k) h in
                let m = subst (In a) e (into (somewhere s.update i (suf_any (at_suf x) s.took))) in
                in_filter (updates_of W (W.reg k)) (less_before key pre post S m (L.crucial x s.took)) (and_intro s.update (eqb_of s.of))

        copy_shows : (x i : ℕ) → W.copy x i ≡ true → (rest : List ℕ) × (filter (updates_of W x) list ≡ (run W E).shown i x ++ rest)
        copy_shows x i c = first_part key _ _ (filter_sorted key _ list order_sorted) (shown_sorted E i x stop) f g
          where
            f : (a : ℕ) → In a ((run W E).shown i x) → In a (filter (updates_of W x) list)
            f a h = let s = shown_in W E a i x h in in_filter (updates_of W x) (into (somewhere s.update i s.took)) (and_intro s.update (eqb_of s.of))

            g : (a b : ℕ) → In a ((run W E).shown i x) → In b (filter (updates_of W x) list) → key b < key a → In b ((run W E).shown i x)
            g a b h k l =
                let t = any_at (shown_in W E a i x h).took in
                let q = filter_in (updates_of W x) list k in
                let up = and_fst (W.upd b) _ q.1 in
                let rg = eqb-true (W.reg b) x (and_snd (W.upd b) _ q.1) in
                let y = (crucial_event (out_of q.0)).1 in
                in_shown W up rg (suf_any (at_suf t.1) (L.reached t.1 y up (lies y i ∙ ap (λ z. W.copy z i) rg ∙ c) l))

        pub explained : Explains W E list
        explained = record {
          sound = λ k h. out_of h;
          complete = λ k h. into h;
          once = sorted_once key list order_sorted;
          tasks = λ j k x y t h. less_precedes key order_sorted x y (L.turn h t (crucial_event (out_of x)).1 (crucial_event (out_of y)).1);
          looked = λ k h u. let r = crucial_reported h in let a = any_at r.1 in (r.0, a.0, a.1);
          reads = λ k i B u. finds k i B;
          copies = copy_shows;
        }

  -- Every run of the layer whose channel keeps its promise is explained by one serial order, the one of specs/Key.
  pub serial : (rank : Msg U → ℕ) (E : List (Event U)) → Valid W E → Promise (view W) rank E → Explains W E (order W rank E)
  serial rank E v p = explained rank E v (ordered W rank E p) (key_at W rank (bound E) E) (rank_laws W rank E v (ordered W rank E p))
