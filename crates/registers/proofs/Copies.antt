-- What a copy shows: the updates of its register that took effect on its card, in the order applied there.
use Prim.Native.Nat.{ℕ}
use borrow.Author.Tests.{eqb-true}
use lib.Dec.{eqb}
use mathlib.Core.Bool.{Bool, ◌&&◌, false, true}
use mathlib.Core.List.{List, [], ◌∷◌}
use mathlib.Core.Logic.{◌⊎◌, inl, inr}
use mathlib.Core.Path.{◌∙◌, ◌≡◌, ap, refl, subst, sym}
use Rattle.lists.specs.Filters.{filter, filter_push}
use Rattle.lists.specs.Histories.{Any, In, any_nil, here, there}
use Rattle.lists.specs.Queues.{push, push_cases, push_new, push_old}
use Rattle.lists.specs.Tests.{and_fst, and_intro, and_snd, eqb_of}
use Rattle.registers.proofs.Statuses.{ask_inj, ask_reply}
use Rattle.registers.specs.Events.{Crucial}
use Rattle.registers.specs.Explains.{updates_of}
use Rattle.registers.specs.Layer.{Values, Event, World, ask, base, deliver, dispatch, idle, perform, reply, report, request, run, send}

module _ {U : Values} (W : World U) where
  pub record Shows (E : List (Event U)) (k i x : ℕ) : Type 0 where
    pub update : W.upd k ≡ true
    pub of : W.reg k ≡ x
    pub took : Any (Crucial W k i) E

  shows_on : {e : Event U} {E : List (Event U)} {k i x : ℕ} → Shows E k i x → Shows (e ∷ E) k i x
  shows_on s = record { update = s.update; of = s.of; took = there s.took }

  shows_new : (e : Event U) (E : List (Event U)) (k i x : ℕ) → W.upd k ≡ true → W.reg k ≡ x → Crucial W k i e → Shows (e ∷ E) k i x
  shows_new e E k i x u g c = record { update = u; of = g; took = here c }

  pub shown_in : (E : List (Event U)) (k i x : ℕ) → In k ((run W E).shown i x) → Shows E k i x
  shown_in [] k i x h = absurd (any_nil h)
  shown_in (request j ∷ E) k i x h = shows_on (shown_in E k i x h)
  shown_in (perform j ∷ E) k i x h =
      go (push_cases (W.upd j && eqb i (base W j) && eqb (W.reg j) x) ((run W E).shown i x) h) (λ y. shown_in E k i x y)
    where
      go : In k ((run W E).shown i x) ⊎ ((j ≡ k) × ((W.upd j && eqb i (base W j) && eqb (W.reg j) x) ≡ true)) → (In k ((run W E).shown i x) → Shows E k i x) → Shows (perform j ∷ E) k i x
      go (inl y) r = shows_on (r y)
      go (inr y) r =
          let t = and_fst (W.upd j && eqb i (base W j)) _ y.1 in
          shows_new (perform j) E k i x (ap W.upd (sym y.0) ∙ and_fst (W.upd j) _ t) (ap W.reg (sym y.0) ∙ eqb-true _ _ (and_snd (W.upd j && eqb i (base W j)) _ y.1))
          (y.0, sym (eqb-true i (base W j) (and_snd (W.upd j) _ t)))
  shown_in (send j ∷ E) k i x h = shows_on (shown_in E k i x h)
  shown_in (dispatch m ∷ E) k i x h = shows_on (shown_in E k i x h)
  shown_in (deliver (ask j) c ∷ E) k i x h =
      go (push_cases (W.upd j && eqb i c && eqb (W.reg j) x) ((run W E).shown i x) h) (λ y. shown_in E k i x y)
    where
      go : In k ((run W E).shown i x) ⊎ ((j ≡ k) × ((W.upd j && eqb i c && eqb (W.reg j) x) ≡ true)) → (In k ((run W E).shown i x) → Shows E k i x) → Shows (deliver (ask j) c ∷ E) k i x
      go (inl y) r = shows_on (r y)
      go (inr y) r =
          let t = and_fst (W.upd j && eqb i c) _ y.1 in
          shows_new (deliver (ask j) c) E k i x (ap W.upd (sym y.0) ∙ and_fst (W.upd j) _ t) (ap W.reg (sym y.0) ∙ eqb-true _ _ (and_snd (W.upd j && eqb i c) _ y.1))
          (ap ask y.0, sym (eqb-true i c (and_snd (W.upd j) _ t)))
  shown_in (deliver (reply j w) c ∷ E) k i x h = shows_on (shown_in E k i x h)
  shown_in (report j w ∷ E) k i x h = shows_on (shown_in E k i x h)
  shown_in (idle ∷ E) k i x h = shows_on (shown_in E k i x h)

  shown_on : (e : Event U) (E : List (Event U)) (k i x : ℕ) → In k ((run W E).shown i x) → In k ((run W (e ∷ E)).shown i x)
  shown_on (request j) E k i x h = h
  shown_on (perform j) E k i x h = push_old (W.upd j && eqb i (base W j) && eqb (W.reg j) x) j ((run W E).shown i x) h
  shown_on (send j) E k i x h = h
  shown_on (dispatch m) E k i x h = h
  shown_on (deliver (ask j) c) E k i x h = push_old (W.upd j && eqb i c && eqb (W.reg j) x) j ((run W E).shown i x) h
  shown_on (deliver (reply j w) c) E k i x h = h
  shown_on (report j w) E k i x h = h
  shown_on idle E k i x h = h

  shown_now : (e : Event U) (E : List (Event U)) (k i x : ℕ) → W.upd k ≡ true → W.reg k ≡ x → Crucial W k i e → In k ((run W (e ∷ E)).shown i x)
  shown_now (request _) E k i x u g p = elim p [ ]
  shown_now (send _) E k i x u g p = elim p [ ]
  shown_now (dispatch _) E k i x u g p = elim p [ ]
  shown_now (report _ _) E k i x u g p = elim p [ ]
  shown_now idle E k i x u g p = elim p [ ]
  shown_now (perform j) E k i x u g p =
      subst (λ a. In a ((run W (perform j ∷ E)).shown i x)) p.0
      (push_new j ((run W E).shown i x) (and_intro (and_intro (ap W.upd p.0 ∙ u) (eqb_of (sym p.1))) (eqb_of (ap W.reg p.0 ∙ g))))
  shown_now (deliver (ask j) c) E k i x u g p =
      subst (λ a. In a ((run W (deliver (ask j) c ∷ E)).shown i x)) (ask_inj p.0)
      (push_new j ((run W E).shown i x) (and_intro (and_intro (ap W.upd (ask_inj p.0) ∙ u) (eqb_of (sym p.1))) (eqb_of (ap W.reg (ask_inj p.0) ∙ g))))
  shown_now (deliver (reply j w) c) E k i x u g p = absurd (ask_reply (sym p.0))

  pub in_shown : {i : ℕ} {k : ℕ} {E : List (Event U)} {x : ℕ} → W.upd k ≡ true → W.reg k ≡ x → Any (Crucial W k i) E → In k ((run W E).shown i x)
  in_shown {i = i} {k = k} {x = x} u g (here {e = e} {E = E} p) = shown_now e E k i x u g p
  in_shown {i = i} {k = k} {x = x} u g (there {e = e} {E = E} h) = shown_on e E k i x (in_shown u g h)

  -- ---- what a copy shows is its register's part of what was applied on its card

  both_tests : (u c x : Bool) → ((u && c) && (u && x)) ≡ ((u && c) && x)
  both_tests true true x = refl
  both_tests true false x = refl
  both_tests false c x = refl

  one_more : (k x : ℕ) (c : Bool) (l s : List ℕ) → s ≡ filter (updates_of W x) l
      → push (W.upd k && c && eqb (W.reg k) x) k s ≡ filter (updates_of W x) (push (W.upd k && c) k l)
  one_more k x c l s e =
      ap (λ t. push t k s) (sym (both_tests (W.upd k) c (eqb (W.reg k) x)))
      ∙ ap (push ((W.upd k && c) && updates_of W x k) k) e
      ∙ sym (filter_push (updates_of W x) (W.upd k && c) k l)

  pub shown_applied : (E : List (Event U)) (i x : ℕ) → (run W E).shown i x ≡ filter (updates_of W x) ((run W E).applied i)
  shown_applied [] i x = refl
  shown_applied (request k ∷ E) i x = shown_applied E i x
  shown_applied (perform k ∷ E) i x = one_more k x (eqb i (base W k)) ((run W E).applied i) ((run W E).shown i x) (shown_applied E i x)
  shown_applied (send k ∷ E) i x = shown_applied E i x
  shown_applied (dispatch m ∷ E) i x = shown_applied E i x
  shown_applied (deliver (ask k) c ∷ E) i x = one_more k x (eqb i c) ((run W E).applied i) ((run W E).shown i x) (shown_applied E i x)
  shown_applied (deliver (reply k w) c ∷ E) i x = shown_applied E i x
  shown_applied (report k w ∷ E) i x = shown_applied E i x
  shown_applied (idle ∷ E) i x = shown_applied E i x
