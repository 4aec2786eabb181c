-- Sequential consistency has teeth: histories of the register layer that the five tempting mistakes lead to (docs/CLAIMS, Not hollow), which
-- no serial order at all explains (demand 3); and one whose only fault is the value in a reply.
use Prim.Native.Nat.{suc, zero, ℕ, ◌<◌, ◌≤◌}
use borrow.Author.Tests.{eqb-true}
use lib.Dec.{eqb, leb}
use lib.ListN.{get_or, length, length-append}
use mathlib.Core.Bool.{Bool, cond, false, true, ◌||◌}
use mathlib.Core.List.{List, [], append_assoc, ◌++◌, ◌∷◌}
use mathlib.Core.Logic.{inl, inr, ◌⊎◌}
use mathlib.Core.Path.{ap, refl, subst, sym, ◌∙◌, ◌≡◌}
use native.Mathlib.Omega.{arith}
use Rattle.lists.specs.Filters.{Precedes, filter, filter_in, in_filter, in_split}
use Rattle.lists.specs.Histories.{Any, At, In, any_append, any_nil, any_right, here, now, there}
use Rattle.lists.specs.Queues.{Once}
use Rattle.lists.specs.Tests.{and_fst, clash, eqb_of, eqb_refl}
use Rattle.lists.specs.Made.{make}
use Rattle.registers.specs.Events.{Crucial}
use Rattle.registers.specs.Explains.{Explains, ExplainsValues, reported, somewhere, updates_of}
use Rattle.registers.specs.Key.{order}
use Rattle.registers.specs.Layer.{Event, Values, World, ask, deliver, dispatch, fun, perform, reply, report, request, run, send, unvalued}

-- ---- the place of an operation in an order

abbrev place : ℕ → List ℕ → ℕ
place k [] = 0
place k (a ∷ l) = cond (eqb a k) 0 (suc (place k l))

-- what stands in the first part has its place there; what does not, later
place_in : (j : ℕ) (l r : List ℕ) → In j l → place j (l ++ r) < length l
place_in j [] r h = absurd (any_nil h)
place_in j (a ∷ l) r h = go (eqb a j) refl h (place_in j l r)
  where
    go : (t : Bool) → eqb a j ≡ t → In j (a ∷ l) → (In j l → place j (l ++ r) < length l) → cond t 0 (suc (place j (l ++ r))) < suc (length l)
    go true e h f = omega arith
    go false e (here p) f = absurd (clash (eqb_of p) e)
    go false e (there x) f = let z = f x in omega arith

place_out : (j : ℕ) (l r : List ℕ) → ¬ In j l → length l ≤ place j (l ++ r)
place_out j [] r n = omega arith
place_out j (a ∷ l) r n = go (eqb a j) refl (place_out j l r (λ h. n (there h)))
  where
    go : (t : Bool) → eqb a j ≡ t → length l ≤ place j (l ++ r) → suc (length l) ≤ cond t 0 (suc (place j (l ++ r)))
    go true e z = absurd (n (here (eqb-true a j e)))
    go false e z = omega arith

place_self : (k : ℕ) (l r : List ℕ) → place k (l ++ k ∷ r) ≤ length l
place_self k [] r = let e = ap (λ t. cond t 0 (suc (place k r))) (eqb_refl k) in omega arith
place_self k (a ∷ l) r = go (eqb a k) (place_self k l r)
  where
    go : (t : Bool) → place k (l ++ k ∷ r) ≤ length l → cond t 0 (suc (place k (l ++ k ∷ r))) ≤ suc (length l)
    go true z = omega arith
    go false z = omega arith

-- an element that stands once is not in front of itself
once_front : (k : ℕ) (l r : List ℕ) → Once (l ++ k ∷ r) → ¬ In k l
once_front k [] r o x'' = elim x'' [ ]
once_front k (a ∷ l) r o (here p) = o.0 (subst (λ x. In x (l ++ k ∷ r)) (sym p) (any_right l (here refl)))
once_front k (a ∷ l) r o (there h) = once_front k l r o.1 h

module _ {U : Values} (W : World U) (E : List (Event U)) (order : List ℕ) (X : Explains W E order) where
  abbrev at : ℕ → ℕ
  at k = place k order

  before : (j k : ℕ) → Precedes j k order → at j < at k
  before j k (pre, post, e, h) =
      let a = place_in j pre (k ∷ post) h in
      let b = place_out k pre (k ∷ post) (once_front k pre post (subst Once e X.once)) in
      let c = ap (place j) e in
      let d = ap (place k) e in
      omega arith

  -- a task's operations
  follows : (j k : ℕ) → In j order → In k order → W.task j ≡ W.task k → j < k → at j < at k
  follows j k x y t l = before j k (X.tasks j k x y t l)

  module _ (k i : ℕ) (B : List (Event U)) (u : W.upd k ≡ false) (x : At (Crucial W k i) B E) (h : In k order) where
    -- a read comes after an update of its register that it saw
    saw : (j : ℕ) → In j ((run W B).shown i (W.reg k)) → at j < at k
    saw j y =
        let r = in_split h in
        before j k (r.0, r.1, r.2, (filter_in (updates_of W (W.reg k)) r.0 (subst (In j) (sym (X.reads k i B u x r.0 r.1 r.2)) y)).0)

    -- and before one that it missed
    missed : (j : ℕ) → In j order → updates_of W (W.reg k) j ≡ true → ¬ In j ((run W B).shown i (W.reg k)) → at k < at j
    missed j y v n =
        let r = in_split h in
        let q = X.reads k i B u x r.0 r.1 r.2 in
        let out : ¬ In j r.0 = λ z. n (subst (In j) q (in_filter (updates_of W (W.reg k)) z v)) in
        let a = place_out j (r.0 ++ (k ∷ [])) r.1 (neither r.0 out) in
        let b = place_self k r.0 r.1 in
        let c : at j ≡ place j ((r.0 ++ (k ∷ [])) ++ r.1) = ap (place j) (r.2 ∙ sym (append_assoc r.0 (k ∷ []) r.1)) in
        let d = ap (place k) r.2 in
        let e = length-append r.0 (k ∷ []) in
        omega arith
      where
        neither : (l : List ℕ) → ¬ In j l → ¬ In j (l ++ (k ∷ []))
        neither l f z = go (any_append l (k ∷ []) z)
          where
            go : In j l ⊎ In j (k ∷ []) → ⊥
            go (inl y) = f y
            go (inr (here p)) = clash (and_fst (W.upd j) _ v) (ap W.upd (sym p) ∙ u)
            go (inr (there y)) = any_nil y

-- ---- an event of a history by its place, and what came before it

module _ {U : Values} where
  abbrev EventAt : (Event U → Type 0) → ℕ → List (Event U) → Type 0
  EventAt Q n [] = ⊥
  EventAt Q zero (e ∷ E) = Q e
  EventAt Q (suc n) (e ∷ E) = EventAt Q n E

  abbrev past : ℕ → List (Event U) → List (Event U)
  past n [] = []
  past zero (e ∷ E) = E
  past (suc n) (e ∷ E) = past n E

  some_event : {Q : Event U → Type 0} (n : ℕ) (E : List (Event U)) → EventAt Q n E → Any Q E
  some_event n [] h = absurd h
  some_event zero (e ∷ E) h = here h
  some_event (suc n) (e ∷ E) h = there (some_event n E h)

  moment : {Q : Event U → Type 0} (n : ℕ) (E : List (Event U)) → EventAt Q n E → At Q (past n E) E
  moment n [] h = absurd h
  moment zero (e ∷ E) h = now h
  moment (suc n) (e ∷ E) h = At.before (moment n E h)

-- ---- the histories, newest first

-- three cards, task c at home on card c; register 0 everywhere, register 1 on card 1 alone, register 2 on cards 1 and 2
abbrev three : {U : Values} → (ℕ → ℕ) → (ℕ → ℕ) → (ℕ → Bool) → World U
three task reg upd = record {
  home = λ c. c;
  copy = λ x i. cond (eqb x 0) (leb i 2) (cond (eqb x 1) (eqb i 1) (eqb i 1 || eqb i 2));
  task = task;
  reg = reg;
  upd = upd;
  fn = λ k. 0;
  arg = λ k. 0;
  chosen = λ k. 1;
  holds = λ k i. cond (eqb (reg k) 0) (leb i 2) (cond (eqb (reg k) 1) (eqb i 1) (eqb i 1 || eqb i 2));
  primary = λ k. 1;
}

-- K9 without a tag, or where a larger tag joins at once, or where a released message is put ahead of its broadcast. Operation 0: task 2 sets
-- register 0. 1: task 0 reads it. 2: task 0 sets register 1, on card 1, which delivers it before 0. 3, 4: task 1 reads register 1, then 0.
abbrev pub overtaking : World unvalued
overtaking = three (λ k. get_or (2 ∷ 0 ∷ 0 ∷ 1 ∷ 1 ∷ []) k 0) (λ k. get_or (0 ∷ 0 ∷ 1 ∷ 1 ∷ 0 ∷ []) k 0) (λ k. get_or (true ∷ false ∷ true ∷ false ∷ false ∷ []) k false)

abbrev pub overtaken : List (Event unvalued)
overtaken =
    report 4 tt ∷ perform 4 ∷ request 4 ∷ report 3 tt ∷ perform 3 ∷ request 3 ∷ deliver (ask 2) 1 ∷ dispatch (ask 2) ∷ send 2 ∷ request 2
    ∷ report 1 tt ∷ perform 1 ∷ request 1 ∷ deliver (ask 0) 0 ∷ dispatch (ask 0) ∷ send 0 ∷ request 0 ∷ []

pub overtaken_unexplained : (order : List ℕ) → ¬ Explains overtaking overtaken order
overtaken_unexplained order X =
    let W = overtaking in
    let E = overtaken in
    let i0 = X.complete 0 (somewhere refl 0 (some_event 13 E (refl, refl))) in
    let i1 = X.complete 1 (reported (some_event 10 E refl)) in
    let i2 = X.complete 2 (somewhere refl 1 (some_event 6 E (refl, refl))) in
    let i3 = X.complete 3 (reported (some_event 3 E refl)) in
    let i4 = X.complete 4 (reported (some_event 0 E refl)) in
    let a = saw W E order X 1 0 (past 11 E) refl (moment 11 E (refl, refl)) i1 0 (here refl) in
    let b = follows W E order X 1 2 i1 i2 refl (omega arith) in
    let c = saw W E order X 3 1 (past 4 E) refl (moment 4 E (refl, refl)) i3 2 (here refl) in
    let d = follows W E order X 3 4 i3 i4 refl (omega arith) in
    let e = missed W E order X 4 1 (past 1 E) refl (moment 1 E (refl, refl)) i4 0 i0 refl (λ h. any_nil h) in
    omega arith

-- K10 where replies have no tag. 0: task 2 sets register 0. 1: task 1 reads it. 2: task 1 sets register 1, on its card alone. 3: task 0 reads
-- register 1 from card 1; the reply comes before 0. 4: task 0 reads register 0.
abbrev pub untagged : World unvalued
untagged = three (λ k. get_or (2 ∷ 1 ∷ 1 ∷ 0 ∷ 0 ∷ []) k 0) (λ k. get_or (0 ∷ 0 ∷ 1 ∷ 1 ∷ 0 ∷ []) k 0) (λ k. get_or (true ∷ false ∷ true ∷ false ∷ false ∷ []) k false)

abbrev pub early_reply : List (Event unvalued)
early_reply =
    report 4 tt ∷ perform 4 ∷ request 4 ∷ report 3 tt ∷ deliver (reply 3 tt) 0 ∷ dispatch (reply 3 tt) ∷ deliver (ask 3) 1 ∷ dispatch (ask 3) ∷ send 3 ∷ request 3
    ∷ report 2 tt ∷ perform 2 ∷ request 2 ∷ report 1 tt ∷ perform 1 ∷ request 1 ∷ deliver (ask 0) 1 ∷ dispatch (ask 0) ∷ send 0 ∷ request 0 ∷ []

pub early_reply_unexplained : (order : List ℕ) → ¬ Explains untagged early_reply order
early_reply_unexplained order X =
    let W = untagged in
    let E = early_reply in
    let i0 = X.complete 0 (somewhere refl 1 (some_event 16 E (refl, refl))) in
    let i1 = X.complete 1 (reported (some_event 13 E refl)) in
    let i2 = X.complete 2 (reported (some_event 10 E refl)) in
    let i3 = X.complete 3 (reported (some_event 3 E refl)) in
    let i4 = X.complete 4 (reported (some_event 0 E refl)) in
    let a = saw W E order X 1 1 (past 14 E) refl (moment 14 E (refl, refl)) i1 0 (here refl) in
    let b = follows W E order X 1 2 i1 i2 refl (omega arith) in
    let c = saw W E order X 3 1 (past 6 E) refl (moment 6 E (refl, refl)) i3 2 (here refl) in
    let d = follows W E order X 3 4 i3 i4 refl (omega arith) in
    let e = missed W E order X 4 0 (past 1 E) refl (moment 1 E (refl, refl)) i4 0 i0 refl (λ h. any_nil h) in
    omega arith

-- A card that is no holder and does not count a broadcast. 0: task 2 sets register 2, which is not on card 0. 1: task 2 sets register 0. 2: task
-- 0 reads it. 3: task 0 sets register 1; the tag is one too low, and card 1, which has taken 0 alone, delivers 3 before 1. 4, 5: task 1 reads
-- register 1, then 0.
abbrev pub uncounting : World unvalued
uncounting = three (λ k. get_or (2 ∷ 2 ∷ 0 ∷ 0 ∷ 1 ∷ 1 ∷ []) k 0) (λ k. get_or (2 ∷ 0 ∷ 0 ∷ 1 ∷ 1 ∷ 0 ∷ []) k 0) (λ k. get_or (true ∷ true ∷ false ∷ true ∷ false ∷ false ∷ []) k false)

abbrev pub uncounted : List (Event unvalued)
uncounted =
    report 5 tt ∷ perform 5 ∷ request 5 ∷ report 4 tt ∷ perform 4 ∷ request 4 ∷ deliver (ask 3) 1 ∷ deliver (ask 0) 1 ∷ dispatch (ask 3) ∷ send 3 ∷ request 3
    ∷ report 2 tt ∷ perform 2 ∷ request 2 ∷ deliver (ask 1) 0 ∷ dispatch (ask 1) ∷ send 1 ∷ request 1 ∷ report 0 tt ∷ deliver (ask 0) 2 ∷ dispatch (ask 0) ∷ send 0 ∷ request 0 ∷ []

pub uncounted_unexplained : (order : List ℕ) → ¬ Explains uncounting uncounted order
uncounted_unexplained order X =
    let W = uncounting in
    let E = uncounted in
    let i1 = X.complete 1 (somewhere refl 0 (some_event 14 E (refl, refl))) in
    let i2 = X.complete 2 (reported (some_event 11 E refl)) in
    let i3 = X.complete 3 (somewhere refl 1 (some_event 6 E (refl, refl))) in
    let i4 = X.complete 4 (reported (some_event 3 E refl)) in
    let i5 = X.complete 5 (reported (some_event 0 E refl)) in
    let a = saw W E order X 2 0 (past 12 E) refl (moment 12 E (refl, refl)) i2 1 (here refl) in
    let b = follows W E order X 2 3 i2 i3 refl (omega arith) in
    let c = saw W E order X 4 1 (past 4 E) refl (moment 4 E (refl, refl)) i4 3 (here refl) in
    let d = follows W E order X 4 5 i4 i5 refl (omega arith) in
    let e = missed W E order X 5 1 (past 1 E) refl (moment 1 E (refl, refl)) i5 1 i1 refl (λ h. any_nil h) in
    omega arith

-- A shared update reported when sent. 0: task 0 sets register 0, which is on its card too, and is told at once. 1: task 0 reads register 0.
abbrev pub hasty : World unvalued
hasty = three (λ k. 0) (λ k. 0) (λ k. get_or (true ∷ false ∷ []) k false)

abbrev pub reported_when_sent : List (Event unvalued)
reported_when_sent = report 1 tt ∷ perform 1 ∷ request 1 ∷ report 0 tt ∷ send 0 ∷ request 0 ∷ []

pub reported_when_sent_unexplained : (order : List ℕ) → ¬ Explains hasty reported_when_sent order
reported_when_sent_unexplained order X =
    let W = hasty in
    let E = reported_when_sent in
    let i0 = X.complete 0 (reported (some_event 3 E refl)) in
    let i1 = X.complete 1 (reported (some_event 0 E refl)) in
    let a = follows W E order X 0 1 i0 i1 refl (omega arith) in
    let b = missed W E order X 1 0 (past 1 E) refl (moment 1 E (refl, refl)) i1 0 i0 refl (λ h. any_nil h) in
    omega arith

-- A reply from every holder. 0, 1: task 0, on a card without a copy, sets register 2 twice. Both holders of register 2 reply to 0; the second
-- reply comes when task 0 waits for 1, and is taken for its answer. 2: task 0 reads register 2 from card 1, which has not applied 1.
abbrev pub chatty : World unvalued
chatty = three (λ k. 0) (λ k. 2) (λ k. get_or (true ∷ true ∷ false ∷ []) k false)

abbrev pub second_reply : List (Event unvalued)
second_reply =
    report 2 tt ∷ deliver (reply 2 tt) 0 ∷ dispatch (reply 2 tt) ∷ deliver (ask 2) 1 ∷ dispatch (ask 2) ∷ send 2 ∷ request 2
    ∷ report 1 tt ∷ deliver (reply 0 tt) 0 ∷ dispatch (ask 1) ∷ send 1 ∷ request 1
    ∷ report 0 tt ∷ deliver (reply 0 tt) 0 ∷ dispatch (reply 0 tt) ∷ dispatch (reply 0 tt) ∷ deliver (ask 0) 2 ∷ deliver (ask 0) 1 ∷ dispatch (ask 0) ∷ send 0 ∷ request 0 ∷ []

pub second_reply_unexplained : (order : List ℕ) → ¬ Explains chatty second_reply order
second_reply_unexplained order X =
    let W = chatty in
    let E = second_reply in
    let i1 = X.complete 1 (reported (some_event 7 E refl)) in
    let i2 = X.complete 2 (reported (some_event 0 E refl)) in
    let a = follows W E order X 1 2 i1 i2 refl (omega arith) in
    let b = missed W E order X 2 1 (past 3 E) refl (moment 3 E (refl, refl)) i2 1 i1 refl without in
    omega arith
  where
    without : ¬ In {A = ℕ} 1 (0 ∷ [])
    without (here p) = omega arith
    without (there h) = any_nil h

-- ---- values

-- each update adds 1
abbrev pub counting : Values
counting = record { Val = ℕ; nought = λ x. 0; apply = λ f w v. suc v; same = eqb; same_eq = eqb-true; same_refl = eqb_refl }

-- A reply without its value. 0: task 0 updates register 1, which is on card 1 alone. 1: task 0 reads it. Card 1's copy has 1; the reply to the
-- read brings 0, and the report gives that. But for this value the history is explained.
abbrev pub remote : World counting
remote = three (λ k. 0) (λ k. 1) (λ k. get_or (true ∷ false ∷ []) k false)

abbrev pub zero_reply : List (Event counting)
zero_reply =
    report 1 0 ∷ deliver (reply 1 0) 0 ∷ dispatch (reply 1 0) ∷ deliver (ask 1) 1 ∷ dispatch (ask 1) ∷ send 1 ∷ request 1
    ∷ report 0 0 ∷ deliver (reply 0 0) 0 ∷ dispatch (reply 0 0) ∷ deliver (ask 0) 1 ∷ dispatch (ask 0) ∷ send 0 ∷ request 0 ∷ []

counted : (l : List ℕ) (v : ℕ) → v ≤ make (fun remote) v l
counted [] v = omega arith
counted (k ∷ l) v = let z = counted l (suc v) in omega arith

counted_some : {j : ℕ} (l : List ℕ) → In j l → 0 < make (fun remote) 0 l
counted_some [] h = absurd (any_nil h)
counted_some (k ∷ l) h = let z = counted l 1 in omega arith

pub zero_reply_unexplained : (order : List ℕ) → ¬ ExplainsValues remote zero_reply order
zero_reply_unexplained order Y =
    let E = zero_reply in
    let i0 = Y.explains.complete 0 (reported (some_event 7 E refl)) in
    let i1 = Y.explains.complete 1 (reported (some_event 0 E refl)) in
    let p = Y.explains.tasks 0 1 i0 i1 refl (omega arith) in
    let a = Y.reports 1 0 (some_event 0 E (refl, refl)) p.0 p.1 p.2 in
    let b = counted_some (filter (updates_of remote 1) p.0) (in_filter (updates_of remote 1) p.3 refl) in
    omega arith
