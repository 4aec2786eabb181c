-- Histories: lists with the newest element first. `Any P E`: some element of E has P. `At P B E`: an element of E has P and
-- B is what came before it. `Suf B E`: B is an earlier state of the history E.
use Rattle.std.specs.Prelude.{◌≡◌, ◌⊎◌, List, [], ◌∷◌, ◌++◌, map, ◌≤◌, ◌<◌, length}
use Rattle.std.proofs.Common.{inl, inr, arith}

pub data Any {A : Type 0} (P : A → Type 0) : List A → Type 0 where
  here : {e : A} {E : List A} → P e → Any P (e ∷ E)
  there : {e : A} {E : List A} → Any P E → Any P (e ∷ E)

pub data At {A : Type 0} (P : A → Type 0) : List A → List A → Type 0 where
  now : {e : A} {E : List A} → P e → At P E (e ∷ E)
  before : {e : A} {B E : List A} → At P B E → At P B (e ∷ E)

pub data Suf {A : Type 0} : List A → List A → Type 0 where
  stop : {E : List A} → Suf E E
  back : {e : A} {B E : List A} → Suf B E → Suf B (e ∷ E)

module _ {A : Type 0} where
  abbrev pub In : A → List A → Type 0
  In a = Any (λ b. b ≡ a)

  pub any_map : {P Q : A → Type 0} {E : List A} → ((e : A) → P e → Q e) → Any P E → Any Q E
  any_map f (here p) = here (f _ p)
  any_map f (there q) = there (any_map f q)

  -- a side fact that does not depend on the element comes out
  pub any_split : {P Q : A → Type 0} {F : Type 0} {E : List A} → Any P E → ((e : A) → P e → Q e × F) → Any Q E × F
  any_split (here p) f = (here (f _ p).0, (f _ p).1)
  any_split (there q) f = let r = any_split q f in (there r.0, r.1)

  pub at_map : {P Q : A → Type 0} {B E : List A} → ((e : A) → P e → Q e) → At P B E → At Q B E
  at_map f (now p) = now (f _ p)
  at_map f (before q) = before (at_map f q)

  pub at_split : {P Q : A → Type 0} {F : Type 0} {B E : List A} → At P B E → ((e : A) → P e → Q e × F) → At Q B E × F
  at_split (now p) f = (now (f _ p).0, (f _ p).1)
  at_split (before q) f = let r = at_split q f in (before r.0, r.1)

  pub any_nil : {P : A → Type 0} → Any P [] → ⊥
  any_nil h = elim h [ ]

  pub at_nil : {P : A → Type 0} {B : List A} → At P B [] → ⊥
  at_nil h = elim h [ ]

  pub any_cons : {P : A → Type 0} {e : A} {E : List A} → Any P (e ∷ E) → P e ⊎ Any P E
  any_cons (here p) = inl p
  any_cons (there q) = inr q

  pub suf_any : {P : A → Type 0} {B E : List A} → Suf B E → Any P B → Any P E
  suf_any stop q = q
  suf_any (back s) q = there (suf_any s q)

  pub suf_at : {P : A → Type 0} {C B E : List A} → Suf B E → At P C B → At P C E
  suf_at stop q = q
  suf_at (back s) q = before (suf_at s q)

  pub suf_trans : {C B E : List A} → Suf C B → Suf B E → Suf C E
  suf_trans p stop = p
  suf_trans p (back s) = back (suf_trans p s)

  pub at_suf : {P : A → Type 0} {B E : List A} → At P B E → Suf B E
  at_suf (now p) = back stop
  at_suf (before q) = back (at_suf q)

  pub suf_now : {P : A → Type 0} {e : A} {B E : List A} → Suf (e ∷ B) E → P e → At P B E
  suf_now stop p = now p
  suf_now (back s) p = before (suf_now s p)

  pub suf_tail : {e : A} {B E : List A} → Suf (e ∷ B) E → Suf B E
  suf_tail stop = back stop
  suf_tail (back s) = back (suf_tail s)

  -- the element itself, with the history up to it
  pub at_head : {P : A → Type 0} {B E : List A} → At P B E → (e : A) × P e × Suf (e ∷ B) E
  at_head (now p) = (_, p, stop)
  at_head (before q) = let r = at_head q in (r.0, r.1, back r.2)

  pub at_any : {P : A → Type 0} {B E : List A} → At P B E → Any P E
  at_any (now p) = here p
  at_any (before q) = there (at_any q)

  pub any_at : {P : A → Type 0} {E : List A} → Any P E → (B : List A) × At P B E
  any_at (here p) = (_, now p)
  any_at (there q) = let r = any_at q in (r.0, before r.1)

  pub suf_length : {B E : List A} → Suf B E → length B ≤ length E
  suf_length stop = omega arith
  suf_length (back s) = let h = suf_length s in omega arith

  pub at_length : {P : A → Type 0} {B E : List A} → At P B E → length B < length E
  at_length (now p) = omega arith
  at_length (before q) = let h = at_length q in omega arith

  -- two moments of a history are one, or one came before the other
  pub at_order : {P Q : A → Type 0} {B C E : List A} → At P B E → At Q C E → ((e : A) × P e × Q e) ⊎ (At P B C ⊎ At Q C B)
  at_order (now p) (now q) = inl (_, p, q)
  at_order (now p) (before q) = inr (inr q)
  at_order (before p) (now q) = inr (inl p)
  at_order (before p) (before q) = at_order p q

  -- two moments with equally much before them are one
  pub at_one : {P Q : A → Type 0} {B C E : List A} → At P B E → At Q C E → length B ≡ length C → (e : A) × P e × Q e
  at_one {P} {Q} {B} {C} x y l = go (at_order x y)
    where
      go : ((e : A) × P e × Q e) ⊎ (At P B C ⊎ At Q C B) → (e : A) × P e × Q e
      go (inl w) = w
      go (inr (inl w)) = let k = at_length w in absurd (omega arith)
      go (inr (inr w)) = let k = at_length w in absurd (omega arith)

pub suf_map : {A B : Type 0} (f : A → B) {C E : List A} → Suf C E → Suf (map f C) (map f E)
suf_map f stop = stop
suf_map f (back s) = back (suf_map f s)

-- ---- two lists in a row

module _ {A : Type 0} where
  pub any_append : {P : A → Type 0} (l r : List A) → Any P (l ++ r) → Any P l ⊎ Any P r
  any_append [] r h = inr h
  any_append {P} (a ∷ l) r (here p) = inl (here p)
  any_append {P} (a ∷ l) r (there h) = go (any_append l r h)
    where
      go : Any P l ⊎ Any P r → Any P (a ∷ l) ⊎ Any P r
      go (inl x) = inl (there x)
      go (inr y) = inr y

  pub any_left : {P : A → Type 0} {l : List A} (r : List A) → Any P l → Any P (l ++ r)
  any_left r (here p) = here p
  any_left r (there q) = there (any_left r q)

  pub any_right : {P : A → Type 0} (l : List A) {r : List A} → Any P r → Any P (l ++ r)
  any_right [] q = q
  any_right (a ∷ l) q = there (any_right l q)
