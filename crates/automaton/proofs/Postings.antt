-- The messages that a list of calls dispatches: earlier ones keep their numbers, and a new one gets the next.
use mathlib.Core.Path.{◌≡◌, refl, sym, ◌∙◌, subst}
use mathlib.Core.Bool.{Bool, true, false, cond}
use mathlib.Core.List.{List, [], ◌∷◌}
use Prim.Native.Nat.{ℕ, ◌≤◌, ◌<◌}
use native.Mathlib.Omega.{arith}
use lib.ListN.{length, length-append, get_or, get_or-append}
use lib.Seq.{get_or-append_seam}
use Rattle.lists.specs.Histories.{Suf, stop, back}
use Rattle.automaton.specs.State.{ChannelAction, dispatch, take_broadcast, take_single, deliver}
use Rattle.automaton.specs.Calls.{Posted, Setup, posting, done, calls, posted}

module _ {M : Type 0} (blank : Posted M) where
  posting_longer : (x : ChannelAction M) (l : List (Posted M)) → length l ≤ length (posting x l)
  posting_longer (dispatch i m) l = let e = length-append l (record { from = i; body = m } ∷ []) in omega arith
  posting_longer (take_broadcast i) l = omega arith
  posting_longer (take_single c) l = omega arith
  posting_longer (deliver i) l = omega arith

  posting_old : (x : ChannelAction M) (l : List (Posted M)) (k : ℕ) → k < length l → get_or (posting x l) k blank ≡ get_or l k blank
  posting_old (dispatch i m) l k h = get_or-append l (record { from = i; body = m } ∷ []) blank k h
  posting_old (take_broadcast i) l k h = refl
  posting_old (take_single c) l k h = refl
  posting_old (deliver i) l k h = refl

module _ {M : Type 0} (C : Setup M) where
  abbrev all : List (ChannelAction M) → List (Posted M)
  all = posted C

  posted_longer : (x : ChannelAction M) (xs : List (ChannelAction M)) → length (all xs) ≤ length (all (x ∷ xs))
  posted_longer x xs = go (done C (calls C xs) x)
    where
      go : (t : Bool) → length (all xs) ≤ length (cond t (posting x (all xs)) (all xs))
      go true = posting_longer C.blank x (all xs)
      go false = omega arith

  posted_old : (x : ChannelAction M) (xs : List (ChannelAction M)) (k : ℕ) → k < length (all xs)
      → get_or (all (x ∷ xs)) k C.blank ≡ get_or (all xs) k C.blank
  posted_old x xs k h = go (done C (calls C xs) x)
    where
      go : (t : Bool) → get_or (cond t (posting x (all xs)) (all xs)) k C.blank ≡ get_or (all xs) k C.blank
      go true = posting_old C.blank x (all xs) k h
      go false = refl

  suf_longer : {ys xs : List (ChannelAction M)} → Suf ys xs → length (all ys) ≤ length (all xs)
  suf_longer stop = omega arith
  suf_longer (back {e = x} {E = xs} s) = let h = suf_longer s in let k = posted_longer x xs in omega arith

  -- a number once given stays
  pub posted_suf : {ys xs : List (ChannelAction M)} (k : ℕ) → Suf ys xs → k < length (all ys)
      → get_or (all xs) k C.blank ≡ get_or (all ys) k C.blank
  posted_suf k stop h = refl
  posted_suf k (back {e = x} {E = xs} s) h = let l = suf_longer s in posted_old x xs k (omega arith) ∙ posted_suf k s h

  -- a dispatch gets the next number
  pub posted_new : {xs : List (ChannelAction M)} (ys : List (ChannelAction M)) (i : ℕ) (m : M) → Suf (dispatch i m ∷ ys) xs
      → done C (calls C ys) (dispatch i m) ≡ true
      → get_or (all xs) (length (all ys)) C.blank ≡ record { from = i; body = m }
  posted_new {xs} ys i m s d =
      posted_suf (length (all ys)) s (subst (λ t. length (all ys) < length (cond t (posting (dispatch i m) (all ys)) (all ys))) (sym d) more)
      ∙ subst (λ t. get_or (cond t (posting (dispatch i m) (all ys)) (all ys)) (length (all ys)) C.blank ≡ record { from = i; body = m }) (sym d)
      (get_or-append_seam (all ys) (record { from = i; body = m }) [] C.blank)
    where
      more : length (all ys) < length (posting (dispatch i m) (all ys))
      more = let e = length-append (all ys) (record { from = i; body = m } ∷ []) in omega arith
