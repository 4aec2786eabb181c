-- A message that joins a card's outbox: the memory after it is well sized and shows it.
use Prim.Native.Nat.{ℕ, suc, ◌%◌, ◌<◌, ◌≤◌, ◌^◌}
use mathlib.Core.Path.{◌≡◌, refl}
use mathlib.Core.Bool.{Bool, true, false, cond}
use mathlib.Core.List.{List}
use native.Mathlib.Nat.{pow-le-pow_right}
use native.Mathlib.Omega.{arith}
use borrow.Author.Tests.{ltb-true}
use Rattle.names.specs.declared.Body.{Body}
use Rattle.names.specs.CardSet.{just_of}
use Rattle.names.specs.Letters.{known}
use Rattle.names.specs.Placement.{Placement}
use Rattle.automaton.specs.Refusals.{otherwise}
use Rattle.channel.specs.Layout.{cards_of, tasks_of, registers_of}
use Rattle.channel.proofs.Offered.{cards_most, tasks_most, registers_most, fits_of, fits_packs}
use Rattle.claims.specs.Refusals.{outbox_room}
use Rattle.claims.specs.Found.{Found, post}
use Rattle.tables.specs.Layout.{only_card}
use Rattle.tables.specs.Outbox.{out_count_of, roomy, posted, letter_for}
use Rattle.tables.proofs.Words.{posted_long}
use Rattle.tables.proofs.Showing.{post_show}
use Rattle.tables.proofs.Sizing.{post_fit}
use Rattle.store.proofs.Standing.{Ready, registers_ready, count_is}

-- the set of one present card
pub just_some : (j : ℕ) → 1 ≤ just_of j
unfolding just_of
just_some j =
    let z : 0 ≤ j = omega arith in
    let p : 2 ^ 0 ≤ 2 ^ j = pow-le-pow_right (omega arith) z in
    omega arith

pub just_present : (j n : ℕ) → j < n → just_of j < 2 ^ n
unfolding just_of
just_present j n h =
    let p : 2 ^ suc j ≤ 2 ^ n = pow-le-pow_right (omega arith) h in
    let z : 0 ≤ j = omega arith in
    let q : 2 ^ 0 ≤ 2 ^ j = pow-le-pow_right (omega arith) z in
    omega arith

pub only_just : (j : ℕ) → j < 8 → only_card j ≡ just_of j
only_just j h = let e : j % 8 ≡ j = omega arith in rw e

module _ (rs cs : List ℕ) (P : Placement) (s : Found) (z : Ready rs cs P s) (i : ℕ) (card : i < cards_of cs) where
  -- one message more fits
  pub room_is : (b : Bool) → roomy rs i ≡ b → outbox_room (s.out i) ≡ cond b 0 6
  unfolding roomy
  room_is b e = rw (count_is rs (cards_of cs) (tasks_of cs) (registers_of cs) P s z.show i card, e) (go b)
    where
      go : (b : Bool) → otherwise 6 b ≡ cond b 0 6
      go true = refl
      go false = refl

  pub post_ready : (t x : ℕ) (b : Body) (to : ℕ) → roomy rs i ≡ true → t < tasks_of cs → x < registers_of cs → known b ≡ true → 1 ≤ to → to < 2 ^ cards_of cs
      → Ready (posted rs i (letter_for t x b to)) cs P
      (record { requests = s.requests; status = s.status; table = s.table; out = post i (record { task = t; reg = x; body = b; to = to }) s.out; channel = s.channel })
  unfolding roomy
  post_ready t x b to e p q k m n =
      let room : out_count_of rs i < 16 = ltb-true _ _ e in
      let l = letter_for t x b to in
      let f = fits_of cs l (record { task = p; register = q; body = k; someone = m; present = n }) in
      registers_ready rs cs P s z (posted rs i l) _ (posted_long rs i l z.long room)
      (post_fit rs cs (cards_most cs) (tasks_most cs) (registers_most cs) z.long z.fit i card l room f)
      (post_show rs (cards_of cs) (tasks_of cs) (registers_of cs) (cards_most cs) (tasks_most cs) (registers_most cs) P s z.long z.show s.channel i card l (fits_packs cs l f) room)
      refl
