-- A task's doing written, a letter posted or taken off, in two registers' memories that are alike but for where the copies lie: they stay alike.
use Prim.Native.Nat.{ℕ, ◌+◌, ◌-◌, ◌%◌}
use mathlib.Core.Logic.{inl, inr}
use mathlib.Core.Bool.{Bool, true, false, cond}
use mathlib.Core.List.{List}
use native.Mathlib.Omega.{arith}
use lib.Dec.{eqb, ltb}
use Rattle.names.specs.declared.Letter.{Letter}
use Rattle.names.specs.declared.Packet.{Packet}
use Rattle.names.specs.Letters.{packet_of, stored}
use Rattle.tables.specs.declared.Doing.{Doing}
use Rattle.tables.specs.Layout.{Place, task_word, value_word, out_head_word, out_count_word, out_block, home_of}
use Rattle.tables.specs.Doings.{task_word_of, doing_value, doing_stored}
use Rattle.tables.specs.Outbox.{out_head_of, out_count_of, posted, unposted}
use Rattle.tables.specs.Match.{IsLayout, RegistersMatch}
use Rattle.tables.proofs.Match.{word_match}
use Rattle.tables.proofs.MatchReads.{home=, out_head=, out_count=}

-- by the same test
pub cond_match : {p q : Place} {rs us ts vs : List ℕ} (b : Bool) → RegistersMatch p q rs us → RegistersMatch p q ts vs → RegistersMatch p q (cond b rs ts) (cond b us vs)
cond_match true y z = y
cond_match false y z = z

module _ (p q : Place) (a : IsLayout p) (b : IsLayout q) (rs us : List ℕ) (z : RegistersMatch p q rs us) where
  pub doing_match : (t : ℕ) (d : Doing) → RegistersMatch p q (doing_stored rs t d) (doing_stored us t d)
  unfolding doing_stored
  doing_match t d =
      rw (home= p q rs us z.alike t)
      (word_match p q a b _ _ (word_match p q a b rs us z (task_word t) (task_word_of (home_of us t) d) (inl (omega arith))) (value_word t) (doing_value d) (inl (omega arith)))

  stored_match : (i k : ℕ) (c : Packet) → RegistersMatch p q (stored rs (out_block i k) c) (stored us (out_block i k) c)
  unfolding stored
  stored_match i k c =
      word_match p q a b _ _ (word_match p q a b rs us z (out_block i k) c.word (inr (omega arith))) (out_block i k + 1) c.value (inr (omega arith))

  pub posted_match : (i : ℕ) (l : Letter) → RegistersMatch p q (posted rs i l) (posted us i l)
  unfolding posted
  posted_match i l =
      rw (out_head= p q rs us z.alike i, out_count= p q rs us z.alike i)
      (cond_match (ltb (out_count_of us i) 16)
      (word_match p q a b _ _ (stored_match i (out_head_of us i % 16 + out_count_of us i) (packet_of l)) (out_count_word i) (out_count_of us i + 1) (inr (omega arith))) z)

  pub unposted_match : (i : ℕ) → RegistersMatch p q (unposted rs i) (unposted us i)
  unfolding unposted
  unposted_match i =
      rw (out_head= p q rs us z.alike i, out_count= p q rs us z.alike i)
      (cond_match (eqb (out_count_of us i) 0) z
      (word_match p q a b _ _ (word_match p q a b rs us z (out_head_word i) ((out_head_of us i % 16 + 1) % 16) (inr (omega arith))) (out_count_word i) (out_count_of us i - 1) (inr (omega arith))))
