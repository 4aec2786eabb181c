-- The words of a ring after a packet has joined it, and after its head is gone. Which words are apart says the ring's own layout.
use Rattle.std.proofs.Common.{◌≡◌, ℕ, suc, ◌+◌, ◌-◌, ◌%◌, ◌<◌, ◌≤◌, ◌≢◌, List, length, get_or, set, ◌∙◌, arith, length-set, get_or-set_other, get_or-set_same, lt-ltb, ne_eqb}
use Rattle.names.specs.declared.Packet.{Packet}
use Rattle.names.specs.Letters.{letter_of, letter_at, stored}
use Rattle.names.specs.Rings.{joined, head_gone}
use Rattle.names.proofs.Blocks.{word_other, letter_cong, letter_same, length_stored}

module _ (ws : List ℕ) (c b n : ℕ) (l : Packet) (room : get_or ws c 0 < n) where
  joined_is : joined ws c b n l ≡ set (stored ws b l) c (get_or ws c 0 + 1)
  joined_is = rw (lt-ltb (get_or ws c 0) n room)

  pub joined_long : length (joined ws c b n l) ≡ length ws
  joined_long = rw joined_is (length-set (stored ws b l) c (get_or ws c 0 + 1) ∙ length_stored ws b l)

  -- the words that it leaves
  pub joined_word : (a : ℕ) → a ≢ c → ((k : ℕ) → k < 2 → a ≢ b + k) → get_or (joined ws c b n l) a 0 ≡ get_or ws a 0
  joined_word a d h = rw joined_is (get_or-set_other (stored ws b l) c a (get_or ws c 0 + 1) 0 d ∙ word_other ws b l a h)

  pub joined_count : c < length ws → get_or (joined ws c b n l) c 0 ≡ get_or ws c 0 + 1
  joined_count h = rw joined_is (get_or-set_same (stored ws b l) c (get_or ws c 0 + 1) 0 (omega (arith, length_stored ws b l)))

  pub joined_block : (k : ℕ) → b + k ≢ c → get_or (joined ws c b n l) (b + k) 0 ≡ get_or (stored ws b l) (b + k) 0
  joined_block k d = rw joined_is (get_or-set_other (stored ws b l) c (b + k) (get_or ws c 0 + 1) 0 d)

  pub joined_last : ((k : ℕ) → k < 2 → b + k ≢ c) → b + 2 ≤ length ws → letter_at (joined ws c b n l) b ≡ letter_of l
  joined_last d h = letter_cong (joined ws c b n l) (stored ws b l) b (λ k g. joined_block k (d k g)) ∙ letter_same ws b l h

module _ (ws : List ℕ) (h c n m : ℕ) (some_in : get_or ws c 0 ≡ suc m) where
  abbrev onward : List ℕ
  onward = set ws h ((get_or ws h 0 % n + 1) % n)

  gone_is : head_gone ws h c n ≡ set onward c (get_or ws c 0 - 1)
  gone_is = rw (ne_eqb (get_or ws c 0) 0 (omega arith))

  pub gone_long : length (head_gone ws h c n) ≡ length ws
  gone_long = rw gone_is (length-set onward c (get_or ws c 0 - 1) ∙ length-set ws h ((get_or ws h 0 % n + 1) % n))

  pub gone_word : (a : ℕ) → a ≢ h → a ≢ c → get_or (head_gone ws h c n) a 0 ≡ get_or ws a 0
  gone_word a p q = rw gone_is (get_or-set_other onward c a (get_or ws c 0 - 1) 0 q ∙ get_or-set_other ws h a ((get_or ws h 0 % n + 1) % n) 0 p)

  pub gone_count : c < length ws → get_or (head_gone ws h c n) c 0 ≡ m
  gone_count p =
      rw gone_is (get_or-set_same onward c (get_or ws c 0 - 1) 0 (omega (arith, length-set ws h ((get_or ws h 0 % n + 1) % n))) ∙ omega arith)

  pub gone_head : h ≢ c → h < length ws → get_or (head_gone ws h c n) h 0 ≡ (get_or ws h 0 % n + 1) % n
  gone_head d p =
      rw gone_is (get_or-set_other onward c h (get_or ws c 0 - 1) 0 d ∙ get_or-set_same ws h ((get_or ws h 0 % n + 1) % n) 0 p)
