-- A queue of letters, first in, first out (RULES 5.11), as a ring of n packets: word h has the place of its head, word c its count.
use Rattle.std.specs.Prelude.{ℕ, ◌+◌, ◌-◌, ◌%◌, cond, List, ◌==◌, nat_lt, slice_index, slice_set}
use Rattle.names.specs.declared.Packet.{Packet}
use Rattle.names.specs.Letters.{stored}

-- one packet more at word b, the place after the last, where there is room
abbrev pub joined : List ℕ → ℕ → ℕ → ℕ → Packet → List ℕ
joined ws c b n p = cond (nat_lt (slice_index ws c) n) (slice_set (stored ws b p) c (slice_index ws c + 1)) ws

-- the first packet gone
abbrev pub head_gone : List ℕ → ℕ → ℕ → ℕ → List ℕ
head_gone ws h c n = cond (slice_index ws c == 0) ws (slice_set (slice_set ws h ((slice_index ws h % n + 1) % n)) c (slice_index ws c - 1))
