-- The ring of the last broadcasts (RULES 7.5, 11.12): it ends the memory, and there each broadcast that a card has yet to take has words of its
-- own, until all have taken it. A limit above the ring's places would make this false. Words are counted in numbers, apart from MostBehind.
use Rattle.std.specs.Prelude.{ℕ, ◌+◌, ◌<◌, ◌≤◌, ◌≡◌, ◌≢◌, true, List}
use Rattle.channel.specs.Layout.{channel_words, cards_of, made_of, taken_of, broadcast_block}
use Rattle.channel.specs.Dispatch.{near}
use Rattle.channel.specs.Sized.{well_sized}

-- the packets at words b and c have no word in common
abbrev pub Apart : ℕ → ℕ → Type 0
Apart b c = (a : ℕ) → b ≤ a → a < b + 2 → (k : ℕ) → k < 2 → a ≢ c + k

-- broadcast n is made, and card i has not taken it
abbrev pub Waits : List ℕ → ℕ → ℕ → Type 0
Waits ws i n = (i < cards_of ws) × (taken_of ws i < n) × (n ≤ made_of ws)

pub record BroadcastRing (ws : List ℕ) : Type 0 where
  -- past all else, and the memory ends with it
  pub inside : (n : ℕ) → (1236 ≤ broadcast_block n) × (broadcast_block n + 2 ≤ 1284)
  pub ends : channel_words ≡ 1284
  -- what waits for a card of a well-sized memory
  pub apart : well_sized ws ≡ true → (i m n : ℕ) → Waits ws i m → Waits ws i n → m ≢ n → Apart (broadcast_block m) (broadcast_block n)
  -- a broadcast that is not refused with 34, of any memory, overwrites nothing that waits
  pub spares : near ws ≡ true → (i n : ℕ) → Waits ws i n → Apart (broadcast_block n) (broadcast_block (made_of ws + 1))
