-- Step 7 (RULES 5.7, 6.2, 6.5).
use Rattle.std.specs.Prelude.{ℕ, ◌+◌, min, Bool, cond, List, eqb, ltb, leb, set, Result, Ok, Err}
use Rattle.lists.specs.Loops.{turns, total}
use Rattle.names.specs.CardSet.{member_of, several}
use Rattle.names.specs.declared.Card.{Card}
use Rattle.names.specs.declared.Letter.{Letter}
use Rattle.names.specs.declared.Packet.{Packet}
use Rattle.names.specs.declared.refusals.Refusal.{Refusal}
use Rattle.names.specs.declared.refusals.Refusal.TheVariants.{Crowded, NoBroadcast, NoCard}
use Rattle.names.specs.declared.refusals.Taken.{Taken}
use Rattle.names.specs.declared.refusals.Taken.TheVariants.{Done}
use Rattle.channel.specs.Answers.{is_done, unless_full}
use Rattle.channel.specs.Layout.{taken_word, held_word, cards_of, made_of, taken_of, count_of, held_count_of, place_of, held_block, broadcast_block}
use Rattle.names.specs.Letters.{letter_of, packet_at, letter_at, tag_at, marked}
use Rattle.channel.specs.Inbox.{pushed}

-- 1 where held message k of card i waits for broadcast n, else 0
unfoldable pub ready_at : List ℕ → ℕ → ℕ → ℕ → ℕ
ready_at ws i n k = cond (eqb (tag_at ws (held_block i k)) n) 1 0

-- how many held messages of card i wait for broadcast n
unfoldable pub releasable_of : List ℕ → ℕ → ℕ → ℕ
releasable_of ws i n = total (ready_at ws i n) (min (held_count_of ws i) 16)

-- 1 where the message at place k of card i's inbox came by broadcast, else 0
unfoldable pub broadcast_at : List ℕ → ℕ → ℕ → ℕ
broadcast_at ws i k = cond (several (letter_at ws (place_of ws i k)).to) 1 0

-- how many broadcasts stand in card i's inbox
unfoldable pub broadcasts_of : List ℕ → ℕ → ℕ
broadcasts_of ws i = total (broadcast_at ws i) (min (count_of ws i) 48)

-- a pass over the held messages of a card: the words, and how many stay
pub record Sweep : Type 0 where
  pub words : List ℕ
  pub kept : ℕ

-- held message k of card i joins the inbox where its tag is n, and else it moves down to place `kept`
unfoldable pub swept_words : ℕ → ℕ → ℕ → List ℕ → ℕ → List ℕ
swept_words i n k ws kept =
    cond (eqb (tag_at ws (held_block i k)) n)
    (pushed ws i (packet_at ws (held_block i k)))
    (marked ws (held_block i kept) (packet_at ws (held_block i k)) (tag_at ws (held_block i k)))

unfoldable pub swept_kept : ℕ → ℕ → ℕ → List ℕ → ℕ → ℕ
swept_kept i n k ws kept = cond (eqb (tag_at ws (held_block i k)) n) kept (kept + 1)

unfoldable pub swept : ℕ → ℕ → ℕ → Sweep → Sweep
swept i n k s = record { words = swept_words i n k s.words s.kept; kept = swept_kept i n k s.words s.kept }

-- the first k of them
unfoldable pub sweeps : ℕ → ℕ → ℕ → List ℕ → Sweep
sweeps i n k ws = turns (swept i n) k (record { words = ws; kept = 0 })

-- the held messages of card i with tag n join its inbox, and the others close up
unfoldable pub released_words : List ℕ → ℕ → ℕ → List ℕ
released_words ws i n =
    let s : Sweep = sweeps i n (min (held_count_of ws i) 16) ws in
    set s.words (held_word i) s.kept

-- broadcast n, whose packet is p, joins card i's inbox, and then what waited for it
abbrev pub arrived : List ℕ → ℕ → ℕ → Packet → List ℕ
arrived ws i n p = released_words (pushed ws i p) i n

-- card i has taken broadcast n, whose packet is p; `there`: it is a destination
unfoldable pub joined : List ℕ → ℕ → ℕ → Packet → Bool → List ℕ
joined ws i n p there = cond there (arrived (set ws (taken_word i) n) i n p) (released_words (set ws (taken_word i) n) i n)

-- card i is a destination of broadcast n
abbrev pub there_at : List ℕ → ℕ → ℕ → Bool
there_at ws i n = member_of (letter_at ws (broadcast_block n)).to i

-- the next broadcast for card i
abbrev pub next_packet : List ℕ → ℕ → Packet
next_packet ws i = packet_at ws (broadcast_block (taken_of ws i + 1))

abbrev pub next_letter : List ℕ → ℕ → Letter
next_letter ws i = letter_of (next_packet ws i)

-- card i is a destination of it
abbrev pub next_there : List ℕ → ℕ → Bool
next_there ws i = there_at ws i (taken_of ws i + 1)

-- 35: the card is a destination with 32 undelivered broadcasts (RULES 7.6); 6: a 49th message in the inbox (7.2)
unfoldable pub room_answer : List ℕ → ℕ → ℕ → Bool → Result Taken Refusal
room_answer ws i n there =
    cond there
    (cond (leb 32 (broadcasts_of ws i)) (Err Crowded) (unless_full (ltb 48 (count_of ws i + releasable_of ws i n + 1)) (Ok Done)))
    (unless_full (ltb 48 (count_of ws i + releasable_of ws i n)) (Ok Done))

-- card i takes broadcast n, where there is room
abbrev pub next_answer : List ℕ → ℕ → ℕ → Result Taken Refusal
next_answer ws i n = room_answer ws i n (there_at ws i n)

abbrev pub next_memory : List ℕ → ℕ → ℕ → List ℕ
next_memory ws i n =
    cond (is_done (next_answer ws i n)) (joined ws i n (packet_at ws (broadcast_block n)) (there_at ws i n)) ws

-- 14 an absent card; 31: no broadcast to take
unfoldable pub take_answer : List ℕ → Card → Result Taken Refusal
take_answer ws card =
    cond (ltb card.0 (cards_of ws))
    (cond (ltb (taken_of ws card.0) (made_of ws))
    (next_answer ws card.0 (taken_of ws card.0 + 1))
    (Err NoBroadcast))
    (Err NoCard)

-- the new words where the step is done, else the old
unfoldable pub take_memory : List ℕ → Card → List ℕ
take_memory ws card =
    cond (is_done (take_answer ws card))
    (joined ws card.0 (taken_of ws card.0 + 1) (next_packet ws card.0) (next_there ws card.0))
    ws
