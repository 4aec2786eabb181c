-- What a memory (Layout) shows of the channel's idealised state (automaton/specs/State).
use Rattle.std.specs.Prelude.{ℕ, ◌+◌, ◌%◌, ◌<◌, ◌≤◌, ◌≡◌, cond, List, length}
use Rattle.std.proofs.Math.Option.{Option, none, some}
use Rattle.lists.specs.Listings.{listing, ring}
use Rattle.lists.specs.Places.{nth}
use Rattle.names.specs.CardSet.{member_of, several, sole_of}
use Rattle.names.specs.declared.Letter.{Letter}
use Rattle.automaton.specs.Mail.{Mail}
use Rattle.automaton.specs.State.{Tagged, ChannelState}
use Rattle.automaton.specs.MostBehind.{most_behind}
use Rattle.channel.specs.Layout.{inbox_block, held_block, flight_block, broadcast_block, cards_of, tasks_of, made_of, taken_of, head_of, count_of, held_count_of}
use Rattle.names.specs.Letters.{letter_at, tag_at}
use Rattle.channel.specs.TakeSingle.{no_flight}

-- what the channel reads off a letter
abbrev pub letter_mail : Mail Letter
letter_mail = record {
  task = λ l. l.message.task.0;
  to = λ l i. member_of l.to i;
  multi = λ l. several l.to;
  dest = λ l. sole_of l.to;
}

-- the letter in block b, with its tag
abbrev pub tagged_at : List ℕ → ℕ → Tagged Letter
tagged_at ws b = record { msg = letter_at ws b; mark = tag_at ws b }

-- card i's inbox, oldest first
unfoldable pub inbox_of : List ℕ → ℕ → List Letter
inbox_of ws i = ring (λ k. letter_at ws (inbox_block i k)) 48 (head_of ws i % 48) (count_of ws i)

-- the letters held for card i, in order of arrival
unfoldable pub held_of : List ℕ → ℕ → List (Tagged Letter)
held_of ws i = listing (λ k. tagged_at ws (held_block i k)) (held_count_of ws i)

-- task t's letter in flight
unfoldable pub flight_of : List ℕ → ℕ → Option (Tagged Letter)
flight_of ws t = cond (no_flight ws t) none (some (tagged_at ws (flight_block t)))

-- The words show the state, for each card and task that is present. Of the broadcasts, the memory has the last: number n + 1, which
-- stands at place n of the list.
pub record Shows (ws : List ℕ) (w : ChannelState Letter) : Type 0 where
  pub made= : length w.sent ≡ made_of ws
  pub sent= : (n : ℕ) → n < made_of ws → made_of ws ≤ n + most_behind → nth w.sent n ≡ some (letter_at ws (broadcast_block (n + 1)))
  pub taken= : (i : ℕ) → i < cards_of ws → w.taken i ≡ taken_of ws i
  pub flight= : (t : ℕ) → t < tasks_of ws → w.flight t ≡ flight_of ws t
  pub held= : (i : ℕ) → i < cards_of ws → w.held i ≡ held_of ws i
  pub inbox= : (i : ℕ) → i < cards_of ws → w.inbox i ≡ inbox_of ws i

-- Every memory shows a state; broadcasts that are overwritten may be any.
unfoldable pub state_of : List ℕ → ChannelState Letter
state_of ws = record {
  sent = listing (λ n. letter_at ws (broadcast_block (n + 1))) (made_of ws);
  taken = taken_of ws;
  flight = flight_of ws;
  held = held_of ws;
  inbox = inbox_of ws;
}
