-- What the two memories show: a placement and a state of the algorithm that the store runs (claims/specs/Found: 000 Figures 5 and 7, and the values
-- that updates found), for each card, task and register that is present. Of the channel's memory only what the channel says that it shows.
use Rattle.std.specs.Prelude.{ℕ, ◌<◌, ◌≡◌, List}
use Rattle.lists.specs.Listings.{listing}
use Rattle.names.specs.declared.Letter.{Letter}
use Rattle.names.specs.Letters.{letter_at}
use Rattle.names.specs.Placement.{Placement, tasks, registers, home, holders, primary}
use Rattle.automaton.specs.State.{ChannelState}
use Rattle.channel.specs.Layout.{cards_of, tasks_of, registers_of}
use Rattle.channel.specs.Shows.{Shows}
use Rattle.automaton.specs.Renaming.{channel_map}
use Rattle.claims.specs.Found.{Found, quiet, asking_read, asking_update, waiting, done_read, done_update}
use Rattle.claims.specs.Found as F
use Rattle.tables.specs.declared.Doing.{Doing}
use Rattle.tables.specs.declared.Doing.TheVariants.{Quiet, AskingRead, AskingUpdate, Waiting, DoneRead, DoneUpdate}
use Rattle.tables.specs.Layout.{Place, card_after_card, copy_at, requests_of, home_of, holders_of, primary_of}
use Rattle.tables.specs.Doings.{doing_at}
use Rattle.tables.specs.Outbox.{out_count_of, out_place}

-- what a task is doing, as Figure 5 has it
unfoldable pub status_of : Doing → F.Doing
status_of Quiet = quiet
status_of (AskingRead x) = asking_read x.0
status_of (AskingUpdate x f w) = asking_update x.0 f w
status_of Waiting = waiting
status_of (DoneRead v) = done_read v
status_of (DoneUpdate v) = done_update v

-- a letter as an entry of Figure 5's buffer
abbrev pub plain : Letter → F.Letter
plain l = record { task = l.message.task.0; reg = l.message.register.0; body = l.message.body; to = l.to }

-- card i's outbox, oldest first
unfoldable pub outbox_of : List ℕ → ℕ → List F.Letter
outbox_of rs i = listing (λ k. plain (letter_at rs (out_place rs i k))) (out_count_of rs i)

-- the registers' memory, among so many cards, tasks and registers
pub record RegistersShowAt (place : Place) (rs : List ℕ) (cards tasks registers : ℕ) (P : Placement) (s : Found) : Type 0 where
  pub home= : (c : ℕ) → c < tasks → home P c ≡ home_of rs c
  pub holders= : (x : ℕ) → x < registers → holders P x ≡ holders_of rs x
  pub primary= : (x : ℕ) → x < registers → primary P x ≡ primary_of rs x
  pub requests= : s.requests ≡ requests_of rs
  pub status= : (c : ℕ) → c < tasks → s.status c ≡ status_of (doing_at rs c)
  pub table= : (i x : ℕ) → i < cards → x < registers → s.table i x ≡ copy_at place rs i x
  pub out= : (i : ℕ) → i < cards → s.out i ≡ outbox_of rs i

-- the channel's memory
pub record ChannelShows (cs : List ℕ) (w : ChannelState F.Letter) : Type 0 where
  pub letters : ChannelState Letter
  pub shows : Shows cs letters
  pub plain= : w ≡ channel_map plain letters

pub record StoreShowsAt (place : Place) (rs cs : List ℕ) (P : Placement) (s : Found) : Type 0 where
  pub cards= : P.cards ≡ cards_of cs
  pub tasks= : tasks P ≡ tasks_of cs
  pub registers= : registers P ≡ registers_of cs
  pub registers_show : RegistersShowAt place rs (cards_of cs) (tasks_of cs) (registers_of cs) P s
  pub channel_shows : ChannelShows cs s.channel

-- ---- card after card, on paper; SideBySide has the case of the memory

abbrev pub RegistersShow : List ℕ → ℕ → ℕ → ℕ → Placement → Found → Type 0
RegistersShow = RegistersShowAt card_after_card

abbrev pub StoreShows : List ℕ → List ℕ → Placement → Found → Type 0
StoreShows rs cs P s = StoreShowsAt card_after_card rs cs P s
