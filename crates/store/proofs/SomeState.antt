-- Any two memories show some placement and some state.
use Prim.Native.Nat.{ℕ}
use mathlib.Core.Path.{refl}
use mathlib.Core.List.{List}
use Rattle.lists.specs.Listings.{listing, listing_length, listing_at}
use Rattle.names.specs.Placement.{Placement, placement}
use Rattle.channel.specs.Layout.{cards_of, tasks_of, registers_of}
use Rattle.automaton.specs.Renaming.{channel_map}
use Rattle.channel.proofs.Offered.{shown}
use Rattle.claims.specs.Found.{Found}
use Rattle.tables.specs.Layout.{requests_of, home_of, holders_of, primary_of, copy_of}
use Rattle.tables.specs.Doings.{doing_at}
use Rattle.tables.specs.Shows.{status_of, plain, outbox_of, StoreShows}

module _ (rs cs : List ℕ) where
  abbrev placement_in : Placement
  placement_in = placement (cards_of cs) (listing (home_of rs) (tasks_of cs)) (listing (holders_of rs) (registers_of cs)) (listing (primary_of rs) (registers_of cs))

  abbrev state_in : Found
  state_in = record {
    requests = requests_of rs;
    status = λ c. status_of (doing_at rs c);
    table = copy_of rs;
    out = outbox_of rs;
    channel = channel_map plain (shown cs).0;
  }

  pub some_state : (P : Placement) × (s : Found) × StoreShows rs cs P s
  some_state = (
    placement_in,
    state_in,
    record {
      cards= = refl;
      tasks= = listing_length (home_of rs) (tasks_of cs);
      registers= = listing_length (holders_of rs) (registers_of cs);
      registers_show = record {
        home= = λ c h. listing_at (home_of rs) (tasks_of cs) c 0 h;
        holders= = λ x h. listing_at (holders_of rs) (registers_of cs) x 0 h;
        primary= = λ x h. listing_at (primary_of rs) (registers_of cs) x 0 h;
        requests= = refl;
        status= = λ c h. refl;
        table= = λ i x h g. refl;
        out= = λ i h. refl;
      };
      channel_shows = record { letters = (shown cs).0; shows = (shown cs).1; plain= = refl };
    },
  )
