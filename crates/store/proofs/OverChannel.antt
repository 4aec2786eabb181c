-- The channel's calls as the registers see them: letters without their senders.
use Prim.Native.Nat.{ℕ}
use mathlib.Core.Path.{◌≡◌, refl, sym, ap, ◌∙◌}
use mathlib.Core.Bool.{true, false}
use mathlib.Core.List.{List}
use lib.ListN.{length}
use Rattle.names.specs.declared.Letter.{Letter}
use Rattle.names.specs.Results.{is_taken}
use Rattle.automaton.specs.State.{ChannelState, ChannelAction, channel_step}
use Rattle.channel.specs.Layout.{channel_words, cards_of}
use Rattle.channel.specs.Sized.{well_sized}
use Rattle.channel.specs.Shows.{letter_mail}
use Rattle.channel.specs.Results.{channel_result}
use Rattle.automaton.specs.Renaming.{action_map, Alike}
use Rattle.channel.specs.MemoryCalls.{SameSizes}
use Rattle.channel.proofs.OfferedCalls.{Passes, channel_result_map, channel_step_map}
use Rattle.claims.specs.Found.{mail}
use Rattle.claims.specs.Found as F
use Rattle.tables.specs.Shows.{plain, ChannelShows}

-- a call whose names are in range answers n and leaves ds, as the published channel's operation x does
pub record Goes (cs : List ℕ) (w : ChannelState F.Letter) (x : ChannelAction F.Letter) (n : ℕ) (ds : List ℕ) : Type 0 where
  pub number : n ≡ channel_result mail (cards_of cs) w x
  pub shows : is_taken n ≡ true → ChannelShows ds (channel_step mail w x)
  pub untouched : is_taken n ≡ false → ds ≡ cs
  pub sized : well_sized ds ≡ true
  pub long : length ds ≡ channel_words
  pub sizes : SameSizes ds cs

alike : Alike plain letter_mail mail
alike = record { task= = λ m. refl; multi= = λ m. refl; dest= = λ m. refl }

pub goes : (cs : List ℕ) (w : ChannelState F.Letter) (v : ChannelShows cs w) (x : ChannelAction Letter) (n : ℕ) (ds : List ℕ)
    → Passes cs v.letters x n ds → Goes cs w (action_map plain x) n ds
goes cs w v x n ds k = record {
  number = k.number ∙ sym (channel_result_map plain letter_mail mail alike (cards_of cs) v.letters (λ n m e i. refl) x)
      ∙ ap (λ z. channel_result mail (cards_of cs) z (action_map plain x)) (sym v.plain=);
  shows = λ e. record {
    letters = channel_step letter_mail v.letters x;
    shows = k.shows e;
    plain= = ap (λ z. channel_step mail z (action_map plain x)) v.plain= ∙ channel_step_map plain letter_mail mail alike v.letters (λ n m e i. refl) x;
  };
  untouched = k.untouched;
  sized = k.sized;
  long = k.long;
  sizes = k.sizes;
}
