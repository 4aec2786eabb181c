-- Well-sized memories that show a state, taken apart; and a step's law from its parts.
use Prim.Native.Nat.{ℕ, ◌<◌}
use mathlib.Core.Path.{◌≡◌, refl, sym, ap, ◌∙◌}
use mathlib.Core.Logic.{◌≢◌}
use mathlib.Core.Bool.{Bool, true, false, cond}
use mathlib.Core.List.{List}
use borrow.Author.Tests.{lt-ltb, eqb-true}
use lib.Dec.{eqb}
use lib.ListN.{length}
use Rattle.lists.specs.Tests.{and_fst, and_snd, and_intro}
use Rattle.lists.specs.Listings.{listing_length}
use Rattle.names.specs.Placement.{Placement, tasks, registers, home, copy}
use Rattle.names.specs.Results.{is_taken, result_from}
use Rattle.names.proofs.Results.{taken_small, refused_not_zero, result_plain}
use Rattle.channel.specs.Layout.{channel_words, cards_of, tasks_of, registers_of}
use Rattle.channel.specs.Sized.{well_sized}
use Rattle.claims.specs.Command.{Command}
use Rattle.claims.specs.Steps.{good}
use Rattle.claims.specs.Found.{Found, mail, answered, effect, sight, command_refusal}
use Rattle.claims.specs.FoundRun.{value_at, command_result}
use Rattle.claims.specs.Results.{holding}
use Rattle.claims.proofs.Results.{taken_result, refusal_small}
use Rattle.tables.specs.Layout.{holds}
use Rattle.tables.specs.Outbox.{out_count_of}
use Rattle.tables.specs.Sized.{registers_sized, store_sized}
use Rattle.store.specs.Step.{outcome}
use Rattle.tables.specs.Shows.{outbox_of, RegistersShow, ChannelShows}
use Rattle.store.specs.Demand2.{Stands, StepFollows}
use Rattle.tables.proofs.Sizing.{RegistersFit, fit_of, of_fit}

-- the two memories, part by part
pub record Ready (rs cs : List ℕ) (P : Placement) (s : Found) : Type 0 where
  pub long : length rs ≡ 593
  pub channel_long : length cs ≡ channel_words
  pub fit : RegistersFit rs cs
  pub channel_fit : well_sized cs ≡ true
  pub cards= : P.cards ≡ cards_of cs
  pub tasks= : tasks P ≡ tasks_of cs
  pub registers= : registers P ≡ registers_of cs
  pub show : RegistersShow rs (cards_of cs) (tasks_of cs) (registers_of cs) P s
  pub channel_shows : ChannelShows cs s.channel

pub ready : (rs cs : List ℕ) (P : Placement) (s : Found) → Stands rs cs P s → Ready rs cs P s
unfolding store_sized
ready rs cs P s z = record {
  long = z.long;
  channel_long = z.channel_long;
  fit = fit_of rs cs (and_snd (well_sized cs) (registers_sized rs cs) z.sized);
  channel_fit = and_fst (well_sized cs) (registers_sized rs cs) z.sized;
  cards= = z.shows.cards=;
  tasks= = z.shows.tasks=;
  registers= = z.shows.registers=;
  show = z.shows.registers_show;
  channel_shows = z.shows.channel_shows;
}

pub stands : (rs cs : List ℕ) (P : Placement) (s : Found) → Ready rs cs P s → Stands rs cs P s
unfolding store_sized
stands rs cs P s z = record {
  long = z.long;
  channel_long = z.channel_long;
  sized = and_intro z.channel_fit (of_fit rs cs z.fit);
  shows = record { cards= = z.cards=; tasks= = z.tasks=; registers= = z.registers=; registers_show = z.show; channel_shows = z.channel_shows };
}

-- messages in an outbox
pub count_is : (rs : List ℕ) (c t r : ℕ) (P : Placement) (s : Found) → RegistersShow rs c t r P s → (i : ℕ) → i < c → length (s.out i) ≡ out_count_of rs i
unfolding outbox_of
count_is rs c t r P s v i h = rw (v.out= i h) (listing_length _ (out_count_of rs i))

-- facts of well-sized memories
module _ (rs cs : List ℕ) (P : Placement) (s : Found) (z : Ready rs cs P s) where
  -- a home is present
  pub home_there : (t : ℕ) → t < tasks_of cs → home P t < cards_of cs
  home_there t h = rw (z.show.home= t h) (z.fit.home t h)

  -- who holds a copy
  pub holds_is : (x i : ℕ) → x < registers_of cs → i < cards_of cs → copy P x i ≡ holds rs x i
  unfolding holds
  holds_is x i h g = rw (z.cards=, lt-ltb i (cards_of cs) g, z.show.holders= x h)

  -- the same channel
  pub registers_ready : (us : List ℕ) (u : Found) → length us ≡ 593 → RegistersFit us cs
      → RegistersShow us (cards_of cs) (tasks_of cs) (registers_of cs) P u → u.channel ≡ s.channel → Ready us cs P u
  registers_ready us u l f v e = record {
    long = l;
    channel_long = z.channel_long;
    fit = f;
    channel_fit = z.channel_fit;
    cards= = z.cards=;
    tasks= = z.tasks=;
    registers= = z.registers=;
    show = v;
    channel_shows = rw e z.channel_shows;
  }

  -- a step that gives no value
  pub follows_any : (n : ℕ) (us ds : List ℕ) (c : Command) → value_at s c ≡ 0 → n ≡ command_result P s c
      → (is_taken n ≡ true → Ready us ds P (effect P s c)) → (is_taken n ≡ false → (us ≡ rs) × (ds ≡ cs)) → StepFollows rs cs P s (outcome n us ds) (good c)
  follows_any n us ds c v e f g = go (is_taken n) refl
    where
      value_is : cond (eqb (command_refusal P s c) 0) (value_at s c) 0 ≡ 0
      value_is = rw v (same (eqb (command_refusal P s c) 0))
        where
          same : (b : Bool) → ◌≡◌ {A = ℕ} (cond b 0 0) 0
          same true = refl
          same false = refl

      -- it is taken exactly if nothing refuses it
      test : is_taken n ≡ eqb (command_refusal P s c) 0
      test = ap is_taken e ∙ taken_result P mail (answered P) (sight P s) c

      go : (b : Bool) → is_taken n ≡ b → StepFollows rs cs P s (outcome n us ds) (good c)
      go true q = record {
        answer= = rw (value_is, ← e);
        stands = rw (← test, q) (stands us ds P (effect P s c) (f q));
        refused = g;
      }
      go false q =
          let k = g q in
          record {
            answer= = rw (value_is, ← e);
            stands = rw (← test, q, k.0, k.1) (stands rs cs P s z);
            refused = g;
          }

  -- and holds no message: its number is its refusal
  pub follows : (n : ℕ) (us ds : List ℕ) (c : Command) → (value_at s c ≡ 0) × (holding mail (sight P s) c ≡ false) → n ≡ command_refusal P s c
      → (n ≡ 0 → Ready us ds P (effect P s c)) → (n ≢ 0 → (us ≡ rs) × (ds ≡ cs)) → StepFollows rs cs P s (outcome n us ds) (good c)
  follows n us ds c v e f g =
      follows_any n us ds c v.0 (e ∙ sym (result_plain (command_refusal P s c)) ∙ ap (result_from (command_refusal P s c)) (sym v.1))
      (λ t. f (eqb-true n 0 (sym (taken_small n (rw e (refusal_small P mail (answered P) (sight P s) c))) ∙ t))) (λ t. g (refused_not_zero n t))
