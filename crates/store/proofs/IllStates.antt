-- A state is ill sized exactly if one of the listed kinds holds: the channel's kinds by its own law, the registers' test by test.
use Prim.Native.Nat.{ℕ, ◌<◌, ◌^◌, min}
use mathlib.Core.Path.{◌≡◌, refl, subst}
use mathlib.Core.Logic.{◌⊎◌, inl, inr}
use mathlib.Core.Bool.{Bool, true, false, ◌&&◌}
use mathlib.Core.List.{List}
use native.Mathlib.Omega.{arith}
use borrow.Author.Tests.{ltb-true, ltb-false, leb-false}
use lib.Dec.{ltb, leb}
use Rattle.lists.specs.Tests.{clash, false_of, and_fst, and_snd}
use Rattle.lists.specs.Conjunctions.{and_fails}
use Rattle.lists.specs.Every.{each, each_failing}
use Rattle.names.specs.Update.{known_function}
use Rattle.names.proofs.KnownFunctions.{functions_unknown}
use Rattle.channel.specs.Layout.{cards_of, tasks_of, registers_of}
use Rattle.channel.specs.Sized.{well_sized}
use Rattle.channel.specs.IllSized.{IllChannel}
use Rattle.channel.specs.IllSized as Channel
use Rattle.channel.proofs.Offered.{block_exact, channel_exact}
use Rattle.tables.specs.declared.Doing.{Doing}
use Rattle.tables.specs.declared.Doing.TheVariants.{Quiet, AskingRead, AskingUpdate, Waiting, DoneRead, DoneUpdate}
use Rattle.tables.specs.Layout.{requests_of, home_of, holders_of, primary_of}
use Rattle.tables.specs.Doings.{doing_at}
use Rattle.tables.specs.Outbox.{out_head_of, out_count_of, out_place}
use Rattle.tables.specs.Sized.{doing_kind_at, doing_fits, task_fits, register_fits, out_fits, outbox_fits, registers_sized, store_sized}
use Rattle.tables.proofs.Sizing.{RegistersFit, fit_of}
use Rattle.store.specs.IllStates.{IllSized, no_card, cards, no_register, registers, no_task, tasks, broadcasts, requests, outbox, inbox, held, home, holders, primary, read, update, no_function, function, out_message, inbox_message, held_message, flight_message, broadcast_message, held_tag, flight_tag_lem, above, below, outbox_head, inbox_head, doing, flight_destination, broadcast_destination, IllStates}
use Rattle.store.proofs.StepLaw.{ill_sized}

module _ (rs cs : List ℕ) where
  -- ---- a kind for each test that fails

  of_channel : IllChannel cs → IllSized rs cs
  of_channel (Channel.no_card h) = no_card h
  of_channel (Channel.cards h) = cards h
  of_channel (Channel.no_register h) = no_register h
  of_channel (Channel.registers h) = registers h
  of_channel (Channel.no_task h) = no_task h
  of_channel (Channel.tasks h) = tasks h
  of_channel (Channel.broadcasts h) = broadcasts h
  of_channel (Channel.inbox i c h) = inbox i c h
  of_channel (Channel.held i c h) = held i c h
  of_channel (Channel.inbox_message i k c g p) = inbox_message i k c g p
  of_channel (Channel.held_message i k c g p) = held_message i k c g p
  of_channel (Channel.flight_message t c q p) = flight_message t c q p
  of_channel (Channel.broadcast_message k m h p) = broadcast_message k m h p
  of_channel (Channel.held_tag i k c g h) = held_tag i k c g h
  of_channel (Channel.flight_tag_lem t c q h) = flight_tag_lem t c q h
  of_channel (Channel.above i c h) = above i c h
  of_channel (Channel.below i c h) = below i c h
  of_channel (Channel.inbox_head i c h) = inbox_head i c h
  of_channel (Channel.flight_destination t c q p) = flight_destination t c q p
  of_channel (Channel.broadcast_destination k m h p) = broadcast_destination k m h p

  doing_fails : (t : ℕ) → t < tasks_of cs → (d : Doing) → doing_at rs t ≡ d → doing_fits cs d ≡ false → IllSized rs cs
  unfolding doing_fits
  doing_fails t c Quiet q e = absurd (clash refl e)
  doing_fails t c (AskingRead x) q e = read t x c q (ltb-false _ _ e)
  doing_fails t c (AskingUpdate x f w) q e =
      and_fails (ltb x.0 (registers_of cs)) (known_function f) e (λ p. update t x f w c q (ltb-false _ _ p)) (λ p. unknown ((functions_unknown f).0 p))
    where
      unknown : (f ≡ 0) ⊎ (5 < f) → IllSized rs cs
      unknown (inl z) = no_function t x w c (rw z at q)
      unknown (inr h) = function t x f w c q h
  doing_fails t c Waiting q e = absurd (clash refl e)
  doing_fails t c (DoneRead v) q e = absurd (clash refl e)
  doing_fails t c (DoneUpdate v) q e = absurd (clash refl e)

  task_fails : (t : ℕ) → t < tasks_of cs → task_fits rs cs t ≡ false → IllSized rs cs
  unfolding task_fits
  task_fails t c e =
      and_fails (ltb (home_of rs t) (cards_of cs) && leb (doing_kind_at rs t) 5) (doing_fits cs (doing_at rs t)) e
      (λ e. and_fails (ltb (home_of rs t) (cards_of cs)) (leb (doing_kind_at rs t) 5) e (λ p. home t c (ltb-false _ _ p)) (λ p. doing t c (leb-false _ _ p)))
      (λ p. doing_fails t c (doing_at rs t) refl p)

  register_fails : (x : ℕ) → x < registers_of cs → register_fits rs cs x ≡ false → IllSized rs cs
  unfolding register_fits
  register_fails x c e =
      and_fails (ltb (holders_of rs x) (2 ^ cards_of cs)) (ltb (primary_of rs x) (cards_of cs)) e
      (λ p. holders x c (ltb-false _ _ p)) (λ p. primary x c (ltb-false _ _ p))

  outbox_fails : (i : ℕ) → i < cards_of cs → outbox_fits rs cs i ≡ false → IllSized rs cs
  unfolding outbox_fits out_fits
  outbox_fails i c e =
      let n : ℕ = min (out_count_of rs i) 16 in
      and_fails (ltb (out_head_of rs i) 16 && leb (out_count_of rs i) 16) (each n (out_fits rs cs i)) e
      (λ e. and_fails (ltb (out_head_of rs i) 16) (leb (out_count_of rs i) 16) e (λ p. outbox_head i c (ltb-false _ _ p)) (λ p. outbox i c (leb-false _ _ p)))
      (λ h. let x = each_failing n (out_fits rs cs i) h in out_message i x.0 c (omega (arith, x.1)) ((block_exact cs rs (out_place rs i x.0)).0 x.2))

  registers_found : registers_sized rs cs ≡ false → IllSized rs cs
  unfolding registers_sized
  registers_found e =
      let a : Bool = leb (requests_of rs) 65535 in
      let b : Bool = each (tasks_of cs) (task_fits rs cs) in
      let c : Bool = each (registers_of cs) (register_fits rs cs) in
      and_fails (a && b && c) (each (cards_of cs) (outbox_fits rs cs)) e
      (λ e. and_fails (a && b) c e
      (λ e. and_fails a b e (λ p. requests (leb-false _ _ p))
      (λ h. let x = each_failing (tasks_of cs) (task_fits rs cs) h in task_fails x.0 x.1 x.2))
      (λ h. let x = each_failing (registers_of cs) (register_fits rs cs) h in register_fails x.0 x.1 x.2))
      (λ h. let x = each_failing (cards_of cs) (outbox_fits rs cs) h in outbox_fails x.0 x.1 x.2)

  found : store_sized rs cs ≡ false → IllSized rs cs
  unfolding store_sized
  found e = and_fails (well_sized cs) (registers_sized rs cs) e (λ h. of_channel ((channel_exact cs).0 h)) registers_found

  -- ---- a well-sized state has none of them

  module _ (e : store_sized rs cs ≡ true) where
    -- the channel's part, and the registers'
    not_channel : IllChannel cs → ⊥
    unfolding store_sized
    not_channel i = clash (and_fst (well_sized cs) (registers_sized rs cs) e) ((channel_exact cs).1 i)

    fit : RegistersFit rs cs
    unfolding store_sized
    fit = fit_of rs cs (and_snd (well_sized cs) (registers_sized rs cs) e)

    -- what task t asks
    asks : (d : Doing) (t : ℕ) → t < tasks_of cs → doing_at rs t ≡ d → doing_fits cs d ≡ true
    asks d t c q = subst (λ d. doing_fits cs d ≡ true) q (fit.doing t c)

    none : IllSized rs cs → ⊥
    unfolding doing_fits out_fits
    none (no_card h) = not_channel (Channel.no_card h)
    none (cards h) = not_channel (Channel.cards h)
    none (no_register h) = not_channel (Channel.no_register h)
    none (registers h) = not_channel (Channel.registers h)
    none (no_task h) = not_channel (Channel.no_task h)
    none (tasks h) = not_channel (Channel.tasks h)
    none (broadcasts h) = not_channel (Channel.broadcasts h)
    none (requests h) = omega (arith, fit.requests)
    none (outbox i c h) = omega (arith, fit.count i c)
    none (inbox i c h) = not_channel (Channel.inbox i c h)
    none (held i c h) = not_channel (Channel.held i c h)
    none (home t c h) = omega (arith, fit.home t c)
    none (holders x c h) = omega (arith, fit.holders x c)
    none (primary x c h) = omega (arith, fit.primary x c)
    none (read t x c q h) = let l = ltb-true x.0 (registers_of cs) (asks (AskingRead x) t c q) in omega arith
    none (update t x f w c q h) =
        let l = ltb-true x.0 (registers_of cs) (and_fst (ltb x.0 (registers_of cs)) (known_function f) (asks (AskingUpdate x f w) t c q)) in omega arith
    none (no_function t x w c q) =
        clash (and_snd (ltb x.0 (registers_of cs)) (known_function 0) (asks (AskingUpdate x 0 w) t c q)) ((functions_unknown 0).1 (inl refl))
    none (function t x f w c q h) =
        clash (and_snd (ltb x.0 (registers_of cs)) (known_function f) (asks (AskingUpdate x f w) t c q)) ((functions_unknown f).1 (inr h))
    none (out_message i k c g p) = clash (fit.out i k c g) ((block_exact cs rs (out_place rs i k)).1 p)
    none (inbox_message i k c g p) = not_channel (Channel.inbox_message i k c g p)
    none (held_message i k c g p) = not_channel (Channel.held_message i k c g p)
    none (flight_message t c q p) = not_channel (Channel.flight_message t c q p)
    none (broadcast_message k m h p) = not_channel (Channel.broadcast_message k m h p)
    none (held_tag i k c g h) = not_channel (Channel.held_tag i k c g h)
    none (flight_tag_lem t c q h) = not_channel (Channel.flight_tag_lem t c q h)
    none (above i c h) = not_channel (Channel.above i c h)
    none (below i c h) = not_channel (Channel.below i c h)
    none (outbox_head i c h) = omega (arith, fit.head i c)
    none (inbox_head i c h) = not_channel (Channel.inbox_head i c h)
    none (doing t c h) = omega (arith, fit.kind t c)
    none (flight_destination t c q p) = not_channel (Channel.flight_destination t c q p)
    none (broadcast_destination k m h p) = not_channel (Channel.broadcast_destination k m h p)

  is_false : IllSized rs cs → store_sized rs cs ≡ false
  is_false i = false_of (store_sized rs cs) (λ e. none e i)

  pub ill_states : IllStates rs cs
  ill_states = record { exact = (found, is_false); six = λ i. ill_sized rs cs (is_false i) }
