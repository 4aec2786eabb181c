-- Each refusal of the channel says what specs/RefusalMeanings says of it.
use mathlib.Core.Path.{◌≡◌, refl, sym}
use mathlib.Core.Logic.{◌≢◌}
use mathlib.Core.Bool.{Bool, true, false, cond, ◌&&◌}
use mathlib.Core.List.{List, [], ◌∷◌, ◌++◌}
use mathlib.Core.Option.{Option, none, some}
use Prim.Native.Nat.{ℕ, suc, ◌+◌, ◌<◌, ◌≤◌}
use native.Mathlib.Omega.{arith}
use borrow.Author.Tests.{leb-true, le-leb}
use lib.Dec.{leb, ltb}
use lib.ListN.{length}
use Rattle.lists.specs.Tests.{and_fst, and_snd}
use Rattle.lists.specs.Every.{each, each_fails, each_failing}
use Rattle.lists.specs.Filters.{filter}
use Rattle.lists.specs.Queues.{push}
use Rattle.lists.specs.Places.{nth, nth_none, nth_past}
use Rattle.automaton.specs.MostBehind.{most_behind, keeps_up}
use Rattle.automaton.specs.Mail.{Mail}
use Rattle.automaton.specs.State.{Tagged, ChannelState, released}
use Rattle.automaton.specs.Refusals.{otherwise, broadcast_refusal, flight_refusal, take_refusal, single_refusal, receive_refusal, channel_refusal}
use Rattle.automaton.specs.RefusalMeanings.{RefusalMeanings}
use Rattle.automaton.proofs.KeepsUp.{falls_behind, fell_behind}

other_six : (b : Bool) (n : ℕ) → n ≢ 0 → n ≢ 6 → otherwise 6 b ≢ n
other_six true n p q e = p (sym e)
other_six false n p q e = q (sym e)

module _ {M : Type 0} (mail : Mail M) (cards : ℕ) (w : ChannelState M) where
  -- whether what joins the inbox has room there
  abbrev room : ℕ → M → Bool
  room i m = leb (length (push (mail.to m i) m (w.inbox i) ++ released (suc (w.taken i)) (w.held i))) 48

  take_31 : (i : ℕ) (o : Option M) → take_refusal mail cards w i o ≡ 31 → o ≡ none
  take_31 i none e = refl
  take_31 i (some m) e = absurd (go (mail.to m i && leb 32 (length (filter mail.multi (w.inbox i)))) (room i m) e)
    where
      go : (b c : Bool) → cond b 35 (otherwise 6 c) ≢ 31
      go true c q = omega arith
      go false c q = other_six c 31 (omega arith) (omega arith) q

  take_35 : (i : ℕ) (o : Option M) → take_refusal mail cards w i o ≡ 35
      → (m : M) × (o ≡ some m) × (mail.to m i ≡ true) × (32 ≤ length (filter mail.multi (w.inbox i)))
  take_35 i none e = absurd (omega arith)
  take_35 i (some m) e = go (mail.to m i && leb 32 (length (filter mail.multi (w.inbox i)))) refl (room i m) e
    where
      go : (b : Bool) → (mail.to m i && leb 32 (length (filter mail.multi (w.inbox i)))) ≡ b → (c : Bool) → cond b 35 (otherwise 6 c) ≡ 35
          → (n : M) × (some m ≡ some n) × (mail.to n i ≡ true) × (32 ≤ length (filter mail.multi (w.inbox i)))
      go true h c q = (m, refl, and_fst _ _ h, leb-true 32 _ (and_snd (mail.to m i) _ h))
      go false h c q = absurd (other_six c 35 (omega arith) (omega arith) q)

  single_32 : (o : Option (Tagged M)) → single_refusal mail cards w o ≡ 32 → o ≡ none
  single_32 none e = refl
  single_32 (some x) e =
      absurd (go (leb x.mark (w.taken (mail.dest x.msg))) (ltb (length (w.inbox (mail.dest x.msg))) 48) (ltb (length (w.held (mail.dest x.msg))) 16) e)
    where
      go : (b c d : Bool) → cond b (otherwise 6 c) (otherwise 6 d) ≢ 32
      go true c d q = other_six c 32 (omega arith) (omega arith) q
      go false c d q = other_six d 32 (omega arith) (omega arith) q

  receive_33 : (l : List M) → receive_refusal mail cards l ≡ 33 → l ≡ []
  receive_33 [] e = refl
  receive_33 (m ∷ l) e = absurd (omega arith)

  flight_34 : (o : Option (Tagged M)) → flight_refusal mail cards o ≢ 34
  flight_34 none e = omega arith
  flight_34 (some x) e = omega arith

  near : ℕ → Bool
  near j = keeps_up (suc (length w.sent)) (w.taken j)

  dispatch_34 : (b : Bool) (m : M) → cond b (broadcast_refusal mail cards w) (flight_refusal mail cards (w.flight (mail.task m))) ≡ 34
      → (b ≡ true) × (j : ℕ) × (j < cards) × (w.taken j + most_behind < suc (length w.sent))
  unfolding near
  dispatch_34 false m e = absurd (flight_34 (w.flight (mail.task m)) e)
  dispatch_34 true m e = let x = go (each cards near) refl e in (refl, x.0, x.1, x.2)
    where
      go : (b : Bool) → each cards near ≡ b → cond b (otherwise 6 (ltb (length w.sent) 65535)) 34 ≡ 34
          → (j : ℕ) × (j < cards) × (w.taken j + most_behind < suc (length w.sent))
      go true h q = absurd (other_six (ltb (length w.sent) 65535) 34 (omega arith) (omega arith) q)
      go false h q = let f = each_failing cards near h in (f.0, f.1, fell_behind _ _ f.2)

  pub refusals_mean : RefusalMeanings mail cards w
  unfolding channel_refusal near
  refusals_mean = record {
    none_to_take = λ i. ((λ e. nth_none w.sent (w.taken i) (take_31 i _ e)), (λ h. rw (nth_past w.sent (w.taken i) h)));
    none_in_flight = λ t. ((λ e. single_32 (w.flight t) e), (λ h. rw h));
    inbox_empty = λ i. ((λ e. receive_33 (w.inbox i) e), (λ h. rw h));
    far_behind =
        λ i m. ((λ e. dispatch_34 (mail.multi m) m e), (λ h. rw (h.0, each_fails cards near h.1 h.2 (falls_behind (suc (length w.sent)) (w.taken h.1) h.3))));
    crowded = λ i. ((λ e. take_35 i (nth w.sent (w.taken i)) e), (λ h. rw (h.1, h.2, le-leb 32 (length (filter mail.multi (w.inbox i))) h.3)));
  }
