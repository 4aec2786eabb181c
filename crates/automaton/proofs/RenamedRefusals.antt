-- The same messages under other names are refused alike, and held alike.
use lib.Dec.{leb, ltb}
use mathlib.Core.Path.{◌≡◌, refl, sym, ap, ap₂, ◌∙◌}
use mathlib.Core.Bool.{cond, ◌&&◌}
use mathlib.Core.List.{List, [], ◌∷◌, ◌++◌, map, map-append}
use mathlib.Core.Option
use mathlib.Core.Option.{Option, none, some}
use Prim.Native.Nat.{ℕ, suc}
use lib.ListN.{length, length-map}
use Rattle.lists.specs.Every.{each}
use Rattle.lists.specs.Filters.{filter}
use Rattle.lists.specs.Queues.{push}
use Rattle.lists.specs.Maps.{map_push, length_filter_map}
use Rattle.lists.specs.Places.{nth}
use Rattle.automaton.specs.MostBehind.{keeps_up}
use Rattle.automaton.specs.Mail.{Mail}
use Rattle.automaton.specs.State.{Tagged, ChannelState, released, ChannelAction, dispatch, take_broadcast, take_single, deliver, ripe}
use Rattle.automaton.specs.Refusals.{otherwise, broadcast_refusal, flight_refusal, dispatch_refusal, take_refusal, single_refusal, receive_refusal, channel_refusal}
use Rattle.automaton.specs.Holding.{held_back, holds}
use Rattle.automaton.specs.Renaming.{tag_map, channel_map, action_map, Alike, SentAlike}
use Rattle.automaton.proofs.RenamedLists.{nth_map, released_map}

module _ {M N : Type 0} (h : M → N) (a : Mail M) (b : Mail N) (r : Alike h a b) (cards : ℕ) where
  flight_refusal_map : (o : Option (Tagged M)) → flight_refusal b cards (Option.map (tag_map h) o) ≡ flight_refusal a cards o
  flight_refusal_map none = refl
  flight_refusal_map (some x) = refl

  dispatch_refusal_map : (w : ChannelState M) (m : M) → dispatch_refusal b cards (channel_map h w) (h m) ≡ dispatch_refusal a cards w m
  dispatch_refusal_map w m =
      ap₂ (λ t n. cond t (cond (each cards (λ i. keeps_up (suc n) (w.taken i))) (otherwise 6 (ltb n 65535)) 34)
      (flight_refusal b cards (Option.map (tag_map h) (w.flight (b.task (h m))))))
      (r.multi= m) (length-map w.sent h)
      ∙ ap (cond (a.multi m) (broadcast_refusal a cards w))
      (ap (λ c. flight_refusal b cards (Option.map (tag_map h) (w.flight c))) (r.task= m) ∙ flight_refusal_map (w.flight (a.task m)))

  take_refusal_map : (w : ChannelState M) (i : ℕ) (o : Option M) → ((m : M) → o ≡ some m → b.to (h m) i ≡ a.to m i)
      → take_refusal b cards (channel_map h w) i (Option.map h o) ≡ take_refusal a cards w i o
  take_refusal_map w i none u = refl
  take_refusal_map w i (some m) u =
      ap₂ (λ t n. cond (t && leb 32 n) 35 (otherwise 6 (leb (length (push t (h m) (map h (w.inbox i)) ++ released (suc (w.taken i))
      (map (tag_map h) (w.held i)))) 48)))
      (u m refl) (length_filter_map h a.multi b.multi r.multi= (w.inbox i))
      ∙ ap (λ n. cond (a.to m i && leb 32 (length (filter a.multi (w.inbox i)))) 35 (otherwise 6 (leb n 48)))
      (ap₂ (λ k q. length (k ++ q)) (sym (map_push h (a.to m i) m (w.inbox i))) (released_map h (suc (w.taken i)) (w.held i))
      ∙ ap length (sym (map-append h (push (a.to m i) m (w.inbox i)) (released (suc (w.taken i)) (w.held i))))
      ∙ length-map (push (a.to m i) m (w.inbox i) ++ released (suc (w.taken i)) (w.held i)) h)

  single_refusal_map : (w : ChannelState M) (o : Option (Tagged M))
      → single_refusal b cards (channel_map h w) (Option.map (tag_map h) o) ≡ single_refusal a cards w o
  single_refusal_map w none = refl
  single_refusal_map w (some x) =
      ap (λ i. cond (leb x.mark (w.taken i)) (otherwise 6 (ltb (length (map h (w.inbox i))) 48))
      (otherwise 6 (ltb (length (map (tag_map h) (w.held i))) 16))) (r.dest= x.msg)
      ∙ ap₂ (λ m n. cond (ripe a w x) (otherwise 6 (ltb m 48)) (otherwise 6 (ltb n 16)))
      (length-map (w.inbox (a.dest x.msg)) h) (length-map (w.held (a.dest x.msg)) (tag_map h))

  receive_refusal_map : (l : List M) → receive_refusal b cards (map h l) ≡ receive_refusal a cards l
  receive_refusal_map [] = refl
  receive_refusal_map (m ∷ l) = refl

  pub channel_refusal_map : (w : ChannelState M) → SentAlike h a b w → (x : ChannelAction M)
      → channel_refusal b cards (channel_map h w) (action_map h x) ≡ channel_refusal a cards w x
  unfolding channel_refusal
  channel_refusal_map w u (dispatch i m) = dispatch_refusal_map w m
  channel_refusal_map w u (take_broadcast i) =
      ap (take_refusal b cards (channel_map h w) i) (nth_map h w.sent (w.taken i))
      ∙ take_refusal_map w i (nth w.sent (w.taken i)) (λ m e. u (w.taken i) m e i)
  channel_refusal_map w u (take_single c) = single_refusal_map w (w.flight c)
  channel_refusal_map w u (deliver i) = receive_refusal_map (w.inbox i)

  held_back_map : (w : ChannelState M) (o : Option (Tagged M)) → held_back b (channel_map h w) (Option.map (tag_map h) o) ≡ held_back a w o
  held_back_map w none = refl
  held_back_map w (some x) = rw (r.dest= x.msg)

  pub holds_map : (w : ChannelState M) (x : ChannelAction M) → holds b (channel_map h w) (action_map h x) ≡ holds a w x
  holds_map w (dispatch i m) = refl
  holds_map w (take_broadcast i) = refl
  holds_map w (take_single c) = held_back_map w (w.flight c)
  holds_map w (deliver i) = refl
