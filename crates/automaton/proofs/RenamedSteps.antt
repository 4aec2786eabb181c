-- The operations do to the renamed state what they do to the state.
use lib.Dec.{eqb, leb}
use mathlib.Core.Path.{◌≡◌, refl, sym, ap, ap₂, ◌∙◌}
use mathlib.Core.Bool.{Bool, true, false, cond}
use mathlib.Core.List.{[], ◌∷◌, ◌++◌, map, map-append}
use mathlib.Core.Option
use mathlib.Core.Option.{Option, none, some}
use Prim.Native.Nat.{ℕ, suc}
use Rattle.lists.specs.Queues.{push}
use Rattle.lists.specs.Maps.{map_push, map_pop}
use Rattle.lists.specs.Places.{nth}
use Rattle.automaton.specs.Mail.{Mail}
use Rattle.automaton.specs.State.{Tagged, ChannelState, released, kept, ChannelAction, dispatch, take_broadcast, take_single, deliver, dispatching, taking, landing, arriving, delivering, channel_step, ripe, tagging}
use Rattle.automaton.specs.Renaming.{tag_map, channel_map, action_map, Alike, SentAlike}
use Rattle.automaton.proofs.RenamedLists.{nth_map, released_map, kept_map}

module _ {M N : Type 0} (h : M → N) (a : Mail M) (b : Mail N) (r : Alike h a b) where
  dispatching_map : (t : Bool) (w : ChannelState M) (i : ℕ) (m : M)
      → dispatching b t (channel_map h w) i (h m) ≡ channel_map h (dispatching a t w i m)
  dispatching_map true w i m = λ z. record {
    sent = sym (map-append h w.sent (m ∷ [])) z;
    taken = w.taken;
    flight = λ c. Option.map (tag_map h) (w.flight c);
    held = λ j. map (tag_map h) (w.held j);
    inbox = λ j. map h (w.inbox j);
  }
  dispatching_map false w i m = λ z. record {
    sent = map h w.sent;
    taken = w.taken;
    flight = λ c. (ap (λ k. cond (eqb c k) (some (tagging (channel_map h w) i (h m))) (Option.map (tag_map h) (w.flight c))) (r.task= m)
        ∙ fly c (eqb c (a.task m))) z;
    held = λ j. map (tag_map h) (w.held j);
    inbox = λ j. map h (w.inbox j);
  }
    where
      fly : (c : ℕ) (t : Bool) → cond t (some (tagging (channel_map h w) i (h m))) (Option.map (tag_map h) (w.flight c))
          ≡ Option.map (tag_map h) (cond t (some (tagging w i m)) (w.flight c))
      fly c true = refl
      fly c false = refl

  taking_map : (w : ChannelState M) (i : ℕ) (o : Option M) → ((m : M) → o ≡ some m → b.to (h m) i ≡ a.to m i)
      → taking b (channel_map h w) i (Option.map h o) ≡ channel_map h (taking a w i o)
  taking_map w i none u = refl
  taking_map w i (some m) u = λ z. record {
    sent = map h w.sent;
    taken = λ j. cond (eqb j i) (suc (w.taken j)) (w.taken j);
    flight = λ c. Option.map (tag_map h) (w.flight c);
    held = λ j. keeping (eqb j i) j z;
    inbox = λ j. (ap (λ s. cond (eqb j i) (push s (h m) (map h (w.inbox j)) ++ released n (map (tag_map h) (w.held j))) (map h (w.inbox j)))
        (u m refl)
        ∙ joining (eqb j i) (a.to m i) j) z;
  }
    where
      n : ℕ
      n = suc (w.taken i)

      keeping : (t : Bool) (j : ℕ)
          → cond t (kept n (map (tag_map h) (w.held j))) (map (tag_map h) (w.held j)) ≡ map (tag_map h) (cond t (kept n (w.held j)) (w.held j))
      keeping true j = kept_map h n (w.held j)
      keeping false j = refl

      joining : (t s : Bool) (j : ℕ)
          → cond t (push s (h m) (map h (w.inbox j)) ++ released n (map (tag_map h) (w.held j))) (map h (w.inbox j))
          ≡ map h (cond t (push s m (w.inbox j) ++ released n (w.held j)) (w.inbox j))
      joining true s j = ap₂ (λ x y. x ++ y) (sym (map_push h s m (w.inbox j))) (released_map h n (w.held j))
          ∙ sym (map-append h (push s m (w.inbox j)) (released n (w.held j)))
      joining false s j = refl

  landing_map : (t : Bool) (w : ChannelState M) (c : ℕ) (x : Tagged M)
      → landing b t (channel_map h w) c (tag_map h x) ≡ channel_map h (landing a t w c x)
  landing_map t w c x = go t
    where
      left : (s : Bool) (d : ℕ) → cond s none (Option.map (tag_map h) (w.flight d)) ≡ Option.map (tag_map h) (cond s none (w.flight d))
      left true d = refl
      left false d = refl

      go : (t : Bool) → landing b t (channel_map h w) c (tag_map h x) ≡ channel_map h (landing a t w c x)
      go true = λ z. record {
        sent = map h w.sent;
        taken = w.taken;
        flight = λ d. left (eqb d c) d z;
        held = λ j. map (tag_map h) (w.held j);
        inbox = λ j. (ap (λ i. push (eqb j i) (h x.msg) (map h (w.inbox j))) (r.dest= x.msg)
            ∙ sym (map_push h (eqb j (a.dest x.msg)) x.msg (w.inbox j))) z;
      }
      go false = λ z. record {
        sent = map h w.sent;
        taken = w.taken;
        flight = λ d. left (eqb d c) d z;
        held = λ j. (ap (λ i. push (eqb j i) (tag_map h x) (map (tag_map h) (w.held j))) (r.dest= x.msg)
            ∙ sym (map_push (tag_map h) (eqb j (a.dest x.msg)) x (w.held j))) z;
        inbox = λ j. map h (w.inbox j);
      }

  arriving_map : (w : ChannelState M) (c : ℕ) (o : Option (Tagged M))
      → arriving b (channel_map h w) c (Option.map (tag_map h) o) ≡ channel_map h (arriving a w c o)
  arriving_map w c none = refl
  arriving_map w c (some x) =
      ap (λ i. landing b (leb x.mark (w.taken i)) (channel_map h w) c (tag_map h x)) (r.dest= x.msg)
      ∙ landing_map (ripe a w x) w c x

  delivering_map : (w : ChannelState M) (i : ℕ) → delivering b (channel_map h w) i ≡ channel_map h (delivering a w i)
  delivering_map w i = λ z. record {
    sent = map h w.sent;
    taken = w.taken;
    flight = λ c. Option.map (tag_map h) (w.flight c);
    held = λ j. map (tag_map h) (w.held j);
    inbox = λ j. sym (map_pop h (eqb j i) (w.inbox j)) z;
  }

  pub channel_step_map : (w : ChannelState M) → SentAlike h a b w → (x : ChannelAction M)
      → channel_step b (channel_map h w) (action_map h x) ≡ channel_map h (channel_step a w x)
  channel_step_map w u (dispatch i m) = ap (λ t. dispatching b t (channel_map h w) i (h m)) (r.multi= m) ∙ dispatching_map (a.multi m) w i m
  channel_step_map w u (take_broadcast i) =
      ap (taking b (channel_map h w) i) (nth_map h w.sent (w.taken i)) ∙ taking_map w i (nth w.sent (w.taken i)) (λ m e. u (w.taken i) m e i)
  channel_step_map w u (take_single c) = arriving_map w c (w.flight c)
  channel_step_map w u (deliver i) = delivering_map w i
