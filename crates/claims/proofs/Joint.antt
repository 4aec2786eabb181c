-- Both layers together: the register layer over the channel. No promise is assumed here; the channel's is proved.
use Prim.Native.Nat.{ℕ}
use borrow.Author.Tests.{eqb-true}
use lib.Dec.{eqb}
use mathlib.Core.Bool.{Bool, cond, false, false≢true, true, true≢false, ◌&&◌}
use mathlib.Core.List.{List, [], map, ◌∷◌}
use mathlib.Core.Option.{Option}
use mathlib.Core.Path.{ap, ap₂, fun_ext, refl, subst, sym, ◌≡◌}
use Rattle.automaton.proofs.KeepsPromise.{keeps_promise}
use Rattle.automaton.specs.Automaton.{ChannelExecution, ChannelPrecondition, Mcasts, Step, external, mcast, receive, rest}
use Rattle.automaton.specs.Network.{Network}
use Rattle.multicast.specs.Promise.{Act, Promise}
use Rattle.automaton.specs.TotalOrder.{rank}
use Rattle.lists.specs.Histories.{Any, any_map}
use Rattle.lists.specs.HistoryMaps.{any_into, any_out, at_into, at_out}
use Rattle.lists.specs.Tests.{and_fst, and_intro, and_snd, eqb_refl}
use Rattle.names.specs.CardSet.{member_of, several, sole_of}
use Rattle.names.specs.Placement.{Placement, placement_refusal}
use Rattle.registers.proofs.Fresh.{fresh_dispatch}
use Rattle.registers.proofs.Ordered.{ordered}
use Rattle.registers.specs.Events.{Dispatches}
use Rattle.registers.specs.Layer.{Values, Event, Msg, Precondition, Valid, World, ask, from, reply, run, to, view}
use Rattle.claims.specs.Ledger.{Op, mail_of, sets_of, target, wide, world_of}
use Rattle.registers.specs.Layer as R
use Rattle.automaton.specs.Automaton as C

module _ {X Z M : Type 0} (f : Z → X) (see : X → Act M) (rk : M → ℕ) where
  promise_out : (E : List Z) → Promise see rk (map f E) → Promise (λ z. see (f z)) rk E
  promise_out E p = record {
    distinct = λ m n x y. p.distinct m n (any_into f x) (any_into f y);
    sent = λ m i B x. any_out f B (p.sent m i (map f B) (at_into f x));
    once = λ m i B x y. p.once m i (map f B) (at_into f x) (any_into f y);
    receive_consistent = λ m n i B x y h. any_out f B (p.receive_consistent m n i (map f B) (at_into f x) (any_into f y) h);
    context_safe = λ m n i B x y. p.context_safe m n i (map f B) (at_into f x) (any_into f y);
  }

  promise_into : (E : List Z) → Promise (λ z. see (f z)) rk E → Promise see rk (map f E)
  promise_into E p = record {
    distinct = λ m n x y. p.distinct m n (any_out f E x) (any_out f E y);
    sent = λ m i B x. let r = at_out f E x in subst (Any _) r.same_was (any_into f (p.sent m i r.was r.at_was));
    once = λ m i B x y. let r = at_out f E x in p.once m i r.was r.at_was (any_out f r.was (subst (Any _) (sym r.same_was) y));
    receive_consistent = λ m n i B x y h. let r = at_out f E x in subst (Any _) r.same_was (any_into f (p.receive_consistent m n i r.was r.at_was (any_out f E y) h));
    context_safe = λ m n i B x y. let r = at_out f E x in p.context_safe m n i r.was r.at_was (any_out f r.was (subst (Any _) (sym r.same_was) y));
  }

-- ---- the two layers

pub data Joint (U : Values) : Type 0 where
  request : ℕ → Joint U
  perform : ℕ → Joint U
  send : ℕ → Joint U
  dispatch : Msg U → Joint U
  take : ℕ → Msg U → Joint U
  join : Msg U → Joint U
  deliver : Msg U → ℕ → Joint U
  report : ℕ → U.Val → Joint U
  idle : Joint U

abbrev pub upper : {U : Values} → Joint U → Event U
upper (request k) = R.request k
upper (perform k) = R.perform k
upper (send k) = R.send k
upper (dispatch m) = R.dispatch m
upper (take i m) = R.idle
upper (join m) = R.idle
upper (deliver m i) = R.deliver m i
upper (report k v) = R.report k v
upper idle = R.idle

abbrev pub lower : {U : Values} → Joint U → Step (Msg U)
lower (request k) = rest
lower (perform k) = rest
lower (send k) = rest
lower (dispatch m) = mcast m
lower (take i m) = C.take i m
lower (join m) = C.join m
lower (deliver m i) = receive m i
lower (report k v) = rest
lower idle = rest

abbrev pub eq_msg : {U : Values} → Msg U → Msg U → Bool
eq_msg (ask j) (ask k) = eqb j k
eq_msg (ask j) (reply k w) = false
eq_msg (reply j v) (ask k) = false
eq_msg {U} (reply j v) (reply k w) = eqb j k && U.same v w

pub eq_msg_eq : {U : Values} (m n : Msg U) → eq_msg m n ≡ true → m ≡ n
eq_msg_eq (ask j) (ask k) e = ap ask (eqb-true j k e)
eq_msg_eq (ask j) (reply k w) e = absurd (false≢true e)
eq_msg_eq (reply j v) (ask k) e = absurd (false≢true e)
eq_msg_eq {U} (reply j v) (reply k w) e = ap₂ reply (eqb-true j k (and_fst (eqb j k) _ e)) (U.same_eq v w (and_snd (eqb j k) _ e))

pub eq_msg_refl : {U : Values} (m : Msg U) → eq_msg m m ≡ true
eq_msg_refl (ask k) = eqb_refl k
eq_msg_refl {U} (reply k v) = and_intro (eqb_refl k) (U.same_refl v)

-- the run's operations and chosen cards are those of a ledger
module _ {U : Values} (P : Placement) (ok : placement_refusal P ≡ 0) (ops : List Op) (chosen : ℕ → Option ℕ) where
  abbrev W : World U
  W = world_of P ops chosen

  -- a message that is not for more cards is for its target
  pub narrow : (m : Msg U) → wide (sets_of ops) W m ≡ false → (i : ℕ) → to W m i ≡ eqb i (target (sets_of ops) W m)
  narrow (ask k) e i = go (W.upd k) (several (sets_of ops k)) e
    where
      go : (t u : Bool) → (t && u) ≡ false → cond t (cond u (member_of (sets_of ops k) i) (eqb i (sole_of (sets_of ops k)))) (eqb i (W.chosen k)) ≡ eqb i (cond t (sole_of (sets_of ops k)) (W.chosen k))
      go true true q = absurd (true≢false q)
      go true false q = refl
      go false u q = refl
  narrow (reply k w) e i = refl

  abbrev pub net : Network (Msg U)
  net = record { mail = mail_of (sets_of ops) W; from = from W; single = narrow; eqm = eq_msg; eqm_eq = eq_msg_eq; eqm_refl = eq_msg_refl }

  -- when a step of the two layers may be taken
  abbrev pub Ready : List (Joint U) → Joint U → Type 0
  Ready E (request k) = Precondition W (run W (map upper E)) (R.request k)
  Ready E (perform k) = Precondition W (run W (map upper E)) (R.perform k)
  Ready E (send k) = Precondition W (run W (map upper E)) (R.send k)
  Ready E (dispatch m) = Precondition W (run W (map upper E)) (R.dispatch m)
  Ready E (take i m) = ChannelPrecondition net (map lower E) (C.take i m)
  Ready E (join m) = ChannelPrecondition net (map lower E) (C.join m)
  Ready E (deliver m i) = ChannelPrecondition net (map lower E) (receive m i)
  Ready E (report k v) = Precondition W (run W (map upper E)) (R.report k v)
  Ready E idle = Unit {0}

  abbrev pub JointExecution : List (Joint U) → Type 0
  JointExecution [] = Unit {0}
  JointExecution (e ∷ E) = Ready E e × JointExecution E

  agree : (e : Joint U) → external net (lower e) ≡ view W (upper e)
  agree (request k) = refl
  agree (perform k) = refl
  agree (send k) = refl
  agree (dispatch m) = refl
  agree (take i m) = refl
  agree (join m) = refl
  agree (deliver m i) = refl
  agree (report k v) = refl
  agree idle = refl

  -- the channel's promise, in the upper layer's eyes
  pub promised : (E : List (Joint U)) (v : ChannelExecution net (map lower E)) → Promise (view W) (rank net (map lower E)) (map upper E)
  promised E v = promise_into upper (view W) (rank net (map lower E)) E
      (subst (λ s. Promise s (rank net (map lower E)) E) (fun_ext agree)
      (promise_out lower (external net) (rank net (map lower E)) E (keeps_promise net (map lower E) v)))

  pub mcasts_dispatches : (m : Msg U) (e : Joint U) → Mcasts m (lower e) → Dispatches m (upper e)
  mcasts_dispatches m (request _) h = elim h [ ]
  mcasts_dispatches m (perform _) h = elim h [ ]
  mcasts_dispatches m (send _) h = elim h [ ]
  mcasts_dispatches m (take _ _) h = elim h [ ]
  mcasts_dispatches m (join _) h = elim h [ ]
  mcasts_dispatches m (deliver _ _) h = elim h [ ]
  mcasts_dispatches m (report _ _) h = elim h [ ]
  mcasts_dispatches m idle h = elim h [ ]
  mcasts_dispatches m (dispatch n) h = h

  pub both : (E : List (Joint U)) → JointExecution E → Valid W (map upper E) × ChannelExecution net (map lower E)
  both [] w = (tt, tt)
  both (e ∷ E) w = go e w.0 (both E w.1)
    where
      go : (e : Joint U) → Ready E e → Valid W (map upper E) × ChannelExecution net (map lower E) → Valid W (map upper (e ∷ E)) × ChannelExecution net (map lower (e ∷ E))
      go (request k) c r = ((c, r.0), (tt, r.1))
      go (perform k) c r = ((c, r.0), (tt, r.1))
      go (send k) c r = ((c, r.0), (tt, r.1))
      go (dispatch m) c r = ((c, r.0), (fresh, r.1))
        where
          fresh : ¬ Any (Mcasts m) (map lower E)
          fresh h =
              fresh_dispatch W (rank net (map lower E)) m (map upper E) c r.0 (ordered W (rank net (map lower E)) (map upper E) (promised E r.1))
              (any_into upper (any_map (mcasts_dispatches m) (any_out lower E h)))
      go (take i m) c r = ((tt, r.0), (c, r.1))
      go (join m) c r = ((tt, r.0), (c, r.1))
      go (deliver m i) c r = ((tt, r.0), (c, r.1))
      go (report k v) c r = ((c, r.0), (tt, r.1))
      go idle c r = ((tt, r.0), (tt, r.1))
