-- The ledger, which leaves values out, is the same run of the two layers with its values forgotten: the same steps are taken, as the same
-- actions.
use Prim.Native.Nat.{ℕ}
use lib.Dec.{eqb}
use lib.ListN.{length}
use mathlib.Core.Bool.{Bool, cond, false, true, ◌&&◌}
use mathlib.Core.List.{List, [], map, ◌∷◌}
use mathlib.Core.Option
use mathlib.Core.Option.{Option, none, some}
use mathlib.Core.Path.{ap, ap₂, fun_ext, refl, sym, ◌∙◌, ◌≡◌}
use Rattle.automaton.proofs.RenamedSteps.{channel_step_map}
use Rattle.automaton.specs.Renaming.{Alike, SentAlike, channel_map}
use Rattle.lists.specs.Maps.{map_pop, map_push}
use Rattle.names.specs.Placement.{Placement}
use Rattle.registers.specs.Layer.{Event, Msg, State, Status, Values, World, answers, ask, base, from, next, reply, unvalued}
use Rattle.claims.proofs.Renaming.{refusal_map, result_map, sight_map}
use Rattle.claims.specs.Command.{Command}
use Rattle.claims.specs.Ledger.{Action, Ledger, Op, about, answered_of, headed, ledger, ledger_mail, ledger_refusal, noted, notes, decoded_number, paper, paper_from, plan, sight_of, stage_of, step, telling, world, world_of}
use Rattle.claims.specs.Refusals.{refusal}
use Rattle.claims.specs.Results.{result}
use Rattle.claims.specs.Steps.{Decoded, RawStep, bad, decode, good}
use Rattle.automaton.specs.State as C
use Rattle.registers.specs.Layer as R
use Rattle.claims.specs.Command as K
use Rattle.claims.specs.Ledger as L

module _ {U : Values} where
  abbrev pub forget : Msg U → Msg unvalued
  forget (ask k) = ask k
  forget (reply k v) = reply k tt

  abbrev pub forget_status : Status U → Status unvalued
  forget_status R.quiet = R.quiet
  forget_status (R.asking k) = R.asking k
  forget_status (R.waiting k) = R.waiting k
  forget_status (R.done k v) = R.done k tt

  abbrev pub forget_event : Event U → Event unvalued
  forget_event (R.request k) = R.request k
  forget_event (R.perform k) = R.perform k
  forget_event (R.send k) = R.send k
  forget_event (R.dispatch m) = R.dispatch (forget m)
  forget_event (R.deliver m i) = R.deliver (forget m) i
  forget_event (R.report k v) = R.report k tt
  forget_event R.idle = R.idle

  abbrev pub forget_layer : State U → State unvalued
  forget_layer s = record { count = s.count; status = λ c. forget_status (s.status c); val = λ i x. tt; out = λ i. map forget (s.out i); applied = s.applied; shown = s.shown }

  abbrev pub forget_ledger : Ledger U → Ledger unvalued
  forget_ledger b = record { ops = b.ops; chosen = b.chosen; layer = forget_layer b.layer; channel = channel_map forget b.channel }

  abbrev pub forget_action : Action U → Action unvalued
  forget_action (L.request o) = L.request o
  forget_action (L.perform c k) = L.perform c k
  forget_action (L.send c k i) = L.send c k i
  forget_action (L.dispatch i m) = L.dispatch i (forget m)
  forget_action (L.take_broadcast i) = L.take_broadcast i
  forget_action (L.take_single c) = L.take_single c
  forget_action (L.deliver m i) = L.deliver (forget m) i
  forget_action (L.report c k v) = L.report c k tt

  forget_put : (t : Bool) (v w : Status U) → cond t (forget_status v) (forget_status w) ≡ forget_status (cond t v w)
  forget_put true v w = refl
  forget_put false v w = refl

module _ {U : Values} (P : Placement) where
  -- ---- the register layer

  module _ (ops : List Op) (at : ℕ → Option ℕ) where
    abbrev W : World U
    W = world_of P ops at

    next_forget : (s : State U) (e : Event U) → next (world_of P ops at) (forget_layer s) (forget_event e) ≡ forget_layer (next W s e)
    next_forget s (R.request k) = λ j. record {
      count = (next W s (R.request k)).count;
      status = λ c. forget_put (true && eqb (W.task k) c) (R.asking k) (s.status c) j;
      val = λ i x. tt;
      out = λ i. map forget (s.out i);
      applied = s.applied;
      shown = s.shown;
    }
    next_forget s (R.perform k) = λ j. record {
      count = s.count;
      status = λ c. forget_put (true && eqb (W.task k) c) (R.done k (s.val (base W k) (W.reg k))) (s.status c) j;
      val = λ i x. tt;
      out = λ i. map forget (s.out i);
      applied = (next W s (R.perform k)).applied;
      shown = (next W s (R.perform k)).shown;
    }
    next_forget s (R.send k) = λ j. record {
      count = s.count;
      status = λ c. forget_put (true && eqb (W.task k) c) (R.waiting k) (s.status c) j;
      val = λ i x. tt;
      out = λ i. sym (map_push forget (eqb i (base W k)) (ask k) (s.out i)) j;
      applied = s.applied;
      shown = s.shown;
    }
    next_forget s (R.dispatch (ask k)) = λ j. record {
      count = s.count;
      status = λ c. forget_status (s.status c);
      val = λ i x. tt;
      out = λ i. sym (map_pop forget (eqb i (from W (ask k))) (s.out i)) j;
      applied = s.applied;
      shown = s.shown;
    }
    next_forget s (R.dispatch (reply k v)) = λ j. record {
      count = s.count;
      status = λ c. forget_status (s.status c);
      val = λ i x. tt;
      out = λ i. sym (map_pop forget (eqb i (from W (reply k v))) (s.out i)) j;
      applied = s.applied;
      shown = s.shown;
    }
    next_forget s (R.deliver (ask k) i) = λ j. record {
      count = s.count;
      status = λ c. forget_put ((W.upd k && eqb i (base W k)) && eqb (W.task k) c) (R.done k (s.val i (W.reg k))) (s.status c) j;
      val = λ a x. tt;
      out = λ a. sym (map_push forget (eqb a i && answers W k i) (reply k (s.val i (W.reg k))) (s.out a)) j;
      applied = (next W s (R.deliver (ask k) i)).applied;
      shown = (next W s (R.deliver (ask k) i)).shown;
    }
    next_forget s (R.deliver (reply k v) i) = λ j. record {
      count = s.count;
      status = λ c. forget_put (true && eqb (W.task k) c) (R.done k v) (s.status c) j;
      val = λ a x. tt;
      out = λ a. map forget (s.out a);
      applied = s.applied;
      shown = s.shown;
    }
    next_forget s (R.report k v) = λ j. record {
      count = s.count;
      status = λ c. forget_put (true && eqb (W.task k) c) R.quiet (s.status c) j;
      val = λ a x. tt;
      out = λ a. map forget (s.out a);
      applied = s.applied;
      shown = s.shown;
    }
    next_forget s R.idle = refl

  -- ---- the channel

  module _ (b : Ledger U) where
    pub forget_alike : Alike forget (ledger_mail P b) (ledger_mail P (forget_ledger b))
    forget_alike = record { task= = t; multi= = m; dest= = d }
      where
        t : (m : Msg U) → (ledger_mail P (forget_ledger b)).task (forget m) ≡ (ledger_mail P b).task m
        t (ask k) = refl
        t (reply k v) = refl

        m : (m : Msg U) → (ledger_mail P (forget_ledger b)).multi (forget m) ≡ (ledger_mail P b).multi m
        m (ask k) = refl
        m (reply k v) = refl

        d : (m : Msg U) → (ledger_mail P (forget_ledger b)).dest (forget m) ≡ (ledger_mail P b).dest m
        d (ask k) = refl
        d (reply k v) = refl

    sent_alike : SentAlike forget (ledger_mail P b) (ledger_mail P (forget_ledger b)) b.channel
    sent_alike n (ask k) e i = refl
    sent_alike n (reply k v) e i = refl

    -- ---- the ledger's step

    step_forget : (d : Action U) → step P (forget_ledger b) (forget_action d) ≡ forget_ledger (step P b d)
    step_forget (L.request o) = ap (λ s. record { ops = (step P b (L.request o)).ops; chosen = b.chosen; layer = s; channel = channel_map forget b.channel })
        (next_forget (step P b (L.request o)).ops b.chosen b.layer (R.request (length b.ops)))
    step_forget (L.perform c k) = ap (λ s. record { ops = b.ops; chosen = b.chosen; layer = s; channel = channel_map forget b.channel }) (next_forget b.ops b.chosen b.layer (R.perform k))
    step_forget (L.send c k i) = ap (λ s. record { ops = b.ops; chosen = (step P b (L.send c k i)).chosen; layer = s; channel = channel_map forget b.channel }) (next_forget b.ops b.chosen b.layer (R.send k))
    step_forget (L.dispatch i m) = ap₂ (λ s w. record { ops = b.ops; chosen = b.chosen; layer = s; channel = w }) (next_forget b.ops b.chosen b.layer (R.dispatch m))
        (channel_step_map forget (ledger_mail P b) (ledger_mail P (forget_ledger b)) forget_alike b.channel sent_alike (C.dispatch i m))
    step_forget (L.take_broadcast i) = ap (λ w. record { ops = b.ops; chosen = b.chosen; layer = forget_layer b.layer; channel = w })
        (channel_step_map forget (ledger_mail P b) (ledger_mail P (forget_ledger b)) forget_alike b.channel sent_alike (C.take_broadcast i))
    step_forget (L.take_single c) = ap (λ w. record { ops = b.ops; chosen = b.chosen; layer = forget_layer b.layer; channel = w })
        (channel_step_map forget (ledger_mail P b) (ledger_mail P (forget_ledger b)) forget_alike b.channel sent_alike (C.take_single c))
    step_forget (L.deliver m i) = ap₂ (λ s w. record { ops = b.ops; chosen = b.chosen; layer = s; channel = w }) (next_forget b.ops b.chosen b.layer (R.deliver m i))
        (channel_step_map forget (ledger_mail P b) (ledger_mail P (forget_ledger b)) forget_alike b.channel sent_alike (C.deliver i))
    step_forget (L.report c k v) = ap (λ s. record { ops = b.ops; chosen = b.chosen; layer = s; channel = channel_map forget b.channel }) (next_forget b.ops b.chosen b.layer (R.report k v))

    -- ---- which steps are taken

    same_stage : (ops : List Op) (s : Status U) → stage_of ops (forget_status s) ≡ stage_of ops s
    same_stage ops R.quiet = refl
    same_stage ops (R.asking k) = refl
    same_stage ops (R.waiting k) = refl
    same_stage ops (R.done k v) = refl

    answered_alike : (i : ℕ) (m : Msg U) → answered_of (world P (forget_ledger b)) (forget m) i ≡ answered_of (world P b) m i
    answered_alike i (ask k) = refl
    answered_alike i (reply k v) = refl

    same_sight : sight_of P (forget_ledger b) ≡ sight_map forget (sight_of P b)
    same_sight =
        ap (λ g. record { requests = length b.ops; stage = g; out = λ i. map forget (b.layer.out i); channel = channel_map forget b.channel })
        (fun_ext (λ t. same_stage b.ops (b.layer.status t)))

    pub refusal_forget : (c : Command) → ledger_refusal P (forget_ledger b) c ≡ ledger_refusal P b c
    refusal_forget c =
        ap (λ s. refusal P (ledger_mail P (forget_ledger b)) (answered_of (world P (forget_ledger b))) s c) same_sight
        ∙ refusal_map P forget (ledger_mail P b) (ledger_mail P (forget_ledger b)) forget_alike (answered_of (world P b)) (answered_of (world P (forget_ledger b))) (sight_of P b) sent_alike (λ i m r e. answered_alike i m) c

    pub result_forget : (c : Command) → decoded_number P (forget_ledger b) (good c) ≡ decoded_number P b (good c)
    result_forget c =
        ap (λ s. result P (ledger_mail P (forget_ledger b)) (answered_of (world P (forget_ledger b))) s c) same_sight
        ∙ result_map P forget (ledger_mail P b) (ledger_mail P (forget_ledger b)) forget_alike (answered_of (world P b)) (answered_of (world P (forget_ledger b))) (sight_of P b) sent_alike (λ i m r e. answered_alike i m) c

    about_forget : (s : Status U) (f : ℕ → Action U) → about (forget_status s) (λ k. forget_action (f k)) ≡ Option.map forget_action (about s f)
    about_forget R.quiet f = refl
    about_forget (R.asking k) f = refl
    about_forget (R.waiting k) f = refl
    about_forget (R.done k v) f = refl

    telling_forget : (s : Status U) (c : ℕ) → telling (forget_status s) (L.report c) ≡ Option.map forget_action (telling s (L.report c))
    telling_forget R.quiet c = refl
    telling_forget (R.asking k) c = refl
    telling_forget (R.waiting k) c = refl
    telling_forget (R.done k v) c = refl

    dispatch_forget : (l : List (Msg U)) (i : ℕ) → headed (map forget l) (L.dispatch i) ≡ Option.map forget_action (headed l (L.dispatch i))
    dispatch_forget [] i = refl
    dispatch_forget (m ∷ l) i = refl

    deliver_forget : (l : List (Msg U)) (i : ℕ) → headed (map forget l) (λ m. L.deliver m i) ≡ Option.map forget_action (headed l (λ m. L.deliver m i))
    deliver_forget [] i = refl
    deliver_forget (m ∷ l) i = refl

    plan_forget : (c : Command) → plan P (forget_ledger b) c ≡ Option.map forget_action (plan P b c)
    plan_forget (K.request_read c x) = refl
    plan_forget (K.request_update c x f w) = refl
    plan_forget (K.perform c) = about_forget (b.layer.status c) (L.perform c)
    plan_forget (K.send_read c i) = about_forget (b.layer.status c) (λ k. L.send c k i)
    plan_forget (K.send_update c) = about_forget (b.layer.status c) (λ k. L.send c k 0)
    plan_forget (K.dispatch i) = dispatch_forget (b.layer.out i) i
    plan_forget (K.take_broadcast i) = refl
    plan_forget (K.take_single c) = refl
    plan_forget (K.deliver i) = deliver_forget (b.channel.inbox i) i
    plan_forget (K.report c) = telling_forget (b.layer.status c) c

  -- ---- following the list

  pub ledger_forget : (ds : List (Action U)) → ledger P (map forget_action ds) ≡ forget_ledger (ledger P ds)
  ledger_forget [] = refl
  ledger_forget (d ∷ ds) = ap (λ b. step P b (forget_action d)) (ledger_forget ds) ∙ step_forget (ledger P ds) d

  noted_forget : (t : Bool) (o : Option (Action U)) (ds : List (Action U)) → noted (cond t (Option.map forget_action o) none) (map forget_action ds) ≡ map forget_action (noted (cond t o none) ds)
  noted_forget true none ds = refl
  noted_forget true (some d) ds = refl
  noted_forget false o ds = refl

  pub notes_forget : (ds : List (Action U)) (d : Decoded) → notes P (map forget_action ds) d ≡ map forget_action (notes P ds d)
  notes_forget ds (bad n) = refl
  notes_forget ds (good c) =
      ap (λ b. noted (cond (eqb (ledger_refusal P b c) 0) (plan P b c) none) (map forget_action ds)) (ledger_forget ds)
      ∙ ap₂ (λ n o. noted (cond (eqb n 0) o none) (map forget_action ds)) (refusal_forget (ledger P ds) c) (plan_forget (ledger P ds) c)
      ∙ noted_forget (eqb (ledger_refusal P (ledger P ds) c) 0) (plan P (ledger P ds) c) ds

  paper_from_forget : (ds : List (Action U)) (l : List RawStep) → paper_from P (map forget_action ds) l ≡ map forget_action (paper_from P ds l)
  paper_from_forget ds [] = refl
  paper_from_forget ds (s ∷ l) = ap (λ z. paper_from P z l) (notes_forget ds (decode P s)) ∙ paper_from_forget (notes P ds (decode P s)) l

module _ (U : Values) (P : Placement) where
  pub paper_forget : (l : List RawStep) → paper P l ≡ map forget_action (paper {U = U} P l)
  paper_forget l = paper_from_forget P [] l

  pub book_forget : (l : List RawStep) → ledger P (paper P l) ≡ forget_ledger (ledger P (paper {U = U} P l))
  book_forget l = ap (ledger P) (paper_forget l) ∙ ledger_forget P (paper P l)

  -- the numbers are the same
  pub number_forget : (l : List RawStep) (d : Decoded) → decoded_number P (ledger P (paper {U = unvalued} P l)) d ≡ decoded_number P (ledger P (paper {U = U} P l)) d
  number_forget l (bad n) = refl
  number_forget l (good c) = ap (λ b. decoded_number P b (good c)) (book_forget l) ∙ result_forget P (ledger P (paper P l)) c
