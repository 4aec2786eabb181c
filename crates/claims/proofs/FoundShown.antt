-- The state of the algorithm that the store runs is that of the two layers with values, operation numbers forgotten (as Shown says of the published
-- one, which is left of it when the values found are forgotten). The same steps are refused in both, with the same numbers, and hold messages.
use Prim.Native.Nat.{ℕ}
use lib.ListN.{length}
use mathlib.Core.Bool.{Bool, cond, false, true}
use mathlib.Core.List.{List, map}
use mathlib.Core.Option
use mathlib.Core.Option.{Option, get_or}
use mathlib.Core.Path.{ap, fun_ext, refl, sym, ◌∙◌, ◌≡◌}
use Rattle.automaton.specs.Renaming.{Alike, SentAlike, channel_map, tag_map}
use Rattle.automaton.specs.State.{ChannelState}
use Rattle.lists.specs.Maps.{map_map, option_map_map}
use Rattle.names.specs.CardSet.{just_of}
use Rattle.names.specs.Placement.{Placement, home, placement_refusal}
use Rattle.names.specs.declared.Body.TheVariants.{ReadDo, ReadReply, UpdateDo, UpdateReply}
use Rattle.registers.specs.Layer.{Msg, State, Status, ask, reply}
use Rattle.claims.proofs.Executions.{Execution}
use Rattle.claims.proofs.ForgetFound.{refusal_forgets, result_forgets}
use Rattle.claims.proofs.Shown.{numbers}
use Rattle.claims.specs.Command.{Command}
use Rattle.claims.specs.ForgetFound.{forget, forget_doing, forget_letter}
use Rattle.claims.specs.Found.{Doing, Found, Letter, asking_read, asking_update, command_refusal, done_read, done_update, mail, quiet, waiting}
use Rattle.claims.specs.FoundRun.{command_result}
use Rattle.claims.specs.Ledger.{Action, Ledger, Op, decoded_number, ledger, ledger_mail, ledger_refusal, op_at}
use Rattle.claims.specs.Steps.{good}
use Rattle.registers.specs.Layer as R
use Rattle.claims.proofs.Shown as S
use Rattle.claims.specs.Published as Pub
use Rattle.claims.specs.PublishedRun as PubRun

abbrev pub show_status : List Op → Status numbers → Doing
show_status ops R.quiet = quiet
show_status ops (R.asking k) = let o = op_at ops k in cond o.upd (asking_update o.reg o.fn o.arg) (asking_read o.reg)
show_status ops (R.waiting k) = waiting
show_status ops (R.done k v) = cond (op_at ops k).upd (done_update v) (done_read v)

module _ (P : Placement) where
  abbrev pub ask_letter : Op → Option ℕ → Letter
  ask_letter o j = record { task = o.task; reg = o.reg; body = cond o.upd (UpdateDo o.fn o.arg) ReadDo; to = cond o.upd o.holders (just_of (get_or j 0)) }

  abbrev pub reply_letter : Op → ℕ → Letter
  reply_letter o v = record { task = o.task; reg = o.reg; body = cond o.upd (UpdateReply v) (ReadReply v); to = just_of (home P o.task) }

  abbrev pub show_msg : List Op → (ℕ → Option ℕ) → Msg numbers → Letter
  show_msg ops chosen (ask k) = ask_letter (op_at ops k) (chosen k)
  show_msg ops chosen (reply k v) = reply_letter (op_at ops k) v

  abbrev pub seen : ℕ → List Op → (ℕ → Option ℕ) → State numbers → ChannelState (Msg numbers) → Found
  seen n ops chosen up w = record {
    requests = n;
    status = λ c. show_status ops (up.status c);
    table = up.val;
    out = λ i. map (show_msg ops chosen) (up.out i);
    channel = channel_map (show_msg ops chosen) w;
  }

  abbrev pub shown : List (Action numbers) → Found
  shown ds = let b = ledger P ds in seen (length b.ops) b.ops b.chosen b.layer b.channel

  -- ---- the values found forgotten

  forget_status_lem : (ops : List Op) (s : Status numbers) → forget_doing (show_status ops s) ≡ S.show_status ops s
  forget_status_lem ops R.quiet = refl
  forget_status_lem ops (R.asking k) = go (op_at ops k) (op_at ops k).upd
    where
      go : (o : Op) (t : Bool) → forget_doing (cond t (asking_update o.reg o.fn o.arg) (asking_read o.reg)) ≡ cond t (Pub.asking_update o.reg o.fn o.arg) (Pub.asking_read o.reg)
      go o true = refl
      go o false = refl
  forget_status_lem ops (R.waiting k) = refl
  forget_status_lem ops (R.done k v) = go (op_at ops k).upd
    where
      go : (t : Bool) → forget_doing (cond t (done_update v) (done_read v)) ≡ cond t Pub.done_update (Pub.done_read v)
      go true = refl
      go false = refl

  module _ (ops : List Op) (chosen : ℕ → Option ℕ) where
    pub forget_msg : (m : Msg numbers) → forget_letter (show_msg ops chosen m) ≡ S.show_msg P ops chosen m
    forget_msg (ask k) = go (op_at ops k) (op_at ops k).upd refl
      where
        go : (o : Op) (t : Bool) → o.upd ≡ t → forget_letter (ask_letter o (chosen k)) ≡ S.ask_letter P o (chosen k)
        go o true e = rw e
        go o false e = rw e
    forget_msg (reply k v) = go (op_at ops k) (op_at ops k).upd refl
      where
        go : (o : Op) (t : Bool) → o.upd ≡ t → forget_letter (reply_letter o v) ≡ S.reply_letter P o v
        go o true e = rw e
        go o false e = rw e

    forget_all : (λ m. forget_letter (show_msg ops chosen m)) ≡ S.show_msg P ops chosen
    forget_all = fun_ext forget_msg

    forget_list : (l : List (Msg numbers)) → map forget_letter (map (show_msg ops chosen) l) ≡ map (S.show_msg P ops chosen) l
    forget_list l = map_map forget_letter (show_msg ops chosen) l ∙ ap (λ h. map h l) forget_all

    forget_channel : (w : ChannelState (Msg numbers)) → channel_map forget_letter (channel_map (show_msg ops chosen) w) ≡ channel_map (S.show_msg P ops chosen) w
    forget_channel w = λ j. record {
      sent = forget_list w.sent j;
      taken = w.taken;
      flight = λ c. (option_map_map (tag_map forget_letter) (tag_map (show_msg ops chosen)) (w.flight c) ∙ ap (λ h. Option.map (tag_map h) (w.flight c)) forget_all) j;
      held = λ i. (map_map (tag_map forget_letter) (tag_map (show_msg ops chosen)) (w.held i) ∙ ap (λ h. map (tag_map h) (w.held i)) forget_all) j;
      inbox = λ i. forget_list (w.inbox i) j;
    }

  pub forget_shown : (ds : List (Action numbers)) → forget (shown ds) ≡ S.shown P ds
  forget_shown ds = λ j. record {
    requests = length b.ops;
    status = λ c. forget_status_lem b.ops (b.layer.status c) j;
    table = b.layer.val;
    out = λ i. forget_list b.ops b.chosen (b.layer.out i) j;
    channel = forget_channel b.ops b.chosen b.channel j;
  }
    where
      b : Ledger numbers
      b = ledger P ds

module _ (P : Placement) (ok : placement_refusal P ≡ 0) (ds : List (Action numbers)) (f : Execution P ds) where
  abbrev b : Ledger numbers
  b = ledger P ds

  abbrev h : Msg numbers → Letter
  h = show_msg P b.ops b.chosen

  -- the channel reads the same off a message with its operation's number and off the letter
  pub alike : Alike h (ledger_mail P b) mail
  alike = record {
    task= = λ m. ap (λ l. (Pub.mail).task l) (forget_msg P b.ops b.chosen m) ∙ (S.alike P ok ds f).task= m;
    multi= = λ m. ap (λ l. (Pub.mail).multi l) (forget_msg P b.ops b.chosen m) ∙ (S.alike P ok ds f).multi= m;
    dest= = λ m. ap (λ l. (Pub.mail).dest l) (forget_msg P b.ops b.chosen m) ∙ (S.alike P ok ds f).dest= m;
  }

  pub sent_alike : SentAlike h (ledger_mail P b) mail b.channel
  sent_alike n m e i = ap (λ l. (Pub.mail).to l i) (forget_msg P b.ops b.chosen m) ∙ S.sent_alike P ok ds f n m e i

  -- both refuse a step with the same number
  pub same_refusal : (c : Command) → command_refusal P (shown P ds) c ≡ ledger_refusal P b c
  same_refusal c = sym (refusal_forgets P (shown P ds) c) ∙ ap (λ s. Pub.command_refusal P s c) (forget_shown P ds) ∙ S.same_refusal P ok ds f c

  -- and answer it with the same result
  pub same_result : (c : Command) → command_result P (shown P ds) c ≡ decoded_number P b (good c)
  same_result c = sym (result_forgets P (shown P ds) c) ∙ ap (λ s. PubRun.command_result P s c) (forget_shown P ds) ∙ S.same_result P ok ds f c
