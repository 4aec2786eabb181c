-- The published state is that of the two layers with values, operation numbers forgotten: statuses, table of copies, outboxes, channel. The
-- same steps are refused in both, with the same numbers, and hold messages.
use Prim.Native.Nat.{ℕ, ◌<◌}
use borrow.Author.Tests.{eqb-true}
use lib.Dec.{eqb}
use lib.ListN.{length}
use mathlib.Core.Bool.{Bool, cond, false, not, true, ◌&&◌}
use mathlib.Core.List.{List, [], map, ◌∷◌}
use mathlib.Core.Option.{Option, get_or, none-ne-some, some-injective, none, some}
use mathlib.Core.Path.{ap, ap₂, fun_ext, refl, sym, ◌∙◌, ◌≡◌}
use native.Mathlib.Omega.{arith}
use Rattle.automaton.specs.Renaming.{Alike, SentAlike, channel_map}
use Rattle.automaton.specs.State.{ChannelState}
use Rattle.lists.specs.Tests.{eqb_refl}
use Rattle.names.specs.CardSet.{just_of, member_of, several, sole_of}
use Rattle.names.specs.Placement.{Placement, copy, home, placement_refusal, primary}
use Rattle.names.specs.Update.{updated}
use Rattle.registers.specs.Layer.{Values, Msg, State, Status, ask, reply, to}
use Rattle.names.proofs.CardSets.{not_several}
use Rattle.claims.proofs.CardSets.{cards_low, home_low, just_member, just_single, just_sole}
use Rattle.claims.proofs.Current.{Current, delivered_current, holds_now, sets_low}
use Rattle.claims.proofs.Executions.{Execution}
use Rattle.claims.proofs.InSets.{in_set_lem}
use Rattle.claims.proofs.Renaming.{refusal_map, result_map, sight_map}
use Rattle.claims.specs.Command.{Command}
use Rattle.claims.specs.Ledger.{Action, Ledger, Op, answered_of, decoded_number, first, ledger, ledger_mail, ledger_refusal, op_at, sight_of, stage_of, world}
use Rattle.claims.specs.Holders.{in_set}
use Rattle.claims.specs.Messages.{ReadDo, ReadReply, UpdateDo, UpdateReply}
use Rattle.claims.specs.Published.{Doing, Letter, Published, answered, asking_read, asking_update, command_refusal, done_read, done_update, mail, quiet, replies, sight, stage, waiting}
use Rattle.claims.specs.PublishedRun.{command_result}
use Rattle.claims.specs.Refusals.{refusal}
use Rattle.claims.specs.Results.{result}
use Rattle.claims.specs.Steps.{good}
use Rattle.registers.specs.Layer as R
use Rattle.claims.specs.Ledger as L
use Rattle.claims.specs.Refusals as S

-- the values of the published algorithm; every copy starts at 0 (RULES 1.4)
abbrev pub numbers : Values
numbers = record { Val = ℕ; nought = λ x. 0; apply = updated; same = eqb; same_eq = eqb-true; same_refl = eqb_refl }

abbrev pub show_status : List Op → Status numbers → Doing
show_status ops R.quiet = quiet
show_status ops (R.asking k) = let o = op_at ops k in cond o.upd (asking_update o.reg o.fn o.arg) (asking_read o.reg)
show_status ops (R.waiting k) = waiting
show_status ops (R.done k v) = cond (op_at ops k).upd done_update (done_read v)

module _ (P : Placement) where
  -- the do message of an operation whose holder j was chosen, and its reply, which brings v
  abbrev pub ask_letter : Op → Option ℕ → Letter
  ask_letter o j = record { task = o.task; reg = o.reg; body = cond o.upd (UpdateDo o.fn o.arg) ReadDo; to = cond o.upd o.holders (just_of (get_or j 0)) }

  abbrev pub reply_letter : Op → ℕ → Letter
  reply_letter o v = record { task = o.task; reg = o.reg; body = cond o.upd UpdateReply (ReadReply v); to = just_of (home P o.task) }

  abbrev pub show_msg : List Op → (ℕ → Option ℕ) → Msg numbers → Letter
  show_msg ops chosen (ask k) = ask_letter (op_at ops k) (chosen k)
  show_msg ops chosen (reply k v) = reply_letter (op_at ops k) v

  -- the published state under given names
  abbrev pub seen : ℕ → List Op → (ℕ → Option ℕ) → State numbers → ChannelState (Msg numbers) → Published
  seen n ops chosen up w = record {
    requests = n;
    status = λ c. show_status ops (up.status c);
    table = up.val;
    out = λ i. map (show_msg ops chosen) (up.out i);
    channel = channel_map (show_msg ops chosen) w;
  }

  abbrev pub shown : List (Action numbers) → Published
  shown ds = let b = ledger P ds in seen (length b.ops) b.ops b.chosen b.layer b.channel

  -- a chosen card is present
  chosen_low : (ds : List (Action numbers)) → Execution P ds → (k j : ℕ) → (ledger P ds).chosen k ≡ some j → j < P.cards
  chosen_low [] f k j e = absurd (none-ne-some j e)
  chosen_low (L.request o ∷ ds) f k j e = chosen_low ds f.1 k j e
  chosen_low (L.perform c a ∷ ds) f k j e = chosen_low ds f.1 k j e
  chosen_low (L.send c a i ∷ ds) f k j e = go (eqb k a) ((ledger P ds).chosen k) refl e (chosen_low ds f.1 k j)
    where
      go : (t : Bool) (o : Option ℕ) → (ledger P ds).chosen k ≡ o → cond t (first o i) o ≡ some j → ((ledger P ds).chosen k ≡ some j → j < P.cards) → j < P.cards
      go true none p q r = let z = some-injective i j q in let l = f.0.2 in omega arith
      go true (some a) p q r = r (p ∙ q)
      go false o p q r = r (p ∙ q)
  chosen_low (L.dispatch i m ∷ ds) f k j e = chosen_low ds f.1 k j e
  chosen_low (L.take_broadcast i ∷ ds) f k j e = chosen_low ds f.1 k j e
  chosen_low (L.take_single c ∷ ds) f k j e = chosen_low ds f.1 k j e
  chosen_low (L.deliver m i ∷ ds) f k j e = chosen_low ds f.1 k j e
  chosen_low (L.report c a w ∷ ds) f k j e = chosen_low ds f.1 k j e

  same_stage : (ops : List Op) (s : Status numbers) → stage P (show_status ops s) ≡ stage_of ops s
  same_stage ops R.quiet = refl
  same_stage ops (R.asking k) = go (op_at ops k) (op_at ops k).upd
    where
      go : (o : Op) (t : Bool) → stage P (cond t (asking_update o.reg o.fn o.arg) (asking_read o.reg)) ≡ cond t (S.asks_update o.reg) (S.asks_read o.reg)
      go o true = refl
      go o false = refl
  same_stage ops (R.waiting k) = refl
  same_stage ops (R.done k v) = go (op_at ops k).upd
    where
      go : (t : Bool) → stage P (cond t done_update (done_read v)) ≡ S.done
      go true = refl
      go false = refl

module _ (P : Placement) (ok : placement_refusal P ≡ 0) (ds : List (Action numbers)) (f : Execution P ds) where
  abbrev b : Ledger numbers
  b = ledger P ds

  abbrev h : Msg numbers → Letter
  h = show_msg P b.ops b.chosen

  -- the card that a read message goes to
  asked_low : (k : ℕ) → get_or (b.chosen k) 0 < 8
  asked_low k = go (b.chosen k) refl
    where
      go : (o : Option ℕ) → b.chosen k ≡ o → get_or o 0 < 8
      go none e = omega arith
      go (some j) e = let l = chosen_low P ds f k j e in omega (arith, cards_low P ok)

  -- the channel reads the same off a message with its operation's number and off the published letter
  pub alike : Alike h (ledger_mail P b) mail
  alike = record { task= = task=; multi= = multi=; dest= = dest= }
    where
      task= : (m : Msg numbers) → mail.task (h m) ≡ (ledger_mail P b).task m
      task= (ask k) = refl
      task= (reply k w) = refl

      multi= : (m : Msg numbers) → mail.multi (h m) ≡ (ledger_mail P b).multi m
      multi= (ask k) = go (op_at b.ops k) (op_at b.ops k).upd
        where
          go : (o : Op) (t : Bool) → several (cond t o.holders (just_of (get_or (b.chosen k) 0))) ≡ (t && several o.holders)
          go o true = refl
          go o false = not_several _ (just_single (get_or (b.chosen k) 0) (asked_low k))
      multi= (reply k w) = not_several _ (just_single (home P (op_at b.ops k).task) (home_low P ok (op_at b.ops k).task))

      dest= : (m : Msg numbers) → mail.dest (h m) ≡ (ledger_mail P b).dest m
      dest= (ask k) = go (op_at b.ops k) (op_at b.ops k).upd
        where
          go : (o : Op) (t : Bool) → sole_of (cond t o.holders (just_of (get_or (b.chosen k) 0))) ≡ cond t (sole_of o.holders) (get_or (b.chosen k) 0)
          go o true = refl
          go o false = just_sole (get_or (b.chosen k) 0) (asked_low k)
      dest= (reply k w) = just_sole (home P (op_at b.ops k).task) (home_low P ok (op_at b.ops k).task)

  to_alike : (m : Msg numbers) (i : ℕ) → mail.to (h m) i ≡ (ledger_mail P b).to m i
  to_alike (ask k) i = go (op_at b.ops k).upd
    where
      S : ℕ
      S = (op_at b.ops k).holders

      go : (t : Bool) → member_of (cond t S (just_of (get_or (b.chosen k) 0))) i ≡ cond t (in_set S i) (eqb i (get_or (b.chosen k) 0))
      go true = sym (in_set_lem S i (sets_low P ok ds f k))
      go false = just_member (get_or (b.chosen k) 0) (asked_low k) i
  to_alike (reply k w) i = just_member (home P (op_at b.ops k).task) (home_low P ok (op_at b.ops k).task) i

  pub sent_alike : SentAlike h (ledger_mail P b) mail b.channel
  sent_alike n m e i = to_alike m i

  -- whether a message that is next to be delivered is answered
  pub answered_alike : (i : ℕ) (m : Msg numbers) (r : List (Msg numbers)) → b.channel.inbox i ≡ m ∷ r → answered P (h m) i ≡ answered_of (world P b) m i
  answered_alike i (ask k) r e = go (op_at b.ops k).upd (ask_letter P o (b.chosen k)) refl refl
    where
      o : Op
      o = op_at b.ops k

      now : Current P ok ds f k
      now = delivered_current P ok ds f k i (r, e)

      go : (t : Bool) (m : Letter) → m.reg ≡ o.reg → m.task ≡ o.task
          → replies P m i (cond t (UpdateDo o.fn o.arg) ReadDo) ≡ cond t (eqb i o.primary && not (in_set o.holders (home P o.task))) true
      go true m x y =
          ap₂ (λ r c. eqb i (primary P r) && not (copy P r (home P c))) x y
          ∙ ap₂ (λ p t. eqb i p && not t) (sym now.primary=) (sym (holds_now P ok ds f k (home P o.task) now))
      go false m x y = refl
  answered_alike i (reply k w) r e = go (reply_letter P (op_at b.ops k) w) (op_at b.ops k).upd
    where
      go : (m : Letter) (t : Bool) → replies P m i (cond t UpdateReply (ReadReply w)) ≡ false
      go m true = refl
      go m false = refl

  same_sight : sight P (shown P ds) ≡ sight_map h (sight_of P b)
  same_sight =
      ap (λ g. record { requests = length b.ops; stage = g; out = λ i. map h (b.layer.out i); channel = channel_map h b.channel })
      (fun_ext (λ t. same_stage P b.ops (b.layer.status t)))

  -- both refuse a step with the same number
  pub same_refusal : (c : Command) → command_refusal P (shown P ds) c ≡ ledger_refusal P b c
  same_refusal c =
      ap (λ s. refusal P mail (answered P) s c) same_sight
      ∙ refusal_map P h (ledger_mail P b) mail alike (answered_of (world P b)) (answered P) (sight_of P b) sent_alike answered_alike c

  -- and answer it with the same result
  pub same_result : (c : Command) → command_result P (shown P ds) c ≡ decoded_number P b (good c)
  same_result c =
      ap (λ s. result P mail (answered P) s c) same_sight
      ∙ result_map P h (ledger_mail P b) mail alike (answered_of (world P b)) (answered P) (sight_of P b) sent_alike answered_alike c
