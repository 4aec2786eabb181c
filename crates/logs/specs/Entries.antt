-- What a step adds to the log of a register, read off the two memories before it: nothing, or the home card and the operand of the update by
-- function 5 that it applies on the register's primary.
use Rattle.std.specs.Prelude.{ℕ, zero, suc, ◌%◌, cond, ◌&&◌, Option, Some, None, Result, Ok, Err, List, [], ◌∷◌, ◌++◌, map, eqb}
use Rattle.std.proofs.lemmas.List.Edits.{sets}
use Rattle.names.specs.declared.Body.{Body}
use Rattle.names.specs.declared.Body.TheVariants.{ReadDo, ReadReply, UpdateDo, UpdateReply}
use Rattle.names.specs.Placement.{Placement, home, primary}
use Rattle.names.specs.Results.{is_taken}
use Rattle.names.specs.Step.{RawStep}
use Rattle.channel.specs.Inbox.{receive_answer}
use Rattle.channel.specs.Layout.{cards_of, tasks_of, registers_of}
use Rattle.names.specs.declared.Message.{Message}
use Rattle.names.specs.declared.refusals.Refusal.{Refusal}
use Rattle.commands.specs.Decode.{decode_of}
use Rattle.commands.specs.declared.Command.{Command}
use Rattle.commands.specs.declared.Command.TheVariants.{RequestRead, RequestUpdate, Perform, SendRead, SendUpdate, Dispatch, TakeBroadcast, TakeSingle, Deliver, Report}
use Rattle.tables.specs.Doings.{doing_at}
use Rattle.tables.specs.declared.Doing.{Doing}
use Rattle.tables.specs.declared.Doing.TheVariants.{Quiet, AskingRead, AskingUpdate, Waiting, DoneRead, DoneUpdate}
use Rattle.store.specs.Run.{Store}
use Rattle.store.specs.SideBySide.{advanced}
use Rattle.runfile.specs.Stepwise.{store_at}
use Rattle.logs.specs.Log.{is_sum}
use Rattle.logs.specs.declared.Entry.{Entry}

-- an update of a task at home on card c, with operand w
abbrev pub added : ℕ → ℕ → Option Entry
added c w = Some (record { card = record { 0 = c }; operand = w })

module _ (P : Placement) (x : ℕ) where
  -- card i applies an update of task t on register y, by function f with operand w
  unfoldable pub update_entry : ℕ → ℕ → ℕ → ℕ → ℕ → Option Entry
  update_entry i t y f w = cond (eqb y x && is_sum f && eqb i (primary P x)) (added (home P t) w) None

  -- step 3: task t performs what it asks for, on its home
  unfoldable pub doing_entry : ℕ → Doing → Option Entry
  doing_entry t Quiet = None
  doing_entry t (AskingRead y) = None
  doing_entry t (AskingUpdate y f w) = update_entry (home P t) t y.0 f w
  doing_entry t Waiting = None
  doing_entry t (DoneRead v) = None
  doing_entry t (DoneUpdate v) = None

  -- step 9: card i delivers the head of its inbox
  unfoldable pub body_entry : ℕ → ℕ → ℕ → Body → Option Entry
  body_entry i t y ReadDo = None
  body_entry i t y (ReadReply v) = None
  body_entry i t y (UpdateDo f w) = update_entry i t y f w
  body_entry i t y (UpdateReply v) = None

  unfoldable pub received_entry : ℕ → Result Message Refusal → Option Entry
  received_entry i (Ok m) = body_entry i m.task.0 m.register.0 m.body
  received_entry i (Err r) = None

  -- a decoded step, where it is taken
  unfoldable pub command_entry : List ℕ → List ℕ → Command → Option Entry
  command_entry rs cs (RequestRead t y) = None
  command_entry rs cs (RequestUpdate t y f w) = None
  command_entry rs cs (Perform t) = doing_entry t.0 (doing_at rs t.0)
  command_entry rs cs (SendRead t j) = None
  command_entry rs cs (SendUpdate t) = None
  command_entry rs cs (Dispatch i) = None
  command_entry rs cs (TakeBroadcast i) = None
  command_entry rs cs (TakeSingle t) = None
  command_entry rs cs (Deliver i) = received_entry i.0 (receive_answer cs i)
  command_entry rs cs (Report t) = None

  -- decoded, or refused
  abbrev pub decoded_entry : List ℕ → List ℕ → Result Command Refusal → Option Entry
  decoded_entry rs cs (Ok c) = command_entry rs cs c
  decoded_entry rs cs (Err r) = None

  -- a step as it is given; a refused one adds nothing
  unfoldable pub step_entry : List ℕ → List ℕ → ℕ → List ℕ → Option Entry
  step_entry rs cs code argument =
      cond (is_taken (advanced rs cs code argument).answer.result)
      (decoded_entry rs cs (decode_of code argument (cards_of cs) (registers_of cs) (tasks_of cs)))
      None

-- an entry as a list: none, or one pair
unfoldable pub entries : Option Entry → List (ℕ × ℕ)
entries None = []
entries (Some e) = (e.card.0, e.operand) ∷ []

-- the log of the first k steps
module _ (P : Placement) (x : ℕ) (step : ℕ → RawStep) (m : Store) where
  abbrev pub entry_at : ℕ → Option Entry
  entry_at k = step_entry P x (store_at step m k).registers (store_at step m k).channel (step k).code (step k).argument

  unfoldable pub log_at : ℕ → List (ℕ × ℕ)
  log_at zero = []
  log_at (suc k) = log_at k ++ entries (entry_at k)

-- the two tables that the caller lends, with entries stored from place n on; a card is a byte
unfoldable pub cards_put : List ℕ → ℕ → List (ℕ × ℕ) → List ℕ
cards_put cards n l = sets cards n (map (λ e. e.0 % 256) l)

unfoldable pub operands_put : List ℕ → ℕ → List (ℕ × ℕ) → List ℕ
operands_put operands n l = sets operands n (map (λ e. e.1) l)
