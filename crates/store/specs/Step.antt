-- A step on the two memories, whatever they are: its answer, and both memories after it (RULES 5.1 to 5.10, 8.5).
use Rattle.std.specs.Prelude.{ℕ, cond, List, Result, Ok, Err}
use Rattle.names.specs.declared.Answer.{Answer}
use Rattle.channel.specs.Layout.{cards_of, tasks_of, registers_of}
use Rattle.names.specs.declared.refusals.Refusal.{Refusal}
use Rattle.names.specs.Refusals.{refusal_number, result_number}
use Rattle.channel.specs.TakeBroadcast.{take_answer, take_memory}
use Rattle.channel.specs.TakeSingle.{single_answer, single_memory}
use Rattle.tables.specs.declared.Doing.TheVariants.{AskingRead, AskingUpdate}
use Rattle.commands.specs.declared.Command.{Command}
use Rattle.commands.specs.declared.Command.TheVariants.{RequestRead, RequestUpdate, Perform, SendRead, SendUpdate, Dispatch, TakeBroadcast, TakeSingle, Deliver, Report}
use Rattle.store.specs.Requests.{bare, request_number, request_words, report_answer, report_words}
use Rattle.store.specs.Perform.{perform_number, perform_words_at}
use Rattle.store.specs.Send.{read_sent_number, read_sent_words, update_sent_number, update_sent_words}
use Rattle.store.specs.Traffic.{dispatch_number, dispatch_registers, dispatch_channel}
use Rattle.store.specs.Deliver.{deliver_number, deliver_registers_at, deliver_channel}
use Rattle.commands.specs.Decode.{decode_of}
use Rattle.tables.specs.Layout.{Place, card_after_card}
use Rattle.tables.specs.Sized.{store_sized}

pub record Outcome : Type 0 where
  pub answer : Answer
  pub registers : List ℕ
  pub channel : List ℕ

abbrev pub outcome : ℕ → List ℕ → List ℕ → Outcome
outcome n rs cs = record { answer = bare n; registers = rs; channel = cs }

-- a decoded step
abbrev pub taken_at : Place → List ℕ → List ℕ → Command → Outcome
taken_at place rs cs (RequestRead t x) = outcome (request_number rs t.0) (request_words rs t.0 (AskingRead x)) cs
taken_at place rs cs (RequestUpdate t x f w) = outcome (request_number rs t.0) (request_words rs t.0 (AskingUpdate x f w)) cs
taken_at place rs cs (Perform t) = outcome (perform_number rs t.0) (perform_words_at place rs t.0) cs
taken_at place rs cs (SendRead t j) = outcome (read_sent_number rs t.0 j.0) (read_sent_words rs t.0 j.0) cs
taken_at place rs cs (SendUpdate t) = outcome (update_sent_number rs t.0) (update_sent_words rs t.0) cs
taken_at place rs cs (Dispatch i) = outcome (dispatch_number rs cs i) (dispatch_registers rs cs i) (dispatch_channel rs cs i)
taken_at place rs cs (TakeBroadcast i) = outcome (result_number (take_answer cs i)) rs (take_memory cs i)
taken_at place rs cs (TakeSingle t) = outcome (result_number (single_answer cs t)) rs (single_memory cs t)
taken_at place rs cs (Deliver i) = outcome (deliver_number rs cs i) (deliver_registers_at place rs cs i) (deliver_channel rs cs i)
taken_at place rs cs (Report t) = record { answer = report_answer rs t.0; registers = report_words rs t.0; channel = cs }

-- or refused as it was decoded, with 10 to 15
abbrev pub decoded_at : Place → List ℕ → List ℕ → Result Command Refusal → Outcome
decoded_at place rs cs (Ok c) = taken_at place rs cs c
decoded_at place rs cs (Err r) = outcome (refusal_number r) rs cs

-- a step as it is given
abbrev pub advanced_at : Place → List ℕ → List ℕ → ℕ → List ℕ → Outcome
advanced_at place rs cs code argument = decoded_at place rs cs (decode_of code argument (cards_of cs) (registers_of cs) (tasks_of cs))

-- 6 for the state, then rising number, then 6 for the outcome (RULES 8.5)
abbrev pub stepped_at : Place → List ℕ → List ℕ → ℕ → List ℕ → Outcome
stepped_at place rs cs code argument = cond (store_sized rs cs) (advanced_at place rs cs code argument) (outcome 6 rs cs)

-- ---- card after card, on paper; SideBySide has the case of the memory

abbrev pub taken : List ℕ → List ℕ → Command → Outcome
taken rs cs c = taken_at card_after_card rs cs c

abbrev pub decoded : List ℕ → List ℕ → Result Command Refusal → Outcome
decoded rs cs d = decoded_at card_after_card rs cs d

abbrev pub advanced : List ℕ → List ℕ → ℕ → List ℕ → Outcome
advanced rs cs code argument = advanced_at card_after_card rs cs code argument

abbrev pub stepped : List ℕ → List ℕ → ℕ → List ℕ → Outcome
stepped rs cs code argument = stepped_at card_after_card rs cs code argument
