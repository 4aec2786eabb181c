-- Step 6 (RULES 5.6): the head of a card's outbox is dispatched; the channel's part is the channel's own. Steps 7 and 8 are the channel's alone.
use Rattle.std.specs.Prelude.{ℕ, cond, List, eqb, Result}
use Rattle.names.specs.declared.Card.{Card}
use Rattle.names.specs.declared.Letter.{Letter}
use Rattle.names.specs.Results.{is_taken}
use Rattle.names.specs.declared.refusals.Refusal.{Refusal}
use Rattle.names.specs.declared.refusals.Taken.{Taken}
use Rattle.names.specs.Refusals.{result_number}
use Rattle.channel.specs.Dispatch.{dispatch_answer, dispatch_memory}
use Rattle.tables.specs.Outbox.{out_count_of, first_out, unposted}

-- a card's letter handed to the channel: its answer, and the memory that it leaves
abbrev pub handed_answer : List ℕ → Card → Letter → Result Taken Refusal
handed_answer cs card l = dispatch_answer cs card l.message l.to

abbrev pub handed_memory : List ℕ → Card → Letter → List ℕ
handed_memory cs card l = dispatch_memory cs card l.message l.to

-- 30: the outbox is empty; then the channel's numbers
unfoldable pub dispatch_number : List ℕ → List ℕ → Card → ℕ
dispatch_number rs cs card = cond (eqb (out_count_of rs card.0) 0) 30 (result_number (handed_answer cs card (first_out rs card.0)))

-- the registers' words, then the channel's
unfoldable pub dispatch_registers : List ℕ → List ℕ → Card → List ℕ
dispatch_registers rs cs card = cond (is_taken (dispatch_number rs cs card)) (unposted rs card.0) rs

unfoldable pub dispatch_channel : List ℕ → List ℕ → Card → List ℕ
dispatch_channel rs cs card = cond (eqb (out_count_of rs card.0) 0) cs (handed_memory cs card (first_out rs card.0))
