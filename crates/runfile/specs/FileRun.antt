-- What is claimed of whole runs, for every file (RULES 4.1 to 4.6, 9.3, 10.4, 12.2, 12.8, 12.10).
use Rattle.std.specs.Prelude.{ℕ, ◌+◌, ◌*◌, ◌<◌, ◌≡◌, ◌≢◌, List, ◌++◌, length, drop}
use Rattle.lists.specs.Histories.{In}
use Rattle.names.specs.declared.Answer.{Answer}
use Rattle.claims.specs.Found.{begin}
use Rattle.claims.specs.SerialOrder.{SerialOrder}
use Rattle.store.specs.SideBySide.{Stands, store_after, answers_of, table_of}
use Rattle.store.specs.Run.{Store, started}
use Rattle.runfile.specs.RunFile.{steps_in, placement_in, run_file_in, file_refusal}
use Rattle.runfile.specs.Run.{file_registers, file_channel, answers_in, answer_of, answer_refusal, answer_output, taken_of, refused_of}

pub record FileRun : Type 0 where
  -- a store begun from an accepted file stands at the beginning of its placement; a refused file leaves both memories as they were (10.4, 8.1)
  pub begun : (file : List ℕ) → file_refusal file ≡ 0 → (rs cs : List ℕ) → Stands (file_registers file rs) (file_channel file cs) (placement_in file) begin
  pub not_begun : (file : List ℕ) → file_refusal file ≢ 0 → (rs cs : List ℕ) → (file_registers file rs ≡ rs) × (file_channel file cs ≡ cs)
  -- an answer for each step (4.1)
  pub answer_length : (file : List ℕ) → file_refusal file ≡ 0 → length (answer_of file) ≡ 2 + 5 * steps_in file
  -- the output begins with the answer file, and bytes from 2 + 5N on stay as they were (4.4); all of it, if file or output is refused (4.5)
  pub answer_written : (file out : List ℕ) → answer_refusal file out ≡ 0 → answer_output file out ≡ answer_of file ++ drop (2 + 5 * steps_in file) out
  pub output_untouched : (file out : List ℕ) → answer_refusal file out ≢ 0 → answer_output file out ≡ out
  -- each step is counted, as taken or as refused (9.3)
  pub all_counted : (file : List ℕ) → file_refusal file ≡ 0 → taken_of (answers_in file) + refused_of (answers_in file) ≡ steps_in file
  -- the answers are those of the store's steps, which check the state each time, in memories of any content
  pub store_answers : (file : List ℕ) → file_refusal file ≡ 0 → (m : Store) → answers_in file ≡ answers_of (started (placement_in file) m) (run_file_in file).steps
  -- no step gives 6 (12.10)
  pub never_six : (file : List ℕ) → file_refusal file ≡ 0 → (a : Answer) → In a (answers_in file) → a.result ≢ 6
  -- nor 23 (12.10)
  pub never_twenty_three : (file : List ℕ) → file_refusal file ≡ 0 → (a : Answer) → In a (answers_in file) → a.result ≢ 23
  -- the steps of an accepted file are such a list (12.2): one serial order explains the answers and the store's table of copies (12.8)
  pub explained : (file : List ℕ) → file_refusal file ≡ 0 → (m : Store)
      → (order : List ℕ) × SerialOrder (placement_in file) (run_file_in file).steps (answers_in file) (table_of (store_after (started (placement_in file) m) (run_file_in file).steps)) order
  -- the longest accepted file has 36,949 bytes (3.2): past that more bytes change no refusal, and none is accepted, so a reader may stop there
  -- (4.6)
  pub long_file : (file more : List ℕ) → 36949 < length file → (file_refusal (file ++ more) ≡ file_refusal file) × (file_refusal file ≢ 0)
