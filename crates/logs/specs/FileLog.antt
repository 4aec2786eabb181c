-- The log of a register in the run of a file, at the start of two tables that the caller lends (RULES 16.6).
use Rattle.std.specs.Prelude.{ℕ, cond, List, eqb, length}
use Rattle.std.proofs.lemmas.List.Edits.{sets}
use Rattle.runfile.specs.RunFile.{file_refusal, placement_in, run_file_in}
use Rattle.logs.specs.Logged.{Logged}
use Rattle.logs.specs.Log.{log_cards, log_operands}

unfoldable pub file_cards : List ℕ → ℕ → List ℕ
file_cards file x = log_cards (placement_in file) (run_file_in file).steps x

unfoldable pub file_operands : List ℕ → ℕ → List ℕ
file_operands file x = log_operands (placement_in file) (run_file_in file).steps x

-- 0 and how many updates the log has, or the file's refusal and none
unfoldable pub logged_of : List ℕ → ℕ → Logged
logged_of file x = cond (eqb (file_refusal file) 0) (record { refusal = 0; length = length (file_cards file x) }) (record { refusal = file_refusal file; length = 0 })

-- the tables: what is past the log stays as it was, and all of them where the file is refused
unfoldable pub cards_logged : List ℕ → ℕ → List ℕ → List ℕ
cards_logged file x cards = cond (eqb (file_refusal file) 0) (sets cards 0 (file_cards file x)) cards

unfoldable pub operands_logged : List ℕ → ℕ → List ℕ → List ℕ
operands_logged file x operands = cond (eqb (file_refusal file) 0) (sets operands 0 (file_operands file x)) operands
