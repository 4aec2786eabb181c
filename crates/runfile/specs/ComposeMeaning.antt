-- What writing a run file means (RULES 15), stated apart from the definitions in specs/Compose: when tables are refused, in plain terms; that
-- writer and reader undo each other; and which bytes of the output are touched.
use Rattle.std.specs.Prelude.{ℕ, ◌*◌, ◌≤◌, ◌<◌, ◌≡◌, ◌↔◌, ◌⊎◌, ◌≢◌, true, List, [], ◌∷◌, length, get_or}
use Rattle.names.specs.CardSet.{member_of}
use Rattle.names.specs.Placement.{tasks, registers, home, holders, primary}
use Rattle.runfile.specs.RunFile.{run_file_in, file_refusal}
use Rattle.runfile.specs.Compose.{Tables, tables, tables_in, run_file_of, composed, composed_length, compose_refusal, compose_output, composed_of}

-- a file is a list of bytes
abbrev pub Bytes : List ℕ → Type 0
Bytes s = (i : ℕ) → get_or s i 0 < 256

module _ (t : Tables) where
  -- every size is in its range, and parallel tables have one length
  abbrev pub SizedTables : Type 0
  SizedTables =
      ((1 ≤ t.placement.cards) × (t.placement.cards ≤ 8))
      × ((1 ≤ registers t.placement) × (registers t.placement ≤ 32))
      × ((1 ≤ tasks t.placement) × (tasks t.placement ≤ 16))
      × (length t.codes ≤ 4096)
      × (length t.placement.primaries ≡ registers t.placement)
      × (length t.arguments ≡ 8 * length t.codes)

  -- every home is present; every register's copies lie on present cards, one of them on its primary
  abbrev pub PlacedTables : Type 0
  PlacedTables =
      ((c : ℕ) → c < tasks t.placement → home t.placement c < t.placement.cards)
      × ((x : ℕ) → x < registers t.placement → ((i : ℕ) → member_of (holders t.placement x) i ≡ true → i < t.placement.cards) × (member_of (holders t.placement x) (primary t.placement x) ≡ true))

  -- which tables and output meet which refusal: all sizes are judged first, the output last
  pub record ComposeNumbers (out : List ℕ) : Type 0 where
    pub written_if : (compose_refusal t out ≡ 0) ↔ (SizedTables × PlacedTables × (length (composed t) ≤ length out))
    pub unsized_if : (compose_refusal t out ≡ 3) ↔ (¬ SizedTables)
    pub misplaced_if : (compose_refusal t out ≡ 4) ↔ (SizedTables × (¬ PlacedTables))
    pub short_if : (compose_refusal t out ≡ 5) ↔ (SizedTables × PlacedTables × (length out < length (composed t)))

  -- what a call leaves and says
  pub record ComposeTouches (out : List ℕ) : Type 0 where
    pub file_written : compose_refusal t out ≡ 0 → (i : ℕ) → i < length (composed t) → get_or (compose_output t out) i 0 ≡ get_or (composed t) i 0
    pub past_untouched : (i : ℕ) → length (composed t) ≤ i → get_or (compose_output t out) i 0 ≡ get_or out i 0
    pub same_length : length (compose_output t out) ≡ length out
    pub length_told : compose_refusal t out ≡ 0 → (composed_of t out).length ≡ length (composed t)
    pub refused_untouched : compose_refusal t out ≢ 0 → (compose_output t out ≡ out) × ((composed_of t out).length ≡ 0)

  -- the reader accepts what is written of sized and placed tables, and gets the same tables and so the same run back; no other file has them
  pub record ReadBack : Type 0 where
    pub accepted : file_refusal (composed t) ≡ 0
    pub same_tables : tables_in (composed t) ≡ t
    pub same_run : run_file_in (composed t) ≡ run_file_of t
    pub the_one_file : (s : List ℕ) → Bytes s → file_refusal s ≡ 0 → tables_in s ≡ t → s ≡ composed t

-- an accepted file is written again byte for byte, from tables that no writer refuses with 3 or 4
pub record WrittenAgain (s : List ℕ) : Type 0 where
  pub sized_tables : SizedTables (tables_in s)
  pub placed_tables : PlacedTables (tables_in s)
  pub same_file : Bytes s → composed (tables_in s) ≡ s

pub record ComposeMeaning : Type 0 where
  pub numbers : (t : Tables) (out : List ℕ) → ComposeNumbers t out
  pub touches : (t : Tables) (out : List ℕ) → ComposeTouches t out
  pub read_back : (t : Tables) → SizedTables t → PlacedTables t → ReadBack t
  pub written_again : (s : List ℕ) → file_refusal s ≡ 0 → WrittenAgain s
  -- tables that the writer refuses with 3 or 4 are those of no accepted file
  pub no_such_file : (t : Tables) (out : List ℕ) → (compose_refusal t out ≡ 3) ⊎ (compose_refusal t out ≡ 4) → (s : List ℕ) → file_refusal s ≡ 0 → tables_in s ≢ t

-- two cards, two tasks, two registers, two steps: a request to read, and a code that no step has
pub record ComposeComputed : Type 0 where
  pub two_steps :
      composed (tables 2 (0 ∷ 1 ∷ []) (3 ∷ 2 ∷ []) (0 ∷ 1 ∷ []) (1 ∷ 200 ∷ []) (1 ∷ 0 ∷ 0 ∷ 0 ∷ 0 ∷ 0 ∷ 0 ∷ 0 ∷ 9 ∷ 8 ∷ 7 ∷ 6 ∷ 5 ∷ 4 ∷ 3 ∷ 255 ∷ []))
      ≡ 2 ∷ 2 ∷ 2 ∷ 2 ∷ 0 ∷ 0 ∷ 1 ∷ 3 ∷ 2 ∷ 0 ∷ 1 ∷ 1 ∷ 200 ∷ 1 ∷ 0 ∷ 0 ∷ 0 ∷ 0 ∷ 0 ∷ 0 ∷ 0 ∷ 9 ∷ 8 ∷ 7 ∷ 6 ∷ 5 ∷ 4 ∷ 3 ∷ 255 ∷ []
  pub its_length : composed_length (tables 2 (0 ∷ 1 ∷ []) (3 ∷ 2 ∷ []) (0 ∷ 1 ∷ []) (1 ∷ 200 ∷ []) []) ≡ 29
