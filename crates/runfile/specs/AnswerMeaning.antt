-- What the answer file's definitions mean (RULES 4.1, 4.9), stated apart from them: a definition that were wrong in code and claim alike would
-- fail here.
use Rattle.std.specs.Prelude.{ℕ, ◌+◌, ◌*◌, ◌≤◌, ◌<◌, ◌≡◌, ◌↔◌, ◌⊎◌, ◌≢◌, List, [], ◌∷◌, length, get_or}
use Rattle.runfile.specs.RunFile.{two_bytes}
use Rattle.runfile.specs.AnswerFile.{four_bytes, answer_bytes, write_refusal}

pub record WriteMeaning (results values out : List ℕ) : Type 0 where
  -- 0 exactly if the tables have one length, at most 4,096, and the output has at least 2 + 5N bytes
  pub written_if :
      (write_refusal results values out ≡ 0) ↔ ((length values ≡ length results) × (length results ≤ 4096) × (2 + 5 * length results ≤ length out))
  -- 3 exactly if the lengths differ or there are more than 4,096 results, whatever the output is
  pub unsized_if : (write_refusal results values out ≡ 3) ↔ ((length values ≢ length results) ⊎ (4096 < length results))
  -- 5 exactly if the tables are good and the output is shorter
  pub short_if :
      (write_refusal results values out ≡ 5) ↔ ((length values ≡ length results) × (length results ≤ 4096) × (length out < 2 + 5 * length results))

pub record BytesMeaning : Type 0 where
  -- four bytes, each below 256, low byte first, are the value
  pub four_are_four : (v : ℕ) → length (four_bytes v) ≡ 4
  pub four_are_bytes : (v i : ℕ) → i < 4 → get_or (four_bytes v) i 0 < 256
  pub four_read_back : (v : ℕ) → v < 4294967296 → get_or (four_bytes v) 0 0 + 256 * get_or (four_bytes v) 1 0 + 65536 * get_or (four_bytes v) 2 0 + 16777216 * get_or (four_bytes v) 3 0 ≡ v
  -- and two bytes the number of steps
  pub two_are_two : (n : ℕ) → length (two_bytes n) ≡ 2
  pub two_are_bytes : (n i : ℕ) → i < 2 → get_or (two_bytes n) i 0 < 256
  pub two_read_back : (n : ℕ) → n < 65536 → get_or (two_bytes n) 0 0 + 256 * get_or (two_bytes n) 1 0 ≡ n

-- some numbers and their bytes: 0x04030201, 512 and 4,096
pub record BytesComputed : Type 0 where
  pub four : four_bytes 67305985 ≡ 1 ∷ 2 ∷ 3 ∷ 4 ∷ []
  pub few : two_bytes 512 ≡ 0 ∷ 2 ∷ []
  pub most : two_bytes 4096 ≡ 0 ∷ 16 ∷ []
  -- a whole answer file of two answers, the second value 0xCAFEBABE: N, the two results, the two values
  pub whole :
      answer_bytes (record { result = 0; value = 67305985 } ∷ record { result = 12; value = 3405691582 } ∷ [])
      ≡ 2 ∷ 0 ∷ 0 ∷ 12 ∷ 1 ∷ 2 ∷ 3 ∷ 4 ∷ 190 ∷ 186 ∷ 254 ∷ 202 ∷ []
