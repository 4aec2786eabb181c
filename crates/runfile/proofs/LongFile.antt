-- A file that is longer than any accepted one: its first bytes alone decide its refusal.
use Prim.Native.Nat.{ℕ, ◌<◌}
use mathlib.Core.Path.{◌≡◌, refl, sym, ap, ◌∙◌}
use mathlib.Core.Logic.{◌≢◌}
use mathlib.Core.Bool.{Bool, true, false, cond}
use mathlib.Core.List.{List, ◌++◌}
use native.Mathlib.Omega.{arith}
use lib.ListN.{length, get_or, length-append, get_or-append}
use Rattle.lists.specs.Tests.{clash}
use Rattle.runfile.specs.RunFile.{steps_in, file_length, sizes_sound, file_refusal}
use Rattle.runfile.proofs.RunFileLaws.{sizes_are, file_verdict}
use Rattle.runfile.proofs.RunFileLaws.FileVerdict.{too_long, size_out_of_range}

-- too long, or a size out of range
long : (s : List ℕ) → 36949 < length s → file_refusal s ≡ cond (sizes_sound s) 2 3
unfolding file_length
long s h = go (sizes_sound s) refl
  where
    go : (t : Bool) → sizes_sound s ≡ t → file_refusal s ≡ cond t 2 3
    go true e = let k = (sizes_are s).0 e in (file_verdict s 2).1 (too_long k (omega (arith, k.0, k.1)))
    go false e = (file_verdict s 3).1 (size_out_of_range (omega arith) (λ k. clash ((sizes_are s).1 k) e))

two_or_three : (t : Bool) → ◌≢◌ {A = ℕ} (cond t 2 3) 0
two_or_three true = λ e. omega arith
two_or_three false = λ e. omega arith

sound_same : (s t : List ℕ) → ((i : ℕ) → i < 5 → get_or s i 0 ≡ get_or t i 0) → sizes_sound s ≡ sizes_sound t
unfolding sizes_sound steps_in
sound_same s t e = rw (e 0 (omega arith), e 1 (omega arith), e 2 (omega arith), e 3 (omega arith), e 4 (omega arith))

pub long_file : (file more : List ℕ) → 36949 < length file → (file_refusal (file ++ more) ≡ file_refusal file) × (file_refusal file ≢ 0)
long_file file more h =
    let same = sound_same (file ++ more) file (λ i g. get_or-append file more 0 i (omega arith)) in
    (long (file ++ more) (omega (arith, length-append file more)) ∙ ap (λ t. cond t 2 3) same ∙ sym (long file h), λ e. two_or_three (sizes_sound file) (sym (long file h) ∙ e))
