-- What stretches of bytes write to a page, of which the first comes first.
use Rattle.std.specs.Prelude.{◌≡◌, ℕ, ◌+◌, ◌/◌, ◌%◌, ◌≤◌, List, [], ◌∷◌, ◌++◌, All, take, drop}
use Rattle.vm_patches.specs.declared.patch.ByteWrite.{ByteWrite}
use Rattle.vm_patches.specs.declared.log.Run.{Run}
use Rattle.vm_patches.specs.Patches.{writes_of}

-- where in its page a stretch begins, and how many bytes it has
abbrev pub offset_of : Run → ℕ
offset_of run = run.word % 4096

abbrev pub length_of : Run → ℕ
length_of run = run.word / 4096 + 1

abbrev pub IsWithinPage : Run → Type 0
IsWithinPage run = offset_of run + length_of run ≤ 4096

-- how many bytes stretches have altogether
abbrev pub total : List Run → ℕ
total [] = 0
total (run ∷ runs) = length_of run + total runs

-- the writes of stretches, whose bytes stand one after the other
abbrev pub writes_in : List Run → List ℕ → List ByteWrite
writes_in [] bytes = []
writes_in (run ∷ runs) bytes = writes_of (offset_of run) (take (length_of run) bytes) ++ writes_in runs (drop (length_of run) bytes)

-- so many stretches are within the page, and so many bytes are theirs
pub record IsLog (count used : ℕ) (runs : List Run) : Type 0 where
  pub few : count ≤ 20
  pub short : used ≤ 76
  pub within : All IsWithinPage (take count runs)
  pub counted : total (take count runs) ≡ used
