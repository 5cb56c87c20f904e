-- The bytes that were taken from a source and wait to be used.
use Rattle.std.specs.Prelude.{ℕ, ◌+◌, ◌<◌, ◌≤◌, ⊤, List, length, Option}
use Rattle.std.specs.Io.KnownBytes.{prepend_known}
use Rattle.std.specs.List.{after_first}
use Rattle.std.specs.Option.{option_map}
use Rattle.vm_import.specs.declared.faults.LogError.{LogError}
use Rattle.vm_import.specs.declared.faults.LogError.TheVariants.{Line, Read, TooLong}
use Rattle.vm_import.specs.Logs.{is_line_end}
use Rattle.vm_import.specs.Reading.{Stays}

-- the bytes that wait, and how many were taken in all
pub record Waiting : Type 0 where
  pub bytes : List ℕ
  pub taken : ℕ

-- the bytes from start to end wait, in a block that has room for more than a window
pub record IsBlock (bytes : List ℕ) (start end : ℕ) : Type 0 where
  pub ordered : start ≤ end
  pub within : end ≤ length bytes
  pub roomy : 32 < length bytes

-- how many bytes there are in all, where it is known what is yet to come
abbrev pub all_of : ℕ → Option (List ℕ) → Option ℕ
all_of taken remaining = option_map (λ bytes. taken + length bytes) remaining

-- the source failed, or gave too much
abbrev pub IsOfSource : LogError → Type 0
IsOfSource (Line number fault) = ⊥
IsOfSource Read = ⊤
IsOfSource TooLong = ⊤

-- more was taken, and nothing was used
pub record IsTaken (old : Waiting) (before : Option (List ℕ)) (new : Waiting) (after : Option (List ℕ)) : Type 0 where
  pub bytes : Stays (prepend_known old.bytes before) (prepend_known new.bytes after)
  pub all : Stays (all_of old.taken before) (all_of new.taken after)

-- a line was used up to its end, and as much was taken for it as was wanting
pub record IsLineUsed (old : Waiting) (before : Option (List ℕ)) (new : Waiting) (after : Option (List ℕ)) : Type 0 where
  pub behind : Stays (option_map (after_first is_line_end) (prepend_known old.bytes before)) (prepend_known new.bytes after)
  pub all : Stays (all_of old.taken before) (all_of new.taken after)
