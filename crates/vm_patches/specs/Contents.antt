-- What a page contains that is of few bytes, of some lines or of a whole frame.
use Rattle.std.specs.Prelude.{◌≡◌, ℕ, ◌≤◌, ◌++◌, List, [], Option, None, Some, length}
use Rattle.vm_patches.specs.declared.patch.ByteWrite.{ByteWrite}
use Rattle.vm_patches.specs.declared.patched_frame.Contents.{Contents}
use Rattle.vm_patches.specs.declared.patched_frame.Contents.TheVariants.{Few, Lines, Whole}
use Rattle.vm_patches.specs.Lines.{masked}
use Rattle.vm_patches.specs.Patches.{patched, writes_of, zero_bytes}

-- zeros with what was written to them, or with the frame's bytes in the lines that were written, or else the frame's bytes
abbrev pub contents_of : Contents → List ℕ → List ℕ
contents_of (Few writes) bytes = patched zero_bytes writes
contents_of (Lines lines) bytes = masked lines bytes
contents_of Whole bytes = bytes

-- there is a log, and it has these bytes too
abbrev pub IsWritten : Contents → Contents → ℕ → List ℕ → Type 0
IsWritten (Few writes) new offset bytes = new ≡ Few (writes ++ writes_of offset bytes)
IsWritten (Lines lines) new offset bytes = ⊥
IsWritten Whole new offset bytes = ⊥

-- there is a log, and a patch has room for its writes
abbrev pub FitsPatch : Contents → Type 0
FitsPatch (Few writes) = length writes ≤ 12
FitsPatch (Lines lines) = ⊥
FitsPatch Whole = ⊥

-- the log, where there is one
abbrev pub log_of : Contents → Option (List ByteWrite)
log_of (Few writes) = Some writes
log_of (Lines lines) = None
log_of Whole = None

-- a log that changes nothing, where there is one
abbrev pub blank_where_few : Contents → Contents
blank_where_few (Few writes) = Few []
blank_where_few (Lines lines) = Lines lines
blank_where_few Whole = Whole
