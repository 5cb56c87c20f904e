-- What writes make of a page.
use Rattle.std.specs.Prelude.{ℕ, ◌<◌, ◌+◌, List, [], ◌∷◌, ◌++◌, All, length, take, drop, replicate, slice_set}
use Rattle.vm_patches.specs.declared.patch.ByteWrite.{ByteWrite}

-- the page after the writes, of which the first comes first
abbrev pub patched : List ℕ → List ByteWrite → List ℕ
patched page [] = page
patched page (write ∷ writes) = patched (slice_set page write.offset write.byte) writes

-- the writes of bytes side by side, from `offset` on
abbrev pub writes_of : ℕ → List ℕ → List ByteWrite
writes_of offset [] = []
writes_of offset (byte ∷ bytes) = record { offset = offset; byte = byte } ∷ writes_of (offset + 1) bytes

-- each write is within a page
abbrev pub AreWithin : List ByteWrite → Type 0
AreWithin writes = All (λ write. write.offset < 4096) writes

-- the bytes with `new` written over them from `offset` on
abbrev pub overwritten : List ℕ → ℕ → List ℕ → List ℕ
overwritten bytes offset new = take offset bytes ++ new ++ drop (offset + length new) bytes

-- the bytes of a page that nobody wrote
unfoldable pub zero_bytes : List ℕ
zero_bytes = replicate 4096 0
