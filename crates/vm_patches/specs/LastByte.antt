-- The byte that was written last at an offset of a page.
use Rattle.std.specs.Prelude.{ℕ, ◌==◌, List, Option, None, Some, unwrap_or, if◌then◌else◌}
use Rattle.std.specs.List.{filter_map, last_or}
use Rattle.vm_patches.specs.declared.patch.ByteWrite.{ByteWrite}

-- the byte that a write brings to an offset, if it does
abbrev pub byte_at : ℕ → ByteWrite → Option ℕ
byte_at offset write = if write.offset == offset then Some write.byte else None

-- the byte of the last write there, or else what was there before
abbrev pub last_byte : List ByteWrite → ℕ → ℕ → ℕ
last_byte writes offset before = unwrap_or (last_or None (filter_map (byte_at offset) writes)) before
