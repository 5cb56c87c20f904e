-- What a page contains of which some lines of 64 bytes were written.
use Rattle.std.specs.Prelude.{ℕ, ◌/◌, ◌==◌, Bool, List, if◌then◌else◌, map, slice_index}
use Rattle.std.specs.Int.{bit_at}
use Rattle.std.specs.List.{range_with_len}
use Rattle.vm_patches.specs.declared.lines.LineSet.{LineSet}

-- the set of no line
abbrev pub no_lines : LineSet
no_lines = record { bits = 0 }

-- whether the line is in the set
abbrev pub is_marked : LineSet → ℕ → Bool
is_marked lines line = bit_at lines.bits line == 1

-- the byte at an offset, which is zero outside the lines
abbrev pub masked_byte : LineSet → List ℕ → ℕ → ℕ
masked_byte lines bytes offset = if is_marked lines (offset / 64) then slice_index bytes offset else 0

-- the bytes of a page, which are zeros outside the lines
unfoldable pub masked : LineSet → List ℕ → List ℕ
masked lines bytes = map (masked_byte lines bytes) (range_with_len 0 4096)
