-- What the bytes of a virtio balloon's buffers say (OASIS VIRTIO 1.2, section 5.5.6): page numbers and statistics, low byte first.
use Rattle.std.specs.Prelude.{ℕ, ◌+◌, ◌*◌, ◌/◌, List, map, length, slice_range}
use Rattle.std.specs.Int.{w16, w32, w64, from_le_bytes, to_le_bytes}
use Rattle.std.specs.List.{flat_map, range_with_len}

-- the page number at bytes 4 i to 4 i + 3
abbrev pub page_number : List ℕ → ℕ → ℕ
page_number bytes i = from_le_bytes w32 (slice_range bytes (4 * i) (4 * i + 4))

-- the page numbers of a page buffer, one for each four bytes
abbrev pub page_numbers : List ℕ → List ℕ
page_numbers bytes = map (page_number bytes) (range_with_len 0 (length bytes / 4))

-- the bytes of page numbers, four for each, low byte first
abbrev pub page_buffer : List ℕ → List ℕ
page_buffer pages = flat_map (to_le_bytes w32) pages

-- the tag at bytes 10 i and 10 i + 1, and the value at the eight bytes after it
abbrev pub stat_entry : List ℕ → ℕ → ℕ × ℕ
stat_entry bytes i =
    (from_le_bytes w16 (slice_range bytes (10 * i) (10 * i + 2)), from_le_bytes w64 (slice_range bytes (10 * i + 2) (10 * i + 10)))

-- the entries of a statistics buffer, one for each ten bytes
abbrev pub stat_entries : List ℕ → List (ℕ × ℕ)
stat_entries bytes = map (stat_entry bytes) (range_with_len 0 (length bytes / 10))
