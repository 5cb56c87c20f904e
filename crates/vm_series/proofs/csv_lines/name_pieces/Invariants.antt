use Rattle.std.proofs.Common.{◌≡◌, ◌++◌, drop, map, string_bytes}
use Rattle.vm_series.specs.Records.{name_text}
use Rattle.vm_series.proofs.csv_lines.name_pieces.Given as goal

-- the names that are left complete the pieces
abbrev pub invariant-loop-name : goal.invariant-loop-name
invariant-loop-name l =
    map (λ piece. piece.items) l.pieces.items ++ map name_text (map string_bytes (drop l.name-index l.names))
    ≡ map name_text (map string_bytes l.names)
