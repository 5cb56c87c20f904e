use Rattle.std.proofs.Common.{◌≡◌, ◌++◌, drop, map}
use Rattle.std.specs.List.{flat_map}
use Rattle.vm_series.specs.Records.{epoch_text}
use Rattle.vm_series.proofs.csv_lines.push_rows.Given as goal

-- the rows that are left complete the text
abbrev pub invariant-loop-row : goal.invariant-loop-row
invariant-loop-row l =
    l.text.items ++ flat_map (epoch_text (map (λ piece. piece.items) l.pieces)) (drop l.row-index l.rows)
    ≡ l.fn.text.items ++ flat_map (epoch_text (map (λ piece. piece.items) l.pieces)) l.rows
