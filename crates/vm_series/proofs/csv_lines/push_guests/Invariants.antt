use Rattle.std.proofs.Common.{◌≡◌, ◌++◌, map}
use Rattle.std.specs.List.{flat_map, range_with_len}
use Rattle.vm_series.specs.Records.{record_at}
use Rattle.vm_series.proofs.csv_lines.push_guests.Given as goal

-- the records of the positions so far were put
abbrev pub invariant-loop-position : goal.invariant-loop-position
invariant-loop-position l =
    l.text.items ≡ l.fn.text.items ++ flat_map (record_at (map (λ piece. piece.items) l.pieces) l.row) (range_with_len 0 l.position)
