use Rattle.std.proofs.Common.{◌≡◌, ◌++◌}
use Rattle.std.specs.List.{flat_map, range_with_len}
use Rattle.vm_drawing.specs.Bands.{edge_at}
use Rattle.vm_drawing.proofs.bands.put_outline.Given as goal

-- the places so far are drawn
abbrev pub invariant-loop-i : goal.invariant-loop-i
invariant-loop-i l =
    l.text.items ≡ l.fn.text.items ++ flat_map (edge_at l.area l.curve l.spreads) (range_with_len 0 l.i)
