use Rattle.std.proofs.Common.{◌≡◌, ◌++◌}
use Rattle.std.specs.List.{flat_map, range_with_len}
use Rattle.vm_drawing.specs.Curves.{value_text}
use Rattle.vm_drawing.proofs.texts.put_path.Given as goal

-- the values so far are drawn
abbrev pub invariant-loop-i : goal.invariant-loop-i
invariant-loop-i l =
    l.text.items ≡ l.fn.text.items ++ flat_map (value_text l.area l.curve.values l.curve.places) (range_with_len 0 l.i)
