use Rattle.std.proofs.Common.{◌≡◌, ◌++◌, drop, map}
use Rattle.vm_drawing.specs.Shapes.{Path, shapes_text}
use Rattle.vm_drawing.proofs.picture.put_curves.Given as goal

-- the curves that are left complete the text
abbrev pub invariant-loop-curve : goal.invariant-loop-curve
invariant-loop-curve l =
    l.text.items ++ shapes_text (map (Path l.area) (drop l.curve-index l.curves))
    ≡ l.fn.text.items ++ shapes_text (map (Path l.area) l.curves)
