use Rattle.std.proofs.Common.{◌≡◌, ◌++◌, drop}
use Rattle.std.specs.List.{flat_map}
use Rattle.vm_drawing.specs.Picture.{marks_along}
use Rattle.vm_drawing.specs.Shapes.{shapes_text}
use Rattle.vm_drawing.proofs.picture.put_marks.Given as goal

-- the curves that are left complete the text
abbrev pub invariant-loop-curve : goal.invariant-loop-curve
invariant-loop-curve l =
    l.text.items ++ shapes_text (flat_map (marks_along l.area) (drop l.curve-index l.curves))
    ≡ l.fn.text.items ++ shapes_text (flat_map (marks_along l.area) l.curves)
