use Rattle.std.proofs.Common.{◌≡◌, ◌++◌, drop}
use Rattle.vm_drawing.specs.Picture.{bands}
use Rattle.vm_drawing.specs.Shapes.{shapes_text}
use Rattle.vm_drawing.proofs.picture.put_bands.Given as goal

-- the curves that are left complete the text
abbrev pub invariant-loop-curve : goal.invariant-loop-curve
invariant-loop-curve l =
    l.text.items ++ shapes_text (bands l.area (drop l.curve-index l.curves)) ≡ l.fn.text.items ++ shapes_text (bands l.area l.curves)
