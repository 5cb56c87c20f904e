use Rattle.std.proofs.Common.{◌≡◌, ◌++◌, drop}
use Rattle.vm_drawing.specs.Picture.{columns_for, entries_from, legend}
use Rattle.vm_drawing.specs.Shapes.{shapes_text}
use Rattle.vm_drawing.proofs.picture.put_legend.Given as goal

-- the entries that are left complete the text
abbrev pub invariant-loop-curve : goal.invariant-loop-curve
invariant-loop-curve l = record {
  slot : l.slot ≡ l.curve-index;
  text : l.text.items ++ shapes_text (entries_from l.base (columns_for l.curves) l.slot (drop l.curve-index l.curves))
      ≡ l.fn.text.items ++ shapes_text (legend l.base l.curves);
}
