use Rattle.std.proofs.Common.{◌≡◌, ◌++◌, ◌+◌, ◌*◌, ◌^◌, ◌≤◌, drop}
use Rattle.vm_drawing.specs.Picture.{charts_from}
use Rattle.vm_drawing.specs.Shapes.{shapes_text}
use Rattle.vm_drawing.proofs.picture.put_charts.Given as goal

-- the charts that are left complete the text
abbrev pub invariant-loop-chart : goal.invariant-loop-chart
invariant-loop-chart l = record {
  small : l.y ≤ 70 + l.chart-index * 2 ^ 80;
  text : l.text.items ++ shapes_text (charts_from l.along l.axis l.y (drop l.chart-index l.charts))
      ≡ l.fn.text.items ++ shapes_text (charts_from l.along l.axis 70 l.charts);
}
