use Rattle.std.proofs.Common.{◌≡◌, ◌+◌, ◌*◌, ◌^◌, ◌≤◌, drop}
use Rattle.vm_drawing.specs.Picture.{end_of}
use Rattle.vm_drawing.proofs.picture.end_of.Given as goal

-- the charts that are left end where all do
abbrev pub invariant-loop-chart : goal.invariant-loop-chart
invariant-loop-chart l = record {
  small : l.y ≤ 70 + l.chart-index * 2 ^ 80;
  end : end_of l.y (drop l.chart-index l.charts) ≡ end_of 70 l.charts;
}
