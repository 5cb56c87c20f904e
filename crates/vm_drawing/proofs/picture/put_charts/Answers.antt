use Rattle.std.proofs.Common.{◌≡◌, List, ◌∷◌, ◌+◌, ◌++◌, ◌∙◌, ◌*◌, ◌<◌, ◌≤◌, ◌^◌, ℕ, ap, arith, drop, refl, sym}
use Rattle.vm_drawing.proofs.PictureLemmas.{all_written, one_written}
use Rattle.vm_drawing.specs.declared.scale.Axis.{Axis}
use Rattle.vm_drawing.specs.Drawing.{Chart}
use Rattle.vm_drawing.specs.Picture.{charts_from, chart_shapes, area_of, room_of}
use Rattle.vm_drawing.specs.Shapes.{shapes_text}
use Rattle.vm_drawing.proofs.picture.put_charts.Goals as goal

-- a thousand charts are not far down
near : (i n y : ℕ) → y ≤ 70 + i * 2 ^ 80 → i < n → n ≤ 1000 → y ≤ 2 ^ 95
near i n y small less few = omega arith

further : (i y room : ℕ) → y ≤ 70 + i * 2 ^ 80 → room ≤ 2 ^ 80 → y + room ≤ 70 + (i + 1) * 2 ^ 80
further i y room small bound = omega arith

fits : (y room : ℕ) → y ≤ 2 ^ 95 → room ≤ 2 ^ 80 → y + room < 2 ^ 128
fits y room small bound = omega arith

-- its room ends where that of the next one begins
next_chart : (along : List ℕ) (axis : Axis) (y room : ℕ) (chart : Chart) (left : List Chart) → room ≡ room_of chart
    → charts_from along axis y (chart ∷ left) ≡ chart_shapes along (area_of axis y chart) chart ++ charts_from along axis (y + room) left
next_chart along axis y room chart left is =
    ap (λ (r : ℕ). chart_shapes along (area_of axis y chart) chart ++ charts_from along axis (y + r) left) (sym is)

pub area_of-area-requires : goal.area_of-area-requires
area_of-area-requires c = near _ _ _ c.loop-chart.invariant.small c.loop-chart-test.true c.requires

pub put_chart-requires : goal.put_chart-requires
put_chart-requires c = c.area_of-area.ensures.small

pub overflow_add-y : goal.overflow_add-y
overflow_add-y c =
    let less = fits _ _ (near _ _ _ c.loop-chart.invariant.small c.loop-chart-test.true c.requires) c.room_of-y.ensures.bound in
    omega (arith, less)

pub loop-chart-init : goal.loop-chart-init
loop-chart-init c = record { small = omega arith; text = refl }

pub loop-chart-preserved : goal.loop-chart-preserved
loop-chart-preserved c =
    let along = c.args.along.now in
    let axis = c.args.axis in
    let chart = c.chart-item.result in
    let y = c.loop-chart.y in
    let left = drop (c.loop-chart.chart-index + 1) c.args.charts.now in
    record {
      small = further _ _ _ c.loop-chart.invariant.small c.room_of-y.ensures.bound;
      text =
          one_written (charts_from along axis y) c.args.charts.now c.loop-chart.chart-index chart _ _ _
          (chart_shapes along (area_of axis y chart) chart) (charts_from along axis (y + c.room_of-y.result) left)
          c.loop-chart-test.true c.chart-item.is
          (next_chart along axis y _ chart left c.room_of-y.ensures.value)
          (c.in_ok-put_chart.ensures ∙ ap (λ area. c.loop-chart.text.items ++ shapes_text (chart_shapes along area chart)) c.area_of-area.ensures.value)
          c.loop-chart.invariant.text;
    }

pub returns : goal.returns
returns c =
    all_written (charts_from c.args.along.now c.args.axis c.loop-chart.y) c.args.charts.now c.loop-chart.chart-index _ _
    c.loop-chart-test.false refl c.loop-chart.invariant.text
