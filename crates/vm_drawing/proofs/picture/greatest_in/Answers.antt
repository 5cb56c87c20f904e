use Rattle.std.proofs.Common.{◌+◌, ◌∙◌, ap, drop}
use Rattle.vm_drawing.proofs.BandLemmas.{curve-counted}
use Rattle.vm_drawing.proofs.PictureLemmas.{left_from}
use Rattle.vm_drawing.specs.Values.{greatest}
use Rattle.vm_drawing.proofs.picture.greatest_in.Goals as goal

pub loop-curve-preserved : goal.loop-curve-preserved
loop-curve-preserved c =
    let curves = c.args.curves.now in
    let i = c.loop-curve.curve-index in
    let curve = c.curve-item.result in
    curve-counted curve (drop i curves) (drop (i + 1) curves) c.loop-curve.most c.greatest.result c.max-most.result
    c.greatest_of_band.result c.max-most-in-loop-curve.result _ (left_from curves i curve c.loop-curve-test.true c.curve-item.is)
    (c.greatest.ensures ∙ ap greatest c.values.ensures) c.max-most.ensures c.greatest_of_band.ensures c.max-most-in-loop-curve.ensures
    c.loop-curve.invariant
