use Rattle.std.proofs.Common.{◌+◌, List, drop, refl}
use Rattle.std.specs.List.{flat_map}
use Rattle.vm_drawing.proofs.PictureLemmas.{all_written, one_written}
use Rattle.vm_drawing.specs.Drawing.{Curve}
use Rattle.vm_drawing.specs.Picture.{marks_along}
use Rattle.vm_drawing.proofs.picture.put_marks.Goals as goal

pub loop-curve-preserved : goal.loop-curve-preserved
loop-curve-preserved c =
    let area = c.args.area in
    let curve = c.curve-item.result in
    one_written (λ (l : List Curve). flat_map (marks_along area) l) c.args.curves.now c.loop-curve.curve-index curve _ _ _ (marks_along area curve)
    (flat_map (marks_along area) (drop (c.loop-curve.curve-index + 1) c.args.curves.now)) c.loop-curve-test.true c.curve-item.is refl
    c.in_ok-put_marks_along.ensures c.loop-curve.invariant

pub returns : goal.returns
returns c =
    all_written (λ (l : List Curve). flat_map (marks_along c.args.area) l) c.args.curves.now c.loop-curve.curve-index _ _
    c.loop-curve-test.false refl c.loop-curve.invariant
