use Rattle.std.proofs.Common.{◌+◌, drop, refl}
use Rattle.vm_drawing.proofs.PictureLemmas.{all_written, one_written}
use Rattle.vm_drawing.specs.Picture.{band_of, bands}
use Rattle.vm_drawing.proofs.picture.put_bands.Goals as goal

pub loop-curve-preserved : goal.loop-curve-preserved
loop-curve-preserved c =
    let area = c.args.area in
    let curve = c.curve-item.result in
    one_written (bands area) c.args.curves.now c.loop-curve.curve-index curve _ _ _ (band_of area curve)
    (bands area (drop (c.loop-curve.curve-index + 1) c.args.curves.now)) c.loop-curve-test.true c.curve-item.is refl
    c.in_ok-put_band_of.ensures c.loop-curve.invariant

pub returns : goal.returns
returns c =
    all_written (bands c.args.area) c.args.curves.now c.loop-curve.curve-index _ _ c.loop-curve-test.false refl c.loop-curve.invariant
