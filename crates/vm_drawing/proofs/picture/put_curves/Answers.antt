use Rattle.std.proofs.Common.{List, [], ◌∷◌, ◌++◌, ◌+◌, ◌∙◌, ap, drop, map, refl, sym}
use Rattle.std.proofs.lemmas.List.{append-nil}
use Rattle.vm_drawing.proofs.PictureLemmas.{all_written, one_written}
use Rattle.vm_drawing.specs.Drawing.{Curve}
use Rattle.vm_drawing.specs.Shapes.{Path, curve_text}
use Rattle.vm_drawing.proofs.picture.put_curves.Goals as goal

pub loop-curve-preserved : goal.loop-curve-preserved
loop-curve-preserved c =
    let area = c.args.area in
    let curve = c.curve-item.result in
    one_written (λ (l : List Curve). map (Path area) l) c.args.curves.now c.loop-curve.curve-index curve _ _ _ (Path area curve ∷ [])
    (map (Path area) (drop (c.loop-curve.curve-index + 1) c.args.curves.now)) c.loop-curve-test.true c.curve-item.is refl
    (c.in_ok-put_curve.ensures ∙ ap (λ l. c.loop-curve.text.items ++ l) (sym (append-nil (curve_text area curve))))
    c.loop-curve.invariant

pub returns : goal.returns
returns c =
    all_written (λ (l : List Curve). map (Path c.args.area) l) c.args.curves.now c.loop-curve.curve-index _ _ c.loop-curve-test.false refl
    c.loop-curve.invariant
