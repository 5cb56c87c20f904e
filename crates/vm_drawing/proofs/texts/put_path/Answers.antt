use Rattle.std.proofs.Common.{◌≡◌, ◌++◌, ◌∙◌, ap}
use Rattle.vm_drawing.proofs.PictureLemmas.{one_more}
use Rattle.vm_drawing.specs.Curves.{value_text}
use Rattle.vm_drawing.proofs.texts.put_path.Goals as goal

pub loop-i-preserved : goal.loop-i-preserved
loop-i-preserved c =
    let area = c.args.area in
    let i = c.loop-i.i in
    let same : value_text area _ _ i ≡ value_text area c.args.curve.now.values c.args.curve.now.places i =
    λ j. value_text area (c.values-values.ensures j) (c.places-places.ensures j) i in
    one_more (value_text area c.args.curve.now.values c.args.curve.now.places) i _ _ _ c.loop-i.invariant
    (c.in_ok-put_value.ensures ∙ ap (λ l. c.loop-i.text.items ++ l) same)
