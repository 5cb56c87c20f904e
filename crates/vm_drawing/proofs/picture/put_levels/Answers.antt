use Rattle.std.proofs.Common.{◌++◌, ◌∙◌, ◌*◌, ap, map, string_bytes}
use Rattle.vm_drawing.proofs.PictureLemmas.{shapes_more}
use Rattle.vm_drawing.specs.Picture.{level_at}
use Rattle.vm_drawing.specs.Shapes.{shapes_text}
use Rattle.vm_drawing.proofs.picture.put_levels.Goals as goal

pub loop-part-preserved : goal.loop-part-preserved
loop-part-preserved c =
    let words = map string_bytes c.args.words.now in
    let step = c.args.area.scale.step in
    shapes_more (λ part. level_at c.args.area words (part * step)) c.loop-part.part _ _ _ c.loop-part.invariant
    (c.in_ok-put_level_at.ensures ∙ ap (λ l. c.loop-part.text.items ++ shapes_text (level_at c.args.area words l))
    (λ j. c.from.ensures j * c.from-in-loop-part.ensures j))
