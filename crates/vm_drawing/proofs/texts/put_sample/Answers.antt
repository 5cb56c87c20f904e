use Rattle.std.proofs.Common.{codes, refl}
use Rattle.vm_drawing.proofs.PictureLemmas.{before, last_piece}
use Rattle.vm_drawing.specs.Shapes.{mark_text, sample_text, stroke_text}
use Rattle.vm_drawing.proofs.texts.put_sample.Goals as goal

pub returns : goal.returns
unfolding sample_text
returns c =
    let number = c.args.number in
    let end = last_piece c.put_mark.result c.put-2.new.text.items c.put_mark.new.text.items _ (mark_text 30 0 number) refl c.put_mark.ensures in
    let from_line = before c.put_stroke.new.text.items _ (codes " d=\"M0,0H60\"/>") refl c.in_ok-put-2.ensures end in
    let from_stroke = before c.put.new.text.items _ (stroke_text number) refl c.in_ok-put_stroke.ensures from_line in
    let whole = before c.args.text.now.items _ (codes "<path class=\"sample\"") refl c.in_ok-put.ensures from_stroke in
    whole.is
