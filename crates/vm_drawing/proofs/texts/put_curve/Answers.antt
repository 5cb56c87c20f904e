use Rattle.std.proofs.Common.{ap, codes, refl}
use Rattle.std.specs.Fmt.{decimal}
use Rattle.vm_drawing.proofs.PictureLemmas.{before, last_piece}
use Rattle.vm_drawing.specs.Curves.{path_text}
use Rattle.vm_drawing.specs.Shapes.{curve_text, escaped, stroke_text}
use Rattle.vm_drawing.proofs.texts.put_curve.Goals as goal

pub returns : goal.returns
unfolding curve_text
returns c =
    let area = c.args.area in
    let curve = c.args.curve.now in
    let end =
    last_piece c.put-5.result c.put_escaped.new.text.items c.put-5.new.text.items _ (codes "</title></path>\n") refl c.put-5.ensures in
    let from_name =
    before c.put-4.new.text.items _ (escaped curve.name) (ap escaped c.name.ensures) c.in_ok-put_escaped.ensures end in
    let from_title = before c.put_path.new.text.items _ (codes "\"><title>") refl c.in_ok-put-4.ensures from_name in
    let from_path = before c.put-3.new.text.items _ (path_text area curve) refl c.in_ok-put_path.ensures from_title in
    let from_d = before c.put_stroke.new.text.items _ (codes " d=\"") refl c.in_ok-put-3.ensures from_path in
    let from_stroke =
    before c.put-2.new.text.items _ (stroke_text curve.number) (ap stroke_text c.number.ensures) c.in_ok-put_stroke.ensures from_d in
    let from_scale = before c.put_number.new.text.items _ (codes ") scale(1,-1)\"") refl c.in_ok-put-2.ensures from_stroke in
    let from_base = before c.put.new.text.items _ (decimal area.base) refl c.in_ok-put_number.ensures from_scale in
    let whole =
    before c.args.text.now.items _ (codes "<path class=\"curve\" transform=\"translate(90,") refl c.in_ok-put.ensures from_base in
    whole.is
