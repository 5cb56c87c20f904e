use Rattle.std.proofs.Common.{ℕ, ◌+◌, ap, codes, refl}
use Rattle.std.specs.Fmt.{decimal}
use Rattle.vm_drawing.proofs.PictureLemmas.{before, last_piece}
use Rattle.vm_drawing.specs.Shapes.{attribute, number_text}
use Rattle.vm_drawing.proofs.texts.put_curve_number.Goals as goal

pub returns : goal.returns
unfolding number_text
returns c =
    let same = ap (λ (n : ℕ). decimal (n + 1)) c.from.ensures in
    let end =
    last_piece c.put-3.result c.put_number.new.text.items c.put-3.new.text.items _ (codes "</text>\n") refl c.put-3.ensures in
    let from_number = before c.put-2.new.text.items _ (decimal (c.args.number + 1)) same c.in_ok-put_number.ensures end in
    let from_shift = before c.put_length-2.new.text.items _ (codes " dy=\"4\">") refl c.in_ok-put-2.ensures from_number in
    let from_y =
    before c.put_length.new.text.items _ (attribute (codes "y") (decimal c.args.y)) refl c.in_ok-put_length-2.ensures from_shift in
    let from_x = before c.put.new.text.items _ (attribute (codes "x") (decimal c.args.x)) refl c.in_ok-put_length.ensures from_y in
    let whole = before c.args.text.now.items _ (codes "<text class=\"number\"") refl c.in_ok-put.ensures from_x in
    whole.is
