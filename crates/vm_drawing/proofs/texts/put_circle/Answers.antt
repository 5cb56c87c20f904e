use Rattle.std.proofs.Common.{List, ℕ, ap, codes, refl}
use Rattle.std.specs.Fmt.{decimal}
use Rattle.vm_drawing.proofs.PictureLemmas.{before, last_piece}
use Rattle.vm_drawing.specs.Shapes.{attribute, circle_text, colour}
use Rattle.vm_drawing.proofs.texts.put_circle.Goals as goal

pub returns : goal.returns
unfolding circle_text
returns c =
    let stroke = ap (λ (l : List ℕ). attribute (codes "stroke") l) c.colour.ensures in
    let end =
    last_piece c.put-2.result c.put_length-2.new.text.items c.put-2.new.text.items _ (codes " r=\"8\"/>") refl c.put-2.ensures in
    let from_y =
    before c.put_length.new.text.items _ (attribute (codes "cy") (decimal c.args.y)) refl c.in_ok-put_length-2.ensures end in
    let from_x =
    before c.put_attribute.new.text.items _ (attribute (codes "cx") (decimal c.args.x)) refl c.in_ok-put_length.ensures from_y in
    let from_stroke =
    before c.put.new.text.items _ (attribute (codes "stroke") (colour c.args.number)) stroke c.in_ok-put_attribute.ensures from_x in
    let whole = before c.args.text.now.items _ (codes "<circle class=\"mark\"") refl c.in_ok-put.ensures from_stroke in
    whole.is
