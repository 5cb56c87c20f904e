use Rattle.std.proofs.Common.{codes, refl}
use Rattle.vm_drawing.proofs.PictureLemmas.{before, last_piece}
use Rattle.vm_drawing.specs.Shapes.{attribute}
use Rattle.vm_drawing.proofs.texts.put_attribute.Goals as goal

pub returns : goal.returns
unfolding attribute
returns c =
    let end = last_piece c.put-5.result c.put-4.new.text.items c.put-5.new.text.items _ (codes "\"") refl c.put-5.ensures in
    let from_value = before c.put-3.new.text.items _ c.args.value.now refl c.in_ok-put-4.ensures end in
    let from_sign = before c.put-2.new.text.items _ (codes "=\"") refl c.in_ok-put-3.ensures from_value in
    let from_name = before c.put.new.text.items _ c.args.name.now refl c.in_ok-put-2.ensures from_sign in
    let whole = before c.args.text.now.items _ (codes " ") refl c.in_ok-put.ensures from_name in
    whole.is
