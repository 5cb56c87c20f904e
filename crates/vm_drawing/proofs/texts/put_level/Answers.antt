use Rattle.std.proofs.Common.{codes, refl}
use Rattle.std.specs.Fmt.{decimal}
use Rattle.vm_drawing.proofs.PictureLemmas.{before, last_piece}
use Rattle.vm_drawing.specs.Shapes.{level_line}
use Rattle.vm_drawing.proofs.texts.put_level.Goals as goal

pub returns : goal.returns
unfolding level_line
returns c =
    let end = last_piece c.put-2.result c.put_number.new.text.items c.put-2.new.text.items _ (codes "H970\"/>\n") refl c.put-2.ensures in
    let from_y = before c.put.new.text.items _ (decimal c.args.y) refl c.in_ok-put_number.ensures end in
    let whole = before c.args.text.now.items _ (codes "<path class=\"grid\" d=\"M90,") refl c.in_ok-put.ensures from_y in
    whole.is
