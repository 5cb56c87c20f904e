use Rattle.std.proofs.Common.{codes, refl}
use Rattle.vm_drawing.proofs.PictureLemmas.{before, last_piece}
use Rattle.vm_drawing.specs.Curves.{pair}
use Rattle.vm_drawing.specs.Shapes.{entry_text, escaped, sample_text}
use Rattle.vm_drawing.proofs.texts.put_entry.Goals as goal

pub returns : goal.returns
unfolding entry_text
returns c =
    let end =
    last_piece c.put-4.result c.put_escaped.new.text.items c.put-4.new.text.items _ (codes "</text></g>\n")
    refl c.put-4.ensures in
    let from_name = before c.put-3.new.text.items _ (escaped c.args.name.now) refl c.in_ok-put_escaped.ensures end in
    let from_text = before c.put_sample.new.text.items _ (codes "<text x=\"68\" y=\"4\">") refl c.in_ok-put-3.ensures from_name in
    let from_sample = before c.put-2.new.text.items _ (sample_text c.args.number) refl c.in_ok-put_sample.ensures from_text in
    let from_end = before c.put_pair.new.text.items _ (codes ")\">") refl c.in_ok-put-2.ensures from_sample in
    let from_place = before c.put.new.text.items _ (pair c.args.x c.args.y) refl c.in_ok-put_pair.ensures from_end in
    let whole = before c.args.text.now.items _ (codes "<g transform=\"translate(") refl c.in_ok-put.ensures from_place in
    whole.is
