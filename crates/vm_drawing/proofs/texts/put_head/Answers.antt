use Rattle.std.proofs.Common.{codes, refl}
use Rattle.std.specs.Fmt.{decimal}
use Rattle.vm_drawing.proofs.PictureLemmas.{before, last_piece}
use Rattle.vm_drawing.specs.Shapes.{attribute, escaped, head_text, styles_text}
use Rattle.vm_drawing.proofs.texts.put_head.Goals as goal

pub returns : goal.returns
unfolding head_text styles_text
returns c =
    let height = decimal c.args.height in
    let end =
    last_piece c.put-6.result c.put-5.new.text.items c.put-6.new.text.items _
    (codes "</style>\n<rect width=\"100%\" height=\"100%\" fill=\"#fff\"/>\n") refl c.put-6.ensures in
    let from_styles = before c.put-4.new.text.items _ styles_text refl c.in_ok-put-5.ensures end in
    let from_style =
    before c.put_escaped.new.text.items _ (codes "</title>\n<style>") refl c.in_ok-put-4.ensures from_styles in
    let from_title = before c.put-3.new.text.items _ (escaped c.args.title.now) refl c.in_ok-put_escaped.ensures from_style in
    let from_font =
    before c.put_number.new.text.items _ (codes "\" font-family=\"sans-serif\" font-size=\"13\">\n<title>") refl c.in_ok-put-3.ensures from_title in
    let from_number = before c.put-2.new.text.items _ height refl c.in_ok-put_number.ensures from_font in
    let from_box = before c.put_length.new.text.items _ (codes " viewBox=\"0 0 1010 ") refl c.in_ok-put-2.ensures from_number in
    let from_height =
    before c.put.new.text.items _ (attribute (codes "height") height) refl c.in_ok-put_length.ensures from_box in
    let whole =
    before c.args.text.now.items _ (codes "<svg xmlns=\"http://www.w3.org/2000/svg\" role=\"img\" width=\"1010\"") refl c.in_ok-put.ensures from_height in
    whole.is
