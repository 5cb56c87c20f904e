use Rattle.std.proofs.Common.{List, ℕ, ap, codes, refl, ◌∙◌}
use Rattle.std.specs.Fmt.{decimal}
use Rattle.vm_drawing.proofs.PictureLemmas.{before, last_piece}
use Rattle.vm_drawing.specs.Bands.{outline_text}
use Rattle.vm_drawing.specs.Shapes.{attribute, band_text, colour, escaped}
use Rattle.vm_drawing.proofs.bands.put_band.Goals as goal

pub returns : goal.returns
unfolding band_text
returns c =
    let area = c.args.area in
    let curve = c.args.curve.now in
    let fill = ap (λ (l : List ℕ). attribute (codes "fill") l) (c.colour.ensures ∙ ap colour c.number.ensures) in
    let end =
    last_piece c.put-5.result c.put_escaped.new.text.items c.put-5.new.text.items _ (codes "</title></path>\n") refl c.put-5.ensures in
    let from_name =
    before c.put-4.new.text.items _ (escaped curve.name) (ap escaped c.name.ensures) c.in_ok-put_escaped.ensures end in
    let from_title = before c.put_outline.new.text.items _ (codes "\"><title>") refl c.in_ok-put-4.ensures from_name in
    let from_outline =
    before c.put-3.new.text.items _ (outline_text area curve c.args.spreads.now) refl c.in_ok-put_outline.ensures from_title in
    let from_d = before c.put_attribute.new.text.items _ (codes " fill-opacity=\"0.2\" d=\"") refl c.in_ok-put-3.ensures from_outline in
    let from_fill =
    before c.put-2.new.text.items _ (attribute (codes "fill") (colour curve.number)) fill c.in_ok-put_attribute.ensures from_d in
    let from_scale = before c.put_number.new.text.items _ (codes ") scale(1,-1)\"") refl c.in_ok-put-2.ensures from_fill in
    let from_base = before c.put.new.text.items _ (decimal area.base) refl c.in_ok-put_number.ensures from_scale in
    let whole =
    before c.args.text.now.items _ (codes "<path class=\"band\" transform=\"translate(90,") refl c.in_ok-put.ensures from_base in
    whole.is
