use Rattle.std.proofs.Common.{◌≡◌, ◌∷◌, [], ◌++◌, ◌+◌, ◌-◌, ◌∙◌, ℕ, List, ap, map, refl}
use Rattle.vm_drawing.proofs.PictureLemmas.{before, known_as, last_piece, text-of_five}
use Rattle.vm_drawing.specs.declared.texts.Style.TheVariants.{Title}
use Rattle.vm_drawing.specs.Drawing.{Curve}
use Rattle.vm_drawing.specs.Picture.{axes, bands, keys}
use Rattle.vm_drawing.specs.Shapes.{Close, Path, open_text, shapes_text, words_text}
use Rattle.vm_drawing.proofs.picture.put_chart.Goals as goal

pub returns : goal.returns
returns c =
    let area = c.args.area in
    let chart = c.args.chart.now in
    let along = c.args.along.now in
    let titled = words_text Title 90 (area.base - (area.scale.height + 14)) chart.title in
    let behind = ap (λ (l : List Curve). shapes_text (bands area l)) c.curves.ensures in
    let curves = ap (λ (l : List Curve). shapes_text (map (Path area) l)) c.curves-2.ensures in
    let above : c.saturating_sub-above.result ≡ area.base - (area.scale.height + 14) =
    c.saturating_sub-above.ensures ∙ ap (λ (h : ℕ). area.base - (h + 14)) c.from.ensures in
    let end = last_piece c.put.result c.put_keys.new.text.items c.put.new.text.items _ (shapes_text (Close ∷ [])) refl c.put.ensures in
    let from_keys = before c.put_curves.new.text.items _ (shapes_text (keys area chart)) refl c.in_ok-put_keys.ensures end in
    let from_curves =
    before c.put_bands.new.text.items _ (shapes_text (map (Path area) chart.curves)) curves c.in_ok-put_curves.ensures from_keys in
    let from_bands =
    before c.put_axes.new.text.items _ (shapes_text (bands area chart.curves)) behind c.in_ok-put_bands.ensures from_curves in
    let from_axes =
    before c.put_words.new.text.items _ (shapes_text (axes along area chart)) refl c.in_ok-put_axes.ensures from_bands in
    let from_title =
    before c.put_open.new.text.items _ titled
    (λ i. words_text Title 90 (above i) (c.title-2.ensures i)) c.in_ok-put_words.ensures from_axes in
    let whole =
    before c.args.text.now.items _ (open_text chart.title) (ap open_text c.title.ensures) c.in_ok-put_open.ensures from_title in
    known_as _ (ap (λ l. open_text chart.title ++ (titled ++ l))
    (text-of_five (axes along area chart) (bands area chart.curves) (map (Path area) chart.curves) (keys area chart) (Close ∷ []))) whole
