use Rattle.std.proofs.Common.{◌++◌, ◌∙◌, ap, codes}
use Rattle.vm_drawing.proofs.PictureLemmas.{body_within}
use Rattle.vm_drawing.specs.declared.texts.Style.TheVariants.{Heading, Plain}
use Rattle.vm_drawing.specs.Picture.{charts_from, end_of, height_of, picture_of}
use Rattle.vm_drawing.specs.Shapes.{head_text, shapes_text, words_text}
use Rattle.vm_drawing.proofs.picture.draw.Goals as goal

pub returns : goal.returns
unfolding picture_of
returns c =
    let d = c.args.drawing.now in
    let charts = c.charts-charts.ensures.value in
    let height = c.end_of.ensures ∙ ap (end_of 70) charts in
    let head = c.in_ok-put_head.ensures ∙ (λ i. c.new-text.ensures.items i ++ head_text (c.title.ensures i) (height i)) in
    let title =
    c.in_ok-put_words.ensures ∙ ap (λ l. c.put_head.new.text.items ++ words_text Heading 90 34 l) c.title-2.ensures in
    let note = c.in_ok-put_words-2.ensures ∙ ap (λ l. c.put_words.new.text.items ++ words_text Plain 90 58 l) c.note.ensures in
    let all =
    c.in_ok-put_charts.ensures ∙ (λ i. c.put_words-2.new.text.items
    ++ shapes_text (charts_from (c.along.ensures i) (c.axis.ensures i) 70 (charts i))) in
    body_within _ _ _ _ _ (head_text d.title (height_of d)) (words_text Heading 90 34 d.title) (words_text Plain 90 58 d.note)
    (shapes_text (charts_from d.along d.axis 70 d.charts)) (codes "</svg>\n") head title note all c.in_ok-put.ensures
