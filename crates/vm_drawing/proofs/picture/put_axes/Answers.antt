use Rattle.std.proofs.Common.{◌≡◌, ◌∷◌, [], ◌++◌, ◌+◌, ◌-◌, ◌/◌, ◌∙◌, ℕ, List, ap, refl, sym}
use Rattle.std.proofs.lemmas.List.{append-nil}
use Rattle.vm_drawing.proofs.PictureLemmas.{before, known_as, last_piece, text-append}
use Rattle.vm_drawing.specs.declared.texts.Style.TheVariants.{Middle}
use Rattle.vm_drawing.specs.Picture.{levels, ticks}
use Rattle.vm_drawing.specs.Shapes.{Shape, Upright, Words, shapes_text, upright_text, words_text}
use Rattle.vm_drawing.proofs.picture.put_axes.Goals as goal

text-of_three : (a b c : List Shape) → shapes_text a ++ (shapes_text b ++ shapes_text c) ≡ shapes_text (a ++ (b ++ c))
text-of_three a b c = sym (text-append a (b ++ c) ∙ ap (λ l. shapes_text a ++ l) (text-append b c))

pub returns : goal.returns
returns c =
    let area = c.args.area in
    let chart = c.args.chart.now in
    let along = c.args.along.now in
    let middle = area.base - area.scale.height / 2 in
    let named = Words Middle 530 (area.base + 38) along ∷ Upright middle chart.unit ∷ [] in
    let at : c.saturating_sub-middle.result ≡ middle =
    c.saturating_sub-middle.ensures ∙ ap (λ (h : ℕ). area.base - h) c.from.ensures in
    let end = last_piece c.put_upright.result c.put_words.new.text.items c.put_upright.new.text.items _ (upright_text middle chart.unit ++ [])
    ((λ i. upright_text (at i) (c.unit.ensures i)) ∙ sym (append-nil (upright_text middle chart.unit))) c.put_upright.ensures in
    let from_words = before c.put_ticks.new.text.items _ (words_text Middle 530 (area.base + 38) along) refl c.in_ok-put_words.ensures end in
    let from_ticks = before c.put_levels.new.text.items _ (shapes_text (ticks area)) refl c.in_ok-put_ticks.ensures from_words in
    let whole =
    before c.args.text.now.items _ (shapes_text (levels area chart.words)) (ap (λ (l : List (List ℕ)). shapes_text (levels area l)) c.words.ensures.value)
    c.in_ok-put_levels.ensures from_ticks in
    known_as _ (text-of_three (levels area chart.words) (ticks area) named) whole
