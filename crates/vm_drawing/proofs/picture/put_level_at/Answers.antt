use Rattle.std.proofs.Common.{[], ◌++◌, ◌+◌, ◌∙◌, ap, map, refl, string_bytes, sym}
use Rattle.std.proofs.lemmas.List.{append-nil}
use Rattle.std.specs.Fmt.{decimal}
use Rattle.std.specs.Prelude.{slice_get, unwrap_or}
use Rattle.vm_drawing.proofs.PictureLemmas.{before, known_as, last_piece}
use Rattle.vm_drawing.specs.declared.texts.Style.TheVariants.{End}
use Rattle.vm_drawing.specs.Picture.{down}
use Rattle.vm_drawing.specs.Shapes.{level_line, words_text}
use Rattle.vm_drawing.proofs.picture.put_level_at.Goals as goal

pub returns : goal.returns
returns c =
    let value = c.args.value in
    let y = down c.args.area value in
    let word = unwrap_or (slice_get (map string_bytes c.args.words.now) value) (decimal value) in
    let at = c.down-y.ensures.value in
    let end = last_piece c.put_level_words.result c.put_level.new.text.items c.put_level_words.new.text.items _ (words_text End 82 (y + 4) word ++ [])
    (ap (λ k. words_text End 82 (k + 4) word) at ∙ sym (append-nil (words_text End 82 (y + 4) word))) c.put_level_words.ensures in
    let whole = before c.args.text.now.items _ (level_line y) (ap level_line at) c.in_ok-put_level.ensures end in
    known_as _ refl whole
