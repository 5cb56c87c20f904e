use Rattle.std.proofs.Common.{◌≡◌, ℕ, ◌+◌, List, [], ◌∷◌, ◌++◌, ◌∙◌, add-one, ap, drop, refl, sym}
use Rattle.std.proofs.lemmas.List.{append-nil}
use Rattle.vm_drawing.proofs.PictureLemmas.{all_written, one_written}
use Rattle.vm_drawing.specs.Drawing.{Curve}
use Rattle.vm_drawing.specs.Picture.{columns_for, entries_from, entry_in}
use Rattle.vm_drawing.specs.Shapes.{shape_text, shapes_text}
use Rattle.vm_drawing.proofs.picture.put_legend.Goals as goal

one_entry : (base k columns slot : ℕ) (curve : Curve) (old new : List ℕ) → k ≡ columns → new ≡ old ++ shape_text (entry_in base k slot curve)
    → new ≡ old ++ shapes_text (entry_in base columns slot curve ∷ [])
one_entry base k columns slot curve old new same more =
    more ∙ ap (λ (n : ℕ). old ++ shape_text (entry_in base n slot curve)) same
    ∙ ap (λ l. old ++ l) (sym (append-nil (shape_text (entry_in base columns slot curve))))

next_entry : (base columns slot : ℕ) (curve : Curve) (left : List Curve)
    → entries_from base columns slot (curve ∷ left) ≡ (entry_in base columns slot curve ∷ []) ++ entries_from base columns (slot + 1) left
next_entry base columns slot curve left =
    ap (λ (n : ℕ). entry_in base columns slot curve ∷ entries_from base columns n left) (sym (add-one slot))

pub put_entry_in-requires : goal.put_entry_in-requires
put_entry_in-requires c = record { base = c.requires; few = c.columns_for-columns.ensures.few }

pub loop-curve-init : goal.loop-curve-init
loop-curve-init c = record { slot = refl; text = refl }

pub loop-curve-preserved : goal.loop-curve-preserved
loop-curve-preserved c =
    let base = c.args.base in
    let columns = columns_for c.args.curves.now in
    let slot = c.loop-curve.slot in
    let curve = c.curve-item.result in
    let left = drop (c.loop-curve.curve-index + 1) c.args.curves.now in
    record {
      slot = ap (λ (n : ℕ). n + 1) c.loop-curve.invariant.slot;
      text =
          one_written (λ l. entries_from base columns slot l) c.args.curves.now c.loop-curve.curve-index curve _ _ _
          (entry_in base columns slot curve ∷ []) (entries_from base columns (slot + 1) left) c.loop-curve-test.true c.curve-item.is
          (next_entry base columns slot curve left)
          (one_entry base _ columns slot curve _ _ c.columns_for-columns.ensures.value c.in_ok-put_entry_in.ensures)
          c.loop-curve.invariant.text;
    }

pub returns : goal.returns
returns c =
    all_written (λ l. entries_from c.args.base (columns_for c.args.curves.now) c.loop-curve.slot l) c.args.curves.now
    c.loop-curve.curve-index _ _ c.loop-curve-test.false refl c.loop-curve.invariant.text
