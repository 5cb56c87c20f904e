use Rattle.std.proofs.Common.{◌≡◌, ◌∙◌, ℕ, List, IfOk, ap, map, string_bytes, subst}
use Rattle.vm_sweep.proofs.DrawnLemmas.{drawn-all}
use Rattle.vm_sweep.proofs.drawing.drawing_of.Goals as goal

pub returns : goal.returns
returns g c =
    subst (λ (text : List ℕ). IfOk c.sweep_svg.result (λ drawing. drawing.items ≡ text))
    (drawn-all c.args.lists.now c.args.config c.page_of-page.result (map string_bytes c.deref.result.now) c.deref-2.result.now
    c.page_of-page.ensures (ap (map string_bytes) c.deref.ensures.value ∙ c.in_ok-names.ensures)
    (c.deref-2.ensures.value ∙ c.in_ok-points.ensures))
    c.sweep_svg.ensures
