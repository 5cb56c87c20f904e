use Rattle.std.proofs.Common.{get_or, ap, sym, ◌∙◌, arith}
use Rattle.std.proofs.lemmas.List.{get_or_past, length-map}
use Rattle.vm_swap.specs.Index.{slot_of, slots_of}
use Rattle.vm_swap.proofs.Marks.{slots_of-get}
use Rattle.vm_swap.proofs.index.Index.find.Goals as goal

pub returns-then-page-len : goal.returns-then-page-len
returns-then-page-len c =
    let marks = c.self.inside.marks in
    let mark = c.get.ensures ∙ ap (get_or marks.list c.args.page) c.self.invariant.first in
    rw (← c.self.view_is) (c.slot_in.ensures ∙ ap slot_of mark ∙ slots_of-get marks.list c.args.page)

pub returns-else-page-len : goal.returns-else-page-len
returns-else-page-len c =
    let marks = c.self.inside.marks in
    rw (← c.self.view_is) (sym (get_or_past (slots_of marks.list) c.args.page _ (omega (arith, length-map marks.list slot_of, c.if-page-len.false, c.len.ensures))))
