use Rattle.std.proofs.Common.{sym, ◌∙◌}
use Rattle.vm_guest.proofs.SlotLemmas.{remove-not_kept}
use Rattle.vm_guest.proofs.memory.fill.Goals as goal

pub returns-else-is_out-clause-area : goal.returns-else-is_out-clause-area
returns-else-is_out-clause-area c =
    let area = c.args.swap.now in
    λ i. record { pages = remove-not_kept area.pages c.args.page (c.requires.kept ∙ sym c.is_out.ensures ∙ c.if-is_out.false) i; capacity = area.capacity }
