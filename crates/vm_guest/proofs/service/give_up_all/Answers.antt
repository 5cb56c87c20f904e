use Rattle.std.proofs.Common.{◌≡◌, length, sym, ap, ◌∙◌}
use Rattle.vm_guest.specs.Holding.{with_memory}
use Rattle.vm_guest.proofs.BoundaryLemmas.{all_given_up-same}
use Rattle.vm_guest.proofs.service.give_up_all.Goals as goal

pub returns-then-is_absent : goal.returns-then-is_absent
returns-then-is_absent c =
    let memory = c.args.memory.now in
    sym (ap (with_memory memory) (all_given_up-same memory.memory c.args.pages.now c.requires (c.is_absent.ensures c.if-is_absent.true)))
