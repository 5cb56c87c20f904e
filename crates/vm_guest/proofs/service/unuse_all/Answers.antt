use Rattle.std.proofs.Common.{sym}
use Rattle.vm_guest.proofs.PageSetLemmas.{remove_all-empty}
use Rattle.vm_guest.proofs.service.unuse_all.Goals as goal

pub returns-else-not-is_empty : goal.returns-else-not-is_empty
returns-else-not-is_empty c = sym (remove_all-empty c.args.used.now c.args.pages.now (c.is_empty.ensures.0 c.if-not-is_empty.false))
